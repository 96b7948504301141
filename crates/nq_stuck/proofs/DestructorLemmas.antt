-- Calls of accessors, and lists of which some element passes a test.
use Rattle.std.proofs.Common.{◌≡◌, ℕ, zero, suc, ◌+◌, ◌<◌, ◌≤◌, Bool, true, false, ◌||◌, List, [], ◌∷◌, ◌++◌, length, get_or, take, map, refl, sym, ap, ◌∙◌, arith}
use Rattle.std.specs.List.{list_any}
use Rattle.std.proofs.lemmas.List.{take_more, map_push}
use Rattle.nq_logic.specs.Terms.{Term, Function, Applied, applied, call}
use Rattle.nq_logic.specs.Histories.{Shell}
use Rattle.nq_logic.specs.Words.{numeral}
use Rattle.nq_bank.specs.declared.node.TermId.{TermId}
use Rattle.nq_bank.specs.Content.{Content, term_at, terms_at}
use Rattle.nq_stuck.specs.Destructors.{is_accessor_call, is_variable}

variable_numeral : (n : ℕ) → is_variable (numeral n) ≡ false
unfolding numeral
variable_numeral zero = refl
variable_numeral (suc n) = refl

pub variable_number : (t : Term) (n : ℕ) → t ≡ numeral n → false ≡ is_variable t
variable_number t n is = sym (ap is_variable is ∙ variable_numeral n)

accessor_numeral : (shells : List Shell) (n : ℕ) → is_accessor_call shells (numeral n) ≡ false
unfolding numeral
accessor_numeral shells zero = refl
accessor_numeral shells (suc zero) = refl
accessor_numeral shells (suc (suc n)) = refl

pub accessor_number : (shells : List Shell) (t : Term) (n : ℕ) → t ≡ numeral n → false ≡ is_accessor_call shells t
accessor_number shells t n is = sym (ap (is_accessor_call shells) is ∙ accessor_numeral shells n)

accessor_more : (shells : List Shell) (t u v : Term) (us : List Term) → is_accessor_call shells (applied (Applied (Applied t u) v) us) ≡ false
accessor_more shells t u v [] = refl
accessor_more shells t u v (w ∷ us) = accessor_more shells (Applied t u) v w us

pub accessor_many : (bank : Content) (shells : List Shell) (f : List ℕ) (ids : List TermId) → 2 ≤ length ids → false ≡ is_accessor_call shells (call f (terms_at bank ids))
accessor_many bank shells f [] l = absurd (omega (arith, l))
accessor_many bank shells f (i ∷ []) l = absurd (omega (arith, l))
accessor_many bank shells f (i ∷ j ∷ ids) l = sym (accessor_more shells (Function f) (term_at bank i) (term_at bank j) (terms_at bank ids))

or_assoc : (a b d : Bool) → ((a || b) || d) ≡ (a || (b || d))
or_assoc true b d = refl
or_assoc false b d = refl

or_false : (b : Bool) → (b || false) ≡ b
or_false true = refl
or_false false = refl

any_push : {X : Type 0} (test : X → Bool) (xs : List X) (x : X) → list_any test (xs ++ (x ∷ [])) ≡ (list_any test xs || test x)
any_push test [] x = or_false (test x)
any_push test (y ∷ xs) x = ap (λ b. test y || b) (any_push test xs x) ∙ sym (or_assoc (test y) (list_any test xs) (test x))

-- one more element
pub any_mapped : {X Y : Type 0} (test : Y → Bool) (f : X → Y) (xs : List X) (i : ℕ) (d : X) (so_far here found : Bool) → i < length xs → so_far ≡ list_any test (map f (take i xs)) → here ≡ test (f (get_or xs i d)) →
    found ≡ (so_far || here) → found ≡ list_any test (map f (take (i + 1) xs))
any_mapped test f xs i d so_far here found below was is either =
    either
    ∙ (ap (λ b. b || here) was
    ∙ (ap (λ b. list_any test (map f (take i xs)) || b) is
    ∙ sym (ap (λ ys. list_any test (map f ys)) (take_more xs i d below) ∙ (ap (list_any test) (map_push f (take i xs) (get_or xs i d)) ∙ any_push test (map f (take i xs)) (f (get_or xs i d))))))
