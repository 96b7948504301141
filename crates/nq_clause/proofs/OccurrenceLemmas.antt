-- Where a variable stands in the arguments of a call.
use Rattle.std.proofs.Common.{◌≡◌, ℕ, zero, suc, ◌+◌, ◌<◌, ◌≤◌, Bool, true, false, ◌||◌, Some, List, [], ◌∷◌, ◌++◌, length, get_or, take, refl, sym, ap, ◌∙◌, inl, inr}
use Rattle.std.specs.Prelude.{nat_eq, bytes_eq}
use Rattle.std.proofs.lemmas.List.{take_all}
use Rattle.std.specs.HashMap.{Updates}
use Rattle.nq_logic.specs.Terms.{Term, Variable, Function, Applied, applied, call}
use Rattle.nq_logic.specs.Words.{numeral}
use Rattle.nq_bank.specs.declared.node.TermId.{TermId}
use Rattle.nq_bank.specs.Parts.{occurs, parts_of}
use Rattle.nq_bank.specs.Content.{Content, term_at, terms_at, term_from, terms_from}
use Rattle.nq_bank.proofs.ArgumentLemmas.{terms_from-take}
use Rattle.nq_clause.specs.Occurrence.{Answers, HasAnswers}
use Rattle.nq_clause.proofs.Lookups.{kept_or_stood}

abbrev pub occurs_in_any : List ℕ → List Term → Bool
occurs_in_any x [] = false
occurs_in_any x (t ∷ ts) = occurs x t || occurs_in_any x ts

or_false : (b : Bool) → (b || false) ≡ b
or_false true = refl
or_false false = refl

or_assoc : (a b d : Bool) → ((a || b) || d) ≡ (a || (b || d))
or_assoc true b d = refl
or_assoc false b d = refl

occurs-applied : (x : List ℕ) (t : Term) (us : List Term) → occurs x (applied t us) ≡ (occurs x t || occurs_in_any x us)
unfolding occurs
occurs-applied x t [] = sym (or_false (occurs x t))
occurs-applied x t (u ∷ us) = occurs-applied x (Applied t u) us ∙ or_assoc (occurs x t) (occurs x u) (occurs_in_any x us)

pub occurs-call : (x f : List ℕ) (ts : List Term) → occurs x (call f ts) ≡ occurs_in_any x ts
unfolding occurs
occurs-call x f ts = occurs-applied x (Function f) ts

pub occurs-numeral : (x : List ℕ) (n : ℕ) → occurs x (numeral n) ≡ false
unfolding occurs numeral
occurs-numeral x zero = refl
occurs-numeral x (suc n) = occurs-numeral x n

occurs_in_any-push : (x : List ℕ) (ts : List Term) (t : Term) → occurs_in_any x (ts ++ t ∷ []) ≡ (occurs_in_any x ts || occurs x t)
occurs_in_any-push x [] t = or_false (occurs x t)
occurs_in_any-push x (u ∷ ts) t = ap (λ b. occurs x u || b) (occurs_in_any-push x ts t) ∙ sym (or_assoc (occurs x u) (occurs_in_any x ts) (occurs x t))

-- one more argument
pub occurs_in_any-more : (x : List ℕ) (ts : List Term) (ids : List TermId) (i : ℕ) (d : TermId) (before here : Bool) → i < length ids → before ≡ occurs_in_any x (terms_from ts (take i ids)) → here ≡ occurs x (term_from ts (get_or ids i d)) → (before || here) ≡ occurs_in_any x (terms_from ts (take (i + 1) ids))
occurs_in_any-more x ts ids i d before here below was is =
    rw (was, is) (sym (ap (occurs_in_any x) (terms_from-take ts ids i d below) ∙ occurs_in_any-push x (terms_from ts (take i ids)) (term_from ts (get_or ids i d))))

-- an answer that is kept is right
pub answers_kept : (bank : Content) (x : List ℕ) (old new : Answers) (t : TermId) (answer : Bool) → HasAnswers bank x old → Updates nat_eq old new t.0 (Some answer) → answer ≡ occurs x (term_at bank t) → HasAnswers bank x new
answers_kept bank x old new t answer h updates is =
    record {
      right = λ q b found.
          elim (kept_or_stood old new t.0 q.0 answer b updates found) [
            | inl here ↦ sym here.1 ∙ is ∙ ap (λ k. occurs x (term_at bank (record { 0 = k }))) here.0
            | inr there ↦ h.right q b there
          ];
    }

pub occurs-Variable : (x y : List ℕ) → occurs x (Variable y) ≡ bytes_eq x y
unfolding occurs
occurs-Variable x y = refl

-- the answer for all arguments is that for the call
pub occurs-whole : (bank : Content) (x : List ℕ) (term : Term) (f : List ℕ) (ids : List TermId) (i : ℕ) (answer : Bool) → term ≡ call f (parts_of term) → terms_at bank ids ≡ parts_of term → length ids ≤ i → answer ≡ occurs_in_any x (terms_at bank (take i ids)) → answer ≡ occurs x term
occurs-whole bank x term f ids i answer is tells all so_far =
    so_far ∙ ap (λ xs. occurs_in_any x (terms_at bank xs)) (take_all i ids all) ∙ ap (occurs_in_any x) tells ∙
    sym (ap (occurs x) is ∙ occurs-call x f (parts_of term))
