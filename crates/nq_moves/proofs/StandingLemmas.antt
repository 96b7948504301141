-- Whether a term stands in another one, argument by argument.
use Rattle.std.proofs.Common.{◌≡◌, ◌+◌, ◌<◌, ◌≤◌, get_or, ℕ, zero, suc, Bool, true, false, ◌||◌, List, [], ◌∷◌, length, take, refl, sym, ap, ◌∙◌, arith}
use Rattle.std.proofs.lemmas.List.{take_all}
use Rattle.nq_logic.specs.Terms.{Term, Variable, Function, Applied, applied, call}
use Rattle.nq_logic.specs.Numerals.{numeral_limit}
use Rattle.nq_logic.specs.Words.{numeral}
use Rattle.nq_logic.specs.Values.{is_value}
use Rattle.nq_bank.specs.declared.node.TermId.{TermId}
use Rattle.nq_bank.specs.Parts.{parts_of}
use Rattle.nq_bank.specs.Content.{Content, terms_at, term_from, terms_from}
use Rattle.nq_proof.specs.Clauses.{same_term}
use Rattle.nq_goals.specs.Replacing.{stands_in, stands_in_one, stands_within}
use Rattle.nq_moves.proofs.AnswerLemmas.{any, any_listed}
use Rattle.nq_moves.proofs.FertilizingLemmas.{no_numeral_same}

or_assoc : (a b d : Bool) → ((a || b) || d) ≡ (a || (b || d))
or_assoc true b d = refl
or_assoc false b d = refl

or_false : (b : Bool) → (b || false) ≡ b
or_false true = refl
or_false false = refl

within-applied : (a t : Term) (us : List Term) → stands_within a (applied t us) ≡ (stands_within a t || any (stands_in a) us)
within-applied a t [] = sym (or_false (stands_within a t))
within-applied a t (u ∷ us) = within-applied a (Applied t u) us ∙ or_assoc (stands_within a t) (stands_in a u) (any (stands_in a) us)

within-call : (a : Term) (f : List ℕ) (ts : List Term) → stands_within a (call f ts) ≡ any (stands_in a) ts
within-call a f ts = within-applied a (Function f) ts

pub stands_if_same : (a t : Term) → same_term a t ≡ true → true ≡ stands_in a t
stands_if_same a t e = sym (ap (λ b. b || stands_within a t) e)

pub stands-variable : (a t : Term) (x : List ℕ) → t ≡ Variable x → same_term a t ≡ false → false ≡ stands_in a t
stands-variable a t x is e = sym (ap (λ b. b || stands_within a t) e ∙ ap (stands_within a) is)

numeral_without : (a : Term) (n : ℕ) → is_value a ≡ false → n < numeral_limit → stands_within a (numeral n) ≡ false
unfolding numeral
numeral_without a zero other small = refl
numeral_without a (suc n) other small =
    let less : n < numeral_limit = omega (arith, small) in
    ap (λ b. b || stands_within a (numeral n)) (no_numeral_same a n other less) ∙ numeral_without a n other less

pub stands-numeral : (a t : Term) (n : ℕ) → t ≡ numeral n → is_value a ≡ false → n < numeral_limit → same_term a t ≡ false → false ≡ stands_in a t
stands-numeral a t n is other small e = sym (ap (λ b. b || stands_within a t) e ∙ ap (stands_within a) is ∙ numeral_without a n other small)

-- the answer for all arguments is that for the call
pub stands-whole : (bank : Content) (a term : Term) (f : List ℕ) (ids : List TermId) (i : ℕ) (answer : Bool) → term ≡ call f (parts_of term) → terms_at bank ids ≡ parts_of term → length ids ≤ i → same_term a term ≡ false → answer ≡ (false || any (stands_in a) (terms_at bank (take i ids))) → answer ≡ stands_in a term
stands-whole bank a term f ids i answer is tells all e so_far =
    so_far ∙ ap (λ xs. any (stands_in a) (terms_at bank xs)) (take_all i ids all) ∙ ap (any (stands_in a)) tells ∙
    sym (ap (λ b. b || stands_within a term) e ∙ ap (stands_within a) is ∙ within-call a f (parts_of term))

one-any : (a : Term) (c : List Term) → stands_in_one a c ≡ any (stands_in a) c
one-any a [] = refl
one-any a (t ∷ c) = ap (λ b. stands_in a t || b) (one-any a c)

pub one-more : (a : Term) (ts : List Term) (ids : List TermId) (i : ℕ) (d : TermId) (before here found : Bool) → i < length ids → before ≡ stands_in_one a (terms_from ts (take i ids)) → here ≡ stands_in a (term_from ts (get_or ids i d)) → found ≡ (before || here) → found ≡ stands_in_one a (terms_from ts (take (i + 1) ids))
one-more a ts ids i d before here found below was is told =
    any_listed (stands_in a) ts ids i d before here found below (was ∙ one-any a (terms_from ts (take i ids))) is told ∙ sym (one-any a (terms_from ts (take (i + 1) ids)))
