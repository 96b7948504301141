-- Whether a call is ground, by its arguments; and what that tells of a term's variables.
use Rattle.std.proofs.Common.{◌≡◌, ℕ, zero, suc, Bool, true, false, List, [], ◌∷◌, ◌++◌, refl, sym, ap, ap₂, ◌∙◌, inl, inr}
use Rattle.std.specs.Prelude.{◌&&◌, ◌↔◌, IsTrue, nat_eq, Some}
use Rattle.std.specs.HashMap.{Updates}
use Rattle.nq_logic.specs.Terms.{Name, Term, Variable, Function, Applied, applied, call}
use Rattle.nq_logic.specs.Words.{numeral}
use Rattle.nq_logic.specs.RuleShapes.{variables_of}
use Rattle.nq_proof.proofs.Tests.{and_left, and_right}
use Rattle.nq_bank.specs.declared.node.TermId.{TermId}
use Rattle.nq_bank.specs.Parts.{parts_of}
use Rattle.nq_bank.specs.Content.{Content, term_at, terms_at}
use Rattle.nq_clause.proofs.Lookups.{kept_or_stood}
use Rattle.nq_evaluated.specs.Ground.{is_ground, Answers, HasAnswers}

-- whether each of the terms is ground
abbrev pub are_ground : List Term → Bool
are_ground [] = true
are_ground (t ∷ ts) = is_ground t && are_ground ts

and_true : (b : Bool) → (b && true) ≡ b
and_true true = refl
and_true false = refl

and_assoc : (a b c : Bool) → ((a && b) && c) ≡ (a && (b && c))
and_assoc true b c = refl
and_assoc false b c = refl

ground_applied : (t : Term) (us : List Term) → is_ground (applied t us) ≡ (is_ground t && are_ground us)
ground_applied t [] = sym (and_true (is_ground t))
ground_applied t (u ∷ us) = ground_applied (Applied t u) us ∙ and_assoc (is_ground t) (is_ground u) (are_ground us)

pub ground_numeral : (n : ℕ) → is_ground (numeral n) ≡ true
unfolding numeral
ground_numeral zero = refl
ground_numeral (suc n) = ground_numeral n

-- a call is ground where its arguments are
pub ground_call : (bank : Content) (t : Term) (f : Name) (ids : List TermId) → t ≡ call f (parts_of t) → terms_at bank ids ≡ parts_of t → is_ground t ≡ are_ground (terms_at bank ids)
ground_call bank t f ids is tells = ap is_ground is ∙ ground_applied (Function f) (parts_of t) ∙ ap are_ground (sym tells)

-- an answer that is kept is right
pub answers_kept : (bank : Content) (old new : Answers) (t : TermId) (answer : Bool) → HasAnswers bank old → Updates nat_eq old new t.0 (Some answer) → answer ≡ is_ground (term_at bank t) → HasAnswers bank new
answers_kept bank old new t answer h updates is =
    record {
      right = λ q b found.
          elim (kept_or_stood old new t.0 q.0 answer b updates found) [
            | inl here ↦ sym here.1 ∙ is ∙ ap (λ k. is_ground (term_at bank (record { 0 = k }))) here.0
            | inr there ↦ h.right q b there
          ];
    }

both_empty : {X : Type 0} (xs ys : List X) → xs ++ ys ≡ [] → (xs ≡ []) × (ys ≡ [])
both_empty [] ys e = (refl, e)
both_empty (x ∷ xs) ys e = absurd (cc)

no_variables : (t : Term) → is_ground t ≡ true → variables_of t ≡ []
no_variables (Variable x) e = absurd (cc)
no_variables (Function f) e = refl
no_variables (Applied t u) e = ap₂ (λ xs ys. xs ++ ys) (no_variables t (and_left (is_ground t) (is_ground u) e)) (no_variables u (and_right (is_ground t) (is_ground u) e))

without_variables : (t : Term) → variables_of t ≡ [] → is_ground t ≡ true
without_variables (Variable x) e = absurd (cc)
without_variables (Function f) e = refl
without_variables (Applied t u) e =
    let both = both_empty (variables_of t) (variables_of u) e in ap₂ (λ a b. a && b) (without_variables t both.0) (without_variables u both.1)

-- the test tells whether the term has no variable
pub ground_told : (b : Bool) (t : Term) → b ≡ is_ground t → IsTrue b ↔ (variables_of t ≡ [])
ground_told b t e = ((λ k. no_variables t (sym e ∙ k)), (λ v. e ∙ without_variables t v))
