-- The variables of a call are those of its arguments.
use Rattle.std.proofs.Common.{◌≡◌, ℕ, zero, suc, Bool, true, false, List, [], ◌∷◌, refl, sym, ap, ◌∙◌, inl, inr}
use Rattle.std.specs.Prelude.{◌&&◌, nat_eq, Some}
use Rattle.std.specs.HashMap.{Updates}
use Rattle.nq_logic.specs.Terms.{Name, Term, Function, Applied, applied, call}
use Rattle.nq_logic.specs.Words.{numeral}
use Rattle.nq_logic.specs.Admissible.{has_variables}
use Rattle.nq_bank.specs.declared.node.TermId.{TermId}
use Rattle.nq_bank.specs.Parts.{parts_of}
use Rattle.nq_bank.specs.Content.{Content, term_at, terms_at}
use Rattle.nq_clause.proofs.Lookups.{kept_or_stood}
use Rattle.nq_check.specs.Variables.{Answers, HasAnswers}

-- ---- variables

-- whether each variable of the terms is one of these
abbrev pub have_variables : List Name → List Term → Bool
have_variables xs [] = true
have_variables xs (t ∷ ts) = has_variables xs t && have_variables xs ts

and_true : (b : Bool) → (b && true) ≡ b
and_true true = refl
and_true false = refl

and_assoc : (a b c : Bool) → ((a && b) && c) ≡ (a && (b && c))
and_assoc true b c = refl
and_assoc false b c = refl

variables-applied : (xs : List Name) (t : Term) (us : List Term) → has_variables xs (applied t us) ≡ (has_variables xs t && have_variables xs us)
variables-applied xs t [] = sym (and_true (has_variables xs t))
variables-applied xs t (u ∷ us) = variables-applied xs (Applied t u) us ∙ and_assoc (has_variables xs t) (has_variables xs u) (have_variables xs us)

pub variables_of_numeral : (xs : List Name) (n : ℕ) → has_variables xs (numeral n) ≡ true
unfolding numeral
variables_of_numeral xs zero = refl
variables_of_numeral xs (suc n) = variables_of_numeral xs n

-- a call has the variables that its arguments have
pub variables_of_call : (xs : List Name) (bank : Content) (t : Term) (f : Name) (ids : List TermId) → t ≡ call f (parts_of t) → terms_at bank ids ≡ parts_of t → has_variables xs t ≡ have_variables xs (terms_at bank ids)
variables_of_call xs bank t f ids is tells = ap (has_variables xs) is ∙ variables-applied xs (Function f) (parts_of t) ∙ ap (have_variables xs) (sym tells)

-- ---- answers

-- an answer that is kept is right
pub answers_kept : (bank : Content) (xs : List Name) (old new : Answers) (t : TermId) (answer : Bool) → HasAnswers bank xs old → Updates nat_eq old new t.0 (Some answer) → answer ≡ has_variables xs (term_at bank t) → HasAnswers bank xs new
answers_kept bank xs old new t answer h updates is =
    record {
      right = λ q b found.
          elim (kept_or_stood old new t.0 q.0 answer b updates found) [
            | inl here ↦ sym here.1 ∙ is ∙ ap (λ k. has_variables xs (term_at bank (record { 0 = k }))) here.0
            | inr there ↦ h.right q b there
          ];
    }
