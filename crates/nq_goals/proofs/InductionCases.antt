-- Cases of an induction that go by a recursive call, and one that does not.
use Rattle.std.proofs.Common.{◌≡◌, ℕ, true, false, List, [], ◌∷◌, refl, sym, ap, subst, inl, inr}
use Rattle.std.specs.Prelude.{codes, Option, None, Some}
use Rattle.nq_logic.specs.Terms.{Term, IsAmong, Each, Substitution, substituted, value_at}
use Rattle.nq_logic.specs.Words.{call1}
use Rattle.nq_logic.specs.Histories.{Definition}
use Rattle.nq_logic.specs.Admissible.{Call, calls_of, matched}
use Rattle.nq_events.specs.Inductions.{opened_by, arguments_of}
use Rattle.nq_goals.specs.Inducting.{GoesBy, first_substitution, measured_formals}
use Rattle.nq_goals.specs.Functions.{is_call_among}
use Rattle.nq_goals.specs.NormalExamples.{x, y}
use Rattle.nq_goals.specs.SpentExamples.{append}
use Rattle.nq_goals.specs.InductionExamples.{list_case, wrong_case}

abbrev of_append : Definition
of_append = elim (opened_by [] (append x y)) as (λ o. Definition) [ None ↦ record { function = []; formals = []; body = x; measure = None } | Some d ↦ d ]

-- the one recursive call of APPEND
abbrev rest_call : Call
rest_call = record { tests = call1 "LISTP" x ∷ []; arguments = call1 "CDR" x ∷ y ∷ [] }

pub goes_by_rest : GoesBy [] list_case (append x y)
goes_by_rest = record {
  definition = of_append;
  opened = refl;
  recursive = rest_call;
  stands = inl refl;
  tests = (inl refl, tt);
  first = (codes "X", call1 "CDR" x) ∷ [];
  is_first = refl;
  sends = (refl, tt);
}

true_is_false : true ≡ false → ⊥
true_is_false e = cc

-- the first substitution sends the measured variables where the call does
abbrev Sends : Definition → Call → Substitution → Type 0
Sends d r s =
    Each (λ v. substituted s (value_at (matched d.formals (arguments_of (append x y))) v)
    ≡ substituted (matched d.formals (arguments_of (append x y))) (value_at (matched d.formals r.arguments) v)) (measured_formals d)

abbrev Refutes : Definition → Type 0
Refutes d = (r : Call) → IsAmong r (calls_of d.function d.body) → (s : Substitution) → first_substitution wrong_case.substitutions ≡ Some s → Sends d r s → ⊥

some_is : {X : Type 0} (a b : X) → Some a ≡ Some b → a ≡ b
some_is a b e = cc

refutes : Refutes of_append
refutes r (inl e) s f sends =
    let at_call : Sends of_append rest_call s = subst (λ r. Sends of_append r s) e sends in
    let at_first : Sends of_append rest_call ((codes "X", call1 "CAR" x) ∷ []) = subst (λ s. Sends of_append rest_call s) (sym (some_is ((codes "X", call1 "CAR" x) ∷ []) s f)) at_call in
    true_is_false (ap (is_call_among (codes "CAR" ∷ [])) at_first.0)
refutes r (inr m) s f sends = absurd m

pub goes_not_by_first : GoesBy [] wrong_case (append x y) → ⊥
goes_not_by_first g = subst Refutes (some_is of_append g.definition g.opened) refutes g.recursive g.stands g.first g.is_first g.sends
