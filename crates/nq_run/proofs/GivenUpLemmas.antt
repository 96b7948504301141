-- Lemmas that no search proved.
use Rattle.std.proofs.Common.{◌≡◌, ℕ, false, List, refl, ap, inr}
use Rattle.nq_logic.specs.Terms.{Term}
use Rattle.nq_logic.specs.Histories.{History}
use Rattle.nq_form.specs.Form.{Form}
use Rattle.nq_events.specs.Events.{Hints}
use Rattle.nq_fragments.specs.Fragments.{IsInNoFragment}
use Rattle.nq_goals.specs.Hints.{first_goal}
use Rattle.nq_goals.specs.Spent.{IsFalse}
use Rattle.nq_comment.specs.Reports.{Failed as FailedBy}
use Rattle.nq_comment.specs.ReportViews.{steps_of}
use Rattle.nq_answers.specs.Goals.{goal_text}
use Rattle.nq_answers.specs.Steps.{IsTried, by_search, by_want, is_taken}
use Rattle.nq_giving_up.specs.declared.giving_up.Failing.{Failing}
use Rattle.nq_giving_up.specs.declared.giving_up.Failing.TheVariants.{Failed, OutOfSteps}
use Rattle.nq_giving_up.specs.Failing.{IsFailing}
use Rattle.nq_run.specs.GivingUp.{answer_by}

pub never_taken : (text : List ℕ) (f : Failing) → is_taken (answer_by text f) ≡ false
never_taken text (Failed steps cause) = refl
never_taken text OutOfSteps = refl

-- what is told of a lemma is an answer that it may get
pub given_up_tried : (limit : ℕ) (h : History) (form : Form) (hints : Hints) (t : Term) (text : List ℕ) (f : Failing) → IsInNoFragment h t → (IsFalse h (first_goal h hints t) → ⊥) → text ≡ goal_text (first_goal h hints t)
    → IsFailing limit h hints (first_goal h hints t) f → IsTried limit h form hints t (answer_by text f)
given_up_tried limit h form hints t text (Failed steps cause) outside not_false text_is told =
    by_want (record { no_fragment = outside; not_false = not_false; steps = steps_of steps.items; cause = cause; told = told; answer_is = ap (λ (x : List ℕ). FailedBy x (steps_of steps.items) cause) text_is })
given_up_tried limit h form hints t text OutOfSteps outside not_false text_is told = by_search (record { no_fragment = outside; not_false = not_false; found = inr (refl, told) })
