-- Answers of evaluation.
use Rattle.std.specs.Prelude.{◌≡◌, ℕ, true, List, Some}
use Rattle.nq_bank.specs.declared.node.TermId.{TermId}
use Rattle.nq_bank.specs.Content.{term_at}
use Rattle.nq_history.specs.declared.entry.Entry.{Entry}
use Rattle.nq_history.specs.Events.{events_at}
use Rattle.nq_kernel.specs.declared.work.Work.{Work}
use Rattle.nq_fragments.specs.Outcomes.{OutOfFuel, is_small}
use Rattle.nq_fragments.specs.Evaluation.{outcome_of, value_reached}
use Rattle.nq_eval.specs.Lines.{IsUsable, Equates}
use Rattle.nq_eval.specs.Known.{IsBlocked}
use Rattle.nq_eval.specs.declared.answers.EvalAnswer.{EvalAnswer}
use Rattle.nq_eval.specs.declared.answers.EvalAnswer.TheVariants as answer

-- v is the value of t, and the line has their equation
pub record IsValueWithLine (history : List Entry) (work : Work) (t v : TermId) (line : ℕ) : Type 0 where
  pub usable : IsUsable work.bank history v
  pub small : is_small (term_at work.bank v) ≡ true
  pub value : value_reached (outcome_of (events_at work.bank history) (term_at work.bank t)) ≡ Some (term_at work.bank v)
  pub line_is : Equates work line t v

abbrev pub IsEvaluated : List Entry → Work → TermId → EvalAnswer → Type 0
IsEvaluated history work t (answer.Value v line) = IsValueWithLine history work t v line
IsEvaluated history work t (answer.Blocked u) = IsBlocked work u (outcome_of (events_at work.bank history) (term_at work.bank t))
IsEvaluated history work t answer.Fuel = outcome_of (events_at work.bank history) (term_at work.bank t) ≡ OutOfFuel
