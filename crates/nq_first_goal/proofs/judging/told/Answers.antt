use Rattle.std.proofs.Common.{◌≡◌, ◌∙◌, List, Option, ap, sym, subst}
use Rattle.std.specs.Prelude.{All, IsTrue, ◌↔◌, MatchOption}
use Rattle.nq_bank.specs.Content.{Content, Grows, terms_at}
use Rattle.nq_history.specs.Events.{events_at}
use Rattle.nq_kernel.specs.Ready.{IsReady}
use Rattle.nq_goals.specs.Spent.{IsFalse}
use Rattle.nq_ground_goals.specs.Literals.{IsLiteral}
use Rattle.nq_comment.specs.declared.step.Cause.{Cause}
use Rattle.nq_event.specs.EventsAt.{hints_at}
use Rattle.nq_comment.specs.declared.step.ShownStep.{ShownStep}
use Rattle.nq_comment.specs.Reports.{ShownStep as ToldStep}
use Rattle.nq_comment.specs.ReportViews.{steps_of}
use Rattle.nq_first_goal.specs.Judging.{GoalFailsBy, IsCauseOf, cause_if, is_left}
use Rattle.nq_first_goal.proofs.Judgements.{cause_told, work_stands}
use Rattle.nq_first_goal.proofs.judging.told.Goals as goal

pub is_false-requires-clause-stands : goal.is_false-requires-clause-stands
is_false-requires-clause-stands c =
    work_stands c.args.history.now c.args.bank c.new-work.result c.requires.history (c.new-work.ensures.bank ∙ c.in_ok-found.ensures.bank) (c.new-work.ensures.log ∙ c.new.ensures) c.new-work.ensures.known

pub is_false-requires-clause-ready : goal.is_false-requires-clause-ready
is_false-requires-clause-ready c = subst (λ (b : Content). IsReady (events_at b c.args.history.now)) (sym (c.new-work.ensures.bank ∙ c.in_ok-found.ensures.bank)) c.requires.ready

pub is_false-requires-clause-literals : goal.is_false-requires-clause-literals
is_false-requires-clause-literals c = subst (λ (b : Content). All (IsLiteral b c.args.history.now) c.args.goal.now) (sym (c.new-work.ensures.bank ∙ c.in_ok-found.ensures.bank)) c.requires.literals

pub returns-clause-grows : goal.returns-clause-grows
returns-clause-grows c = subst (λ (b : Content). Grows b c.is_false.new.work.bank) (c.new-work.ensures.bank ∙ c.in_ok-found.ensures.bank) c.is_false.ensures.grows.grows.bank

pub returns-clause-told : goal.returns-clause-told
returns-clause-told c =
    let bank = c.args.bank in
    let h = events_at bank c.args.history.now in
    let goal_terms = terms_at bank c.args.goal.now in
    let falsity =
    subst (λ (b : Content). IsTrue c.in_ok-falsity.falsity ↔ IsFalse (events_at b c.args.history.now) (terms_at b c.args.goal.now)) (c.new-work.ensures.bank ∙ c.in_ok-found.ensures.bank) c.in_ok-falsity.ensures.answer in
    let found = steps_of c.in_ok-found.found.items in
    let fails : GoalFailsBy h (hints_at bank c.args.hints.now) goal_terms found = c.in_ok-found.ensures.told in
    let left : c.is_left-left.result ≡ is_left c.in_ok-stuck.stuck found = c.is_left-left.ensures ∙ ap (λ (steps : List ShownStep). is_left c.in_ok-stuck.stuck (steps_of steps)) c.as_slice.ensures.value in
    record {
      text = c.in_ok-text.ensures;
      cause =
          subst (λ (o : Option Cause). MatchOption o (IsFalse h goal_terms → ⊥) (IsCauseOf h (hints_at bank c.args.hints.now) goal_terms (steps_of c.steps_unless-steps.result.items)))
          (sym (c.cause_if-cause.ensures ∙ ap (cause_if c.in_ok-falsity.falsity) left))
          (subst (λ (s : List ToldStep). MatchOption (cause_if c.in_ok-falsity.falsity (is_left c.in_ok-stuck.stuck found)) (IsFalse h goal_terms → ⊥) (IsCauseOf h (hints_at bank c.args.hints.now) goal_terms s)) (sym c.steps_unless-steps.ensures)
          (cause_told h (hints_at bank c.args.hints.now) goal_terms c.in_ok-falsity.falsity c.in_ok-stuck.stuck found falsity c.in_ok-stuck.ensures fails));
    }
