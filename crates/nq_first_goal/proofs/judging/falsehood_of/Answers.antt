use Rattle.std.proofs.Common.{List, get_or, sym, subst}
use Rattle.std.proofs.lemmas.Result.{IfOk-weaker}
use Rattle.nq_logic.specs.Terms.{Term}
use Rattle.nq_bank.specs.declared.node.TermId.{TermId}
use Rattle.nq_bank.specs.Content.{term_at, terms_at}
use Rattle.nq_history.specs.Events.{events_at}
use Rattle.nq_comment.specs.ReportViews.{steps_of}
use Rattle.nq_event.specs.EventsAt.{hints_at}
use Rattle.nq_first_goal.proofs.SingleLemmas.{one_literal}
use Rattle.nq_first_goal.specs.Falsehoods.{FailsBy}
use Rattle.nq_first_goal.specs.Judging.{GoalFailsBy}
use Rattle.nq_first_goal.proofs.judging.falsehood_of.Goals as goal

pub returns-in-len1-clause-told : goal.returns-in-len1-clause-told
returns-in-len1-clause-told c =
    let old = c.args.bank.now in
    let h = events_at old c.args.history.now in
    let hints = hints_at old c.args.hints.now in
    let ids = c.args.goal.now in
    let none : TermId = record { 0 = 0 } in
    let p = term_at old (get_or ids 0 none) in
    IfOk-weaker c.falsehood_steps.result (λ v. FailsBy h hints p (steps_of v.items)) (λ v. GoalFailsBy h hints (terms_at old ids) (steps_of v.items))
    (λ v fails. subst (λ (ts : List Term). GoalFailsBy h hints ts (steps_of v.items)) (sym (one_literal old ids none c.in-len1.len_at_least c.in-len1.len_below)) fails)
    c.falsehood_steps.ensures.told
