use Rattle.std.proofs.Common.{◌∙◌, List, sym, subst}
use Rattle.std.specs.Prelude.{All}
use Rattle.nq_bank.specs.declared.node.TermId.{TermId}
use Rattle.nq_bank.specs.Content.{Stands, terms_at}
use Rattle.nq_bank.proofs.Growth.{Grows-trans}
use Rattle.nq_history.specs.Events.{events_at}
use Rattle.nq_history.proofs.HistoryLemmas.{history_grown}
use Rattle.nq_comment.specs.ReportViews.{steps_of}
use Rattle.nq_event.specs.EventsAt.{hints_at}
use Rattle.nq_event.proofs.HintSumLemmas.{hints_keep}
use Rattle.nq_ground_goals.specs.Literals.{IsLiteral}
use Rattle.nq_answers.specs.Shown.{ShowsTrace}
use Rattle.nq_first_goal.proofs.Judgements.{literals_are, ready_kept}
use Rattle.nq_first_goal.proofs.Tracings.{traced_before}
use Rattle.nq_first_goal.proofs.tracing.trace_lemma.Goals as goal

pub trace_goal-requires-clause-history : goal.trace_goal-requires-clause-history
trace_goal-requires-clause-history c = history_grown c.args.bank c.first_goal.new.bank c.in-Ok.ensures.grows c.args.history.now c.requires.history

pub trace_goal-requires-clause-ready : goal.trace_goal-requires-clause-ready
trace_goal-requires-clause-ready c = ready_kept c.args.bank c.first_goal.new.bank c.args.history.now c.args.hints.now c.args.goal c.requires.history c.in-Ok.ensures.grows c.requires.ready

pub trace_goal-requires-clause-hints : goal.trace_goal-requires-clause-hints
trace_goal-requires-clause-hints c = hints_keep c.args.bank c.first_goal.new.bank c.in-Ok.ensures.grows c.args.hints.now c.requires.hints

pub trace_goal-requires-clause-stand : goal.trace_goal-requires-clause-stand
trace_goal-requires-clause-stand c = subst (All (Stands c.first_goal.new.bank)) (sym c.as_slice.ensures.value) c.in-Ok.ensures.stand

pub trace_goal-requires-clause-literals : goal.trace_goal-requires-clause-literals
trace_goal-requires-clause-literals c =
    subst (All (IsLiteral c.first_goal.new.bank c.args.history.now)) (sym c.as_slice.ensures.value)
    (literals_are c.args.bank c.first_goal.new.bank c.args.history.now c.args.hints.now c.args.goal c.requires.history c.in-Ok.ensures.grows c.in-Ok.first.items c.requires.ready c.requires.hint_terms c.requires.over
    c.in-Ok.ensures.stand c.in-Ok.ensures.are)

pub given_back-requires : goal.given_back-requires
given_back-requires c =
    c.mark-mark.ensures.can c.trace_goal.new.bank (Grows-trans c.args.bank c.first_goal.new.bank c.trace_goal.new.bank c.in-Ok.ensures.grows c.trace_goal.ensures.grows)

pub returns-clause-bank : goal.returns-clause-bank
returns-clause-bank c =
    c.given_back.ensures.bank ∙ c.mark-mark.ensures.returns c.trace_goal.new.bank (Grows-trans c.args.bank c.first_goal.new.bank c.trace_goal.new.bank c.in-Ok.ensures.grows c.trace_goal.ensures.grows)

pub returns-clause-told : goal.returns-clause-told
returns-clause-told c =
    let later = c.first_goal.new.bank in
    let ids = c.in-Ok.first.items in
    let told = subst (λ (ts : List TermId). ShowsTrace (events_at later c.args.history.now) (hints_at later c.args.hints.now) (terms_at later ts) (steps_of c.in_ok-steps.steps.items)) c.as_slice.ensures.value c.in_ok-steps.ensures.told in
    traced_before c.args.bank later c.args.history.now c.args.hints.now c.args.goal ids c.in_ok-steps.steps c.given_back.result.steps c.requires.history c.in-Ok.ensures.grows c.requires.hints c.in-Ok.ensures.are told c.given_back.ensures.steps
