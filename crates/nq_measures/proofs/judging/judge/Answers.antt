use Rattle.std.proofs.Common.{List, sym, subst}
use Rattle.std.specs.Prelude.{IfOk, IfSome}
use Rattle.nq_logic.specs.Terms.{Term}
use Rattle.nq_logic.specs.Histories.{History}
use Rattle.nq_bank.specs.Content.{terms_at}
use Rattle.nq_bank.proofs.Growth.{terms_at-grown}
use Rattle.nq_history.specs.Events.{events_at}
use Rattle.nq_history.proofs.HistoryLemmas.{events_at-grown}
use Rattle.nq_kernel.specs.Ready.{IsReady}
use Rattle.nq_kernel.proofs.GrowingLemmas.{WorkGrows-trans, LineHolds-grown}
use Rattle.nq_replay.specs.LawClauses.{choice_opens_clause}
use Rattle.nq_lines.specs.Lines.{LineHasOnly}
use Rattle.nq_measures.specs.Judging.{IsJudged, AreIn}
use Rattle.nq_measures.proofs.judging.judge.Goals as goal

pub returns-in_err-line-clause-grows : goal.returns-in_err-line-clause-grows
returns-in_err-line-clause-grows g c = c.descent_line.ensures.grows.grows

pub returns-in_err-line-clause-holds : goal.returns-in_err-line-clause-holds
returns-in_err-line-clause-holds g c = c.held_work.ensures.grown c.args.history.now c.args.work.now c.descent_line.new.work c.requires.stands c.requires.ready c.requires.holds c.descent_line.ensures.grows.grows

pub returns-in-Some-clause-grows : goal.returns-in-Some-clause-grows
returns-in-Some-clause-grows g c = c.descent_line.ensures.grows.grows

pub returns-in-Some-clause-holds : goal.returns-in-Some-clause-holds
returns-in-Some-clause-holds g c = c.held_work.ensures.grown c.args.history.now c.args.work.now c.descent_line.new.work c.requires.stands c.requires.ready c.requires.holds c.descent_line.ensures.grows.grows

pub returns-in-Some-clause-told : goal.returns-in-Some-clause-told
returns-in-Some-clause-told g c = subst (λ o. IfSome o (λ n. LineHasOnly c.descent_line.new.work n (terms_at c.args.work.now.bank c.args.literals.now))) c.in-Some.is c.in_ok-line.ensures.line

pub judge_by_prover-requires-clause-ready : goal.judge_by_prover-requires-clause-ready
judge_by_prover-requires-clause-ready g c =
    subst (λ (h : History). IsReady h) (sym (events_at-grown c.args.work.now.bank c.descent_line.new.work.bank c.descent_line.ensures.grows.grows.bank c.args.history.now c.requires.stands.history.entries)) c.requires.ready

pub judge_by_prover-requires-clause-holds : goal.judge_by_prover-requires-clause-holds
judge_by_prover-requires-clause-holds g c = c.held_work.ensures.grown c.args.history.now c.args.work.now c.descent_line.new.work c.requires.stands c.requires.ready c.requires.holds c.descent_line.ensures.grows.grows

pub judge_by_prover-requires-clause-law : goal.judge_by_prover-requires-clause-law
judge_by_prover-requires-clause-law g c = LineHolds-grown c.args.history.now c.args.work.now c.descent_line.new.work c.args.law choice_opens_clause c.requires.stands c.descent_line.ensures.grows.grows c.requires.law

pub judge_by_prover-requires-clause-over : goal.judge_by_prover-requires-clause-over
judge_by_prover-requires-clause-over g c =
    let old = c.args.work.now.bank in
    let mid = c.descent_line.new.work.bank in
    let up = c.descent_line.ensures.grows.grows.bank in
    subst (λ (h : History). AreIn h (terms_at mid c.args.literals.now)) (sym (events_at-grown old mid up c.args.history.now c.requires.stands.history.entries))
    (subst (λ (ts : List Term). AreIn (events_at old c.args.history.now) ts) (sym (terms_at-grown old mid c.args.literals.now up c.requires.stand)) c.requires.over)

pub returns-in-None-clause-told : goal.returns-in-None-clause-told
returns-in-None-clause-told g c =
    let old = c.args.work.now.bank in
    let mid = c.descent_line.new.work.bank in
    let up = c.descent_line.ensures.grows.grows.bank in
    subst (λ (h : History). IfOk c.judge_by_prover.result (λ j. IsJudged h c.judge_by_prover.new.work (terms_at old c.args.literals.now) j)) (events_at-grown old mid up c.args.history.now c.requires.stands.history.entries)
    (subst (λ (ts : List Term). IfOk c.judge_by_prover.result (λ j. IsJudged (events_at mid c.args.history.now) c.judge_by_prover.new.work ts j)) (terms_at-grown old mid c.args.literals.now up c.requires.stand) c.judge_by_prover.ensures.told)

pub returns-in-None-clause-grows : goal.returns-in-None-clause-grows
returns-in-None-clause-grows g c = WorkGrows-trans c.args.history.now c.args.work.now c.descent_line.new.work c.judge_by_prover.new.work c.descent_line.ensures.grows.grows c.judge_by_prover.ensures.grows
