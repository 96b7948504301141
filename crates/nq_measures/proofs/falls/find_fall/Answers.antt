use Rattle.nq_kernel.proofs.GrowingLemmas.{WorkGrows-trans, LineHolds-grown}
use Rattle.nq_replay.specs.LawClauses.{choice_opens_clause}
use Rattle.nq_measures.proofs.ReadyLemmas.{ready_on, searching_on}
use Rattle.nq_measures.proofs.GrownLemmas.{trial_still, site_still, older_still}
use Rattle.nq_measures.proofs.SearchLemmas.{owed_in}
use Rattle.nq_measures.proofs.LeftLemmas.{fall_left, fall_told}
use Rattle.nq_measures.proofs.falls.find_fall.Goals as goal

pub returns-in_err-owed-clause-searching : goal.returns-in_err-owed-clause-searching
returns-in_err-owed-clause-searching g c =
    searching_on (g.P.Prover.has_learnt c.args.prover.now) (g.P.Prover.has_learnt c.args.prover.now) c.args.history.now c.args.work.now c.owed_at.new.work c.held_work.ensures.grown c.requires.searching c.requires.searching.learnt c.owed_at.ensures.grows.grows

pub judge_fall-requires-clause-ready : goal.judge_fall-requires-clause-ready
judge_fall-requires-clause-ready g c = ready_on c.args.history.now c.args.work.now.bank c.owed_at.new.work.bank c.requires.searching.stands.history c.owed_at.ensures.grows.grows.bank c.requires.searching.ready

pub judge_fall-requires-clause-law : goal.judge_fall-requires-clause-law
judge_fall-requires-clause-law g c = LineHolds-grown c.args.history.now c.args.work.now c.owed_at.new.work c.args.law choice_opens_clause c.requires.searching.stands c.owed_at.ensures.grows.grows c.requires.law

pub judge_fall-requires-clause-over : goal.judge_fall-requires-clause-over
judge_fall-requires-clause-over g c =
    let h = c.args.history.now in
    let old = c.args.work.now.bank in
    let mid = c.owed_at.new.work.bank in
    let up = c.owed_at.ensures.grows.grows.bank in
    let trial = c.requires.trial in
    let there = c.requires.searching.stands.history in
    λ absent.
    owed_in h mid c.args.f c.args.formals.now c.args.measure c.args.site.now c.in_ok-owed.owed c.as_slice-literals.result.now
    (trial_still h old mid c.args.f c.args.formals.now up there trial.function trial.formals_named c.args.measure trial)
    (older_still h old mid c.args.f c.args.formals.now up there trial.function trial.formals_named c.args.measure trial.measure_stands c.requires.older)
    (site_still h old mid c.args.f c.args.formals.now up there trial.function trial.formals_named c.args.site.now c.requires.site)
    c.in_ok-owed.ensures.owed c.as_slice-literals.ensures.value absent

pub returns-in_err-judged-clause-grows : goal.returns-in_err-judged-clause-grows
returns-in_err-judged-clause-grows g c = WorkGrows-trans c.args.history.now c.args.work.now c.owed_at.new.work c.judge_fall.new.work c.owed_at.ensures.grows.grows c.judge_fall.ensures.grows

pub returns-in_err-judged-clause-searching : goal.returns-in_err-judged-clause-searching
returns-in_err-judged-clause-searching g c =
    searching_on (g.P.Prover.has_learnt c.args.prover.now) (g.P.Prover.has_learnt c.judge_fall.new.prover) c.args.history.now c.args.work.now c.judge_fall.new.work c.held_work.ensures.grown c.requires.searching c.judge_fall.ensures.learnt (WorkGrows-trans c.args.history.now c.args.work.now c.owed_at.new.work c.judge_fall.new.work c.owed_at.ensures.grows.grows c.judge_fall.ensures.grows)

pub returns-clause-grows : goal.returns-clause-grows
returns-clause-grows g c = WorkGrows-trans c.args.history.now c.args.work.now c.owed_at.new.work c.judge_fall.new.work c.owed_at.ensures.grows.grows c.judge_fall.ensures.grows

pub returns-clause-searching : goal.returns-clause-searching
returns-clause-searching g c =
    searching_on (g.P.Prover.has_learnt c.args.prover.now) (g.P.Prover.has_learnt c.judge_fall.new.prover) c.args.history.now c.args.work.now c.judge_fall.new.work c.held_work.ensures.grown c.requires.searching c.judge_fall.ensures.learnt (WorkGrows-trans c.args.history.now c.args.work.now c.owed_at.new.work c.judge_fall.new.work c.owed_at.ensures.grows.grows c.judge_fall.ensures.grows)

pub returns-clause-found : goal.returns-clause-found
returns-clause-found g c =
    let h = c.args.history.now in
    let old = c.args.work.now.bank in
    let mid = c.owed_at.new.work in
    let up = c.owed_at.ensures.grows.grows.bank in
    let trial = c.requires.trial in
    let there = c.requires.searching.stands.history in
    fall_told h mid c.judge_fall.new.work c.args.f c.args.formals.now c.args.measure c.args.site.now c.in_ok-owed.owed c.as_slice-literals.result.now c.in_ok-judged.judged c.told.result c.owed_at.ensures.grows.grows.stands c.judge_fall.ensures.grows
    (trial_still h old mid.bank c.args.f c.args.formals.now up there trial.function trial.formals_named c.args.measure trial)
    (site_still h old mid.bank c.args.f c.args.formals.now up there trial.function trial.formals_named c.args.site.now c.requires.site).stands
    c.in_ok-owed.ensures.owed c.as_slice-literals.ensures.value c.in_ok-judged.ensures.told c.told.ensures.shown

pub returns-clause-left : goal.returns-clause-left
returns-clause-left g c =
    fall_left c.args.history.now c.args.work.now.bank c.owed_at.new.work c.judge_fall.new.work c.args.f c.args.formals.now c.args.measure c.args.site.now c.in_ok-owed.owed c.told.result c.owed_at.ensures.grows.grows.bank c.judge_fall.ensures.grows
    c.requires.trial c.requires.site.stands c.in_ok-owed.ensures.owed c.told.ensures.measure c.told.ensures.literals
