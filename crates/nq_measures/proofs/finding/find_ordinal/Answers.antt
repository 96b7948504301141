use Rattle.std.proofs.Common.{List, sym, ap, ◌∙◌, subst}
use Rattle.nq_logic.specs.Terms.{Term}
use Rattle.nq_logic.specs.Histories.{History}
use Rattle.nq_bank.specs.Content.{term_at, terms_at}
use Rattle.nq_history.specs.Events.{events_at}
use Rattle.nq_history.proofs.HistoryLemmas.{events_at-grown}
use Rattle.nq_kernel.proofs.GrowingLemmas.{WorkGrows-trans, LineHolds-grown}
use Rattle.nq_replay.specs.LawClauses.{choice_opens_clause}
use Rattle.nq_measures.specs.Judging.{AreIn, IsJudged}
use Rattle.nq_measures.specs.Measures.{ordinal_clause}
use Rattle.nq_measures.proofs.ReadyLemmas.{ready_on, searching_on}
use Rattle.nq_measures.proofs.SearchLemmas.{ordinal_in}
use Rattle.nq_measures.proofs.LeftLemmas.{judged_told, ordinal_left}
use Rattle.nq_measures.proofs.finding.find_ordinal.Goals as goal

pub returns-in_err-literals-clause-searching : goal.returns-in_err-literals-clause-searching
returns-in_err-literals-clause-searching g c =
    searching_on (g.P.Prover.has_learnt c.args.prover.now) (g.P.Prover.has_learnt c.args.prover.now) c.args.history.now c.args.work.now c.ordinal_literals.new.work c.held_work.ensures.grown c.requires.searching c.requires.searching.learnt c.ordinal_literals.ensures.grows.grows

pub judge-requires-clause-ready : goal.judge-requires-clause-ready
judge-requires-clause-ready g c = ready_on c.args.history.now c.args.work.now.bank c.ordinal_literals.new.work.bank c.requires.searching.stands.history c.ordinal_literals.ensures.grows.grows.bank c.requires.searching.ready

pub judge-requires-clause-law : goal.judge-requires-clause-law
judge-requires-clause-law g c = LineHolds-grown c.args.history.now c.args.work.now c.ordinal_literals.new.work c.args.law choice_opens_clause c.requires.searching.stands c.ordinal_literals.ensures.grows.grows c.requires.law

pub judge-requires-clause-over : goal.judge-requires-clause-over
judge-requires-clause-over g c =
    let old = c.args.work.now.bank in
    let mid = c.ordinal_literals.new.work.bank in
    let same = events_at-grown old mid c.ordinal_literals.ensures.grows.grows.bank c.args.history.now c.requires.searching.stands.history.entries in
    subst (λ (h : History). AreIn h (terms_at mid c.as_slice.result.now)) (sym same)
    (subst (λ (ts : List Term). AreIn (events_at old c.args.history.now) ts) (sym (ap (terms_at mid) c.as_slice.ensures.value ∙ c.in_ok-literals.ensures.literals))
    (ordinal_in (events_at old c.args.history.now) (term_at old c.args.measure) c.requires.over))

pub returns-in_err-judged-clause-grows : goal.returns-in_err-judged-clause-grows
returns-in_err-judged-clause-grows g c = WorkGrows-trans c.args.history.now c.args.work.now c.ordinal_literals.new.work c.judge.new.work c.ordinal_literals.ensures.grows.grows c.judge.ensures.grows

pub returns-in_err-judged-clause-searching : goal.returns-in_err-judged-clause-searching
returns-in_err-judged-clause-searching g c =
    searching_on (g.P.Prover.has_learnt c.args.prover.now) (g.P.Prover.has_learnt c.judge.new.prover) c.args.history.now c.args.work.now c.judge.new.work c.held_work.ensures.grown c.requires.searching c.judge.ensures.learnt (WorkGrows-trans c.args.history.now c.args.work.now c.ordinal_literals.new.work c.judge.new.work c.ordinal_literals.ensures.grows.grows c.judge.ensures.grows)

pub returns-clause-grows : goal.returns-clause-grows
returns-clause-grows g c = WorkGrows-trans c.args.history.now c.args.work.now c.ordinal_literals.new.work c.judge.new.work c.ordinal_literals.ensures.grows.grows c.judge.ensures.grows

pub returns-clause-searching : goal.returns-clause-searching
returns-clause-searching g c =
    searching_on (g.P.Prover.has_learnt c.args.prover.now) (g.P.Prover.has_learnt c.judge.new.prover) c.args.history.now c.args.work.now c.judge.new.work c.held_work.ensures.grown c.requires.searching c.judge.ensures.learnt (WorkGrows-trans c.args.history.now c.args.work.now c.ordinal_literals.new.work c.judge.new.work c.ordinal_literals.ensures.grows.grows c.judge.ensures.grows)

pub returns-clause-found : goal.returns-clause-found
returns-clause-found g c =
    let old = c.args.work.now.bank in
    let mid = c.ordinal_literals.new.work.bank in
    let new = c.judge.new.work in
    judged_told (events_at mid c.args.history.now) new (ordinal_clause (term_at old c.args.measure)) c.in_ok-judged.judged c.told.result
    (subst (λ (ts : List Term). IsJudged (events_at mid c.args.history.now) new ts c.in_ok-judged.judged) (ap (terms_at mid) c.as_slice.ensures.value ∙ c.in_ok-literals.ensures.literals) c.in_ok-judged.ensures.told) c.told.ensures.shown

pub returns-clause-left : goal.returns-clause-left
returns-clause-left g c =
    ordinal_left c.args.history.now c.args.work.now.bank c.ordinal_literals.new.work c.judge.new.work c.args.measure c.in_ok-literals.literals c.told.result c.ordinal_literals.ensures.grows.grows.bank c.judge.ensures.grows
    c.requires.measure c.in_ok-literals.ensures.literals c.in_ok-literals.ensures.stand c.told.ensures.measure c.told.ensures.literals
