use Rattle.std.proofs.Common.{inl, subst}
use Rattle.nq_logic.specs.Terms.{Term}
use Rattle.nq_bank.proofs.Growth.{term_at-grown}
use Rattle.nq_rule.proofs.Made.{for_ok}
use Rattle.nq_kernel.proofs.GrowingLemmas.{WorkGrows-trans, LineHolds-grown}
use Rattle.nq_replay.specs.LawClauses.{choice_opens_clause}
use Rattle.nq_measures.proofs.GrownLemmas.{all_stand, trial_still, sites_still}
use Rattle.nq_measures.proofs.LeftLemmas.{err_weaker, left_before}
use Rattle.nq_measures.specs.Measures.{ordinal_clause}
use Rattle.nq_measures.specs.Trials.{IsLeft}
use Rattle.nq_measures.proofs.ReadyLemmas.{searching_on}
use Rattle.nq_measures.proofs.finding.try_measure.Goals as goal

pub returns-in_err-evidence-clause-searching : goal.returns-in_err-evidence-clause-searching
returns-in_err-evidence-clause-searching g c =
    searching_on (g.P.Prover.has_learnt c.args.prover.now) (g.P.Prover.has_learnt c.args.prover.now) c.args.history.now c.args.work.now c.find_by_size.new.work c.held_work.ensures.grown c.requires.searching c.requires.searching.learnt c.find_by_size.ensures.grows.grows

pub returns-in-Some-clause-searching : goal.returns-in-Some-clause-searching
returns-in-Some-clause-searching g c =
    searching_on (g.P.Prover.has_learnt c.args.prover.now) (g.P.Prover.has_learnt c.args.prover.now) c.args.history.now c.args.work.now c.find_by_size.new.work c.held_work.ensures.grown c.requires.searching c.requires.searching.learnt c.find_by_size.ensures.grows.grows

pub returns-in_err-mentions_at-clause-searching : goal.returns-in_err-mentions_at-clause-searching
returns-in_err-mentions_at-clause-searching g c =
    searching_on (g.P.Prover.has_learnt c.args.prover.now) (g.P.Prover.has_learnt c.args.prover.now) c.args.history.now c.args.work.now c.find_by_size.new.work c.held_work.ensures.grown c.requires.searching c.requires.searching.learnt c.find_by_size.ensures.grows.grows

pub returns-in_err-left-clause-grows : goal.returns-in_err-left-clause-grows
returns-in_err-left-clause-grows g c = WorkGrows-trans c.args.history.now c.args.work.now c.find_by_size.new.work c.leave_ordinal.new.work c.find_by_size.ensures.grows.grows c.leave_ordinal.ensures.grows.grows

pub returns-in_err-left-clause-searching : goal.returns-in_err-left-clause-searching
returns-in_err-left-clause-searching g c =
    searching_on (g.P.Prover.has_learnt c.args.prover.now) (g.P.Prover.has_learnt c.args.prover.now) c.args.history.now c.args.work.now c.leave_ordinal.new.work c.held_work.ensures.grown c.requires.searching c.requires.searching.learnt
    (WorkGrows-trans c.args.history.now c.args.work.now c.find_by_size.new.work c.leave_ordinal.new.work c.find_by_size.ensures.grows.grows c.leave_ordinal.ensures.grows.grows)

pub returns-then-branch-clause-grows : goal.returns-then-branch-clause-grows
returns-then-branch-clause-grows g c = WorkGrows-trans c.args.history.now c.args.work.now c.find_by_size.new.work c.leave_ordinal.new.work c.find_by_size.ensures.grows.grows c.leave_ordinal.ensures.grows.grows

pub returns-then-branch-clause-searching : goal.returns-then-branch-clause-searching
returns-then-branch-clause-searching g c =
    searching_on (g.P.Prover.has_learnt c.args.prover.now) (g.P.Prover.has_learnt c.args.prover.now) c.args.history.now c.args.work.now c.leave_ordinal.new.work c.held_work.ensures.grown c.requires.searching c.requires.searching.learnt
    (WorkGrows-trans c.args.history.now c.args.work.now c.find_by_size.new.work c.leave_ordinal.new.work c.find_by_size.ensures.grows.grows c.leave_ordinal.ensures.grows.grows)

pub returns-then-branch-clause-left : goal.returns-then-branch-clause-left
returns-then-branch-clause-left g c =
    let mid = c.find_by_size.new.work.bank in
    let new = c.leave_ordinal.new.work in
    inl (subst (λ (t : Term). IsLeft new t (ordinal_clause t) c.in_ok-left.left) (term_at-grown c.args.work.now.bank mid c.args.measure c.find_by_size.ensures.grows.grows.bank c.requires.trial.measure_stands) c.in_ok-left.ensures.left)

pub prove_measure-requires-clause-searching : goal.prove_measure-requires-clause-searching
prove_measure-requires-clause-searching g c =
    searching_on (g.P.Prover.has_learnt c.args.prover.now) (g.P.Prover.has_learnt c.args.prover.now) c.args.history.now c.args.work.now c.find_by_size.new.work c.held_work.ensures.grown c.requires.searching c.requires.searching.learnt c.find_by_size.ensures.grows.grows

pub prove_measure-requires-clause-law : goal.prove_measure-requires-clause-law
prove_measure-requires-clause-law g c = LineHolds-grown c.args.history.now c.args.work.now c.find_by_size.new.work c.args.law choice_opens_clause c.requires.searching.stands c.find_by_size.ensures.grows.grows c.requires.law

pub prove_measure-requires-clause-trial : goal.prove_measure-requires-clause-trial
prove_measure-requires-clause-trial g c =
    let trial = c.requires.trial in
    trial_still c.args.history.now c.args.work.now.bank c.find_by_size.new.work.bank c.args.f c.args.formals.now c.find_by_size.ensures.grows.grows.bank c.requires.searching.stands.history trial.function trial.formals_named c.args.measure trial

pub prove_measure-requires-clause-sites : goal.prove_measure-requires-clause-sites
prove_measure-requires-clause-sites g c =
    let trial = c.requires.trial in
    sites_still c.args.history.now c.args.work.now.bank c.find_by_size.new.work.bank c.args.f c.args.formals.now c.find_by_size.ensures.grows.grows.bank c.requires.searching.stands.history trial.function trial.formals_named c.args.sites.now c.requires.sites

pub returns-clause-grows : goal.returns-clause-grows
returns-clause-grows g c = WorkGrows-trans c.args.history.now c.args.work.now c.find_by_size.new.work c.prove_measure.new.work c.find_by_size.ensures.grows.grows c.prove_measure.ensures.grows

pub returns-clause-left : goal.returns-clause-left
returns-clause-left g c =
    let stand = all_stand c.args.history.now c.args.work.now.bank c.args.f c.args.formals.now c.args.sites.now c.requires.sites in
    for_ok c.prove_measure.result _ _
    (λ r. err_weaker r _ _ (left_before c.args.history.now c.args.work.now c.find_by_size.new.work c.prove_measure.new.work c.args.f c.args.formals.now c.args.measure c.args.sites.now c.requires.searching.stands c.find_by_size.ensures.grows.grows c.prove_measure.ensures.grows c.requires.trial stand))
    c.prove_measure.ensures.left
