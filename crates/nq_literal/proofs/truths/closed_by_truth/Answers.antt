use Rattle.std.proofs.Common.{refl, sym, subst}
use Rattle.nq_bank.specs.Content.{term_at, terms_at}
use Rattle.nq_kernel.specs.declared.work.Work.{Work}
use Rattle.nq_kernel.proofs.GrowingLemmas.{WorkGrows-trans}
use Rattle.nq_simplify.specs.Simplified.{IsNewLiteral}
use Rattle.nq_literal.proofs.TruthLemmas.{literal_before}
use Rattle.nq_literal.proofs.truths.closed_by_truth.Goals as goal

pub returns-in_err-new-clause-grows : goal.returns-in_err-new-clause-grows
returns-in_err-new-clause-grows c = WorkGrows-trans c.args.history.now c.args.work.now c.truth.new.work c.truth_itself.new.work c.truth.ensures.grows c.truth_itself.ensures.grows

pub returns-in_err-new-2-clause-grows : goal.returns-in_err-new-2-clause-grows
returns-in_err-new-2-clause-grows c = WorkGrows-trans c.args.history.now c.args.work.now c.truth.new.work c.truth_beside.new.work c.truth.ensures.grows c.truth_beside.ensures.grows

pub returns-in_ok-new-clause-new : goal.returns-in_ok-new-clause-new
returns-in_ok-new-clause-new c =
    let mid : Work = c.truth.new.work in
    literal_before c.args.history.now c.args.work.now mid c.truth_itself.new.work c.args.others.now c.args.literal c.in_ok-new.new c.truth.ensures.grows c.requires.others c.requires.literal (
    subst (λ u. IsNewLiteral c.args.history.now c.truth_itself.new.work (terms_at mid.bank c.args.others.now) (term_at mid.bank u) c.in_ok-new.new) (sym (c.if-is_same.ensures refl)) c.in_ok-new.ensures.new)

pub returns-in_ok-new-clause-grows : goal.returns-in_ok-new-clause-grows
returns-in_ok-new-clause-grows c = WorkGrows-trans c.args.history.now c.args.work.now c.truth.new.work c.truth_itself.new.work c.truth.ensures.grows c.truth_itself.ensures.grows

pub returns-in_ok-new-2-clause-new : goal.returns-in_ok-new-2-clause-new
returns-in_ok-new-2-clause-new c = literal_before c.args.history.now c.args.work.now c.truth.new.work c.truth_beside.new.work c.args.others.now c.args.literal c.in_ok-new-2.new c.truth.ensures.grows c.requires.others c.requires.literal c.in_ok-new-2.ensures.new

pub returns-in_ok-new-2-clause-grows : goal.returns-in_ok-new-2-clause-grows
returns-in_ok-new-2-clause-grows c = WorkGrows-trans c.args.history.now c.args.work.now c.truth.new.work c.truth_beside.new.work c.truth.ensures.grows c.truth_beside.ensures.grows
