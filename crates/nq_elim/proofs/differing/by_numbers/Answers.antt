use Rattle.std.proofs.Common.{sym, subst}
use Rattle.std.specs.Prelude.{All}
use Rattle.nq_lines.specs.Lines.{IsTermIn}
use Rattle.nq_kernel.proofs.GrowingLemmas.{WorkGrows-refl, WorkGrows-trans}
use Rattle.nq_lines.proofs.FactLemmas.{own_terms_grown}
use Rattle.nq_elim.proofs.GrownLemmas.{terms_grown}
use Rattle.nq_elim.proofs.differing.by_numbers.Goals as goal

pub returns-in_err-more-clause-grows : goal.returns-in_err-more-clause-grows
returns-in_err-more-clause-grows c = WorkGrows-refl c.args.history.now c.args.work.now c.requires.stands

pub by_equation-requires-clause-ready : goal.by_equation-requires-clause-ready
by_equation-requires-clause-ready c = own_terms_grown c.args.history.now c.args.work.now c.sum_equation.new.work c.sum_equation.ensures.grows c.requires.stands c.requires.ready

pub by_equation-requires-clause-goal : goal.by_equation-requires-clause-goal
by_equation-requires-clause-goal c = terms_grown c.args.history.now c.args.work.now c.sum_equation.new.work c.requires.stands c.sum_equation.ensures.grows c.args.goal.now c.requires.goal

pub by_equation-requires-clause-more : goal.by_equation-requires-clause-more
by_equation-requires-clause-more c =
    terms_grown c.args.history.now c.args.work.now c.sum_equation.new.work c.requires.stands c.sum_equation.ensures.grows c.as_slice.result.now
    (subst (All (IsTermIn c.args.history.now c.args.work.now)) (sym c.as_slice.ensures.value) c.in_ok-more.ensures.literals)

pub returns-clause-grows : goal.returns-clause-grows
returns-clause-grows c = WorkGrows-trans c.args.history.now c.args.work.now c.sum_equation.new.work c.by_equation.new.work c.sum_equation.ensures.grows c.by_equation.ensures.grows
