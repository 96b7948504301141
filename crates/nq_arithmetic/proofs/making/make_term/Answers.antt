use Rattle.nq_kernel.proofs.GrowingLemmas.{WorkGrows-trans}
use Rattle.nq_lines.proofs.TermLemmas.{term_grown}
use Rattle.nq_arithmetic.proofs.making.make_term.Goals as goal

pub loop-step-init : goal.loop-step-init
loop-step-init c = record { grows = c.first_terms.ensures.grows; terms = c.in_ok-terms.ensures.terms; last = term_grown c.args.history.now c.args.work.now c.first_terms.new.work c.args.x c.requires.stands c.first_terms.ensures.grows c.requires.first }

pub make_next-requires-clause-stands : goal.make_next-requires-clause-stands
make_next-requires-clause-stands c = c.loop-step.invariant.grows.stands

pub returns-in_err-last-clause-grows : goal.returns-in_err-last-clause-grows
returns-in_err-last-clause-grows c = (WorkGrows-trans c.args.history.now c.args.work.now c.loop-step.work c.make_next.new.work c.loop-step.invariant.grows c.make_next.ensures.grows)

pub loop-step-preserved : goal.loop-step-preserved
loop-step-preserved c = record { grows = (WorkGrows-trans c.args.history.now c.args.work.now c.loop-step.work c.make_next.new.work c.loop-step.invariant.grows c.make_next.ensures.grows); terms = c.in_ok-last.ensures.terms; last = c.in_ok-last.ensures.term }
