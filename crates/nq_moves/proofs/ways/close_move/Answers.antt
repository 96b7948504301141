use Rattle.std.proofs.Common.{sym, subst}
use Rattle.nq_kernel.specs.Growing.{WorkGrows}
use Rattle.nq_kernel.proofs.GrowingLemmas.{WorkGrows-refl}
use Rattle.nq_moves.specs.Ways.{WayOf}
use Rattle.nq_moves.proofs.ways.close_move.Goals as goal

pub close_substitution-requires-clause-moved : goal.close_substitution-requires-clause-moved
close_substitution-requires-clause-moved c = subst (λ k. WayOf k c.args.history.now c.args.work.now c.args.goal.now c.args.moved.now) c.in-Subst.is c.requires.way

pub close_swapped-requires-clause-moved : goal.close_swapped-requires-clause-moved
close_swapped-requires-clause-moved c = subst (λ k. WayOf k c.args.history.now c.args.work.now c.args.goal.now c.args.moved.now) c.in-Fert.is c.requires.way

pub close_renamed-requires-clause-moved : goal.close_renamed-requires-clause-moved
close_renamed-requires-clause-moved c = subst (λ k. WayOf k c.args.history.now c.args.work.now c.args.goal.now c.args.moved.now) c.in-Gen.is c.requires.way

pub close_left-requires-clause-moved : goal.close_left-requires-clause-moved
close_left-requires-clause-moved c = subst (λ k. WayOf k c.args.history.now c.args.work.now c.args.goal.now c.args.moved.now) c.in-Irr.is c.requires.way

pub returns-in-Irr-clause-grows : goal.returns-in-Irr-clause-grows
returns-in-Irr-clause-grows c = subst (WorkGrows c.args.history.now c.args.work.now) (sym c.close_left.ensures.same) (WorkGrows-refl c.args.history.now c.args.work.now c.requires.stands)

pub close_eliminated-requires-clause-moved : goal.close_eliminated-requires-clause-moved
close_eliminated-requires-clause-moved c = subst (λ k. WayOf k c.args.history.now c.args.work.now c.args.goal.now c.args.moved.now) c.in-Elim.is c.requires.way
