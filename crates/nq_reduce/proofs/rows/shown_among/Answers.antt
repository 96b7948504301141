use Rattle.nq_kernel.proofs.GrowingLemmas.{WorkGrows-refl}
use Rattle.nq_reduce.proofs.rows.shown_among.Goals as goal

pub chosen_of-requires : goal.chosen_of-requires
chosen_of-requires c = c.requires.literals.there

pub returns-in-None-clause-grows : goal.returns-in-None-clause-grows
returns-in-None-clause-grows c = WorkGrows-refl c.args.history.now c.args.work.now c.requires.can.stands
