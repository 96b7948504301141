use Rattle.nq_kernel.proofs.GrowingLemmas.{WorkGrows-refl}
use Rattle.nq_reduce.proofs.StepLemmas.{fact_in}
use Rattle.nq_reduce.proofs.ClauseLemmas.{in_stands}
use Rattle.nq_reduce.proofs.made.made_by_line.Goals as goal

pub literal_of-requires-clause-line : goal.literal_of-requires-clause-line
literal_of-requires-clause-line c = in_stands c.args.history.now c.args.work.now c.args.line c.requires.line

pub made_by_fact-requires-clause-fact : goal.made_by_fact-requires-clause-fact
made_by_fact-requires-clause-fact c = fact_in c.args.history.now c.args.work.now c.in-Some.literal c.args.line c.requires.line c.in-Some.ensures

pub returns-in-None-clause-grows : goal.returns-in-None-clause-grows
returns-in-None-clause-grows c = WorkGrows-refl c.args.history.now c.args.work.now c.requires.can.stands
