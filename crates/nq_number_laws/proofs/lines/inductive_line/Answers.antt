use Rattle.nq_replay.proofs.UncountedLemmas.{grown_trans}
use Rattle.nq_number_laws.proofs.lines.inductive_line.Goals as goal

pub returns-clause-grows : goal.returns-clause-grows
returns-clause-grows c = grown_trans c.args.history.now c.args.work.now c.size_falls.new.work c.inductive_line_after.new.work c.size_falls.ensures.grows c.inductive_line_after.ensures.grows
