use Rattle.nq_lines.proofs.InstanceLemmas.{pairs_in_grown}
use Rattle.nq_schemes.proofs.starting.start_with.Goals as goal

pub returns-clause-start : goal.returns-clause-start
returns-clause-start c = record { line = c.in_ok-line.ensures.line; pairs = pairs_in_grown c.args.history.now c.args.work.now c.start_line.new.work c.args.pairs.items c.requires.stands c.start_line.ensures.grows c.requires.pairs }
