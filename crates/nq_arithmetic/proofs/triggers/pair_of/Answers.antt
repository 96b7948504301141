use Rattle.nq_lines.proofs.TermLemmas.{term_grown}
use Rattle.nq_arithmetic.proofs.triggers.pair_of.Goals as goal

pub if_whole-requires-clause-rule : goal.if_whole-requires-clause-rule
if_whole-requires-clause-rule c = term_grown c.args.history.now c.args.work.now c.call_two.new.work c.args.rule c.requires.stands c.call_two.ensures.grows c.requires.rule
