use Rattle.nq_search.specs.Goals.{goals_at}
use Rattle.nq_tactic.proofs.WayLemmas.{hold_children}
use Rattle.nq_tactic.proofs.closing.close_moved.Goals as goal

pub close_move-requires-clause-lines : goal.close_move-requires-clause-lines
close_move-requires-clause-lines c = hold_children c.args.work.now (goals_at c.args.work.now.bank c.args.moved.now.children.items) c.args.lines.now c.requires.lines
