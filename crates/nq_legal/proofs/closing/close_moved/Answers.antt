use Rattle.std.proofs.Common.{List, subst}
use Rattle.nq_proof.specs.Clauses.{Clause}
use Rattle.nq_moves.specs.Dropped.{HoldChildren}
use Rattle.nq_waterfall.specs.Trails.{goals_at}
use Rattle.nq_legal.proofs.ClosingLemmas.{hold_children}
use Rattle.nq_legal.proofs.MovingLemmas.{same_goals}
use Rattle.nq_legal.proofs.closing.close_moved.Goals as goal

pub close_move-requires-clause-lines : goal.close_move-requires-clause-lines
close_move-requires-clause-lines c =
    subst (λ (gs : List Clause). HoldChildren c.args.work.now gs c.args.lines.now) (same_goals c.args.work.now.bank c.args.nexts.now c.args.moved.now.children.items c.requires.same)
    (hold_children c.args.work.now (goals_at c.args.work.now.bank c.args.nexts.now) c.args.lines.now c.requires.lines)
