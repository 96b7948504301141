use Rattle.std.proofs.Common.{◌∙◌, ap, subst}
use Rattle.nq_moves.specs.Dropped.{HoldChildren}
use Rattle.nq_moves.specs.Eliminated.{IsElimination, eliminated_goals}
use Rattle.nq_moves.proofs.EliminatedLemmas.{kept_same, kept_some}
use Rattle.nq_moves.proofs.eliminating.close_eliminated.Goals as goal

pub close_elimination-requires-clause-serves : goal.close_elimination-requires-clause-serves
close_elimination-requires-clause-serves c =
    let m = c.requires.moved in
    subst (IsElimination c.args.history.now c.args.work.now c.args.goal.now) (kept_same c.args.moved.now.why.eliminated m.elimination c.in-Some.e m.kept c.in-Some.is) m.serves

pub close_elimination-requires-clause-lines : goal.close_elimination-requires-clause-lines
close_elimination-requires-clause-lines c =
    let m = c.requires.moved in
    let w = c.args.work.now in
    let same = kept_same c.args.moved.now.why.eliminated m.elimination c.in-Some.e m.kept c.in-Some.is in
    subst (λ gs. HoldChildren w gs c.args.lines.now) (m.leads ∙ ap (eliminated_goals w.bank c.args.goal.now) same) c.requires.lines

pub unreachable-requires : goal.unreachable-requires
unreachable-requires c = kept_some c.args.moved.now.why.eliminated c.requires.moved.elimination c.requires.moved.kept c.in-None.is
