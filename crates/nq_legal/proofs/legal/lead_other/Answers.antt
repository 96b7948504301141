use Rattle.std.proofs.Common.{sym, subst}
use Rattle.nq_waterfall.specs.Turns.{IsTurn}
use Rattle.nq_legal.specs.Legal.{IsWay}
use Rattle.nq_legal.proofs.TurningLemmas.{turn_legal}
use Rattle.nq_legal.proofs.legal.lead_other.Goals as goal

pub returns-clause-turn : goal.returns-clause-turn
returns-clause-turn g c =
    subst (IsTurn IsWay c.args.history.now c.args.hints.now c.simplify.new.work c.args.path.now c.args.goal.now) (sym c.turn_of.ensures)
    (turn_legal c.args.history.now c.args.hints.now c.simplify.new.work c.args.path.now c.args.goal.now c.in_ok-found.found c.in_ok-found.ensures.legal)
