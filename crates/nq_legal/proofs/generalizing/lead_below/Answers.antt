use Rattle.std.proofs.Common.{subst}
use Rattle.nq_legal.specs.Legal.{AreCopies}
use Rattle.nq_legal.proofs.MovingLemmas.{moved_below}
use Rattle.nq_legal.proofs.generalizing.lead_below.Goals as goal

pub returns-in-Ok-clause-legal : goal.returns-in-Ok-clause-legal
returns-in-Ok-clause-legal c =
    moved_below c.args.history.now c.args.hints.now c.args.work.now c.args.path.now c.args.goal.now c.args.kind c.args.moved c.in-Ok.nexts c.requires.stands c.requires.goal c.requires.moved c.requires.leads
    (subst (AreCopies c.in-Ok.nexts.items) c.as_slice.ensures.value c.in-Ok.ensures)
