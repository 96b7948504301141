use Rattle.nq_clause.specs.Substitution.{substitution_at}
use Rattle.nq_tracer.proofs.ChangeSteps.{change_is}
use Rattle.nq_tracer.proofs.changes.change_first.Goals as goal

pub returns-in-Ok-clause-is : goal.returns-in-Ok-clause-is
returns-in-Ok-clause-is c =
    let old = c.args.bank.now in
    let new = c.image_at.new.bank in
    change_is old new c.args.first c.args.later.items (substitution_at new c.in-Ok.changes.items) (substitution_at old c.args.here.now) (substitution_at old c.args.there.now) c.in_ok-image.image c.image_at.ensures.grows c.requires.first c.requires.later
    c.in_ok-image.ensures.ok c.in-Ok.ensures.is
