use Rattle.nq_instances.proofs.PartLemmas.{parts_told}
use Rattle.nq_instances.proofs.parts.if_parts_of.Goals as goal

pub returns : goal.returns
returns c = parts_told c.args.history.now c.args.work.now c.args.t c.branches_in.result c.requires.term c.branches_in.ensures.parts c.branches_in.ensures.stand
