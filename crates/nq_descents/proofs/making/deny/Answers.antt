use Rattle.nq_descents.proofs.making.deny.Goals as goal

pub returns : goal.returns
returns c = c.call.ensures
