use Rattle.nq_descents.proofs.making.equate.Goals as goal

pub returns : goal.returns
returns c = c.call.ensures
