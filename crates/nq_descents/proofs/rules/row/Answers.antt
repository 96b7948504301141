use Rattle.nq_descents.proofs.rules.row.Goals as goal

pub returns : goal.returns
returns c = c.add.ensures
