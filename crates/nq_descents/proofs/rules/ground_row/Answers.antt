use Rattle.nq_descents.proofs.rules.ground_row.Goals as goal

pub returns : goal.returns
returns c = c.row.ensures
