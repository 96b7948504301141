use Rattle.nq_descents.proofs.choices.first_line.Goals as goal

pub returns-in_err-line : goal.returns-in_err-line
returns-in_err-line c = c.replay.ensures.grows
