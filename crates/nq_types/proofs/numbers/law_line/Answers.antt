use Rattle.nq_types.proofs.numbers.law_line.Goals as goal

pub returns-in-Ok-clause-grows : goal.returns-in-Ok-clause-grows
returns-in-Ok-clause-grows c = c.uncounted_line.ensures.grows.grows

pub returns-in-Err-clause-grows : goal.returns-in-Err-clause-grows
returns-in-Err-clause-grows c = c.uncounted_line.ensures.grows.grows
