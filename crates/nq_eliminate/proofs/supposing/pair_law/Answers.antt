use Rattle.nq_eliminate.proofs.supposing.pair_law.Goals as goal

pub returns-in-Ok-clause-grows : goal.returns-in-Ok-clause-grows
returns-in-Ok-clause-grows c = c.pair_holds.ensures.grows.grows

pub returns-in-Err-clause-grows : goal.returns-in-Err-clause-grows
returns-in-Err-clause-grows c = c.pair_holds.ensures.grows.grows
