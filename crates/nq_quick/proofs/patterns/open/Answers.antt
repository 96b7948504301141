use Rattle.nq_quick.proofs.patterns.open.Goals as goal

pub opening_at-requires-clause-log : goal.opening_at-requires-clause-log
opening_at-requires-clause-log c = c.add_opening.ensures.grows.grows.stands.log
