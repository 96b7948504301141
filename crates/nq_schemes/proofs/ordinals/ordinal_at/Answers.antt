use Rattle.nq_schemes.proofs.OrdinalLemmas.{ordinal_said}
use Rattle.nq_schemes.proofs.ordinals.ordinal_at.Goals as goal

pub returns-then-is_same-clause-ordinal : goal.returns-then-is_same-clause-ordinal
returns-then-is_same-clause-ordinal c = ordinal_said c.args.history.now c.args.work.now c.ordinal_term.new.work c.args.fact c.args.t c.in_ok-made.made c.requires.stands c.ordinal_term.ensures.grows c.requires.fact c.requires.term c.in_ok-made.ensures.term (c.is_same.ensures c.if-is_same.true)
