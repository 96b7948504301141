use Rattle.nq_reduce.proofs.RewritingLemmas.{rewritten_now}
use Rattle.nq_reduce.proofs.EqualLemmas.{led_there}
use Rattle.nq_reduce.proofs.same_parts.parts_followed.Goals as goal

pub reaches-requires : goal.reaches-requires
reaches-requires c = record { whole = rewritten_now c.args.history.now c.args.assumed.now c.args.work.now c.follow.new.work c.args.a c.in_ok-whole.whole c.follow.ensures.grows c.requires.can c.in_ok-whole.ensures.ok }

pub returns-clause-line : goal.returns-clause-line
returns-clause-line c = led_there c.args.history.now c.args.work.now c.follow.new.work c.follow.ensures.grows c.args.assumed.now c.args.a c.args.b c.requires.can c.requires.right c.reaches.result c.reaches.ensures
