use Rattle.nq_drops.proofs.Feeds.{feed_found, no_feed}
use Rattle.nq_drops.proofs.reading.cut_line.Goals as goal

pub returns-in-Some : goal.returns-in-Some
returns-in-Some c = feed_found c.args.bytes.now c.in-Some.end c.in-Some.ensures

pub returns-in-None : goal.returns-in-None
returns-in-None c = no_feed c.args.bytes.now c.in-None.ensures
