use Rattle.nq_drops.proofs.Feeds.{line_read}
use Rattle.nq_drops.proofs.reading.read_line.Goals as goal

pub returns : goal.returns
returns c = line_read c.args.bytes.now c.parse_line.result c.parse_line.ensures.found c.parse_line.ensures.none
