use Rattle.nq_check.proofs.PassingLemmas.{line_read}
use Rattle.nq_check.proofs.checker.read_line.Goals as goal

pub returns : goal.returns
returns c = line_read c.args.bytes.now c.parse_line.result c.parse_line.ensures.found c.parse_line.ensures.none
