use Rattle.std.proofs.Common.{sym}
use Rattle.nq_eval.proofs.evaluation.known_already.Goals as goal

pub found_known-requires : goal.found_known-requires
found_known-requires c = c.requires.knows.known c.args.request.term c.in_ok-known.known (sym c.in_ok-known.ensures)
