use Rattle.std.proofs.Common.{rules}
use Rattle.nq_cases.proofs.CapLemmas.{counts_grown}
use Rattle.nq_cases.proofs.choosing.+choice_in.Goals as goal

pub returns-in_ok-wider-in-Some-clause-counts : goal.returns-in_ok-wider-in-Some-clause-counts
returns-in_ok-wider-in-Some-clause-counts t c = counts_grown c.choice_in.new.bank c.choice_around.new.bank c.args.cap c.choice_in.new.known c.choice_around.ensures.grows (search rules)
