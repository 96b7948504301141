use Rattle.nq_bank.specs.Content.{term_at}
use Rattle.nq_cases.proofs.PathCounts.{count_tells}
use Rattle.nq_cases.proofs.paths.has_if.Goals as goal

pub returns-clause-ok : goal.returns-clause-ok
returns-clause-ok c = count_tells (term_at c.args.bank.now c.args.t) c.args.cap c.in_ok-count.count c.requires.cap c.in_ok-count.ensures.ok
