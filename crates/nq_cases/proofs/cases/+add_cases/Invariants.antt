-- The choices of a term have fewer paths than it.
use Rattle.nq_bank.specs.Content.{term_at}
use Rattle.nq_cases.specs.Paths.{paths_of}
use Rattle.nq_cases.proofs.cases.+add_cases.Given as goal

abbrev pub decreases-add_cases : goal.decreases-add_cases
decreases-add_cases l = paths_of (term_at l.bank.now l.t)
