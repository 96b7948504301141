use Rattle.nq_cases.proofs.SplitLaws.{cases_simplify_law}
use Rattle.nq_cases.proofs.laws.cases_simplify.Goals as goal

pub returns : goal.returns
returns c = cases_simplify_law
