use Rattle.nq_tracer.proofs.CaseLemmas.{calls_give_cases_law}
use Rattle.nq_tracer.proofs.laws.calls_give_cases.Goals as goal

pub returns : goal.returns
returns c = calls_give_cases_law
