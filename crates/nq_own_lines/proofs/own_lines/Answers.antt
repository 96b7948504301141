use Rattle.nq_own_lines.proofs.LineLemmas.{none_law, stay_law}
use Rattle.nq_own_lines.proofs.own_lines.Goals as goal

pub returns-clause-none : goal.returns-clause-none
returns-clause-none c = none_law

pub returns-clause-grown : goal.returns-clause-grown
returns-clause-grown c = stay_law c.own_terms.ensures c.held_work.ensures.grown
