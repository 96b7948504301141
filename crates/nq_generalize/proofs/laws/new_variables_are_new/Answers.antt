use Rattle.nq_generalize.proofs.LawLemmas.{new_variables_are_new}
use Rattle.nq_generalize.proofs.laws.new_variables_are_new.Goals as goal

pub returns : goal.returns
returns c = new_variables_are_new
