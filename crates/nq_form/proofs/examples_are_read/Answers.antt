use Rattle.nq_form.proofs.Examples.{examples}
use Rattle.nq_form.proofs.examples_are_read.Goals as goal

pub returns : goal.returns
returns c = examples
