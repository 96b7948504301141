use Rattle.nq_form.proofs.Seams.{joins}
use Rattle.nq_form.proofs.texts_join.Goals as goal

pub returns : goal.returns
returns c = joins
