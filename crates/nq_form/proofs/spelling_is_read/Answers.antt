use Rattle.nq_form.proofs.Reading.{spelling_is_read}
use Rattle.nq_form.proofs.spelling_is_read.Goals as goal

pub returns : goal.returns
returns c = spelling_is_read
