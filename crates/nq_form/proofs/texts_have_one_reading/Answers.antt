use Rattle.nq_form.proofs.OneReading.{one_reading}
use Rattle.nq_form.proofs.texts_have_one_reading.Goals as goal

pub returns : goal.returns
returns c = one_reading
