use Rattle.std.proofs.Common.{refl}
use Rattle.nq_events.proofs.measures_tried.Goals as goal

pub returns : goal.returns
returns c = record { hinted = refl }
