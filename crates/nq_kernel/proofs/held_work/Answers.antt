use Rattle.nq_kernel.proofs.HeldWork.{none_law, held_law}
use Rattle.nq_kernel.proofs.held_work.Goals as goal

pub returns : goal.returns
returns c = record { none = none_law; grown = held_law c.full_soundness.ensures }
