use Rattle.nq_kernel.proofs.SoundLines.{log_law}
use Rattle.nq_kernel.proofs.sound_log.Goals as goal

pub returns : goal.returns
returns c = log_law c.full_soundness.ensures
