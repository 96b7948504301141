use Rattle.nq_kernel.proofs.SoundLines.{line_law}
use Rattle.nq_kernel.proofs.sound_line.Goals as goal

pub returns : goal.returns
returns c = line_law c.full_soundness.ensures
