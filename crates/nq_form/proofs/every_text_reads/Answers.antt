use Rattle.nq_form.proofs.EveryText.{every_text_reads}
use Rattle.nq_form.proofs.every_text_reads.Goals as goal

pub returns : goal.returns
returns c = every_text_reads
