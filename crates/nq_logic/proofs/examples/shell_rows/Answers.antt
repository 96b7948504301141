use Rattle.nq_logic.proofs.ShellRows.{shell_rows_law as proved}
use Rattle.nq_logic.proofs.examples.shell_rows.Goals as goal

pub returns : goal.returns
returns c = proved
