use Rattle.nq_part_lines.proofs.KnownLemmas.{known_rows, known_shell, user_names}
use Rattle.nq_part_lines.proofs.laws.known_shells.Goals as goal

pub returns-clause-rows : goal.returns-clause-rows
returns-clause-rows c h ready own = known_rows h ready own

pub returns-clause-known : goal.returns-clause-known
returns-clause-known c h s ready m = known_shell h ready s m

pub returns-clause-names : goal.returns-clause-names
returns-clause-names c h s n g ready m named used = user_names h s n g ready m named used
