use Rattle.nq_laws.proofs.ByFixes.{laws_of_by_fixes_hold}
use Rattle.nq_laws.proofs.by_fixes_laws.Goals as goal

pub returns : goal.returns
returns c = laws_of_by_fixes_hold
