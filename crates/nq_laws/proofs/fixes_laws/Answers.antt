use Rattle.nq_laws.proofs.Fixes.{laws_of_fixes_hold}
use Rattle.nq_laws.proofs.fixes_laws.Goals as goal

pub returns : goal.returns
returns c = laws_of_fixes_hold
