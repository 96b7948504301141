use Rattle.nq_laws.proofs.PartsByFix.{laws_of_parts_by_fix_hold}
use Rattle.nq_laws.proofs.parts_by_fix_laws.Goals as goal

pub returns : goal.returns
returns c = laws_of_parts_by_fix_hold
