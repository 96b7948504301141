use Rattle.std.proofs.Common.{◌∙◌, sym}
use Rattle.nq_types.proofs.replacing.is_allowed.Goals as goal

pub returns-in-Ok-clause-allowed : goal.returns-in-Ok-clause-allowed
returns-in-Ok-clause-allowed c so = sym c.in-Ok.ensures ∙ so
