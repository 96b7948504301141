use Rattle.std.proofs.Common.{◌∙◌, ap}
use Rattle.std.specs.Prelude.{is_some}
use Rattle.nq_types.proofs.replacing.added.Goals as goal

pub returns-clause-line : goal.returns-clause-line
returns-clause-line c = ap is_some c.in_ok-n.ensures.line ∙ c.requires.allowed
