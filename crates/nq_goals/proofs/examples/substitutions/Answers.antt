use Rattle.std.proofs.Common.{refl}
use Rattle.nq_bank.specs.Parts.{occurs}
use Rattle.nq_goals.proofs.examples.substitutions.Goals as goal

pub returns : goal.returns
unfolding occurs
returns c = record { left = refl; right = refl; either = refl; within = refl; claim = refl; no_variable = refl; leads = refl }
