use Rattle.std.proofs.Common.{refl}
use Rattle.nq_bank.specs.Parts.{occurs}
use Rattle.nq_goals.specs.Dropping.{shares}
use Rattle.nq_goals.specs.Recursion.{holds_recursive}
use Rattle.nq_goals.proofs.examples.droppings.Goals as goal

pub returns : goal.returns
unfolding shares occurs holds_recursive
returns c = record { chained = refl; alone = refl; ground = refl; chain_droppings = refl; rest = refl; lone = refl; not_distinct = refl; not_recursive = refl; whole = refl; none = refl }
