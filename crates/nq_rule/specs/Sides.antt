-- In which order equations are read.
use Rattle.nq_proof.specs.Rules as tree
use Rattle.nq_rule.specs.declared.replacing.Side.{Side}
use Rattle.nq_rule.specs.declared.replacing.Side.TheVariants.{Forwards, Backwards}

abbrev pub side_of : Side → tree.Side
side_of Forwards = tree.Forwards
side_of Backwards = tree.Backwards
