use Rattle.nq_falls.proofs.GroundFalls.{ground_falls}
use Rattle.nq_falls.proofs.ground_definitions_fall.Goals as goal

pub returns : goal.returns
returns c = ground_falls c.nest_is_smaller.ensures c.measure_laws.ensures.size
