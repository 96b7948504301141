use Rattle.nq_tracer.proofs.DefinitionFalls.{definitions_fall_law}
use Rattle.nq_tracer.proofs.laws.definitions_fall.Goals as goal

pub returns : goal.returns
returns c = definitions_fall_law c.ground_definitions_fall.ensures
