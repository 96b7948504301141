use Rattle.std.specs.Prelude.{codes}
use Rattle.nq_value.proofs.MakingLemmas.{constant_shallow}
use Rattle.nq_value.proofs.making.truth_value.Goals as goal

pub ground_call-requires-clause-shallow : goal.ground_call-requires-clause-shallow
ground_call-requires-clause-shallow c = constant_shallow (codes "TRUE")

pub ground_call-requires-else-holds-clause-shallow : goal.ground_call-requires-else-holds-clause-shallow
ground_call-requires-else-holds-clause-shallow c = constant_shallow (codes "FALSE")
