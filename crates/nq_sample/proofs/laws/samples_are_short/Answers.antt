use Rattle.std.proofs.Common.{arith}
use Rattle.nq_sample.proofs.Lengths.{length-sample_of-le}
use Rattle.nq_sample.proofs.laws.samples_are_short.Goals as goal

pub returns : goal.returns
returns c = λ seed size h. omega (arith, h, length-sample_of-le seed size h)
