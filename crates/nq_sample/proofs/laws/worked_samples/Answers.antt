use Rattle.std.proofs.Common.{refl}
use Rattle.std.specs.Fmt.{digits}
use Rattle.nq_sample.proofs.laws.worked_samples.Goals as goal

pub returns : goal.returns
unfolding digits
returns c = record {
  seven_again = refl;
  largest_seed = refl;
  draws = refl;
  first_event = refl;
  second_event = refl;
  two_events = refl;
  seven_events = refl;
}
