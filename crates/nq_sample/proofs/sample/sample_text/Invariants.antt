use Rattle.std.proofs.Common.{◌≡◌, string_bytes}
use Rattle.nq_sample.specs.Sample.{sample_of, x_after}
use Rattle.nq_sample.proofs.sample.sample_text.Given as goal

abbrev pub invariant-loop-before : goal.invariant-loop-before
invariant-loop-before l = record {
  text_is : string_bytes l.text ≡ sample_of l.seed l.before;
  x_is : l.draws ≡ x_after l.seed l.before;
}
