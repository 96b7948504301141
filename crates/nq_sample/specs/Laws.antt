-- What holds of every sample.
use Rattle.std.specs.Prelude.{◌≤◌, ◌<◌, ◌^◌, ℕ, length}
use Rattle.nq_sample.specs.Sample.{sample_of}

-- the text of a sample of at most 2000 events is below the limit of an event file
abbrev pub SamplesAreShort : Type 0
SamplesAreShort = (seed size : ℕ) → size ≤ 2000 → length (sample_of seed size) < 2 ^ 25
