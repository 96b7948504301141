-- The places so far.
use Rattle.std.proofs.Common.{◌≡◌, ◌<◌, ◌^◌, take}
use Rattle.std.specs.Prelude.{All}
use Rattle.nq_block.proofs.rules.copied.Given as goal

abbrev pub invariant-loop-place : goal.invariant-loop-place
invariant-loop-place l =
    record {
      items : l.places.items ≡ take l.place-index l.path;
      fit : All (λ place. place < 2 ^ 64) (take l.place-index l.path);
    }
