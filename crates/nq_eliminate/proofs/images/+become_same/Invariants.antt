use Rattle.std.proofs.Common.{length}
use Rattle.nq_eliminate.proofs.images.+become_same.Given as goal

abbrev pub decreases-become_same : goal.decreases-become_same
decreases-become_same l = length l.ts.now
