use Rattle.std.proofs.Common.{◌+◌, ◌*◌, length}
use Rattle.nq_quick.proofs.proving.+proving.Given as goal

abbrev pub decreases-prove : goal.decreases-prove
decreases-prove l = 3 * length l.atoms.now

abbrev pub decreases-prove_both : goal.decreases-prove_both
decreases-prove_both l = 3 * length l.rest.now + 2

abbrev pub decreases-prove_other : goal.decreases-prove_other
decreases-prove_other l = 3 * length l.rest.now + 1
