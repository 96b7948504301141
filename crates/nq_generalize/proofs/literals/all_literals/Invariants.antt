-- The literals so far are those of the goals so far.
use Rattle.std.proofs.Common.{◌≡◌, take}
use Rattle.nq_generalize.specs.Literals.{joined}
use Rattle.nq_generalize.proofs.literals.all_literals.Given as goal

abbrev pub invariant-loop-earlier : goal.invariant-loop-earlier
invariant-loop-earlier l = l.all.items ≡ joined (take l.earlier-index l.path)
