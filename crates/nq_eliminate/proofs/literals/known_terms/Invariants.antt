-- The literals so far are those of the goals so far.
use Rattle.std.proofs.Common.{◌≡◌, take}
use Rattle.nq_eliminate.specs.Literals.{joined}
use Rattle.nq_eliminate.proofs.literals.known_terms.Given as goal

abbrev pub invariant-loop-earlier : goal.invariant-loop-earlier
invariant-loop-earlier l = l.all.items ≡ joined (take l.earlier-index l.path)
