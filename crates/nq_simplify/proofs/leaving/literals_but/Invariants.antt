-- What is kept so far.
use Rattle.std.proofs.Common.{◌≡◌, take}
use Rattle.nq_simplify.specs.Simplified.{literals_but}
use Rattle.nq_simplify.proofs.leaving.literals_but.Given as goal

abbrev pub invariant-loop-t : goal.invariant-loop-t
invariant-loop-t l = l.kept.items ≡ literals_but l.falsity (take l.t-index l.goal)
