use Rattle.std.proofs.Common.{◌≡◌, ◌-◌, length, take}
use Rattle.nq_bank.specs.Places.{IsTagged}
use Rattle.nq_bank.proofs.nodes.release_to.Given as goal

abbrev pub invariant-loop-gone : goal.invariant-loop-gone
invariant-loop-gone l = IsTagged l.pages l.places l.tags × (l.pages ≡ take (length l.fn.pages - l.gone) l.fn.pages)
