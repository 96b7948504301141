-- The goals so far are the first and those of the cases so far.
use Rattle.std.proofs.Common.{◌≡◌, ◌∷◌, take}
use Rattle.nq_elim.specs.Cases.{next_ids}
use Rattle.std.proofs.Common.{map}
use Rattle.nq_elim.proofs.cases.nexts_of.Given as goal

abbrev pub invariant-loop-case : goal.invariant-loop-case
invariant-loop-case l = map (λ g. g.items) l.nexts.items ≡ l.fn.first.items ∷ next_ids (take l.case-index l.cases) l.goal
