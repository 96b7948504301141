-- The pairs so far, and then those of the bindings that are left.
use Rattle.std.proofs.Common.{◌≡◌, drop, map}
use Rattle.std.specs.Prelude.{All}
use Rattle.nq_clause.specs.Substitution.{substitution_at, PairStands}
use Rattle.nq_log.specs.RuleLines.{substitution_at as substitution_of_block}
use Rattle.nq_check.specs.Contexts.{pair_of, state_of}
use Rattle.nq_check.proofs.NumberLemmas.{with_front}
use Rattle.nq_check.proofs.context.Context.pairs.Given as goal

abbrev pub invariant-loop-binding : goal.invariant-loop-binding
invariant-loop-binding l =
    (substitution_of_block (state_of l.self).block (map pair_of l.bindings) ≡ with_front (substitution_at l.self.bank l.pairs.items) (substitution_of_block (state_of l.self).block (map pair_of (drop l.binding-index l.bindings))))
    × All (PairStands l.self.bank) l.pairs.items
