-- Calls of the arguments so far are matched.
use Rattle.std.proofs.Common.{take}
use Rattle.nq_logic.specs.Terms.{Name, call}
use Rattle.nq_bank.specs.Content.{terms_at}
use Rattle.nq_clause.specs.Binding.{bound_at, bindings_at, Matches}
use Rattle.nq_clause.specs.Matching.{arguments_of, HasMatches}
use Rattle.nq_clause.proofs.matching.+match_within.Given as goal

abbrev pub decreases-match_within : goal.decreases-match_within
decreases-match_within l = l.pattern.0

abbrev pub invariant-loop-i : goal.invariant-loop-i
invariant-loop-i l =
    record {
      matched : (f : Name) → Matches l.bank (call f (terms_at l.bank (take l.i l.arguments))) (call f (take l.i (arguments_of (bound_at l.bank l.target)))) l.fn.bindings.items l.bindings.items;
      known : HasMatches l.bank (bindings_at l.bank l.bindings.items) l.known;
    }
