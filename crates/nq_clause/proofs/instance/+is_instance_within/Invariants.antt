-- The arguments so far are instances.
use Rattle.std.proofs.Common.{◌≡◌, take, map}
use Rattle.nq_logic.specs.Terms.{substituted}
use Rattle.nq_bank.specs.Content.{terms_at}
use Rattle.nq_clause.specs.Substitution.{substitution_at, HasIds}
use Rattle.nq_clause.proofs.instance.+is_instance_within.Given as goal

abbrev pub decreases-is_instance_within : goal.decreases-is_instance_within
decreases-is_instance_within l = l.pattern.0

abbrev pub invariant-loop-i : goal.invariant-loop-i
invariant-loop-i l =
    record {
      so_far : map (substituted (substitution_at l.bank l.pairs)) (terms_at l.bank (take l.i l.arguments)) ≡ terms_at l.bank (take l.i l.others);
      ids : HasIds l.bank (substitution_at l.bank l.pairs) l.known;
    }
