-- The literals that are left give what all of them give.
use Rattle.std.proofs.Common.{◌≡◌, drop}
use Rattle.nq_bank.specs.Content.{terms_at}
use Rattle.nq_goals.specs.Substituting.{from_literals}
use Rattle.nq_moves.proofs.substituting.find_substitution.Given as goal

abbrev pub invariant-loop-literal : goal.invariant-loop-literal
invariant-loop-literal l = from_literals (terms_at l.bank (drop l.literal-index l.goal)) ≡ from_literals (terms_at l.bank l.goal)
