-- The pairs that are left give what all of them give.
use Rattle.std.proofs.Common.{◌≡◌, drop}
use Rattle.nq_logic.specs.Terms.{value_at}
use Rattle.nq_bank.specs.Content.{text_at}
use Rattle.nq_clause.specs.Substitution.{substitution_at}
use Rattle.nq_clause.proofs.substitution.replacement.Given as goal

abbrev pub invariant-loop-p : goal.invariant-loop-p
invariant-loop-p l = value_at (substitution_at l.bank (drop l.p-index l.pairs)) (text_at l.bank l.variable) ≡ value_at (substitution_at l.bank l.pairs) (text_at l.bank l.variable)
