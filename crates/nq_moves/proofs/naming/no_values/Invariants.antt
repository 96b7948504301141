-- No term so far is a value.
use Rattle.std.proofs.Common.{◌≡◌, ◌<◌, ℕ, false, get_or}
use Rattle.nq_logic.specs.Values.{is_value}
use Rattle.nq_bank.specs.Content.{term_at}
use Rattle.nq_clause.specs.declared.substitution.Pair.{Pair}
use Rattle.nq_moves.proofs.naming.no_values.Given as goal

abbrev pub invariant-loop-p : goal.invariant-loop-p
invariant-loop-p l = (k : ℕ) (d : Pair) → k < l.p-index → is_value (term_at l.bank (get_or l.pairs k d).term) ≡ false
