-- The tests that are left decide.
use Rattle.std.proofs.Common.{◌≡◌, drop, map}
use Rattle.nq_logic.specs.Words.{not_term}
use Rattle.nq_bank.specs.Content.{term_at}
use Rattle.nq_proof.specs.Clauses.{has_term}
use Rattle.nq_calls.specs.Calls.{guards_at}
use Rattle.nq_calls.proofs.lines.is_denied.Given as goal

abbrev pub invariant-loop-guard : goal.invariant-loop-guard
invariant-loop-guard l = has_term (term_at l.bank l.literal) (map not_term (guards_at l.bank (drop l.guard-index l.guards))) ≡ has_term (term_at l.bank l.literal) (map not_term (guards_at l.bank l.guards))
