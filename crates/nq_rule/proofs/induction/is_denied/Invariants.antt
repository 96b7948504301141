-- The answer so far is that of the instances so far.
use Rattle.std.proofs.Common.{◌≡◌, take}
use Rattle.nq_logic.specs.Laws.{denied}
use Rattle.nq_bank.specs.Content.{term_at}
use Rattle.nq_proof.specs.Clauses.{has_term}
use Rattle.nq_rule.specs.Inductions.{substitutions_at}
use Rattle.nq_rule.proofs.induction.is_denied.Given as goal

abbrev pub invariant-loop-s : goal.invariant-loop-s
invariant-loop-s l = l.found ≡ has_term (term_at l.bank l.literal) (denied (term_at l.bank l.claim) (substitutions_at l.bank (take l.s-index l.steps)))
