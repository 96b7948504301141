-- The literals that are left decide.
use Rattle.std.proofs.Common.{◌≡◌, drop, ◌∷◌, []}
use Rattle.nq_bank.specs.Content.{term_at, terms_at}
use Rattle.nq_proof.specs.Clauses.{is_within}
use Rattle.nq_check.proofs.closing_lines.has_only.Given as goal

abbrev pub invariant-loop-literal : goal.invariant-loop-literal
invariant-loop-literal l = is_within (terms_at l.bank l.clause) (term_at l.bank l.t ∷ []) ≡ is_within (terms_at l.bank (drop l.literal-index l.clause)) (term_at l.bank l.t ∷ [])
