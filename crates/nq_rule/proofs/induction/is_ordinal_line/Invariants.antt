-- The literals that are left decide.
use Rattle.std.proofs.Common.{◌≡◌, drop, ◌∷◌, []}
use Rattle.nq_bank.specs.Content.{term_at, terms_at}
use Rattle.nq_proof.specs.Clauses.{is_within}
use Rattle.nq_logic.specs.Words.{call1}
use Rattle.nq_rule.proofs.induction.is_ordinal_line.Given as goal

abbrev pub invariant-loop-literal : goal.invariant-loop-literal
invariant-loop-literal l = is_within (terms_at l.bank l.clause) (call1 "ORDINALP" (term_at l.bank l.measure) ∷ []) ≡ is_within (terms_at l.bank (drop l.literal-index l.clause)) (call1 "ORDINALP" (term_at l.bank l.measure) ∷ [])
