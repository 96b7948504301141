-- The literals that are left decide.
use Rattle.std.proofs.Common.{◌≡◌, drop}
use Rattle.nq_bank.specs.Content.{terms_at}
use Rattle.nq_proof.specs.Clauses.{is_within}
use Rattle.nq_rule.specs.Inductions.{case_literals}
use Rattle.nq_rule.proofs.induction.is_case_line.Given as goal

abbrev pub invariant-loop-literal : goal.invariant-loop-literal
invariant-loop-literal l = is_within (terms_at l.bank l.clause) (case_literals l.bank l.claim l.case) ≡ is_within (terms_at l.bank (drop l.literal-index l.clause)) (case_literals l.bank l.claim l.case)
