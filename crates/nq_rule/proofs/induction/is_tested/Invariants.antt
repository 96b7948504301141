-- The answer so far is that of the cases so far.
use Rattle.std.proofs.Common.{◌≡◌, take}
use Rattle.nq_bank.specs.Content.{term_at}
use Rattle.nq_proof.specs.Clauses.{has_term}
use Rattle.nq_proof.specs.Rules.{case_tests}
use Rattle.nq_rule.specs.Inductions.{cases_at}
use Rattle.nq_rule.proofs.induction.is_tested.Given as goal

abbrev pub invariant-loop-c : goal.invariant-loop-c
invariant-loop-c l = l.found ≡ has_term (term_at l.bank l.literal) (case_tests (cases_at l.bank (take l.c-index l.cases)))
