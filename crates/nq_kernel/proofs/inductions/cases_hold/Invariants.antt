-- What is left decides.
use Rattle.std.proofs.Common.{◌≡◌, drop}
use Rattle.nq_bank.specs.Content.{term_at}
use Rattle.nq_proof.specs.Rules.{are_steps}
use Rattle.nq_rule.specs.Inductions.{cases_at}
use Rattle.nq_kernel.specs.Meaning.{clause_at}
use Rattle.nq_kernel.proofs.inductions.cases_hold.Given as goal

abbrev pub invariant-loop-case : goal.invariant-loop-case
invariant-loop-case l = are_steps (clause_at l.bank l.log) (term_at l.bank l.claim) (term_at l.bank l.measure) (cases_at l.bank (l.cases)) ≡ are_steps (clause_at l.bank l.log) (term_at l.bank l.claim) (term_at l.bank l.measure) (cases_at l.bank (drop l.case-index l.cases))
