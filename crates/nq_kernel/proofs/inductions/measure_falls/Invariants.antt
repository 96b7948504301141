-- What is left decides.
use Rattle.std.proofs.Common.{◌≡◌, drop}
use Rattle.nq_bank.specs.Content.{term_at}
use Rattle.nq_proof.specs.Rules.{are_falls}
use Rattle.nq_rule.specs.Inductions.{hypotheses_at}
use Rattle.nq_kernel.specs.Meaning.{clause_at}
use Rattle.nq_kernel.proofs.inductions.measure_falls.Given as goal

abbrev pub invariant-loop-step : goal.invariant-loop-step
invariant-loop-step l = are_falls (clause_at l.bank l.log) (term_at l.bank l.measure) (term_at l.bank l.test) (hypotheses_at l.bank (l.steps)) ≡ are_falls (clause_at l.bank l.log) (term_at l.bank l.measure) (term_at l.bank l.test) (hypotheses_at l.bank (drop l.step-index l.steps))
