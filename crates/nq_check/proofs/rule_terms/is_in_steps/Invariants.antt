-- What is left decides.
use Rattle.std.proofs.Common.{◌≡◌, drop}
use Rattle.nq_bank.specs.Content.{text_at}
use Rattle.nq_calls.specs.Mentions.{is_mentioned}
use Rattle.nq_proof.specs.Rules.{hypothesis_terms}
use Rattle.nq_rule.specs.Inductions.{hypotheses_at}
use Rattle.nq_check.proofs.rule_terms.is_in_steps.Given as goal

abbrev pub invariant-loop-step : goal.invariant-loop-step
invariant-loop-step l = is_mentioned (text_at l.bank l.f) (hypothesis_terms (hypotheses_at l.bank (drop l.step-index l.steps))) ≡ is_mentioned (text_at l.bank l.f) (hypothesis_terms (hypotheses_at l.bank l.steps))
