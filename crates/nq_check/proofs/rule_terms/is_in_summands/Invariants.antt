-- What is left decides.
use Rattle.std.proofs.Common.{◌≡◌, drop, map}
use Rattle.nq_bank.specs.Content.{text_at}
use Rattle.nq_calls.specs.Mentions.{is_mentioned}
use Rattle.nq_linear_rule.specs.Sums.{summands_at}
use Rattle.nq_check.proofs.rule_terms.is_in_summands.Given as goal

abbrev pub invariant-loop-summand : goal.invariant-loop-summand
invariant-loop-summand l = is_mentioned (text_at l.bank l.f) (map (λ s. s.literal) (summands_at l.bank (drop l.summand-index l.summands))) ≡ is_mentioned (text_at l.bank l.f) (map (λ s. s.literal) (summands_at l.bank l.summands))
