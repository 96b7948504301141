-- What is left decides.
use Rattle.std.proofs.Common.{◌≡◌, drop}
use Rattle.nq_bank.specs.Content.{text_at}
use Rattle.nq_calls.specs.Mentions.{is_mentioned}
use Rattle.nq_clause.specs.Substitution.{substitution_at}
use Rattle.nq_proof.specs.Rules.{pair_terms}
use Rattle.nq_check.proofs.rule_terms.is_in_pairs.Given as goal

abbrev pub invariant-loop-pair : goal.invariant-loop-pair
invariant-loop-pair l = is_mentioned (text_at l.bank l.f) (pair_terms (substitution_at l.bank (drop l.pair-index l.pairs))) ≡ is_mentioned (text_at l.bank l.f) (pair_terms (substitution_at l.bank l.pairs))
