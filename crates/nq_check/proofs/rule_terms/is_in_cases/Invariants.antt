-- What is left decides.
use Rattle.std.proofs.Common.{◌≡◌, drop}
use Rattle.nq_bank.specs.Content.{text_at}
use Rattle.nq_calls.specs.Mentions.{is_mentioned}
use Rattle.nq_proof.specs.Rules.{case_terms}
use Rattle.nq_rule.specs.Inductions.{cases_at}
use Rattle.nq_check.proofs.rule_terms.is_in_cases.Given as goal

abbrev pub invariant-loop-case : goal.invariant-loop-case
invariant-loop-case l = is_mentioned (text_at l.bank l.f) (case_terms (cases_at l.bank (drop l.case-index l.cases))) ≡ is_mentioned (text_at l.bank l.f) (case_terms (cases_at l.bank l.cases))
