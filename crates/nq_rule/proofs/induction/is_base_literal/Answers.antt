use Rattle.std.proofs.Common.{◌||◌, sym, ap, ◌∙◌}
use Rattle.nq_bank.specs.Content.{term_at}
use Rattle.nq_proof.specs.Clauses.{has_term}
use Rattle.nq_proof.specs.Rules.{case_tests}
use Rattle.nq_rule.specs.Inductions.{cases_at}
use Rattle.nq_rule.proofs.ClauseLemmas.{has_term-push}
use Rattle.nq_rule.proofs.induction.is_base_literal.Goals as goal

pub returns : goal.returns
returns c =
    c.is_either.ensures ∙ ap (λ b. b || c.is_same-last.result) c.is_tested-tested.ensures ∙ ap (λ b. has_term (term_at c.args.bank.now c.args.literal) (case_tests (cases_at c.args.bank.now c.args.cases.now)) || b) c.is_same-last.ensures ∙
    sym (has_term-push (term_at c.args.bank.now c.args.literal) (term_at c.args.bank.now c.args.claim) (case_tests (cases_at c.args.bank.now c.args.cases.now)))
