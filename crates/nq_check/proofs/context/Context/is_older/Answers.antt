use Rattle.std.proofs.Common.{ap, sym, ◌∙◌, not}
use Rattle.std.specs.Option.{option_map}
use Rattle.nq_bank.specs.Content.{text_at}
use Rattle.nq_kernel.specs.Meaning.{rule_at}
use Rattle.nq_log.specs.RuleLines.{are_without}
use Rattle.nq_proof.specs.Rules.{rule_terms}
use Rattle.nq_check.specs.Contexts.{function_of}
use Rattle.nq_check.proofs.RuleTermLemmas.{without_is, without_none}
use Rattle.nq_check.proofs.context.Context.is_older.Goals as goal

pub returns-in-None : goal.returns-in-None
returns-in-None c =
    let old = c.args.self.now in
    let ts = rule_terms (rule_at old.bank c.args.rule.now) in
    sym (ap (λ o. are_without (option_map (function_of old.bank) o) ts) c.in-None.is ∙ without_none ts)

pub returns-in_ok-inside-in-Some : goal.returns-in_ok-inside-in-Some
returns-in_ok-inside-in-Some c =
    let old = c.args.self.now in
    let ts = rule_terms (rule_at old.bank c.args.rule.now) in
    ap not c.in_ok-inside-in-Some.ensures ∙ without_is (text_at old.bank c.in-Some.introduced.function) c.in-Some.introduced.arity ts ∙ sym (ap (λ o. are_without (option_map (function_of old.bank) o) ts) c.in-Some.is)
