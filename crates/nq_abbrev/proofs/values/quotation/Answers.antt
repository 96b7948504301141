use Rattle.std.proofs.Common.{ap, ◌∙◌, ◌<◌, subst}
use Rattle.std.specs.Prelude.{Err}
use Rattle.nq_logic.specs.Terms.{Term}
use Rattle.nq_logic.specs.Sizes.{depth_of, depth_limit}
use Rattle.nq_language.specs.Objects.{cons_term}
use Rattle.nq_bank.specs.Content.{term_at}
use Rattle.nq_bank.specs.declared.node.BankFault.TheVariants.{Deep}
use Rattle.nq_bank.proofs.Growth.{term_at-grown}
use Rattle.nq_bank.proofs.Standing.{passed_on}
use Rattle.nq_abbrev.proofs.ValueLemmas.{deep_quotation, deep_word}
use Rattle.nq_abbrev.proofs.values.quotation.Goals as goal

pub returns-in_err-list-clause-deep : goal.returns-in_err-list-clause-deep
returns-in_err-list-clause-deep c =
    λ e.
    let came = passed_on c.from_residual-in_err-list.result c.in_err-list.field-0.0 Deep c.from_residual-in_err-list.ensures.1 e in
    let deep = c.call_two.ensures.deep (c.in_err-list.was ∙ ap Err came) in
    let bank = c.nil.new.bank in
    let object = term_at-grown c.args.bank.now bank c.args.object c.in_ok-empty.ensures.grows c.requires in
    let same = ap (λ (t : Term). cons_term t (term_at bank c.in_ok-empty.empty)) object ∙ ap (λ (t : Term). cons_term (term_at c.args.bank.now c.args.object) t) c.in_ok-empty.ensures.ok.denotes in
    deep_quotation (term_at c.args.bank.now c.args.object) (subst (λ (t : Term). depth_limit < depth_of t) same deep)

pub returns-in_err-word-clause-deep : goal.returns-in_err-word-clause-deep
returns-in_err-word-clause-deep c =
    λ e.
    let came = passed_on c.from_residual-in_err-word.result c.in_err-word.field-0.0 Deep c.from_residual-in_err-word.ensures.1 e in
    deep_word (term_at c.args.bank.now c.args.object) (c.atom.ensures.deep (c.in_err-word.was ∙ ap Err came))
