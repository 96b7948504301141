use Rattle.std.proofs.Common.{◌<◌, sym, ap, ◌∙◌, subst}
use Rattle.std.specs.Prelude.{IfOk}
use Rattle.nq_logic.specs.Terms.{Term}
use Rattle.nq_logic.specs.Sizes.{depth_of, depth_limit}
use Rattle.nq_bank.specs.Content.{IsIdOf, terms_at}
use Rattle.nq_abbrev.specs.Nests.{applied_term}
use Rattle.nq_abbrev.specs.Words.{word_at}
use Rattle.nq_abbrev.specs.declared.word.Word.{Word}
use Rattle.nq_abbrev.proofs.NestLemmas.{few_nested}
use Rattle.nq_abbrev.proofs.nests.applied_of.Goals as goal

pub returns-then-terms-lt2-clause-ok : goal.returns-then-terms-lt2-clause-ok
returns-then-terms-lt2-clause-ok c =
    let f = c.args.name.now in
    let ts = terms_at c.args.bank.now c.args.terms.now in
    let same = few_nested f c.args.bank.now c.args.terms.now c.if-terms-lt2.true ∙ ap (λ (w : Word). applied_term (word_at w) f ts) (sym c.in-Nesting.is) in
    subst (λ (t : Term). IfOk c.call_of.result (λ r. IsIdOf c.call_of.new.bank r t)) same c.call_of.ensures.ok

pub returns-then-terms-lt2-clause-deep : goal.returns-then-terms-lt2-clause-deep
returns-then-terms-lt2-clause-deep c =
    λ e.
    let f = c.args.name.now in
    let ts = terms_at c.args.bank.now c.args.terms.now in
    let same = few_nested f c.args.bank.now c.args.terms.now c.if-terms-lt2.true ∙ ap (λ (w : Word). applied_term (word_at w) f ts) (sym c.in-Nesting.is) in
    subst (λ (t : Term). depth_limit < depth_of t) same (c.call_of.ensures.deep e)
