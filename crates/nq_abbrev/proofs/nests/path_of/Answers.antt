use Rattle.std.proofs.Common.{ap, ◌∙◌, ◌<◌, ◌-◌, get_or, subst}
use Rattle.std.specs.Prelude.{Err}
use Rattle.nq_logic.specs.Terms.{Term}
use Rattle.nq_logic.specs.Sizes.{depth_of, depth_limit}
use Rattle.nq_language.specs.Translation.{letter_term}
use Rattle.nq_bank.specs.Content.{term_at}
use Rattle.nq_bank.specs.declared.node.BankFault.TheVariants.{Deep}
use Rattle.nq_bank.proofs.Standing.{passed_on}
use Rattle.nq_abbrev.proofs.NestLemmas.{deep_path}
use Rattle.nq_abbrev.proofs.nests.path_of.Goals as goal

pub returns-in_err-nest-clause-deep : goal.returns-in_err-nest-clause-deep
returns-in_err-nest-clause-deep c =
    λ e.
    let came = passed_on c.from_residual.result c.in_err-nest.field-0.0 Deep c.from_residual.ensures.1 e in
    let deep = c.letter_of.ensures.deep (c.in_err-nest.was ∙ ap Err came) in
    let same = ap (λ (t : Term). letter_term (get_or c.args.letters.now (c.loop-place.place - 1) 0) t) c.loop-place.invariant.nest.denotes in
    deep_path c.args.letters.now c.loop-place.place (term_at c.args.bank.now c.args.t) c.loop-place-test.true c.loop-place.invariant.within (subst (λ (t : Term). depth_limit < depth_of t) same deep)
