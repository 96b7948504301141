use Rattle.std.proofs.Common.{◌≡◌, ◌<◌, ◌-◌, [], ◌∷◌, get_or, drop, ap, ◌∙◌, subst, arith}
use Rattle.std.specs.Prelude.{Err}
use Rattle.nq_logic.specs.Terms.{Term, call}
use Rattle.nq_logic.specs.Sizes.{depth_of, depth_limit}
use Rattle.nq_bank.specs.Content.{Content, IsIdOf, term_at, terms_at}
use Rattle.nq_bank.specs.declared.node.TermId.{TermId}
use Rattle.nq_bank.specs.declared.node.BankFault.TheVariants.{Deep}
use Rattle.nq_bank.proofs.Growth.{Grows-trans, term_at-grown}
use Rattle.nq_bank.proofs.Standing.{passed_on}
use Rattle.nq_abbrev.specs.Nests.{right_nest}
use Rattle.nq_abbrev.proofs.NestLemmas.{right_step, deep_right, nested_is}
use Rattle.nq_abbrev.proofs.nests.nested_of.Goals as goal

pub returns-in_err-nest-clause-deep : goal.returns-in_err-nest-clause-deep
returns-in_err-nest-clause-deep c =
    λ e.
    let came = passed_on c.from_residual.result c.in_err-nest.field-0.0 Deep c.from_residual.ensures.1 e in
    let deep = c.call_of.ensures.deep (c.in_err-nest.was ∙ ap Err came) in
    let old : Content = c.args.bank.now in
    let f = c.args.name.now in
    let ids = c.args.terms.now in
    let d : TermId = record { 0 = 0 } in
    let id : TermId = get_or ids (c.loop-place.place - 1) d in
    let first = term_at-grown old c.loop-place.bank id c.loop-place.invariant.grows (c.requires.stand (c.loop-place.place - 1) d (omega arith)) in
    let same = ap (λ (t : Term). call f (t ∷ term_at c.loop-place.bank c.loop-place.nest ∷ [])) first ∙ ap (λ (t : Term). call f (term_at old id ∷ t ∷ [])) c.loop-place.invariant.nest.denotes ∙ right_step f old ids c.loop-place.place d c.loop-place-test.true c.loop-place.invariant.within in
    let whole = deep_right f old ids c.loop-place.place c.loop-place-test.true c.loop-place.invariant.within (subst (λ (t : Term). depth_limit < depth_of t) same deep) in
    subst (λ (t : Term). depth_limit < depth_of t) (nested_is f old ids c.requires.count) whole

pub loop-place-preserved : goal.loop-place-preserved
loop-place-preserved c =
    let old : Content = c.args.bank.now in
    let f = c.args.name.now in
    let ids = c.args.terms.now in
    let d : TermId = record { 0 = 0 } in
    let id : TermId = get_or ids (c.loop-place.place - 1) d in
    let first = term_at-grown old c.loop-place.bank id c.loop-place.invariant.grows (c.requires.stand (c.loop-place.place - 1) d (omega arith)) in
    let same = ap (λ (t : Term). call f (t ∷ term_at c.loop-place.bank c.loop-place.nest ∷ [])) first ∙ ap (λ (t : Term). call f (term_at old id ∷ t ∷ [])) c.loop-place.invariant.nest.denotes ∙ right_step f old ids c.loop-place.place d c.loop-place-test.true c.loop-place.invariant.within in
    record {
      within = omega arith;
      nest = subst (λ (t : Term). IsIdOf c.call_of.new.bank c.in_ok-nest.nest t) same c.in_ok-nest.ensures.ok;
      grows = Grows-trans old c.loop-place.bank c.call_of.new.bank c.loop-place.invariant.grows c.in_ok-nest.ensures.grows;
    }

pub returns-clause-ok : goal.returns-clause-ok
returns-clause-ok c =
    let old : Content = c.args.bank.now in
    let f = c.args.name.now in
    let ids = c.args.terms.now in
    let first : c.loop-place.place ≡ 0 = omega arith in
    let same = ap (λ k. right_nest f (terms_at old (drop k ids))) first ∙ nested_is f old ids c.requires.count in
    subst (λ (t : Term). IsIdOf c.loop-place.bank c.loop-place.nest t) same c.loop-place.invariant.nest
