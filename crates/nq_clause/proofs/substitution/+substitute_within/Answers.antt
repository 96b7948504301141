use Rattle.std.proofs.Common.{◌≡◌, ◌<◌, [], ◌∷◌, ◌++◌, get_or, ◌∙◌, sym, ap, subst, arith, rules}
use Rattle.std.specs.Prelude.{All, Err}
use Rattle.nq_bank.specs.declared.node.TermId.{TermId}
use Rattle.nq_bank.specs.declared.node.BankFault.TheVariants.{Deep}
use Rattle.nq_logic.specs.Terms.{Substitution, substituted}
use Rattle.nq_logic.specs.Sizes.{depth_of, depth_limit}
use Rattle.nq_bank.specs.Content.{Content, term_at, terms_at, text_at, Stands, IsIdOf}
use Rattle.nq_bank.proofs.Growth.{Grows-trans, Stands-grown, term_at-grown}
use Rattle.nq_clause.specs.Substitution.{substitution_at, HasIds}
use Rattle.nq_clause.proofs.SubstitutionLemmas.{IsStep, substituted-numeral, substitution_at-grown, pairs_grown, argument_same, replaced_step, arguments_stand, whole_call, ids_grown, deep_replaced}
use Rattle.nq_bank.proofs.Standing.{stand_grown, All-push, passed_on}
use Rattle.nq_clause.proofs.substitution.+substitute_within.Goals as goal

pub substitute_within-requires : goal.substitute_within-requires
substitute_within-requires t c =
    let first : TermId = record { 0 = 0 } in
    let old : Content = c.args.bank.now in
    let a : TermId = get_or c.deref-a-items.result.now c.loop-a.a-index first in
    let told : All (λ x. x.0 < c.args.t.0) c.deref-a-items.result.now = subst (All (λ x. x.0 < c.args.t.0)) (sym (c.deref-a-items.ensures.value ∙ c.in_ok-arguments-in-None.ensures.ok)) c.args-in-None.ensures.earlier in
    let earlier : a.0 < c.args.t.0 = told c.loop-a.a-index first c.loop-a-test.true in
    let stands : Stands old a = omega (arith, earlier, c.requires.stands) in (
      search rules,
      (
        Stands-grown old c.loop-a.bank a c.loop-a.invariant.grows stands,
        (
          pairs_grown old c.loop-a.bank c.args.pairs.now c.loop-a.invariant.grows c.requires.pairs,
          subst (λ s. HasIds c.loop-a.bank s c.loop-a.known) (sym (substitution_at-grown old c.loop-a.bank c.args.pairs.now c.loop-a.invariant.grows c.requires.pairs)) c.loop-a.invariant.ids,
        ),
      ),
    )

pub returns-in_err-part-in-None-clause-deep : goal.returns-in_err-part-in-None-clause-deep
returns-in_err-part-in-None-clause-deep t c =
    λ e.
    let first : TermId = record { 0 = 0 } in
    let old : Content = c.args.bank.now in
    let s : Substitution = substitution_at old c.args.pairs.now in
    let came = passed_on c.from_residual-in_err-part-in-None.result c.in_err-part-in-None.field-0.0 Deep c.from_residual-in_err-part-in-None.ensures.1 e in
    let deep = c.substitute_within.ensures.deep (c.in_err-part-in-None.was ∙ ap Err came) in
    let arguments = arguments_stand old c.args.t c.args-in-None.result.now c.in_ok-arguments-in-None.arguments.items c.deref-a-items.result.now c.requires.stands c.args-in-None.ensures.earlier c.in_ok-arguments-in-None.ensures.ok c.deref-a-items.ensures.value in
    let step : IsStep old c.loop-a.bank c.substitute_within.new.bank c.args.pairs.now c.deref-a-items.result.now c.loop-a.parts.items c.loop-a.a-index = record { before = c.loop-a.invariant.grows; after = c.substitute_within.ensures.grows; stand = c.loop-a.invariant.stand; arguments = arguments; standing = c.requires.pairs; below = c.loop-a-test.true; done = c.loop-a.invariant.done } in
    let same = argument_same old c.loop-a.bank c.substitute_within.new.bank c.args.pairs.now c.deref-a-items.result.now c.loop-a.parts.items c.loop-a.a-index first step in
    deep_replaced s old (term_at old c.args.t) (text_at old c.in-App.f) c.args-in-None.result.now c.deref-a-items.result.now c.loop-a.a-index first c.in-App.ensures.head.1 c.args-in-None.ensures.parts (c.deref-a-items.ensures.value ∙ c.in_ok-arguments-in-None.ensures.ok) c.loop-a-test.true
    (subst (λ u. depth_limit < depth_of u) same deep)

pub loop-a-preserved : goal.loop-a-preserved
loop-a-preserved t c =
    let first : TermId = record { 0 = 0 } in
    let old : Content = c.args.bank.now in
    let bank : Content = c.loop-a.bank in
    let new : Content = c.substitute_within.new.bank in
    let part : TermId = c.in_ok-part-in-None.part in
    let parts : c.add_part.new.parts.items ≡ c.loop-a.parts.items ++ part ∷ [] = c.in_ok-add_part-in-None.ensures.ok in
    let arguments = arguments_stand old c.args.t c.args-in-None.result.now c.in_ok-arguments-in-None.arguments.items c.deref-a-items.result.now c.requires.stands c.args-in-None.ensures.earlier c.in_ok-arguments-in-None.ensures.ok c.deref-a-items.ensures.value in
    let step : IsStep old bank new c.args.pairs.now c.deref-a-items.result.now c.loop-a.parts.items c.loop-a.a-index = record { before = c.loop-a.invariant.grows; after = c.substitute_within.ensures.grows; stand = c.loop-a.invariant.stand; arguments = arguments; standing = c.requires.pairs; below = c.loop-a-test.true; done = c.loop-a.invariant.done } in
    record {
      grows = Grows-trans old bank new c.loop-a.invariant.grows c.substitute_within.ensures.grows;
      names = c.substitute_within.ensures.names ∙ c.loop-a.invariant.names;
      stand = subst (All (Stands new)) (sym parts) (All-push (Stands new) c.loop-a.parts.items part (stand_grown bank new c.loop-a.parts.items c.substitute_within.ensures.grows c.loop-a.invariant.stand) c.in_ok-part-in-None.ensures.ok.stands);
      ids = subst (λ s. HasIds new s c.substitute_within.new.known) (substitution_at-grown old bank c.args.pairs.now c.loop-a.invariant.grows c.requires.pairs) c.in_ok-part-in-None.ensures.ids;
      done = ap (terms_at new) parts ∙ replaced_step old bank new c.args.pairs.now c.deref-a-items.result.now c.loop-a.parts.items c.loop-a.a-index first part step c.in_ok-part-in-None.ensures.ok;
    }

pub returns-in_err-r-in-None-clause-deep : goal.returns-in_err-r-in-None-clause-deep
returns-in_err-r-in-None-clause-deep t c =
    λ e.
    let old : Content = c.args.bank.now in
    let s : Substitution = substitution_at old c.args.pairs.now in
    let came = passed_on c.from_residual-in_err-r-in-None.result c.in_err-r-in-None.field-0.0 Deep c.from_residual-in_err-r-in-None.ensures.1 e in
    let whole = whole_call s old c.loop-a.bank (term_at old c.args.t) c.in-App.f c.args-in-None.result.now c.deref-a-items.result.now c.loop-a.parts.items c.as_slice.result.now c.loop-a.a-index c.loop-a.invariant.grows c.in-App.ensures.head.0 c.in-App.ensures.head.1 c.args-in-None.ensures.parts (c.deref-a-items.ensures.value ∙ c.in_ok-arguments-in-None.ensures.ok) c.loop-a-test.false c.loop-a.invariant.done c.as_slice.ensures.value in
    subst (λ u. depth_limit < depth_of u) whole (c.app.ensures.deep.0 (c.in_err-r-in-None.was ∙ ap Err came))

pub returns-in_ok-keep_replaced-in-None-clause-ok : goal.returns-in_ok-keep_replaced-in-None-clause-ok
returns-in_ok-keep_replaced-in-None-clause-ok t c =
    let old : Content = c.args.bank.now in
    let s : Substitution = substitution_at old c.args.pairs.now in
    let whole = whole_call s old c.loop-a.bank (term_at old c.args.t) c.in-App.f c.args-in-None.result.now c.deref-a-items.result.now c.loop-a.parts.items c.as_slice.result.now c.loop-a.a-index c.loop-a.invariant.grows c.in-App.ensures.head.0 c.in-App.ensures.head.1 c.args-in-None.ensures.parts (c.deref-a-items.ensures.value ∙ c.in_ok-arguments-in-None.ensures.ok) c.loop-a-test.false c.loop-a.invariant.done c.as_slice.ensures.value in
    subst (IsIdOf c.app.new.self c.in_ok-r-in-None.r) whole c.in_ok-r-in-None.ensures.ok.id

pub returns-in_ok-keep_replaced-in-None-clause-ids : goal.returns-in_ok-keep_replaced-in-None-clause-ids
returns-in_ok-keep_replaced-in-None-clause-ids t c =
    let old : Content = c.args.bank.now in
    let bank : Content = c.loop-a.bank in
    let new : Content = c.app.new.self in
    let s : Substitution = substitution_at old c.args.pairs.now in
    let after = c.in_ok-r-in-None.ensures.ok.grows in
    let grows = Grows-trans old bank new c.loop-a.invariant.grows after in
    let whole = whole_call s old bank (term_at old c.args.t) c.in-App.f c.args-in-None.result.now c.deref-a-items.result.now c.loop-a.parts.items c.as_slice.result.now c.loop-a.a-index c.loop-a.invariant.grows c.in-App.ensures.head.0 c.in-App.ensures.head.1 c.args-in-None.ensures.parts (c.deref-a-items.ensures.value ∙ c.in_ok-arguments-in-None.ensures.ok) c.loop-a-test.false c.loop-a.invariant.done c.as_slice.ensures.value in
    let id = subst (IsIdOf new c.in_ok-r-in-None.r) (whole ∙ ap (substituted s) (sym (term_at-grown old new c.args.t grows c.requires.stands))) c.in_ok-r-in-None.ensures.ok.id in
    c.in_ok-keep_replaced-in-None.ensures.ids s (ids_grown bank new s c.loop-a.known after c.loop-a.invariant.ids) id

pub returns-in-Num-clause-ok : goal.returns-in-Num-clause-ok
returns-in-Num-clause-ok t c =
    let s : Substitution = substitution_at c.args.bank.now c.args.pairs.now in
    let number = c.in-Num.ensures.head.1 in
    record { stands = c.requires.stands; denotes = number ∙ sym (ap (substituted s) number ∙ substituted-numeral s c.in-Num.field-0) }

pub returns-in-Some-clause-ok : goal.returns-in-Some-clause-ok
returns-in-Some-clause-ok t c = c.requires.ids.right c.args.t c.in-Some.r c.in-Some.ensures
