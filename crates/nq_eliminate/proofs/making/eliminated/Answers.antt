use Rattle.std.proofs.Common.{◌≡◌, ◌∙◌, ◌∷◌, ◌++◌, List, sym, ap, subst}
use Rattle.std.specs.Prelude.{All, false}
use Rattle.nq_bank.specs.declared.node.TermId.{TermId}
use Rattle.nq_bank.specs.Content.{terms_at}
use Rattle.nq_kernel.proofs.GrowingLemmas.{WorkGrows-refl, WorkGrows-trans}
use Rattle.nq_lines.specs.Lines.{IsTermIn}
use Rattle.nq_rule.proofs.Made.{for_ok}
use Rattle.nq_moves.specs.Eliminated.{IsElimination}
use Rattle.nq_moves.specs.Naming.{occurs_in_one}
use Rattle.nq_eliminate.specs.Instances.{IsChosenOf}
use Rattle.nq_eliminate.specs.Kept.{IsRenamedBy}
use Rattle.nq_eliminate.specs.Literals.{joined}
use Rattle.nq_eliminate.proofs.MakingLemmas.{at_least_two, calls_in_mid, chosen_new, known_in_mid, literals_free, serves_new, values_mid}
use Rattle.nq_eliminate.proofs.making.eliminated.Goals as goal

pub prepare-requires-clause-whole : goal.prepare-requires-clause-whole
prepare-requires-clause-whole c = c.requires.instance.instance.whole

pub prepare-requires-clause-variable : goal.prepare-requires-clause-variable
prepare-requires-clause-variable c = c.requires.instance.instance.variable

pub prepare-requires-clause-hypotheses : goal.prepare-requires-clause-hypotheses
prepare-requires-clause-hypotheses c = c.requires.instance.instance.hypotheses

pub returns-in_err-known-clause-grows : goal.returns-in_err-known-clause-grows
returns-in_err-known-clause-grows c = c.prepare.ensures.grows

pub renamed-requires-clause-known : goal.renamed-requires-clause-known
renamed-requires-clause-known c =
    let old = c.args.work.now in
    let mid = c.prepare.new.work in
    subst (All (IsTermIn c.args.history.now mid)) (sym (c.as_slice.ensures.value ∙ c.in_ok-known.ensures.all ∙ ap (λ (os : List TermId). (joined c.args.path.now ++ c.args.goal.now) ++ c.args.r.variable ∷ os) c.as_slice-others.ensures.value))
    (known_in_mid c.args.history.now old mid mid c.requires.stands c.prepare.ensures.grows (WorkGrows-refl c.args.history.now mid c.prepare.ensures.grows.stands) c.args.path.now c.args.goal.now c.requires.path c.requires.goal c.args.r c.requires.instance.chosen c.requires.instance.plain c.requires.instance.instance c.in_ok-p.p c.in_ok-p.ensures.prepared)

pub renamed-requires-clause-literals : goal.renamed-requires-clause-literals
renamed-requires-clause-literals c = c.in_ok-p.ensures.prepared.literals

pub renamed-requires-clause-two : goal.renamed-requires-clause-two
renamed-requires-clause-two c = at_least_two c.prepare.new.work.bank c.in_ok-p.p.literals.items _ _ _ c.in_ok-p.ensures.prepared.all

pub renamed-requires-clause-within : goal.renamed-requires-clause-within
renamed-requires-clause-within c =
    let old = c.args.work.now in
    let mid = c.prepare.new.work in
    λ y free.
    literals_free c.args.history.now old mid mid c.requires.stands c.prepare.ensures.grows (WorkGrows-refl c.args.history.now mid c.prepare.ensures.grows.stands) c.args.path.now c.args.goal.now c.requires.path c.requires.goal c.args.r c.requires.instance.chosen c.requires.instance.plain c.requires.instance.instance c.in_ok-p.p c.in_ok-p.ensures.prepared y
    (subst (λ ids. occurs_in_one y (terms_at mid.bank ids) ≡ false) (c.as_slice.ensures.value ∙ c.in_ok-known.ensures.all ∙ ap (λ (os : List TermId). (joined c.args.path.now ++ c.args.goal.now) ++ c.args.r.variable ∷ os) c.as_slice-others.ensures.value) free)

pub renamed-requires-clause-calls : goal.renamed-requires-clause-calls
renamed-requires-clause-calls c =
    let old = c.args.work.now in
    let mid = c.prepare.new.work in
    calls_in_mid c.args.history.now old mid mid c.requires.stands c.prepare.ensures.grows (WorkGrows-refl c.args.history.now mid c.prepare.ensures.grows.stands) c.args.path.now c.args.goal.now c.requires.path c.requires.goal c.args.r c.requires.instance.chosen c.requires.instance.plain c.requires.instance.instance c.in_ok-p.p c.in_ok-p.ensures.prepared

pub renamed-requires-clause-values : goal.renamed-requires-clause-values
renamed-requires-clause-values c =
    let old = c.args.work.now in
    let mid = c.prepare.new.work in
    values_mid c.args.history.now old mid mid c.requires.stands c.prepare.ensures.grows (WorkGrows-refl c.args.history.now mid c.prepare.ensures.grows.stands) c.args.path.now c.args.goal.now c.requires.path c.requires.goal c.args.r c.requires.instance.chosen c.requires.instance.plain c.requires.instance.instance c.in_ok-p.p c.in_ok-p.ensures.prepared

pub returns-clause-serves : goal.returns-clause-serves
returns-clause-serves c =
    let h = c.args.history.now in
    let old = c.args.work.now in
    let mid = c.prepare.new.work in
    let new = c.renamed.new.work in
    for_ok c.renamed.result (IsRenamedBy h mid new c.as_slice.result.now c.args.r c.in_ok-p.p) (IsElimination h new c.args.goal.now)
    (λ d ren. serves_new h old mid new c.requires.stands c.prepare.ensures.grows c.renamed.ensures.grows c.args.path.now c.args.goal.now c.requires.path c.requires.goal c.args.r c.requires.instance.chosen c.requires.instance.plain c.requires.instance.instance c.in_ok-p.p c.in_ok-p.ensures.prepared d
    (subst (λ (ids : List TermId). IsRenamedBy h mid new ids c.args.r c.in_ok-p.p d) (c.as_slice.ensures.value ∙ c.in_ok-known.ensures.all ∙ ap (λ (os : List TermId). (joined c.args.path.now ++ c.args.goal.now) ++ c.args.r.variable ∷ os) c.as_slice-others.ensures.value) ren)) c.renamed.ensures.renamed

pub returns-clause-chosen : goal.returns-clause-chosen
returns-clause-chosen c =
    let hs = c.args.history.now in
    let old = c.args.work.now in
    let mid = c.prepare.new.work in
    let new = c.renamed.new.work in
    for_ok c.renamed.result (IsRenamedBy hs mid new c.as_slice.result.now c.args.r c.in_ok-p.p) (IsChosenOf hs old new c.args.path.now c.args.goal.now c.args.r)
    (λ d ren.
    record {
      each = λ h hints e candidate plain instance.
          chosen_new hs old mid new c.requires.stands c.prepare.ensures.grows c.renamed.ensures.grows c.args.path.now c.args.goal.now c.requires.path c.requires.goal c.args.r e plain instance c.in_ok-p.p c.in_ok-p.ensures.prepared d
          (subst (λ (ids : List TermId). IsRenamedBy hs mid new ids c.args.r c.in_ok-p.p d) (c.as_slice.ensures.value ∙ c.in_ok-known.ensures.all ∙ ap (λ (os : List TermId). (joined c.args.path.now ++ c.args.goal.now) ++ c.args.r.variable ∷ os) c.as_slice-others.ensures.value) ren) h hints candidate;
    }) c.renamed.ensures.renamed

pub returns-clause-grows : goal.returns-clause-grows
returns-clause-grows c = WorkGrows-trans c.args.history.now c.args.work.now c.prepare.new.work c.renamed.new.work c.prepare.ensures.grows c.renamed.ensures.grows
