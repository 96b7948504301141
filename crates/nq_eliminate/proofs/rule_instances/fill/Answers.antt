use Rattle.std.proofs.Common.{◌∙◌, map, sym, ap, subst}
use Rattle.std.specs.Prelude.{All}
use Rattle.nq_logic.specs.Terms.{substituted}
use Rattle.nq_bank.specs.Content.{Stands, term_at, terms_at}
use Rattle.nq_bank.proofs.Standing.{stand_grown}
use Rattle.nq_clause.specs.Substitution.{PairStands, substitution_at}
use Rattle.nq_clause.proofs.SubstitutionLemmas.{pairs_grown}
use Rattle.nq_kernel.specs.Growing.{WorkGrows}
use Rattle.nq_kernel.proofs.GrowingLemmas.{WorkGrows-refl, WorkGrows-trans}
use Rattle.nq_moves.proofs.ClosingLemmas.{all_stand}
use Rattle.nq_moves.proofs.SwappedLemmas.{goal_in_grown}
use Rattle.nq_eliminate.proofs.FilledLemmas.{filled_made, id_still, put_still}
use Rattle.nq_eliminate.proofs.rule_instances.fill.Goals as goal

pub fill_term-requires-clause-term : goal.fill_term-requires-clause-term
fill_term-requires-clause-term c = c.requires.filling.is.made_of.stands

pub fill_term-requires-clause-pairs : goal.fill_term-requires-clause-pairs
fill_term-requires-clause-pairs c = subst (All (PairStands c.args.work.now.bank)) (sym c.as_slice-pairs.ensures.value) c.requires.filling.is.pairs.stand

pub substitute_all-requires-clause-terms : goal.substitute_all-requires-clause-terms
substitute_all-requires-clause-terms c =
    let w = c.args.work.now in
    let w1 = c.fill_term.new.work in
    subst (All (Stands w1.bank)) (sym c.as_slice.ensures.value) (all_stand c.args.history.now w1 c.args.p.now.destructors.items (goal_in_grown c.args.history.now w w1 c.requires.stands c.fill_term.ensures.grows c.args.p.now.destructors.items c.requires.filling.is.destructors))

pub substitute_all-requires-clause-pairs : goal.substitute_all-requires-clause-pairs
substitute_all-requires-clause-pairs c =
    let w = c.args.work.now in
    let w1 = c.fill_term.new.work in
    subst (All (PairStands w1.bank)) (sym c.as_slice-pairs.ensures.value) (pairs_grown w.bank w1.bank c.args.p.now.pairs.items c.fill_term.ensures.grows.bank c.requires.filling.is.pairs.stand)

pub returns-in_err-calls-clause-grows : goal.returns-in_err-calls-clause-grows
returns-in_err-calls-clause-grows c = WorkGrows-trans c.args.history.now c.args.work.now c.fill_term.new.work c.substitute_all.new.work c.fill_term.ensures.grows c.substitute_all.ensures.grows

pub substitute_all-requires-2-clause-terms : goal.substitute_all-requires-2-clause-terms
substitute_all-requires-2-clause-terms c =
    let w = c.args.work.now in
    let w2 = c.substitute_all.new.work in
    let grows : WorkGrows c.args.history.now w w2 = WorkGrows-trans c.args.history.now w c.fill_term.new.work w2 c.fill_term.ensures.grows c.substitute_all.ensures.grows in
    subst (All (Stands w2.bank)) (sym c.as_slice-2.ensures.value) (all_stand c.args.history.now w2 c.args.p.now.hypotheses.items (goal_in_grown c.args.history.now w w2 c.requires.stands grows c.args.p.now.hypotheses.items c.requires.filling.is.hypotheses))

pub substitute_all-requires-2-clause-pairs : goal.substitute_all-requires-2-clause-pairs
substitute_all-requires-2-clause-pairs c =
    let w = c.args.work.now in
    let w2 = c.substitute_all.new.work in
    let grows : WorkGrows c.args.history.now w w2 = WorkGrows-trans c.args.history.now w c.fill_term.new.work w2 c.fill_term.ensures.grows c.substitute_all.ensures.grows in
    subst (All (PairStands w2.bank)) (sym c.as_slice-pairs.ensures.value) (pairs_grown w.bank w2.bank c.args.p.now.pairs.items grows.bank c.requires.filling.is.pairs.stand)

pub returns-in_err-hypotheses-clause-grows : goal.returns-in_err-hypotheses-clause-grows
returns-in_err-hypotheses-clause-grows c =
    let w = c.args.work.now in
    let w2 = c.substitute_all.new.work in
    WorkGrows-trans c.args.history.now w w2 c.substitute_all-2.new.work (WorkGrows-trans c.args.history.now w c.fill_term.new.work w2 c.fill_term.ensures.grows c.substitute_all.ensures.grows) c.substitute_all-2.ensures.grows

pub returns-clause-filled : goal.returns-clause-filled
returns-clause-filled c =
    let hs = c.args.history.now in
    let w = c.args.work.now in
    let w1 = c.fill_term.new.work in
    let w2 = c.substitute_all.new.work in
    let w3 = c.substitute_all-2.new.work in
    let g01 : WorkGrows hs w w1 = c.fill_term.ensures.grows in
    let g12 : WorkGrows hs w1 w2 = c.substitute_all.ensures.grows in
    let g23 : WorkGrows hs w2 w3 = c.substitute_all-2.ensures.grows in
    let g02 : WorkGrows hs w w2 = WorkGrows-trans hs w w1 w2 g01 g12 in
    let g13 : WorkGrows hs w1 w3 = WorkGrows-trans hs w1 w2 w3 g12 g23 in
    let g03 : WorkGrows hs w w3 = WorkGrows-trans hs w w2 w3 g02 g23 in
    let g33 : WorkGrows hs w3 w3 = WorkGrows-refl hs w3 g23.stands in
    let pairs = c.args.p.now.pairs.items in
    let same = c.as_slice-pairs.ensures.value in
    λ e is.
    filled_made hs w w3 c.requires.stands g03 e c.args.p.now is c.in_ok-whole.whole c.in_ok-calls.calls c.in_ok-hypotheses.hypotheses
    (id_still hs w1 w3 g13 c.in_ok-whole.whole _ _ c.in_ok-whole.ensures.term (ap (λ ps. substituted (substitution_at w.bank ps) (term_at w.bank c.args.p.now.made_of)) same))
    (stand_grown w2.bank w3.bank c.in_ok-calls.calls.items g23.bank c.in_ok-calls.ensures.stand)
    (put_still hs w w1 w2 w3 c.requires.stands g01 g23 pairs c.args.p.now.destructors.items c.in_ok-calls.calls.items is.pairs.stand is.destructors c.in_ok-calls.ensures.stand
    (c.in_ok-calls.ensures.terms ∙ (ap (λ ps. map (substituted (substitution_at w1.bank ps)) (terms_at w1.bank c.as_slice.result.now)) same ∙ ap (λ ids. map (substituted (substitution_at w1.bank pairs)) (terms_at w1.bank ids)) c.as_slice.ensures.value)))
    c.in_ok-hypotheses.ensures.stand
    (put_still hs w w2 w3 w3 c.requires.stands g02 g33 pairs c.args.p.now.hypotheses.items c.in_ok-hypotheses.hypotheses.items is.pairs.stand is.hypotheses c.in_ok-hypotheses.ensures.stand
    (c.in_ok-hypotheses.ensures.terms ∙ (ap (λ ps. map (substituted (substitution_at w2.bank ps)) (terms_at w2.bank c.as_slice-2.result.now)) same ∙ ap (λ ids. map (substituted (substitution_at w2.bank pairs)) (terms_at w2.bank ids)) c.as_slice-2.ensures.value)))

pub returns-clause-grows : goal.returns-clause-grows
returns-clause-grows c =
    let w = c.args.work.now in
    let w2 = c.substitute_all.new.work in
    WorkGrows-trans c.args.history.now w w2 c.substitute_all-2.new.work (WorkGrows-trans c.args.history.now w c.fill_term.new.work w2 c.fill_term.ensures.grows c.substitute_all.ensures.grows) c.substitute_all-2.ensures.grows
