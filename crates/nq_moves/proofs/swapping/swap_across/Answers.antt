use Rattle.std.proofs.Common.{◌≡◌, Some, map, ◌∙◌, sym, ap}
use Rattle.nq_logic.specs.Values.{is_value}
use Rattle.nq_bank.specs.Content.{terms_at}
use Rattle.nq_bank.proofs.Growth.{terms_at-grown}
use Rattle.nq_kernel.proofs.GrowingLemmas.{WorkGrows-trans}
use Rattle.nq_lines.proofs.TermLemmas.{term_grown, same_term_grown}
use Rattle.nq_rule.proofs.Made.{for_ok}
use Rattle.nq_moves.specs.Swapped.{reading_at, swapped_literal}
use Rattle.nq_moves.proofs.ClosingLemmas.{all_stand}
use Rattle.nq_moves.proofs.SwappedLemmas.{all_in_grown, crossed_same, literals_same}
use Rattle.nq_moves.proofs.swapping.swap_across.Goals as goal

pub swap_but_ones-requires-clause-terms : goal.swap_but_ones-requires-clause-terms
swap_but_ones-requires-clause-terms c = all_in_grown c.args.history.now c.args.work.now c.cross.new.work c.requires.stands c.cross.ensures.grows c.args.terms.now c.requires.terms

pub swap_but_ones-requires-clause-from : goal.swap_but_ones-requires-clause-from
swap_but_ones-requires-clause-from c = term_grown c.args.history.now c.args.work.now c.cross.new.work c.args.r.from c.requires.stands c.cross.ensures.grows c.requires.from

pub swap_but_ones-requires-clause-into : goal.swap_but_ones-requires-clause-into
swap_but_ones-requires-clause-into c = term_grown c.args.history.now c.args.work.now c.cross.new.work c.args.r.into c.requires.stands c.cross.ensures.grows c.requires.into

pub swap_but_ones-requires-clause-no_value : goal.swap_but_ones-requires-clause-no_value
swap_but_ones-requires-clause-no_value c = ap is_value (same_term_grown c.args.history.now c.args.work.now c.cross.new.work c.args.r.from c.cross.ensures.grows c.requires.from) ∙ c.requires.no_value

pub swap_but_ones-requires-clause-whole : goal.swap_but_ones-requires-clause-whole
swap_but_ones-requires-clause-whole c = term_grown c.args.history.now c.args.work.now c.cross.new.work c.args.x.whole c.requires.stands c.cross.ensures.grows c.requires.whole

pub swap_but_ones-requires-clause-crossed : goal.swap_but_ones-requires-clause-crossed
swap_but_ones-requires-clause-crossed c =
    c.in_ok-one.ensures.term.denotes ∙ sym (crossed_same c.args.history.now c.args.work.now c.cross.new.work c.cross.ensures.grows c.args.r c.requires.from c.requires.into c.args.x c.requires.whole)

pub returns-clause-terms : goal.returns-clause-terms
returns-clause-terms c =
    let h = c.args.history.now in
    let old = c.args.work.now in
    let mid = c.cross.new.work in
    let new = c.swap_but_ones.new.work in
    let terms = c.args.terms.now in
    let X = swapped_literal old.bank (reading_at old.bank c.args.r) (Some c.args.x) in
    for_ok c.swap_but_ones.result (λ v. terms_at new.bank v.items ≡ map (swapped_literal mid.bank (reading_at mid.bank c.args.r) (Some c.args.x)) (terms_at mid.bank terms)) (λ v. terms_at new.bank v.items ≡ map X (terms_at old.bank terms))
    (λ v is. is ∙ literals_same h old mid c.cross.ensures.grows c.args.r c.requires.from c.requires.into c.args.x c.requires.whole (terms_at mid.bank terms) ∙ ap (map X) (terms_at-grown old.bank mid.bank terms c.cross.ensures.grows.bank (all_stand h old terms c.requires.terms))) c.swap_but_ones.ensures.terms

pub returns-clause-grows : goal.returns-clause-grows
returns-clause-grows c = WorkGrows-trans c.args.history.now c.args.work.now c.cross.new.work c.swap_but_ones.new.work c.cross.ensures.grows c.swap_but_ones.ensures.grows
