use Rattle.std.proofs.Common.{◌≡◌, Some, [], ◌∷◌, ◌++◌, get_or, ◌∙◌, sym, ap, subst, arith}
use Rattle.std.specs.Prelude.{All}
use Rattle.nq_logic.specs.Values.{is_value}
use Rattle.nq_bank.specs.declared.node.TermId.{TermId}
use Rattle.nq_bank.specs.Content.{term_at, terms_at, IsIdOf}
use Rattle.nq_bank.proofs.Standing.{All-push}
use Rattle.nq_kernel.proofs.GrowingLemmas.{WorkGrows-refl, WorkGrows-trans}
use Rattle.nq_lines.specs.Lines.{IsTermIn}
use Rattle.nq_lines.proofs.TermLemmas.{term_grown, same_term_grown}
use Rattle.nq_moves.specs.Swapped.{reading_at, swapped_literal}
use Rattle.nq_moves.proofs.ClosingLemmas.{all_stand}
use Rattle.nq_moves.proofs.ImageLemmas.{image_step}
use Rattle.nq_moves.proofs.SwappedLemmas.{all_in_grown, crossed_same, literal_same}
use Rattle.nq_moves.proofs.swapping.swap_but_ones.Goals as goal

pub loop-t-init : goal.loop-t-init
loop-t-init c =
    record {
      grows = WorkGrows-refl c.args.history.now c.args.work.now c.requires.stands;
      over = subst (All (IsTermIn c.args.history.now c.args.work.now)) (sym c.new-made.ensures.items) (λ k d below. absurd (omega (arith, below)));
      done = ap (terms_at c.args.work.now.bank) c.new-made.ensures.items;
    }

pub swap_but_one-requires-clause-term : goal.swap_but_one-requires-clause-term
swap_but_one-requires-clause-term c =
    let first : TermId = record { 0 = 0 } in
    term_grown c.args.history.now c.args.work.now c.loop-t.work (get_or c.args.terms.now c.loop-t.t-index first) c.requires.stands c.loop-t.invariant.grows (c.requires.terms c.loop-t.t-index first c.loop-t-test.true)

pub swap_but_one-requires-clause-from : goal.swap_but_one-requires-clause-from
swap_but_one-requires-clause-from c = term_grown c.args.history.now c.args.work.now c.loop-t.work c.args.r.from c.requires.stands c.loop-t.invariant.grows c.requires.from

pub swap_but_one-requires-clause-into : goal.swap_but_one-requires-clause-into
swap_but_one-requires-clause-into c = term_grown c.args.history.now c.args.work.now c.loop-t.work c.args.r.into c.requires.stands c.loop-t.invariant.grows c.requires.into

pub swap_but_one-requires-clause-no_value : goal.swap_but_one-requires-clause-no_value
swap_but_one-requires-clause-no_value c = ap is_value (same_term_grown c.args.history.now c.args.work.now c.loop-t.work c.args.r.from c.loop-t.invariant.grows c.requires.from) ∙ c.requires.no_value

pub swap_but_one-requires-clause-whole : goal.swap_but_one-requires-clause-whole
swap_but_one-requires-clause-whole c = (term_grown c.args.history.now c.args.work.now c.loop-t.work c.args.x.whole c.requires.stands c.loop-t.invariant.grows c.requires.whole).stands

pub swap_but_one-requires-clause-one : goal.swap_but_one-requires-clause-one
swap_but_one-requires-clause-one c = term_grown c.args.history.now c.args.work.now c.loop-t.work c.args.one c.requires.stands c.loop-t.invariant.grows c.requires.one

pub swap_but_one-requires-clause-crossed : goal.swap_but_one-requires-clause-crossed
swap_but_one-requires-clause-crossed c =
    same_term_grown c.args.history.now c.args.work.now c.loop-t.work c.args.one c.loop-t.invariant.grows c.requires.one ∙ c.requires.crossed ∙
    sym (crossed_same c.args.history.now c.args.work.now c.loop-t.work c.loop-t.invariant.grows c.args.r c.requires.from c.requires.into c.args.x c.requires.whole)

pub returns-in_err-u-clause-grows : goal.returns-in_err-u-clause-grows
returns-in_err-u-clause-grows c = WorkGrows-trans c.args.history.now c.args.work.now c.loop-t.work c.swap_but_one.new.work c.loop-t.invariant.grows c.swap_but_one.ensures.grows

pub returns-in_err-push_id-clause-grows : goal.returns-in_err-push_id-clause-grows
returns-in_err-push_id-clause-grows c = WorkGrows-trans c.args.history.now c.args.work.now c.loop-t.work c.swap_but_one.new.work c.loop-t.invariant.grows c.swap_but_one.ensures.grows

pub loop-t-preserved : goal.loop-t-preserved
loop-t-preserved c =
    let first : TermId = record { 0 = 0 } in
    let h = c.args.history.now in
    let old = c.args.work.now in
    let mid = c.loop-t.work in
    let new = c.swap_but_one.new.work in
    let u : TermId = c.in_ok-u.u in
    let made = c.loop-t.made.items in
    let before = c.loop-t.invariant.grows in
    let after = c.swap_but_one.ensures.grows in
    let t = term_at mid.bank (get_or c.args.terms.now c.loop-t.t-index first) in
    let more : c.push_id.new.ids.items ≡ made ++ u ∷ [] = c.in_ok-push_id.ensures.ok in
    let id : IsIdOf new.bank u (swapped_literal old.bank (reading_at old.bank c.args.r) (Some c.args.x) t) =
    subst (IsIdOf new.bank u) (literal_same h old mid before c.args.r c.requires.from c.requires.into c.args.x c.requires.whole t) c.in_ok-u.ensures.term in
    record {
      grows = WorkGrows-trans h old mid new before after;
      over = subst (All (IsTermIn h new)) (sym more) (All-push (IsTermIn h new) made u (all_in_grown h mid new before.stands after made c.loop-t.invariant.over) c.in_ok-u.ensures.over);
      done = ap (terms_at new.bank) more ∙ image_step old.bank mid.bank new.bank (swapped_literal old.bank (reading_at old.bank c.args.r) (Some c.args.x)) c.args.terms.now made c.loop-t.t-index first u before.bank after.bank (all_stand h mid made c.loop-t.invariant.over) (all_stand h old c.args.terms.now c.requires.terms) c.loop-t-test.true c.loop-t.invariant.done id;
    }
