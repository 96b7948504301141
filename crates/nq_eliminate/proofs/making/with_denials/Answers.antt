use Rattle.std.proofs.Common.{◌≡◌, ◌∙◌, ◌++◌, List, map, get_or, sym, ap, subst}
use Rattle.std.specs.Prelude.{All}
use Rattle.std.proofs.lemmas.List.{append-nil, take_all}
use Rattle.nq_logic.specs.Words.{not_term}
use Rattle.nq_bank.specs.declared.node.TermId.{TermId}
use Rattle.nq_bank.specs.Content.{term_at, terms_at}
use Rattle.nq_bank.proofs.Standing.{All-push}
use Rattle.nq_kernel.proofs.GrowingLemmas.{WorkGrows-refl, WorkGrows-trans}
use Rattle.nq_lines.specs.Lines.{IsTermIn}
use Rattle.nq_lines.proofs.TermLemmas.{same_term_grown, term_grown}
use Rattle.nq_moves.proofs.SwappedLemmas.{goal_in_grown, goal_same}
use Rattle.nq_eliminate.proofs.MakingLemmas.{denied_more}
use Rattle.nq_eliminate.proofs.making.with_denials.Goals as goal

pub returns-in_err-ids-clause-grows : goal.returns-in_err-ids-clause-grows
returns-in_err-ids-clause-grows c = WorkGrows-refl c.args.history.now c.args.work.now c.requires.stands

pub loop-t-init : goal.loop-t-init
loop-t-init c =
    let h = c.args.history.now in
    let w = c.args.work.now in
    record {
      grows = WorkGrows-refl h w c.requires.stands;
      over = subst (All (IsTermIn h w)) (sym c.in_ok-ids.ensures.ok) c.requires.first;
      literals = ap (terms_at w.bank) c.in_ok-ids.ensures.ok ∙ sym (append-nil (terms_at w.bank c.args.first.now));
    }

pub deny-requires-clause-term : goal.deny-requires-clause-term
deny-requires-clause-term c =
    let none : TermId = record { 0 = 0 } in
    let i = c.loop-t.t-index in
    term_grown c.args.history.now c.args.work.now c.loop-t.work (get_or c.args.terms.now i none) c.requires.stands c.loop-t.invariant.grows (c.requires.terms i none c.loop-t-test.true)

pub returns-in_err-denied-clause-grows : goal.returns-in_err-denied-clause-grows
returns-in_err-denied-clause-grows c = WorkGrows-trans c.args.history.now c.args.work.now c.loop-t.work c.deny.new.work c.loop-t.invariant.grows c.deny.ensures.grows

pub returns-in_err-push_id-clause-grows : goal.returns-in_err-push_id-clause-grows
returns-in_err-push_id-clause-grows c = WorkGrows-trans c.args.history.now c.args.work.now c.loop-t.work c.deny.new.work c.loop-t.invariant.grows c.deny.ensures.grows

pub loop-t-preserved : goal.loop-t-preserved
loop-t-preserved c =
    let none : TermId = record { 0 = 0 } in
    let h = c.args.history.now in
    let old = c.args.work.now in
    let mid = c.loop-t.work in
    let new = c.deny.new.work in
    let i = c.loop-t.t-index in
    let t : TermId = get_or c.args.terms.now i none in
    let before = c.loop-t.invariant.grows in
    let after = c.deny.ensures.grows in
    let items : List TermId = c.loop-t.ids.items in
    let is : term_at new.bank c.in_ok-denied.denied ≡ not_term (term_at old.bank t) =
    c.in_ok-denied.ensures.denied.denotes ∙ ap not_term (same_term_grown h old mid t before (c.requires.terms i none c.loop-t-test.true)) in
    record {
      grows = WorkGrows-trans h old mid new before after;
      over =
          subst (All (IsTermIn h new)) (sym c.in_ok-push_id.ensures.ok)
          (All-push (IsTermIn h new) items c.in_ok-denied.denied (goal_in_grown h mid new before.stands after items c.loop-t.invariant.over) c.in_ok-denied.ensures.over);
      literals =
          ap (terms_at new.bank) c.in_ok-push_id.ensures.ok ∙
          denied_more old.bank mid.bank new.bank (terms_at old.bank c.args.first.now) items c.in_ok-denied.denied c.args.terms.now i none c.loop-t-test.true (goal_same h mid new before.stands after items c.loop-t.invariant.over) c.loop-t.invariant.literals is;
    }

pub returns-clause-literals : goal.returns-clause-literals
returns-clause-literals c =
    let bank = c.args.work.now.bank in
    c.loop-t.invariant.literals ∙ ap (λ ids. terms_at bank c.args.first.now ++ map not_term (terms_at bank ids)) (take_all c.loop-t.t-index c.args.terms.now c.loop-t-test.false)
