use Rattle.std.proofs.Common.{◌≡◌, ◌∙◌, List, get_or, sym, ap, subst}
use Rattle.std.specs.Prelude.{All}
use Rattle.std.proofs.lemmas.List.{take_all}
use Rattle.nq_logic.specs.Words.{not_term}
use Rattle.nq_bank.specs.declared.node.TermId.{TermId}
use Rattle.nq_bank.specs.Content.{term_at, terms_at}
use Rattle.nq_bank.proofs.Standing.{All-push}
use Rattle.nq_kernel.proofs.GrowingLemmas.{WorkGrows-refl, WorkGrows-trans}
use Rattle.nq_lines.specs.Lines.{IsTermIn}
use Rattle.nq_lines.specs.declared.facts.Fact.{Fact}
use Rattle.nq_lines.proofs.TermLemmas.{term_grown, same_term_grown}
use Rattle.nq_elim.specs.Reasons.{denied_at}
use Rattle.nq_elim.proofs.ListLemmas.{all_none}
use Rattle.nq_elim.proofs.GrownLemmas.{same_terms, terms_grown}
use Rattle.nq_elim.proofs.DenialLemmas.{denied_more}
use Rattle.nq_elim.proofs.denials.denied_facts.Goals as goal

pub loop-fact-init : goal.loop-fact-init
loop-fact-init c =
    let h = c.args.history.now in
    let w = c.args.work.now in
    record {
      grows = WorkGrows-refl h w c.requires.stands;
      over = subst (All (IsTermIn h w)) (sym c.new-denials.ensures.items) (all_none (IsTermIn h w));
      literals = ap (terms_at w.bank) c.new-denials.ensures.items;
    }

pub deny-requires-clause-term : goal.deny-requires-clause-term
deny-requires-clause-term c =
    let none : Fact = record { term = record { 0 = 0 }; line = 0 } in
    let i = c.loop-fact.fact-index in
    term_grown c.args.history.now c.args.work.now c.loop-fact.work (get_or c.args.facts.now i none).term c.requires.stands c.loop-fact.invariant.grows (c.requires.facts i none c.loop-fact-test.true)

pub returns-in_err-denied-clause-grows : goal.returns-in_err-denied-clause-grows
returns-in_err-denied-clause-grows c = WorkGrows-trans c.args.history.now c.args.work.now c.loop-fact.work c.deny.new.work c.loop-fact.invariant.grows c.deny.ensures.grows

pub returns-in_err-push_id-clause-grows : goal.returns-in_err-push_id-clause-grows
returns-in_err-push_id-clause-grows c = WorkGrows-trans c.args.history.now c.args.work.now c.loop-fact.work c.deny.new.work c.loop-fact.invariant.grows c.deny.ensures.grows

pub loop-fact-preserved : goal.loop-fact-preserved
loop-fact-preserved c =
    let none : Fact = record { term = record { 0 = 0 }; line = 0 } in
    let h = c.args.history.now in
    let old = c.args.work.now in
    let mid = c.loop-fact.work in
    let new = c.deny.new.work in
    let i = c.loop-fact.fact-index in
    let f : Fact = get_or c.args.facts.now i none in
    let before = c.loop-fact.invariant.grows in
    let after = c.deny.ensures.grows in
    let items : List TermId = c.loop-fact.denials.items in
    let is : term_at new.bank c.in_ok-denied.denied ≡ not_term (term_at old.bank f.term) =
    c.in_ok-denied.ensures.denied.denotes ∙ ap not_term (same_term_grown h old mid f.term before (c.requires.facts i none c.loop-fact-test.true)) in
    record {
      grows = WorkGrows-trans h old mid new before after;
      over =
          subst (All (IsTermIn h new)) (sym c.in_ok-push_id.ensures.ok)
          (All-push (IsTermIn h new) items c.in_ok-denied.denied (terms_grown h mid new before.stands after items c.loop-fact.invariant.over) c.in_ok-denied.ensures.over);
      literals =
          ap (terms_at new.bank) c.in_ok-push_id.ensures.ok ∙
          denied_more old.bank mid.bank new.bank items c.in_ok-denied.denied c.args.facts.now i none c.loop-fact-test.true (same_terms h mid new before.stands after items c.loop-fact.invariant.over) c.loop-fact.invariant.literals is;
    }

pub returns-clause-literals : goal.returns-clause-literals
returns-clause-literals c = c.loop-fact.invariant.literals ∙ ap (denied_at c.args.work.now.bank) (take_all c.loop-fact.fact-index c.args.facts.now c.loop-fact-test.false)
