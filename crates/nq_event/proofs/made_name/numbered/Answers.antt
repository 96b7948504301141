use Rattle.std.proofs.Common.{◌≡◌, ◌++◌, true, false, sym, ap, ◌∙◌, subst, arith}
use Rattle.std.specs.Prelude.{decimal, IfOk}
use Rattle.nq_logic.specs.Names.{is_in_use}
use Rattle.nq_bank.specs.Content.{NamesText, text_at}
use Rattle.nq_bank.proofs.Growth.{Grows-refl, Grows-trans}
use Rattle.nq_history.specs.Events.{events_at}
use Rattle.nq_history.proofs.HistoryLemmas.{events_at-grown, history_grown}
use Rattle.nq_event.proofs.NumberedLemmas.{numbered_used, numbered_free, numbered_last}
use Rattle.nq_event.proofs.made_name.numbered.Goals as goal

pub loop-more-init : goal.loop-more-init
loop-more-init c =
    let untried = c.in_ok-number.ensures in
    record { grows = Grows-refl c.args.bank.now; stands = c.requires.history; sum = omega (arith, c.requires.count, untried.most); is = untried.same }

pub in_use-requires-clause-history : goal.in_use-requires-clause-history
in_use-requires-clause-history c = history_grown c.loop-more.bank c.numbered_name.new.bank c.numbered_name.ensures.grows c.args.history.now c.loop-more.invariant.stands

pub loop-more-preserved : goal.loop-more-preserved
loop-more-preserved c =
    let start = c.args.bank.now in
    let new = c.numbered_name.new.bank in
    let h = events_at start c.args.history.now in
    let name = c.args.name.now in
    let grows = Grows-trans start c.loop-more.bank new c.loop-more.invariant.grows c.numbered_name.ensures.grows in
    let past = events_at-grown start new grows c.args.history.now c.requires.history.entries in
    let used : is_in_use (name ++ decimal c.loop-more.number) h ≡ true = ap (λ x. is_in_use x h) (sym c.in_ok-s.ensures.named.reads) ∙ ap (is_in_use (text_at new c.in_ok-s.s)) (sym past) ∙ sym c.in_use.ensures ∙ c.if-in_use.true in
    record {
      grows = grows;
      stands = history_grown c.loop-more.bank new c.numbered_name.ensures.grows c.args.history.now c.loop-more.invariant.stands;
      sum = omega (arith, c.loop-more.invariant.sum, c.loop-more-test.true);
      is = c.loop-more.invariant.is ∙ numbered_used h name c.loop-more.number c.loop-more.more c.loop-more-test.true used;
    }

pub returns-else-in_use-clause-named : goal.returns-else-in_use-clause-named
returns-else-in_use-clause-named c =
    let start = c.args.bank.now in
    let new = c.numbered_name.new.bank in
    let h = events_at start c.args.history.now in
    let name = c.args.name.now in
    let grows = Grows-trans start c.loop-more.bank new c.loop-more.invariant.grows c.numbered_name.ensures.grows in
    let past = events_at-grown start new grows c.args.history.now c.requires.history.entries in
    let free : is_in_use (name ++ decimal c.loop-more.number) h ≡ false = ap (λ x. is_in_use x h) (sym c.in_ok-s.ensures.named.reads) ∙ ap (is_in_use (text_at new c.in_ok-s.s)) (sym past) ∙ sym c.in_use.ensures ∙ c.if-in_use.false in
    record {
      named = c.in_ok-s.ensures.named.named;
      reads = c.in_ok-s.ensures.named.reads ∙ sym (c.loop-more.invariant.is ∙ numbered_free h name c.loop-more.number c.loop-more.more c.loop-more-test.true free);
    }

pub returns-clause-named : goal.returns-clause-named
returns-clause-named c =
    let h = events_at c.args.bank.now c.args.history.now in
    let none : c.loop-more.more ≡ 0 = omega (arith, c.loop-more-test.false) in
    subst (λ x. IfOk c.numbered_name-2.result (λ s. NamesText c.numbered_name-2.new.bank s x)) (sym (c.loop-more.invariant.is ∙ numbered_last h c.args.name.now c.loop-more.number c.loop-more.more none)) c.numbered_name-2.ensures.named
