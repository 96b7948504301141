use Rattle.std.proofs.Common.{◌≡◌, ◌∙◌, Some, sym, ap}
use Rattle.std.proofs.lemmas.List.Elements.{All-more}
use Rattle.nq_logic.specs.Terms.{call}
use Rattle.nq_logic.specs.Ground.{symbols_of}
use Rattle.nq_language.specs.Arities.{arity_in}
use Rattle.nq_bank.specs.declared.node.TermId.{TermId}
use Rattle.nq_bank.specs.Content.{text_at}
use Rattle.nq_history.specs.Events.{events_at}
use Rattle.nq_kernel.specs.Over.{TermIsIn}
use Rattle.nq_own.proofs.OwnLemmas.{call_in, numeral_in, left_true, right_true, whole_taken}
use Rattle.nq_own.proofs.own.+is_over.Goals as goal

pub loop-a-preserved : goal.loop-a-preserved
loop-a-preserved t c =
    let P : TermId → Type 0 = TermIsIn c.args.bank.now c.args.history.now in
    record {
      count = λ h. c.loop-a.invariant.count (left_true c.loop-a.all c.is_over-here.result (sym c.is_both-all.ensures ∙ h));
      over = λ h.
          All-more P c.args-a-items.result.now c.loop-a.a-index (record { 0 = 0 }) c.loop-a-test.true
          (c.loop-a.invariant.over (left_true c.loop-a.all c.is_over-here.result (sym c.is_both-all.ensures ∙ h)))
          (c.is_over-here.ensures (right_true c.loop-a.all c.is_over-here.result (sym c.is_both-all.ensures ∙ h)));
    }

pub returns-after-loop-a : goal.returns-after-loop-a
returns-after-loop-a t c = λ h.
    let bank = c.args.bank.now in
    let f = text_at bank c.in-App.f in
    let named = c.in-App.ensures.head.0 in
    let arity : arity_in (symbols_of (events_at bank c.args.history.now)) f ≡ Some c.in-Some.n = sym (c.arity.ensures.events bank c.is_sound.ensures c.requires.history named) ∙ c.in-Some.is in
    let P : TermId → Type 0 = TermIsIn bank c.args.history.now in
    call_in bank c.args.history.now c.args.t f c.in-Some.n c.args-a-items.result.now (c.in-App.ensures.head.1 ∙ ap (call f) (sym c.args-a-items.ensures.parts)) arity (c.loop-a.invariant.count h)
    (whole_taken P c.args-a-items.result.now c.loop-a.a-index c.loop-a-test.false (c.loop-a.invariant.over h))

pub returns-in-Num : goal.returns-in-Num
returns-in-Num t c = λ _. numeral_in c.args.bank.now c.args.history.now c.args.t _ c.in-Num.ensures.head.1
