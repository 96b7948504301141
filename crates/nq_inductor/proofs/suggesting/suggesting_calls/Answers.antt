use Rattle.std.proofs.Common.{◌++◌, List, ap, ◌∙◌}
use Rattle.nq_bank.specs.declared.node.TermId.{TermId}
use Rattle.std.proofs.lemmas.List.Elements.{All-nil, All-same}
use Rattle.nq_inductor.specs.Suggesting.{IsSuggestingCall}
use Rattle.nq_inductor.proofs.SuggestingLemmas.{literal_calls}
use Rattle.nq_inductor.proofs.suggesting.suggesting_calls.Goals as goal

pub loop-i-init : goal.loop-i-init
loop-i-init c = All-same (IsSuggestingCall c.args.history.now c.args.work.now c.args.goal.now) c.new-found.result.items _ c.new-found.ensures.items (All-nil (IsSuggestingCall c.args.history.now c.args.work.now c.args.goal.now))

pub loop-i-preserved : goal.loop-i-preserved
loop-i-preserved c =
    let none : TermId = record { 0 = 0 } in
    literal_calls c.args.history.now c.args.work.now c.args.goal.now c.loop-i.i none c.loop-i.found.items c.in_ok-inner.inner.items c.extend_from_slice.new.self.items c.loop-i-test.true
    (c.in_ok-extend_from_slice.ensures.items ∙ ap (λ (us : List TermId). c.loop-i.found.items ++ us) c.as_slice.ensures.value) c.loop-i.invariant c.in_ok-inner.ensures
