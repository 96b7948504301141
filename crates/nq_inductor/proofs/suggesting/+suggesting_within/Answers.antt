use Rattle.std.proofs.Common.{◌≡◌, ◌++◌, List, ap, ◌∙◌, subst, refl}
use Rattle.std.specs.Prelude.{All}
use Rattle.std.proofs.lemmas.List.Elements.{All-nil, All-same}
use Rattle.nq_bank.specs.declared.node.TermId.{TermId}
use Rattle.nq_inductor.specs.Suggesting.{IsSuggestingPart}
use Rattle.nq_inductor.proofs.SuggestingLemmas.{inner_calls, own_too}
use Rattle.nq_inductor.proofs.suggesting.+suggesting_within.Goals as goal

pub loop-i-init : goal.loop-i-init
loop-i-init t c = All-same (IsSuggestingPart c.args.history.now c.args.work.now c.args.t) c.new-found.result.items _ c.new-found.ensures.items (All-nil (IsSuggestingPart c.args.history.now c.args.work.now c.args.t))

pub loop-i-preserved : goal.loop-i-preserved
loop-i-preserved t c =
    let none : TermId = record { 0 = 0 } in
    inner_calls c.args.history.now c.args.work.now c.args.t c.args-arguments.result.now c.loop-i.i none c.loop-i.found.items c.in_ok-inner.inner.items c.extend_from_slice.new.self.items c.loop-i-test.true c.args-arguments.ensures.parts
    (c.in_ok-extend_from_slice.ensures.items ∙ ap (λ (us : List TermId). c.loop-i.found.items ++ us) c.as_slice.ensures.value) c.loop-i.invariant c.in_ok-inner.ensures

pub returns : goal.returns
returns t c =
    own_too c.args.history.now c.args.work.now c.args.t c.loop-i.found.items c.add_if.new.found.items c.in_ok-here.here c.in_ok-add_if.ensures c.in_ok-here.ensures c.loop-i.invariant
