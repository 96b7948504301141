use Rattle.nq_bank.specs.declared.node.TermId.{TermId}
use Rattle.nq_bank.specs.Content.{text_at, term_at}
use Rattle.nq_stuck.proofs.CallLemmas.{numeral_held, more_then, pushed_more, all_held_still, known_still, one_more_held, call_held, known_kept}
use Rattle.nq_stuck.proofs.calls.+add_calls.Goals as goal

pub loop-a-preserved : goal.loop-a-preserved
loop-a-preserved t c =
    let first : TermId = record { 0 = 0 } in
    let bank = c.args.bank.now in
    let step = c.in_ok-add_calls-in-None.ensures in
    let old = c.loop-a.found.items in
    let new = c.add_calls.new.found.items in
    record {
      holds = one_more_held bank new c.args-a-items.result.now c.loop-a.a-index first c.loop-a-test.true (all_held_still bank old new _ step.more c.loop-a.invariant.holds) step.holds;
      known = step.known;
      more = more_then bank c.args.found.now.items old new c.loop-a.invariant.more step.more;
      stand = step.stand;
    }

pub returns-in-Num-clause-holds : goal.returns-in-Num-clause-holds
returns-in-Num-clause-holds t c = numeral_held c.args.bank.now c.args.found.now.items (term_at c.args.bank.now c.args.t) c.in-Num.field-0 c.in-Num.ensures.head.0 c.in-Num.ensures.head.1

pub returns-in_ok-keep_known-in-None-clause-holds : goal.returns-in_ok-keep_known-in-None-clause-holds
returns-in_ok-keep_known-in-None-clause-holds t c =
    let bank = c.args.bank.now in
    call_held bank c.loop-a.found.items c.keep.new.found.items c.args.t (text_at bank c.in-App.field-0) c.args-a-items.result.now c.loop-a.a-index c.in-App.ensures.head.1 c.args-a-items.ensures.parts
    c.loop-a-test.false c.loop-a.invariant.holds c.in_ok-keep-in-None.ensures

pub returns-in_ok-keep_known-in-None-clause-known : goal.returns-in_ok-keep_known-in-None-clause-known
returns-in_ok-keep_known-in-None-clause-known t c =
    let bank = c.args.bank.now in
    let more = pushed_more bank c.loop-a.found.items c.keep.new.found.items c.args.t c.in_ok-keep-in-None.ensures in
    known_kept bank c.loop-a.known c.keep_known.new.known c.keep.new.found.items c.args.t (known_still bank c.loop-a.known c.loop-a.found.items c.keep.new.found.items more c.loop-a.invariant.known)
    c.in_ok-keep_known-in-None.ensures
    (call_held bank c.loop-a.found.items c.keep.new.found.items c.args.t (text_at bank c.in-App.field-0) c.args-a-items.result.now c.loop-a.a-index c.in-App.ensures.head.1 c.args-a-items.ensures.parts
    c.loop-a-test.false c.loop-a.invariant.holds c.in_ok-keep-in-None.ensures)

pub returns-in_ok-keep_known-in-None-clause-more : goal.returns-in_ok-keep_known-in-None-clause-more
returns-in_ok-keep_known-in-None-clause-more t c =
    let bank = c.args.bank.now in
    more_then bank c.args.found.now.items c.loop-a.found.items c.keep.new.found.items c.loop-a.invariant.more (pushed_more bank c.loop-a.found.items c.keep.new.found.items c.args.t c.in_ok-keep-in-None.ensures)
