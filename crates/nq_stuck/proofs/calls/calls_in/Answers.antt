use Rattle.nq_bank.specs.declared.node.TermId.{TermId}
use Rattle.nq_stuck.proofs.CallLemmas.{all_held_still, one_more_held}
use Rattle.nq_stuck.proofs.calls.calls_in.Goals as goal

pub loop-t-preserved : goal.loop-t-preserved
loop-t-preserved c =
    let first : TermId = record { 0 = 0 } in
    let bank = c.args.bank.now in
    let step = c.in_ok-add_calls.ensures in
    let new = c.add_calls.new.found.items in
    record {
      holds = one_more_held bank new c.args.terms.now c.loop-t.t-index first c.loop-t-test.true (all_held_still bank c.loop-t.found.items new _ step.more c.loop-t.invariant.holds) step.holds;
      known = step.known;
      stand = step.stand;
    }
