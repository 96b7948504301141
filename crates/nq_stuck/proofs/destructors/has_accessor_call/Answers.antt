use Rattle.nq_bank.specs.declared.node.TermId.{TermId}
use Rattle.nq_bank.specs.Content.{term_at}
use Rattle.nq_bank.specs.Shells.{shells_at}
use Rattle.nq_stuck.specs.Destructors.{is_accessor_call}
use Rattle.nq_stuck.proofs.DestructorLemmas.{any_mapped}
use Rattle.nq_stuck.proofs.destructors.has_accessor_call.Goals as goal

pub loop-t-preserved : goal.loop-t-preserved
loop-t-preserved c =
    let first : TermId = record { 0 = 0 } in
    let bank = c.args.bank.now in
    any_mapped (is_accessor_call (shells_at bank c.args.shells.now)) (term_at bank) c.args.calls.now c.loop-t.t-index first c.loop-t.found c.is_accessor_call-here.result c.is_either-found.result c.loop-t-test.true c.loop-t.invariant
    c.is_accessor_call-here.ensures c.is_either-found.ensures
