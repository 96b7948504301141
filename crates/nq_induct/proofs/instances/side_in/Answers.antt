use Rattle.nq_bank.specs.declared.node.TermId.{TermId}
use Rattle.nq_induct.proofs.InstanceLemmas.{told_ids, one_id, has_side}
use Rattle.nq_induct.proofs.instances.side_in.Goals as goal

pub argument_at-requires-clause-place : goal.argument_at-requires-clause-place
argument_at-requires-clause-place c =
    let d : TermId = record { 0 = 0 } in
    has_side _ c.requires.line.side (one_id c.args.work.now.bank c.clause_over-literals.result.now _ d (told_ids c.args.work.now c.args.line _ c.clause_over-literals.result.now c.requires.line.holds c.clause_over-literals.ensures.clause)).1
