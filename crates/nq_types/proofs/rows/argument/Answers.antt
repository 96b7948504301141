use Rattle.nq_bank.specs.declared.node.TermId.{TermId}
use Rattle.nq_types.proofs.CallLemmas.{parts_in}
use Rattle.nq_types.proofs.rows.argument.Goals as goal

pub returns-then-place-arguments : goal.returns-then-place-arguments
returns-then-place-arguments c =
    let first : TermId = record { 0 = 0 } in
    parts_in c.args.history.now c.args.work.now c.args.t c.args-arguments.result.now c.requires.term c.args-arguments.ensures.parts c.args-arguments.ensures.earlier c.args.place first c.if-place-arguments.true
