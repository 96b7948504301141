use Rattle.nq_history.specs.Events.{events_at}
use Rattle.nq_block.specs.Closings.{claim_at}
use Rattle.nq_run.proofs.SessionLemmas.{block_added, never}
use Rattle.nq_run.proofs.proving.block_of.Goals as goal
use Rattle.nq_run.proofs.proving.block_of.Goals.{then-logging+in_ok-write_block, else-logging}

pub returns : goal.returns
returns c =
    λ on.
    let bank = c.args.bank.now in
    elim c.if-logging.branch [
      | then-logging+in_ok-write_block w ↦
          block_added (events_at bank c.args.history.now) (claim_at bank c.args.closing.now) c.new-text.result w.write_block.new.out c.if-logging.text
          c.new-text.ensures w.text-is w.in_ok-write_block.ensures.ok
      | else-logging w ↦ never c.args.logging on w.if-logging.false
    ]
