use Rattle.std.proofs.Common.{refl, length}
use Rattle.nq_history.specs.Events.{events_at}
use Rattle.nq_block.specs.Closings.{claim_at, introduced_by}
use Rattle.nq_block.specs.Writing.{IsFresh, frame_after}
use Rattle.nq_block.proofs.BlockLemmas.{introduces_new, closes_block}
use Rattle.nq_block.proofs.DroppedBlocks.{on_both, block_dropped}
use Rattle.nq_block.proofs.block.write_block.Goals as goal

pub returns-clause-ok : goal.returns-clause-ok
returns-clause-ok c =
    let bank = c.args.bank.now in
    let history = c.args.history.now in
    let log = c.args.log.now in
    let closing = c.args.closing.now in
    let fresh : IsFresh c.new-writer.result = record { terms = c.new-writer.ensures.terms; variables = c.new-writer.ensures.variables; count = c.new-writer.ensures.count; text = c.new-writer.ensures.text } in
    let begun = c.in_ok-begin.ensures.writing (events_at bank history) c.is_sound.ensures c.requires.names fresh (introduces_new bank history log closing c.requires.closing) in
    let written = c.in_ok-rules.ensures.writing (introduced_by bank closing) begun in
    let block = c.in_ok-close.ensures (frame_after bank history (introduced_by bank closing) log (length log)) written refl refl refl (closes_block bank history log closing c.requires.closing) in
    on_both c.write_dropped.result
    (block_dropped (events_at bank history) (claim_at bank closing) c.args.out.now c.write_dropped.new.out c.close.new.self.text c.as_slice.result.now block c.as_slice.ensures)
    c.write_dropped.ensures.ok c.write_dropped.ensures.spelled
