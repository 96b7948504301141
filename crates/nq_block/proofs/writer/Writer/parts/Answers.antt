use Rattle.std.proofs.Common.{subst, sym, take, append-nil}
use Rattle.std.specs.Prelude.{List}
use Rattle.nq_logic.specs.Histories.{Part as TreePart}
use Rattle.nq_bank.specs.declared.shell.Part.{Part}
use Rattle.nq_bank.specs.Shells.{part_at, parts_at}
use Rattle.nq_block.specs.Closings.{IsPartSpelled}
use Rattle.nq_block.specs.Writing.{IsWriting, with_parts}
use Rattle.nq_block.proofs.Keeping.{each_made}
use Rattle.nq_block.proofs.ShellLemmas.{parts_next}
use Rattle.nq_block.proofs.writer.Writer.parts.Goals as goal

pub loop-part-init : goal.loop-part-init
loop-part-init c =
    record {
      counted = c.requires.counted;
      writing = λ frame v spelled. subst (λ (ps : List TreePart). IsWriting c.args.bank.now (record frame { parts = ps }) c.args.self.now) (sym (append-nil frame.parts)) v;
    }

pub loop-part-preserved : goal.loop-part-preserved
loop-part-preserved c =
    let bank = c.args.bank.now in
    let i = c.loop-part.part-index in
    let part : Part = c.part-item.result in
    let below = c.loop-part-test.true in
    record {
      counted = c.in_ok-part.ensures.counted;
      writing = λ frame v spelled.
          let at = each_made IsPartSpelled (part_at bank) c.args.parts.now i part below spelled in
          let here : IsPartSpelled (part_at bank part) = subst (λ p. IsPartSpelled (part_at bank p)) (sym c.part-item.is) at in
          let one_more = c.in_ok-part.ensures.writing (with_parts frame (parts_at bank (take i c.args.parts.now))) (c.loop-part.invariant.writing frame v spelled) here in
          subst (λ (ps : List TreePart). IsWriting bank (record frame { parts = ps }) c.part.new.self) (parts_next bank frame.parts c.args.parts.now i part below c.part-item.is) one_more;
    }
