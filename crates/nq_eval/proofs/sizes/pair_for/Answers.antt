use Rattle.std.proofs.Common.{List}
use Rattle.nq_history.specs.declared.entry.Entry.{Entry}
use Rattle.nq_kernel.specs.declared.work.Work.{Work}
use Rattle.nq_kernel.specs.Growing.{WorkStands}
use Rattle.nq_eval.specs.Lines.{GrowsUncounted}
use Rattle.nq_eval.proofs.ClosingLemmas.{usable_after}
use Rattle.nq_eval.proofs.SizeLemmas.{part_read, part_in}
use Rattle.nq_eval.proofs.sizes.pair_for.Goals as goal

pub returns-clause-pairs : goal.returns-clause-pairs
returns-clause-pairs c =
    let h : List Entry = c.args.history.now in
    let w0 : Work = c.args.work.now in
    let s0 : WorkStands h w0 = c.requires.stands in
    let w1 : Work = c.symbol.new.work in
    let d1 : GrowsUncounted h w0 w1 = c.symbol.ensures.grows in
    part_in w1.bank h c.in_ok-x.x c.args.a c.in_ok-pairs.pairs.items c.in_ok-x.ensures.name c.in_ok-pairs.ensures.items (usable_after h w0 w1 s0 d1 c.args.a c.requires.part)

pub returns-clause-reads : goal.returns-clause-reads
returns-clause-reads c =
    let h : List Entry = c.args.history.now in
    let w1 : Work = c.symbol.new.work in
    part_read w1.bank h c.in_ok-x.x c.args.a c.in_ok-pairs.pairs.items c.in_ok-x.ensures.name c.in_ok-pairs.ensures.items
