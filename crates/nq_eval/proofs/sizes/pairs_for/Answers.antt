use Rattle.std.proofs.Common.{List}
use Rattle.nq_history.specs.declared.entry.Entry.{Entry}
use Rattle.nq_kernel.specs.declared.work.Work.{Work}
use Rattle.nq_kernel.specs.Growing.{WorkStands}
use Rattle.nq_eval.specs.Lines.{GrowsUncounted}
use Rattle.nq_eval.proofs.LineLemmas.{grown_trans}
use Rattle.std.specs.Prelude.{codes}
use Rattle.nq_bank.specs.Content.{NamesText}
use Rattle.nq_eval.proofs.ClosingLemmas.{usable_after}
use Rattle.nq_eval.proofs.ChoiceLemmas.{name_after}
use Rattle.nq_eval.proofs.SizeLemmas.{parts_read, parts_in}
use Rattle.nq_eval.proofs.sizes.pairs_for.Goals as goal

pub returns-clause-pairs : goal.returns-clause-pairs
returns-clause-pairs c =
    let h : List Entry = c.args.history.now in
    let w0 : Work = c.args.work.now in
    let s0 : WorkStands h w0 = c.requires.stands in
    let w1 : Work = c.symbol.new.work in
    let d1 : GrowsUncounted h w0 w1 = c.symbol.ensures.grows in
    let g1 : GrowsUncounted h w0 w1 = d1 in
    let w2 : Work = c.symbol-2.new.work in
    let d2 : GrowsUncounted h w1 w2 = c.symbol-2.ensures.grows in
    let g2 : GrowsUncounted h w0 w2 = grown_trans h w0 w1 w2 g1 d2 in
    let x2 : NamesText w2.bank c.in_ok-x.x (codes "X1") = name_after h w1 w2 c.in_ok-x.x (codes "X1") d2 c.in_ok-x.ensures.name in
    parts_in w2.bank h c.in_ok-x.x c.in_ok-y.y c.args.a c.args.b c.in_ok-pairs.pairs.items x2 c.in_ok-y.ensures.name c.in_ok-pairs.ensures.items (usable_after h w0 w2 s0 g2 c.args.a c.requires.first) (usable_after h w0 w2 s0 g2 c.args.b c.requires.second)

pub returns-clause-reads : goal.returns-clause-reads
returns-clause-reads c =
    let h : List Entry = c.args.history.now in
    let w1 : Work = c.symbol.new.work in
    let w2 : Work = c.symbol-2.new.work in
    let d2 : GrowsUncounted h w1 w2 = c.symbol-2.ensures.grows in
    let x2 : NamesText w2.bank c.in_ok-x.x (codes "X1") = name_after h w1 w2 c.in_ok-x.x (codes "X1") d2 c.in_ok-x.ensures.name in
    parts_read w2.bank h c.in_ok-x.x c.in_ok-y.y c.args.a c.args.b c.in_ok-pairs.pairs.items x2 c.in_ok-y.ensures.name c.in_ok-pairs.ensures.items

pub returns-in_err-y-clause-grows : goal.returns-in_err-y-clause-grows
returns-in_err-y-clause-grows c =
    let h : List Entry = c.args.history.now in
    let w0 : Work = c.args.work.now in
    let w1 : Work = c.symbol.new.work in
    let d1 : GrowsUncounted h w0 w1 = c.symbol.ensures.grows in
    let g1 : GrowsUncounted h w0 w1 = d1 in
    let w2 : Work = c.symbol-2.new.work in
    let d2 : GrowsUncounted h w1 w2 = c.symbol-2.ensures.grows in
    let g2 : GrowsUncounted h w0 w2 = grown_trans h w0 w1 w2 g1 d2 in
    g2

pub returns-clause-grows : goal.returns-clause-grows
returns-clause-grows c =
    let h : List Entry = c.args.history.now in
    let w0 : Work = c.args.work.now in
    let w1 : Work = c.symbol.new.work in
    let d1 : GrowsUncounted h w0 w1 = c.symbol.ensures.grows in
    let g1 : GrowsUncounted h w0 w1 = d1 in
    let w2 : Work = c.symbol-2.new.work in
    let d2 : GrowsUncounted h w1 w2 = c.symbol-2.ensures.grows in
    let g2 : GrowsUncounted h w0 w2 = grown_trans h w0 w1 w2 g1 d2 in
    g2

pub returns-in_err-pairs-clause-grows : goal.returns-in_err-pairs-clause-grows
returns-in_err-pairs-clause-grows c =
    let h : List Entry = c.args.history.now in
    let w0 : Work = c.args.work.now in
    let w1 : Work = c.symbol.new.work in
    let d1 : GrowsUncounted h w0 w1 = c.symbol.ensures.grows in
    let g1 : GrowsUncounted h w0 w1 = d1 in
    let w2 : Work = c.symbol-2.new.work in
    let d2 : GrowsUncounted h w1 w2 = c.symbol-2.ensures.grows in
    let g2 : GrowsUncounted h w0 w2 = grown_trans h w0 w1 w2 g1 d2 in
    g2
