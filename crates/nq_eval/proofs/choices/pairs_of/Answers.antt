use Rattle.std.proofs.Common.{List}
use Rattle.nq_history.specs.declared.entry.Entry.{Entry}
use Rattle.nq_kernel.specs.declared.work.Work.{Work}
use Rattle.nq_kernel.specs.Growing.{WorkStands}
use Rattle.nq_eval.specs.Lines.{GrowsUncounted, IsUsable}
use Rattle.nq_eval.proofs.LineLemmas.{grown_trans}
use Rattle.std.specs.Prelude.{codes}
use Rattle.nq_bank.specs.declared.node.Sym.{Sym}
use Rattle.nq_bank.specs.Content.{NamesText}
use Rattle.nq_rule.specs.declared.branching.Branches.{Branches}
use Rattle.nq_eval.proofs.ClosingLemmas.{usable_after}
use Rattle.nq_eval.proofs.ChoiceLemmas.{name_after, pairs_read, pairs_in}
use Rattle.nq_eval.proofs.choices.pairs_of.Goals as goal

pub returns-clause-pairs : goal.returns-clause-pairs
returns-clause-pairs c =
    let h : List Entry = c.args.history.now in
    let w0 : Work = c.args.work.now in
    let s0 : WorkStands h w0 = c.requires.stands in
    let w1 : Work = c.symbol.new.work in
    let d1 : GrowsUncounted h w0 w1 = c.symbol.ensures.grows in
    let g1 : GrowsUncounted h w0 w1 = d1 in
    let w2 : Work = c.symbol-2.new.work in
    let d2 : GrowsUncounted h w1 w2 = c.symbol-2.ensures.grows in
    let g2 : GrowsUncounted h w0 w2 = grown_trans h w0 w1 w2 g1 d2 in
    let w3 : Work = c.symbol-3.new.work in
    let d3 : GrowsUncounted h w2 w3 = c.symbol-3.ensures.grows in
    let g3 : GrowsUncounted h w0 w3 = grown_trans h w0 w2 w3 g2 d3 in
    let x : Sym = c.in_ok-x.x in
    let y : Sym = c.in_ok-y.y in
    let z : Sym = c.in_ok-z.z in
    let parts : Branches = c.args.parts in
    let x2 : NamesText w2.bank x (codes "X") = name_after h w1 w2 x (codes "X") d2 c.in_ok-x.ensures.name in
    let x3 : NamesText w3.bank x (codes "X") = name_after h w2 w3 x (codes "X") d3 x2 in
    let y3 : NamesText w3.bank y (codes "Y") = name_after h w2 w3 y (codes "Y") d3 c.in_ok-y.ensures.name in
    let p3 : IsUsable w3.bank h parts.test = usable_after h w0 w3 s0 g3 parts.test c.requires.test in
    let q3 : IsUsable w3.bank h parts.first = usable_after h w0 w3 s0 g3 parts.first c.requires.first in
    let r3 : IsUsable w3.bank h parts.second = usable_after h w0 w3 s0 g3 parts.second c.requires.second in
    pairs_in w3.bank h x y z parts c.in_ok-pairs.pairs.items x3 y3 c.in_ok-z.ensures.name c.in_ok-pairs.ensures.items p3 q3 r3

pub returns-clause-reads : goal.returns-clause-reads
returns-clause-reads c =
    let h : List Entry = c.args.history.now in
    let w1 : Work = c.symbol.new.work in
    let w2 : Work = c.symbol-2.new.work in
    let d2 : GrowsUncounted h w1 w2 = c.symbol-2.ensures.grows in
    let w3 : Work = c.symbol-3.new.work in
    let d3 : GrowsUncounted h w2 w3 = c.symbol-3.ensures.grows in
    let x : Sym = c.in_ok-x.x in
    let y : Sym = c.in_ok-y.y in
    let z : Sym = c.in_ok-z.z in
    let parts : Branches = c.args.parts in
    let x2 : NamesText w2.bank x (codes "X") = name_after h w1 w2 x (codes "X") d2 c.in_ok-x.ensures.name in
    let x3 : NamesText w3.bank x (codes "X") = name_after h w2 w3 x (codes "X") d3 x2 in
    let y3 : NamesText w3.bank y (codes "Y") = name_after h w2 w3 y (codes "Y") d3 c.in_ok-y.ensures.name in
    pairs_read w3.bank h x y z parts c.in_ok-pairs.pairs.items x3 y3 c.in_ok-z.ensures.name c.in_ok-pairs.ensures.items

pub returns-in_err-y-clause-grows : goal.returns-in_err-y-clause-grows
returns-in_err-y-clause-grows c =
    let h : List Entry = c.args.history.now in
    let w0 : Work = c.args.work.now in
    let w1 : Work = c.symbol.new.work in
    let d1 : GrowsUncounted h w0 w1 = c.symbol.ensures.grows in
    let g1 : GrowsUncounted h w0 w1 = d1 in
    let w2 : Work = c.symbol-2.new.work in
    let d2 : GrowsUncounted h w1 w2 = c.symbol-2.ensures.grows in
    let g2 : GrowsUncounted h w0 w2 = grown_trans h w0 w1 w2 g1 d2 in
    g2

pub returns-in_err-z-clause-grows : goal.returns-in_err-z-clause-grows
returns-in_err-z-clause-grows c =
    let h : List Entry = c.args.history.now in
    let w0 : Work = c.args.work.now in
    let w1 : Work = c.symbol.new.work in
    let d1 : GrowsUncounted h w0 w1 = c.symbol.ensures.grows in
    let g1 : GrowsUncounted h w0 w1 = d1 in
    let w2 : Work = c.symbol-2.new.work in
    let d2 : GrowsUncounted h w1 w2 = c.symbol-2.ensures.grows in
    let g2 : GrowsUncounted h w0 w2 = grown_trans h w0 w1 w2 g1 d2 in
    let w3 : Work = c.symbol-3.new.work in
    let d3 : GrowsUncounted h w2 w3 = c.symbol-3.ensures.grows in
    let g3 : GrowsUncounted h w0 w3 = grown_trans h w0 w2 w3 g2 d3 in
    g3

pub returns-clause-grows : goal.returns-clause-grows
returns-clause-grows c =
    let h : List Entry = c.args.history.now in
    let w0 : Work = c.args.work.now in
    let w1 : Work = c.symbol.new.work in
    let d1 : GrowsUncounted h w0 w1 = c.symbol.ensures.grows in
    let g1 : GrowsUncounted h w0 w1 = d1 in
    let w2 : Work = c.symbol-2.new.work in
    let d2 : GrowsUncounted h w1 w2 = c.symbol-2.ensures.grows in
    let g2 : GrowsUncounted h w0 w2 = grown_trans h w0 w1 w2 g1 d2 in
    let w3 : Work = c.symbol-3.new.work in
    let d3 : GrowsUncounted h w2 w3 = c.symbol-3.ensures.grows in
    let g3 : GrowsUncounted h w0 w3 = grown_trans h w0 w2 w3 g2 d3 in
    g3

pub returns-in_err-pairs-clause-grows : goal.returns-in_err-pairs-clause-grows
returns-in_err-pairs-clause-grows c =
    let h : List Entry = c.args.history.now in
    let w0 : Work = c.args.work.now in
    let w1 : Work = c.symbol.new.work in
    let d1 : GrowsUncounted h w0 w1 = c.symbol.ensures.grows in
    let g1 : GrowsUncounted h w0 w1 = d1 in
    let w2 : Work = c.symbol-2.new.work in
    let d2 : GrowsUncounted h w1 w2 = c.symbol-2.ensures.grows in
    let g2 : GrowsUncounted h w0 w2 = grown_trans h w0 w1 w2 g1 d2 in
    let w3 : Work = c.symbol-3.new.work in
    let d3 : GrowsUncounted h w2 w3 = c.symbol-3.ensures.grows in
    let g3 : GrowsUncounted h w0 w3 = grown_trans h w0 w2 w3 g2 d3 in
    g3
