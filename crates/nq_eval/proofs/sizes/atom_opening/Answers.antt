use Rattle.std.proofs.Common.{List, refl}
use Rattle.nq_history.specs.declared.entry.Entry.{Entry}
use Rattle.nq_kernel.specs.declared.work.Work.{Work}
use Rattle.nq_kernel.specs.Growing.{WorkStands}
use Rattle.nq_eval.specs.Lines.{GrowsUncounted}
use Rattle.std.specs.Prelude.{codes}
use Rattle.nq_eval.proofs.SizeLemmas.{made_after, atom_opens}
use Rattle.nq_eval.proofs.sizes.atom_opening.Goals as goal

pub returns-clause-opening : goal.returns-clause-opening
returns-clause-opening c =
    let h : List Entry = c.args.history.now in
    let w0 : Work = c.args.work.now in
    let s0 : WorkStands h w0 = c.requires.stands in
    let w1 : Work = c.pair_for.new.work in
    let d1 : GrowsUncounted h w0 w1 = c.pair_for.ensures.grows in
    atom_opens w1.bank h c.args.u c.args.a (record { name = c.ground_name-name.result; row = 14; pairs = c.in_ok-pairs.pairs }) c.ground_name-name.ensures.stands refl c.in_ok-pairs.ensures.pairs (made_after h w0 w1 s0 d1 (codes "PACK") c.args.u c.args.a c.requires.call) c.ground_name-name.ensures.reads c.in_ok-pairs.ensures.reads

pub pair_for-requires-clause-part : goal.pair_for-requires-clause-part
pair_for-requires-clause-part c =
    c.requires.call.part.usable
