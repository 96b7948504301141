use Rattle.std.proofs.Common.{List, refl}
use Rattle.nq_history.specs.declared.entry.Entry.{Entry}
use Rattle.nq_kernel.specs.declared.work.Work.{Work}
use Rattle.nq_kernel.specs.Growing.{WorkStands}
use Rattle.nq_eval.specs.Lines.{GrowsUncounted}
use Rattle.nq_eval.proofs.SizeLemmas.{made_two_after, pair_opens}
use Rattle.nq_eval.proofs.sizes.pair_opening.Goals as goal

pub returns-clause-opening : goal.returns-clause-opening
returns-clause-opening c =
    let h : List Entry = c.args.history.now in
    let w0 : Work = c.args.work.now in
    let s0 : WorkStands h w0 = c.requires.stands in
    let w1 : Work = c.pairs_for.new.work in
    let d1 : GrowsUncounted h w0 w1 = c.pairs_for.ensures.grows in
    pair_opens w1.bank h c.args.u c.args.a (record { name = c.ground_name-name.result; row = 14; pairs = c.in_ok-pairs.pairs }) c.ground_name-name.ensures.stands refl c.in_ok-pairs.ensures.pairs c.args.b (made_two_after h w0 w1 s0 d1 c.args.u c.args.a c.args.b c.requires.call) c.ground_name-name.ensures.reads c.in_ok-pairs.ensures.reads

pub pairs_for-requires-clause-first : goal.pairs_for-requires-clause-first
pairs_for-requires-clause-first c =
    c.requires.call.first.usable

pub pairs_for-requires-clause-second : goal.pairs_for-requires-clause-second
pairs_for-requires-clause-second c =
    c.requires.call.second.usable
