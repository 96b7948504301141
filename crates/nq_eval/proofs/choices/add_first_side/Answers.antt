use Rattle.std.proofs.Common.{List, ◌∷◌, []}
use Rattle.nq_history.specs.declared.entry.Entry.{Entry}
use Rattle.nq_kernel.specs.declared.work.Work.{Work}
use Rattle.nq_kernel.specs.Growing.{WorkStands}
use Rattle.nq_eval.specs.Lines.{GrowsUncounted}
use Rattle.nq_eval.proofs.LineLemmas.{grown_trans, held_after}
use Rattle.nq_bank.specs.declared.node.TermId.{TermId}
use Rattle.nq_rule.specs.declared.branching.Branches.{Branches}
use Rattle.nq_eval.specs.Truths.{IsTruth}
use Rattle.nq_eval.specs.Choices.{IsUsableChoice}
use Rattle.nq_eval.proofs.TruthLemmas.{truth_after}
use Rattle.nq_eval.proofs.ChoiceLemmas.{choice_after}
use Rattle.nq_eval.proofs.choices.add_first_side.Goals as goal

pub add_first_row-requires-clause-choice : goal.add_first_row-requires-clause-choice
add_first_row-requires-clause-choice c =
    let h : List Entry = c.args.history.now in
    let w0 : Work = c.args.work.now in
    let s0 : WorkStands h w0 = c.requires.stands in
    let w1 : Work = c.add_truth.new.work in
    let d1 : GrowsUncounted h w0 w1 = c.add_truth.ensures.grows in
    let g1 : GrowsUncounted h w0 w1 = d1 in
    let parts : Branches = c.args.parts in
    let u : TermId = c.args.u in
    let k1 : IsUsableChoice w1.bank h u parts.test parts.first parts.second = choice_after h w0 w1 u parts.test parts.first parts.second s0 g1 c.requires.choice in
    k1

pub add_first_row-requires-clause-small : goal.add_first_row-requires-clause-small
add_first_row-requires-clause-small c =
    let h : List Entry = c.args.history.now in
    let w0 : Work = c.args.work.now in
    let s0 : WorkStands h w0 = c.requires.stands in
    let w1 : Work = c.add_truth.new.work in
    let d1 : GrowsUncounted h w0 w1 = c.add_truth.ensures.grows in
    let g1 : GrowsUncounted h w0 w1 = d1 in
    let parts : Branches = c.args.parts in
    let t1 : IsTruth w1.bank h parts.test = truth_after h w0 w1 s0 g1 parts.test c.requires.truth in
    t1.small

pub cut_truth-requires-clause-test : goal.cut_truth-requires-clause-test
cut_truth-requires-clause-test c =
    let h : List Entry = c.args.history.now in
    let w0 : Work = c.args.work.now in
    let s0 : WorkStands h w0 = c.requires.stands in
    let w1 : Work = c.add_truth.new.work in
    let d1 : GrowsUncounted h w0 w1 = c.add_truth.ensures.grows in
    let g1 : GrowsUncounted h w0 w1 = d1 in
    let s1 : WorkStands h w1 = d1.grows.stands in
    let w2 : Work = c.add_first_row.new.work in
    let d2 : GrowsUncounted h w1 w2 = c.add_first_row.ensures.grows in
    let parts : Branches = c.args.parts in
    let u : TermId = c.args.u in
    let k1 : IsUsableChoice w1.bank h u parts.test parts.first parts.second = choice_after h w0 w1 u parts.test parts.first parts.second s0 g1 c.requires.choice in
    let k2 : IsUsableChoice w2.bank h u parts.test parts.first parts.second = choice_after h w1 w2 u parts.test parts.first parts.second s1 d2 k1 in
    k2.test

pub cut_truth-requires-clause-left : goal.cut_truth-requires-clause-left
cut_truth-requires-clause-left c =
    let h : List Entry = c.args.history.now in
    let w0 : Work = c.args.work.now in
    let s0 : WorkStands h w0 = c.requires.stands in
    let w1 : Work = c.add_truth.new.work in
    let d1 : GrowsUncounted h w0 w1 = c.add_truth.ensures.grows in
    let g1 : GrowsUncounted h w0 w1 = d1 in
    let s1 : WorkStands h w1 = d1.grows.stands in
    let w2 : Work = c.add_first_row.new.work in
    let d2 : GrowsUncounted h w1 w2 = c.add_first_row.ensures.grows in
    let parts : Branches = c.args.parts in
    let u : TermId = c.args.u in
    let k1 : IsUsableChoice w1.bank h u parts.test parts.first parts.second = choice_after h w0 w1 u parts.test parts.first parts.second s0 g1 c.requires.choice in
    let k2 : IsUsableChoice w2.bank h u parts.test parts.first parts.second = choice_after h w1 w2 u parts.test parts.first parts.second s1 d2 k1 in
    k2.whole

pub cut_truth-requires-clause-right : goal.cut_truth-requires-clause-right
cut_truth-requires-clause-right c =
    let h : List Entry = c.args.history.now in
    let w0 : Work = c.args.work.now in
    let s0 : WorkStands h w0 = c.requires.stands in
    let w1 : Work = c.add_truth.new.work in
    let d1 : GrowsUncounted h w0 w1 = c.add_truth.ensures.grows in
    let g1 : GrowsUncounted h w0 w1 = d1 in
    let s1 : WorkStands h w1 = d1.grows.stands in
    let w2 : Work = c.add_first_row.new.work in
    let d2 : GrowsUncounted h w1 w2 = c.add_first_row.ensures.grows in
    let parts : Branches = c.args.parts in
    let u : TermId = c.args.u in
    let k1 : IsUsableChoice w1.bank h u parts.test parts.first parts.second = choice_after h w0 w1 u parts.test parts.first parts.second s0 g1 c.requires.choice in
    let k2 : IsUsableChoice w2.bank h u parts.test parts.first parts.second = choice_after h w1 w2 u parts.test parts.first parts.second s1 d2 k1 in
    k2.first

pub cut_truth-requires-clause-first : goal.cut_truth-requires-clause-first
cut_truth-requires-clause-first c =
    let h : List Entry = c.args.history.now in
    let w0 : Work = c.args.work.now in
    let s0 : WorkStands h w0 = c.requires.stands in
    let w1 : Work = c.add_truth.new.work in
    let d1 : GrowsUncounted h w0 w1 = c.add_truth.ensures.grows in
    let g1 : GrowsUncounted h w0 w1 = d1 in
    let s1 : WorkStands h w1 = d1.grows.stands in
    let w2 : Work = c.add_first_row.new.work in
    let d2 : GrowsUncounted h w1 w2 = c.add_first_row.ensures.grows in
    let parts : Branches = c.args.parts in
    let u : TermId = c.args.u in
    let k1 : IsUsableChoice w1.bank h u parts.test parts.first parts.second = choice_after h w0 w1 u parts.test parts.first parts.second s0 g1 c.requires.choice in
    held_after h w1 w2 c.in_ok-first.first parts.test parts.test (λ a b. a ∷ []) s1 d2 k1.test.stands k1.test.stands c.in_ok-first.ensures.line

pub returns-in_err-second-clause-grows : goal.returns-in_err-second-clause-grows
returns-in_err-second-clause-grows c =
    let h : List Entry = c.args.history.now in
    let w0 : Work = c.args.work.now in
    let w1 : Work = c.add_truth.new.work in
    let d1 : GrowsUncounted h w0 w1 = c.add_truth.ensures.grows in
    let g1 : GrowsUncounted h w0 w1 = d1 in
    let w2 : Work = c.add_first_row.new.work in
    let d2 : GrowsUncounted h w1 w2 = c.add_first_row.ensures.grows in
    let g2 : GrowsUncounted h w0 w2 = grown_trans h w0 w1 w2 g1 d2 in
    g2

pub returns-clause-grows : goal.returns-clause-grows
returns-clause-grows c =
    let h : List Entry = c.args.history.now in
    let w0 : Work = c.args.work.now in
    let w1 : Work = c.add_truth.new.work in
    let d1 : GrowsUncounted h w0 w1 = c.add_truth.ensures.grows in
    let g1 : GrowsUncounted h w0 w1 = d1 in
    let w2 : Work = c.add_first_row.new.work in
    let d2 : GrowsUncounted h w1 w2 = c.add_first_row.ensures.grows in
    let g2 : GrowsUncounted h w0 w2 = grown_trans h w0 w1 w2 g1 d2 in
    let w3 : Work = c.cut_truth.new.work in
    let d3 : GrowsUncounted h w2 w3 = c.cut_truth.ensures.grows in
    let g3 : GrowsUncounted h w0 w3 = grown_trans h w0 w2 w3 g2 d3 in
    g3
