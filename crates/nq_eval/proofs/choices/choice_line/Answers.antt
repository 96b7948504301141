use Rattle.std.proofs.Common.{List, ◌≡◌, ◌∙◌, sym, ap, subst, true}
use Rattle.nq_history.specs.declared.entry.Entry.{Entry}
use Rattle.nq_kernel.specs.declared.work.Work.{Work}
use Rattle.nq_kernel.specs.Growing.{WorkStands}
use Rattle.nq_eval.specs.Lines.{GrowsUncounted, IsUsable, Equates}
use Rattle.nq_eval.proofs.LineLemmas.{grown_trans, equates_grown}
use Rattle.nq_bank.specs.declared.node.TermId.{TermId}
use Rattle.nq_bank.specs.Content.{term_at}
use Rattle.nq_rule.specs.declared.branching.Branches.{Branches}
use Rattle.nq_fragments.specs.Outcomes.{is_small}
use Rattle.nq_eval.specs.Choices.{IsUsableChoice}
use Rattle.nq_eval.specs.Sides.{side_if}
use Rattle.nq_eval.specs.declared.reducing.Reduced.{Reduced}
use Rattle.nq_eval.proofs.ClosingLemmas.{usable_after, same_after, small_after}
use Rattle.nq_eval.proofs.EvaluationLemmas.{side_part}
use Rattle.nq_eval.proofs.ChoiceLemmas.{choice_after, valued}
use Rattle.nq_proof.specs.Values.{is_true}
use Rattle.nq_eval.proofs.choices.choice_line.Goals as goal

pub add_side-requires-clause-small : goal.add_side-requires-clause-small
add_side-requires-clause-small c =
    let h : List Entry = c.args.history.now in
    let w0 : Work = c.args.work.now in
    let s0 : WorkStands h w0 = c.requires.stands in
    let w1 : Work = c.put_test.new.work in
    let d1 : GrowsUncounted h w0 w1 = c.put_test.ensures.grows in
    let g1 : GrowsUncounted h w0 w1 = d1 in
    let small1 : is_small (term_at w1.bank c.args.test.value) ≡ true = small_after h w0 w1 s0 g1 c.args.test.value c.requires.test.value c.requires.test.small in
    small1

pub chain-requires-clause-left : goal.chain-requires-clause-left
chain-requires-clause-left c =
    let h : List Entry = c.args.history.now in
    let w0 : Work = c.args.work.now in
    let s0 : WorkStands h w0 = c.requires.stands in
    let w1 : Work = c.put_test.new.work in
    let d1 : GrowsUncounted h w0 w1 = c.put_test.ensures.grows in
    let g1 : GrowsUncounted h w0 w1 = d1 in
    let s1 : WorkStands h w1 = d1.grows.stands in
    let w2 : Work = c.add_side.new.work in
    let d2 : GrowsUncounted h w1 w2 = c.add_side.ensures.grows in
    let t : TermId = c.args.t in
    let u1 : IsUsable w1.bank h t = usable_after h w0 w1 s0 g1 t c.requires.term in
    let u2 : IsUsable w2.bank h t = usable_after h w1 w2 s1 d2 t u1 in
    u2

pub chain-requires-clause-middle : goal.chain-requires-clause-middle
chain-requires-clause-middle c =
    let h : List Entry = c.args.history.now in
    let w0 : Work = c.args.work.now in
    let w1 : Work = c.put_test.new.work in
    let d1 : GrowsUncounted h w0 w1 = c.put_test.ensures.grows in
    let s1 : WorkStands h w1 = d1.grows.stands in
    let w2 : Work = c.add_side.new.work in
    let d2 : GrowsUncounted h w1 w2 = c.add_side.ensures.grows in
    let parts : Branches = c.args.parts in
    let r : Reduced = c.in_ok-reduced.reduced in
    let k1 : IsUsableChoice w1.bank h r.term c.args.test.value parts.first parts.second = c.in_ok-reduced.ensures.choice in
    let k2 : IsUsableChoice w2.bank h r.term c.args.test.value parts.first parts.second = choice_after h w1 w2 r.term c.args.test.value parts.first parts.second s1 d2 k1 in
    k2.whole

pub chain-requires-clause-right : goal.chain-requires-clause-right
chain-requires-clause-right c =
    let h : List Entry = c.args.history.now in
    let w0 : Work = c.args.work.now in
    let s0 : WorkStands h w0 = c.requires.stands in
    let w1 : Work = c.put_test.new.work in
    let d1 : GrowsUncounted h w0 w1 = c.put_test.ensures.grows in
    let g1 : GrowsUncounted h w0 w1 = d1 in
    let w2 : Work = c.add_side.new.work in
    let d2 : GrowsUncounted h w1 w2 = c.add_side.ensures.grows in
    let g2 : GrowsUncounted h w0 w2 = grown_trans h w0 w1 w2 g1 d2 in
    let parts : Branches = c.args.parts in
    let t : TermId = c.args.t in
    let side : TermId = c.args.side in
    let side0 : IsUsable w0.bank h side = subst (IsUsable w0.bank h) (sym c.requires.side) (side_part w0.bank h t parts c.requires.term c.requires.large c.requires.head (is_true (term_at w0.bank c.args.test.value))).usable in
    let side2 : IsUsable w2.bank h side = usable_after h w0 w2 s0 g2 side side0 in
    side2

pub chain-requires-clause-first : goal.chain-requires-clause-first
chain-requires-clause-first c =
    let h : List Entry = c.args.history.now in
    let w0 : Work = c.args.work.now in
    let s0 : WorkStands h w0 = c.requires.stands in
    let w1 : Work = c.put_test.new.work in
    let d1 : GrowsUncounted h w0 w1 = c.put_test.ensures.grows in
    let g1 : GrowsUncounted h w0 w1 = d1 in
    let s1 : WorkStands h w1 = d1.grows.stands in
    let w2 : Work = c.add_side.new.work in
    let d2 : GrowsUncounted h w1 w2 = c.add_side.ensures.grows in
    let parts : Branches = c.args.parts in
    let t : TermId = c.args.t in
    let r : Reduced = c.in_ok-reduced.reduced in
    let k1 : IsUsableChoice w1.bank h r.term c.args.test.value parts.first parts.second = c.in_ok-reduced.ensures.choice in
    let u1 : IsUsable w1.bank h t = usable_after h w0 w1 s0 g1 t c.requires.term in
    λ differs. equates_grown h w1 w2 r.line t r.term s1 d2.grows u1 k1.whole (c.in_ok-reduced.ensures.line differs)

pub chain-requires-clause-second : goal.chain-requires-clause-second
chain-requires-clause-second c =
    let h : List Entry = c.args.history.now in
    let w0 : Work = c.args.work.now in
    let s0 : WorkStands h w0 = c.requires.stands in
    let w1 : Work = c.put_test.new.work in
    let d1 : GrowsUncounted h w0 w1 = c.put_test.ensures.grows in
    let g1 : GrowsUncounted h w0 w1 = d1 in
    let w2 : Work = c.add_side.new.work in
    let parts : Branches = c.args.parts in
    let side : TermId = c.args.side in
    let r : Reduced = c.in_ok-reduced.reduced in
    let same : side ≡ side_if (is_true (term_at w1.bank c.args.test.value)) parts = c.requires.side ∙ ap (λ v. side_if (is_true v) parts) (sym (same_after h w0 w1 s0 g1 c.args.test.value c.requires.test.value)) in
    λ differs. subst (λ w. Equates w2 c.in_ok-line.line r.term w) (sym (same ∙ valued (is_true (term_at w1.bank c.args.test.value)) parts c.args.test.value)) c.in_ok-line.ensures.line

pub returns-in_err-line-clause-grows : goal.returns-in_err-line-clause-grows
returns-in_err-line-clause-grows c =
    let h : List Entry = c.args.history.now in
    let w0 : Work = c.args.work.now in
    let w1 : Work = c.put_test.new.work in
    let d1 : GrowsUncounted h w0 w1 = c.put_test.ensures.grows in
    let g1 : GrowsUncounted h w0 w1 = d1 in
    let w2 : Work = c.add_side.new.work in
    let d2 : GrowsUncounted h w1 w2 = c.add_side.ensures.grows in
    let g2 : GrowsUncounted h w0 w2 = grown_trans h w0 w1 w2 g1 d2 in
    g2

pub returns-clause-grows : goal.returns-clause-grows
returns-clause-grows c =
    let h : List Entry = c.args.history.now in
    let w0 : Work = c.args.work.now in
    let w1 : Work = c.put_test.new.work in
    let d1 : GrowsUncounted h w0 w1 = c.put_test.ensures.grows in
    let g1 : GrowsUncounted h w0 w1 = d1 in
    let w2 : Work = c.add_side.new.work in
    let d2 : GrowsUncounted h w1 w2 = c.add_side.ensures.grows in
    let g2 : GrowsUncounted h w0 w2 = grown_trans h w0 w1 w2 g1 d2 in
    let w3 : Work = c.chain.new.work in
    let d3 : GrowsUncounted h w2 w3 = c.chain.ensures.grows in
    let g3 : GrowsUncounted h w0 w3 = grown_trans h w0 w2 w3 g2 d3 in
    g3
