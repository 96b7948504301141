use Rattle.std.proofs.Common.{List, ◌∷◌, [], sym, subst}
use Rattle.nq_history.specs.declared.entry.Entry.{Entry}
use Rattle.nq_kernel.specs.declared.work.Work.{Work}
use Rattle.nq_kernel.specs.Growing.{WorkStands, LineHolds}
use Rattle.nq_eval.specs.Lines.{GrowsUncounted}
use Rattle.nq_eval.proofs.LineLemmas.{grown_trans, held_after}
use Rattle.nq_logic.specs.Words.{not_term, equal_term}
use Rattle.nq_bank.specs.declared.node.TermId.{TermId}
use Rattle.nq_bank.specs.Content.{term_at}
use Rattle.nq_rule.specs.declared.branching.Branches.{Branches}
use Rattle.nq_eval.specs.Truths.{IsFalsity}
use Rattle.nq_eval.specs.Choices.{IsUsableChoice}
use Rattle.nq_eval.proofs.ClosingLemmas.{same_after}
use Rattle.nq_eval.proofs.TruthLemmas.{falsity_after}
use Rattle.nq_eval.proofs.ChoiceLemmas.{choice_after}
use Rattle.nq_eval.proofs.choices.add_second_side.Goals as goal

pub cut_false_test-requires-clause-test : goal.cut_false_test-requires-clause-test
cut_false_test-requires-clause-test c =
    let h : List Entry = c.args.history.now in
    let w0 : Work = c.args.work.now in
    let s0 : WorkStands h w0 = c.requires.stands in
    let w1 : Work = c.add_second_row.new.work in
    let d1 : GrowsUncounted h w0 w1 = c.add_second_row.ensures.grows in
    let g1 : GrowsUncounted h w0 w1 = d1 in
    let s1 : WorkStands h w1 = d1.grows.stands in
    let w2 : Work = c.add_falsity.new.work in
    let d2 : GrowsUncounted h w1 w2 = c.add_falsity.ensures.grows in
    let parts : Branches = c.args.parts in
    let f1 : IsFalsity w1.bank h parts.test = falsity_after h w0 w1 s0 g1 parts.test c.requires.falsity in
    let f2 : IsFalsity w2.bank h parts.test = falsity_after h w1 w2 s1 d2 parts.test f1 in
    f2

pub cut_false_test-requires-clause-left : goal.cut_false_test-requires-clause-left
cut_false_test-requires-clause-left c =
    let h : List Entry = c.args.history.now in
    let w0 : Work = c.args.work.now in
    let s0 : WorkStands h w0 = c.requires.stands in
    let w1 : Work = c.add_second_row.new.work in
    let d1 : GrowsUncounted h w0 w1 = c.add_second_row.ensures.grows in
    let g1 : GrowsUncounted h w0 w1 = d1 in
    let s1 : WorkStands h w1 = d1.grows.stands in
    let w2 : Work = c.add_falsity.new.work in
    let d2 : GrowsUncounted h w1 w2 = c.add_falsity.ensures.grows in
    let parts : Branches = c.args.parts in
    let u : TermId = c.args.u in
    let k1 : IsUsableChoice w1.bank h u parts.test parts.first parts.second = choice_after h w0 w1 u parts.test parts.first parts.second s0 g1 c.requires.choice in
    let k2 : IsUsableChoice w2.bank h u parts.test parts.first parts.second = choice_after h w1 w2 u parts.test parts.first parts.second s1 d2 k1 in
    k2.whole

pub cut_false_test-requires-clause-right : goal.cut_false_test-requires-clause-right
cut_false_test-requires-clause-right c =
    let h : List Entry = c.args.history.now in
    let w0 : Work = c.args.work.now in
    let s0 : WorkStands h w0 = c.requires.stands in
    let w1 : Work = c.add_second_row.new.work in
    let d1 : GrowsUncounted h w0 w1 = c.add_second_row.ensures.grows in
    let g1 : GrowsUncounted h w0 w1 = d1 in
    let s1 : WorkStands h w1 = d1.grows.stands in
    let w2 : Work = c.add_falsity.new.work in
    let d2 : GrowsUncounted h w1 w2 = c.add_falsity.ensures.grows in
    let parts : Branches = c.args.parts in
    let u : TermId = c.args.u in
    let k1 : IsUsableChoice w1.bank h u parts.test parts.first parts.second = choice_after h w0 w1 u parts.test parts.first parts.second s0 g1 c.requires.choice in
    let k2 : IsUsableChoice w2.bank h u parts.test parts.first parts.second = choice_after h w1 w2 u parts.test parts.first parts.second s1 d2 k1 in
    k2.second

pub cut_false_test-requires-clause-first : goal.cut_false_test-requires-clause-first
cut_false_test-requires-clause-first c =
    let h : List Entry = c.args.history.now in
    let w0 : Work = c.args.work.now in
    let s0 : WorkStands h w0 = c.requires.stands in
    let w1 : Work = c.add_second_row.new.work in
    let d1 : GrowsUncounted h w0 w1 = c.add_second_row.ensures.grows in
    let g1 : GrowsUncounted h w0 w1 = d1 in
    let s1 : WorkStands h w1 = d1.grows.stands in
    let w2 : Work = c.add_falsity.new.work in
    let d2 : GrowsUncounted h w1 w2 = c.add_falsity.ensures.grows in
    let parts : Branches = c.args.parts in
    let u : TermId = c.args.u in
    let k1 : IsUsableChoice w1.bank h u parts.test parts.first parts.second = choice_after h w0 w1 u parts.test parts.first parts.second s0 g1 c.requires.choice in
    let first2 : LineHolds w2 c.in_ok-first.first (term_at w2.bank parts.test ∷ equal_term (term_at w2.bank u) (term_at w1.bank parts.second) ∷ []) = held_after h w1 w2 c.in_ok-first.first parts.test u (λ a b. a ∷ equal_term b (term_at w1.bank parts.second) ∷ []) s1 d2 k1.test.stands k1.whole.stands c.in_ok-first.ensures.line in
    subst (λ t. LineHolds w2 c.in_ok-first.first (term_at w2.bank parts.test ∷ equal_term (term_at w2.bank u) t ∷ [])) (sym (same_after h w1 w2 s1 d2 parts.second k1.second)) first2

pub cut_false_test-requires-clause-second : goal.cut_false_test-requires-clause-second
cut_false_test-requires-clause-second c =
    let h : List Entry = c.args.history.now in
    let w0 : Work = c.args.work.now in
    let s0 : WorkStands h w0 = c.requires.stands in
    let w1 : Work = c.add_second_row.new.work in
    let d1 : GrowsUncounted h w0 w1 = c.add_second_row.ensures.grows in
    let g1 : GrowsUncounted h w0 w1 = d1 in
    let s1 : WorkStands h w1 = d1.grows.stands in
    let w2 : Work = c.add_falsity.new.work in
    let d2 : GrowsUncounted h w1 w2 = c.add_falsity.ensures.grows in
    let parts : Branches = c.args.parts in
    let f1 : IsFalsity w1.bank h parts.test = falsity_after h w0 w1 s0 g1 parts.test c.requires.falsity in
    let f2 : IsFalsity w2.bank h parts.test = falsity_after h w1 w2 s1 d2 parts.test f1 in
    subst (λ t. LineHolds w2 c.in_ok-second.second (not_term t ∷ [])) (sym f2.is) c.in_ok-second.ensures.line

pub returns-in_err-second-clause-grows : goal.returns-in_err-second-clause-grows
returns-in_err-second-clause-grows c =
    let h : List Entry = c.args.history.now in
    let w0 : Work = c.args.work.now in
    let w1 : Work = c.add_second_row.new.work in
    let d1 : GrowsUncounted h w0 w1 = c.add_second_row.ensures.grows in
    let g1 : GrowsUncounted h w0 w1 = d1 in
    let w2 : Work = c.add_falsity.new.work in
    let d2 : GrowsUncounted h w1 w2 = c.add_falsity.ensures.grows in
    let g2 : GrowsUncounted h w0 w2 = grown_trans h w0 w1 w2 g1 d2 in
    g2

pub returns-clause-grows : goal.returns-clause-grows
returns-clause-grows c =
    let h : List Entry = c.args.history.now in
    let w0 : Work = c.args.work.now in
    let w1 : Work = c.add_second_row.new.work in
    let d1 : GrowsUncounted h w0 w1 = c.add_second_row.ensures.grows in
    let g1 : GrowsUncounted h w0 w1 = d1 in
    let w2 : Work = c.add_falsity.new.work in
    let d2 : GrowsUncounted h w1 w2 = c.add_falsity.ensures.grows in
    let g2 : GrowsUncounted h w0 w2 = grown_trans h w0 w1 w2 g1 d2 in
    let w3 : Work = c.cut_false_test.new.work in
    let d3 : GrowsUncounted h w2 w3 = c.cut_false_test.ensures.grows in
    let g3 : GrowsUncounted h w0 w3 = grown_trans h w0 w2 w3 g2 d3 in
    g3
