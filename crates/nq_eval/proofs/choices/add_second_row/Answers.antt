use Rattle.std.proofs.Common.{List, ◌≡◌, ◌∷◌, [], sym, subst}
use Rattle.nq_history.specs.declared.entry.Entry.{Entry}
use Rattle.nq_kernel.specs.declared.work.Work.{Work}
use Rattle.nq_kernel.specs.Growing.{WorkStands, LineHolds}
use Rattle.nq_eval.specs.Lines.{GrowsUncounted}
use Rattle.nq_eval.proofs.LineLemmas.{grown_trans, held_here, line_is}
use Rattle.std.specs.Prelude.{IfOk}
use Rattle.nq_logic.specs.Terms.{Term, Substitution}
use Rattle.nq_logic.specs.Words.{equal_term}
use Rattle.nq_bank.specs.declared.node.TermId.{TermId}
use Rattle.nq_bank.specs.Content.{term_at}
use Rattle.nq_clause.specs.Substitution.{substitution_at}
use Rattle.nq_rule.specs.declared.branching.Branches.{Branches}
use Rattle.nq_eval.specs.Truths.{IsFalsity}
use Rattle.nq_eval.specs.Choices.{for_choice, IsUsableChoice}
use Rattle.nq_eval.proofs.ClosingLemmas.{same_after}
use Rattle.nq_eval.proofs.TruthLemmas.{falsity_after}
use Rattle.nq_eval.proofs.ChoiceLemmas.{second_instance, second_has, choice_after}
use Rattle.nq_eval.proofs.choices.add_second_row.Goals as goal

pub add_row_instance-requires-clause-row : goal.add_row_instance-requires-clause-row
add_row_instance-requires-clause-row c =
    let h : List Entry = c.args.history.now in
    let w0 : Work = c.args.work.now in
    let s0 : WorkStands h w0 = c.requires.stands in
    let w1 : Work = c.pairs_of.new.work in
    let d1 : GrowsUncounted h w0 w1 = c.pairs_of.ensures.grows in
    let g1 : GrowsUncounted h w0 w1 = d1 in
    let parts : Branches = c.args.parts in
    let u : TermId = c.args.u in
    let k1 : IsUsableChoice w1.bank h u parts.test parts.first parts.second = choice_after h w0 w1 u parts.test parts.first parts.second s0 g1 c.requires.choice in
    let v : Term = term_at w1.bank parts.test in
    let x : Term = term_at w1.bank parts.first in
    let y : Term = term_at w1.bank parts.second in
    let reads1 : substitution_at w1.bank c.in_ok-pairs.pairs.items ≡ for_choice v x y = c.in_ok-pairs.ensures.reads in
    let name = c.ground_name-name.result in
    let reads = c.ground_name-name.ensures.reads in
    let s : Substitution = substitution_at w1.bank c.in_ok-pairs.pairs.items in
    let f1 : IsFalsity w1.bank h parts.test = falsity_after h w0 w1 s0 g1 parts.test c.requires.falsity in
    second_has w1.bank h name reads s v x y (term_at w1.bank u) reads1 k1.is f1.is k1.test.shallow k1.whole.shallow k1.second.shallow

pub returns-clause-line : goal.returns-clause-line
returns-clause-line c =
    let h : List Entry = c.args.history.now in
    let w0 : Work = c.args.work.now in
    let s0 : WorkStands h w0 = c.requires.stands in
    let w1 : Work = c.pairs_of.new.work in
    let d1 : GrowsUncounted h w0 w1 = c.pairs_of.ensures.grows in
    let g1 : GrowsUncounted h w0 w1 = d1 in
    let s1 : WorkStands h w1 = d1.grows.stands in
    let w2 : Work = c.add_row_instance.new.work in
    let d2 : GrowsUncounted h w1 w2 = c.add_row_instance.ensures.grows in
    let parts : Branches = c.args.parts in
    let u : TermId = c.args.u in
    let k1 : IsUsableChoice w1.bank h u parts.test parts.first parts.second = choice_after h w0 w1 u parts.test parts.first parts.second s0 g1 c.requires.choice in
    let v : Term = term_at w1.bank parts.test in
    let x : Term = term_at w1.bank parts.first in
    let y : Term = term_at w1.bank parts.second in
    let reads1 : substitution_at w1.bank c.in_ok-pairs.pairs.items ≡ for_choice v x y = c.in_ok-pairs.ensures.reads in
    let name = c.ground_name-name.result in
    let reads = c.ground_name-name.ensures.reads in
    let s : Substitution = substitution_at w1.bank c.in_ok-pairs.pairs.items in
    let f1 : IsFalsity w1.bank h parts.test = falsity_after h w0 w1 s0 g1 parts.test c.requires.falsity in
    subst (λ t. IfOk c.add_row_instance.result (λ n. LineHolds w2 n (term_at w2.bank parts.test ∷ equal_term (term_at w2.bank u) t ∷ []))) (sym (same_after h w1 w2 s1 d2 parts.second k1.second)) (held_here c.add_row_instance.result w1 w2 parts.test u (λ a b. a ∷ equal_term b y ∷ []) d2.grows.bank k1.test.stands k1.whole.stands (line_is c.add_row_instance.result w2 _ _ (second_instance w1.bank h name reads s v x y (term_at w1.bank u) reads1 k1.is f1.is) c.add_row_instance.ensures.line))

pub returns-clause-grows : goal.returns-clause-grows
returns-clause-grows c =
    let h : List Entry = c.args.history.now in
    let w0 : Work = c.args.work.now in
    let w1 : Work = c.pairs_of.new.work in
    let d1 : GrowsUncounted h w0 w1 = c.pairs_of.ensures.grows in
    let g1 : GrowsUncounted h w0 w1 = d1 in
    let w2 : Work = c.add_row_instance.new.work in
    let d2 : GrowsUncounted h w1 w2 = c.add_row_instance.ensures.grows in
    let g2 : GrowsUncounted h w0 w2 = grown_trans h w0 w1 w2 g1 d2 in
    g2
