use Rattle.std.proofs.Common.{◌≡◌, ℕ, false, ap, ◌∙◌, sym, subst}
use Rattle.nq_bank.specs.Content.{Stands, term_at}
use Rattle.nq_bank.proofs.Growth.{Grows-trans, Stands-grown, term_at-grown}
use Rattle.nq_rule.proofs.Made.{for_ok}
use Rattle.nq_kernel.specs.declared.work.Work.{Work}
use Rattle.nq_kernel.specs.Over.{TermIsIn}
use Rattle.nq_kernel.proofs.GrowingLemmas.{WorkGrows-trans}
use Rattle.nq_quick.specs.Choices.{branch_of}
use Rattle.nq_quick.specs.Lines.{if_at}
use Rattle.nq_quick.proofs.LineLemmas.{ResolvesTo, grown_trans, only_stands}
use Rattle.nq_quick.proofs.SplitLemmas.{branch_stands}
use Rattle.nq_quick.proofs.ChoiceLemmas.{ChoosesTo, false_choice, branch_same, line_stands_grown}
use Rattle.nq_quick.proofs.InLemmas.{choice_over, branch_in, term_in_grown}
use Rattle.nq_quick.proofs.choices.add_false_choice.Goals as goal

pub add_resolved-requires-clause-line : goal.add_resolved-requires-clause-line
add_resolved-requires-clause-line c = line_stands_grown c.args.history.now c.args.work.now c.add_split.new.work c.args.test_line c.requires.stands c.add_split.ensures.grows.grows c.requires.test

pub add_resolved-requires-clause-other : goal.add_resolved-requires-clause-other
add_resolved-requires-clause-other c = only_stands c.add_split.new.work c.in_ok-split.split _ c.in_ok-split.ensures.line

pub add_resolved-requires-clause-term : goal.add_resolved-requires-clause-term
add_resolved-requires-clause-term c = Stands-grown c.args.work.now.bank c.add_split.new.work.bank c.args.parts.test c.add_split.ensures.grows.grows.bank c.requires.parts.test

pub add_resolved-requires-2-clause-line : goal.add_resolved-requires-2-clause-line
add_resolved-requires-2-clause-line c =
    line_stands_grown c.args.history.now c.args.work.now c.add_resolved.new.work c.args.branch_line c.requires.stands (WorkGrows-trans c.args.history.now c.args.work.now c.add_split.new.work c.add_resolved.new.work c.add_split.ensures.grows.grows c.add_resolved.ensures.grows.grows) c.requires.branch

pub add_resolved-requires-2-clause-term : goal.add_resolved-requires-2-clause-term
add_resolved-requires-2-clause-term c =
    let first = c.add_split.ensures.grows.grows.bank in
    let second = c.add_resolved.ensures.grows.grows.bank in
    subst (Stands c.add_resolved.new.work.bank) (sym c.branch_of-branch.ensures) (
    Stands-grown c.args.work.now.bank c.add_resolved.new.work.bank (branch_of c.args.parts c.args.test) (Grows-trans c.args.work.now.bank c.add_split.new.work.bank c.add_resolved.new.work.bank first second) (branch_stands c.args.work.now c.args.parts c.args.test c.requires.parts))

pub returns-clause-line : goal.returns-clause-line
returns-clause-line c =
    let old : Work = c.args.work.now in
    let one : Work = c.add_split.new.work in
    let two : Work = c.add_resolved.new.work in
    let new : Work = c.add_resolved-2.new.work in
    let first = c.add_split.ensures.grows.grows in
    let second = c.add_resolved.ensures.grows.grows in
    let branch = branch_of c.args.parts c.args.test in
    let p = term_at old.bank c.args.parts.test in
    let x = term_at old.bank branch in
    let w = if_at old.bank c.args.parts in
    let p1 = term_at one.bank c.args.parts.test in
    let x2 = term_at two.bank c.branch_of-branch.result in
    let e : p1 ≡ p = term_at-grown old.bank one.bank c.args.parts.test first.bank c.requires.parts.test in
    let f : x2 ≡ x = ap (term_at two.bank) c.branch_of-branch.ensures ∙ branch_same old.bank two.bank (Grows-trans old.bank one.bank two.bank first.bank second.bank) c.args.parts c.requires.parts c.args.test in
    let P : ℕ → Type 0 = ResolvesTo two new false x2 c.args.branch_line c.in_ok-rest.rest in
    for_ok c.add_resolved-2.result P (ChoosesTo old new c.args.test false p x w c.args.test_line c.args.branch_line) (λ n by_branch these h k.
    false_choice c.args.history.now old one two new p x w p1 x2 c.args.test c.args.test_line c.args.branch_line c.in_ok-split.split c.in_ok-rest.rest n these c.requires.stands first second e f c.in_ok-split.ensures.line c.in_ok-rest.ensures.line by_branch h k) c.add_resolved-2.ensures.line

pub returns-clause-grows : goal.returns-clause-grows
returns-clause-grows c =
    grown_trans c.args.history.now c.args.work.now c.add_split.new.work c.add_resolved-2.new.work c.add_split.ensures.grows (grown_trans c.args.history.now c.add_split.new.work c.add_resolved.new.work c.add_resolved-2.new.work c.add_resolved.ensures.grows c.add_resolved-2.ensures.grows)

pub returns-in_err-rest-clause-grows : goal.returns-in_err-rest-clause-grows
returns-in_err-rest-clause-grows c = grown_trans c.args.history.now c.args.work.now c.add_split.new.work c.add_resolved.new.work c.add_split.ensures.grows c.add_resolved.ensures.grows

pub add_resolved-requires-clause-over : goal.add_resolved-requires-clause-over
add_resolved-requires-clause-over c =
    let parts = choice_over c.args.work.now.bank c.args.history.now c.args.t (term_at c.args.work.now.bank c.args.parts.test) (term_at c.args.work.now.bank c.args.parts.first) (term_at c.args.work.now.bank c.args.parts.second) c.requires.whole.denotes c.requires.over in
    term_in_grown c.args.work.now.bank c.add_split.new.work.bank c.args.history.now c.args.parts.test c.add_split.ensures.grows.grows.bank c.requires.stands.history c.requires.parts.test parts.0

pub add_resolved-requires-2-clause-over : goal.add_resolved-requires-2-clause-over
add_resolved-requires-2-clause-over c =
    let first = c.add_split.ensures.grows.grows.bank in
    let second = c.add_resolved.ensures.grows.grows.bank in
    let branch = branch_of c.args.parts c.args.test in
    subst (TermIsIn c.add_resolved.new.work.bank c.args.history.now) (sym c.branch_of-branch.ensures) (
    term_in_grown c.args.work.now.bank c.add_resolved.new.work.bank c.args.history.now branch (Grows-trans c.args.work.now.bank c.add_split.new.work.bank c.add_resolved.new.work.bank first second) c.requires.stands.history (branch_stands c.args.work.now c.args.parts c.args.test c.requires.parts) (branch_in c.args.work.now.bank c.args.history.now c.args.t c.args.parts c.args.test c.requires.whole.denotes c.requires.over))
