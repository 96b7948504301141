use Rattle.std.proofs.Common.{◌≡◌, ◌∙◌, ℕ}
use Rattle.nq_logic.specs.Terms.{Term}
use Rattle.nq_bank.specs.Content.{term_at}
use Rattle.nq_bank.proofs.Growth.{Stands-grown, term_at-grown}
use Rattle.nq_rule.proofs.Made.{for_ok}
use Rattle.nq_kernel.specs.declared.work.Work.{Work}
use Rattle.nq_quick.specs.Lines.{LineHasOnly, definition_of}
use Rattle.nq_quick.specs.Patterns.{case_literals}
use Rattle.nq_quick.proofs.LineLemmas.{ResolvesTo, grown_trans, only_grown, only_stands}
use Rattle.nq_quick.proofs.ChoiceLemmas.{line_stands_grown}
use Rattle.nq_quick.proofs.DecisionLemmas.{body_truth_is}
use Rattle.nq_quick.proofs.ClosingLemmas.{closed_case}
use Rattle.nq_quick.proofs.InLemmas.{body_in}
use Rattle.nq_bank.proofs.Standing.{id_grown}
use Rattle.nq_quick.proofs.closings.close_case.Goals as goal

pub add_resolved-requires-clause-line : goal.add_resolved-requires-clause-line
add_resolved-requires-clause-line c = line_stands_grown c.args.history.now c.args.work.now c.add_folding.new.work c.args.line c.requires.stands c.add_folding.ensures.grows.grows (only_stands c.args.work.now c.args.line _ c.requires.line)

pub add_resolved-requires-clause-other : goal.add_resolved-requires-clause-other
add_resolved-requires-clause-other c = only_stands c.add_folding.new.work c.in_ok-folding.folding _ c.in_ok-folding.ensures.line

pub add_resolved-requires-clause-term : goal.add_resolved-requires-clause-term
add_resolved-requires-clause-term c = Stands-grown c.args.work.now.bank c.add_folding.new.work.bank c.args.opened.body c.add_folding.ensures.grows.grows.bank c.requires.opened.body.stands

pub returns-clause-line : goal.returns-clause-line
returns-clause-line c =
    let old : Work = c.args.work.now in
    let one : Work = c.add_folding.new.work in
    let new : Work = c.add_resolved.new.work in
    let grows = c.add_folding.ensures.grows.grows in
    let b : Term = (definition_of c.args.case.connective).body in
    let value = c.truth_of_case-value.result in
    let e : term_at one.bank c.args.opened.body ≡ b = term_at-grown old.bank one.bank c.args.opened.body grows.bank c.requires.opened.body.stands ∙ c.requires.opened.body.denotes in
    let P : ℕ → Type 0 = ResolvesTo one new value (term_at one.bank c.args.opened.body) c.args.line c.in_ok-folding.folding in
    let Q : ℕ → Type 0 = λ n. LineHasOnly new n (case_literals c.args.case) in
    for_ok c.add_resolved.result P Q (λ n h. closed_case old one new c.args.case c.args.assignment.now c.args.opened.body b value c.args.line c.in_ok-folding.folding n (term_at one.bank c.args.opened.body) e c.requires.opened.body.denotes c.truth_of_case-value.ensures (body_truth_is old.bank c.args.case c.args.assignment.now c.args.opened.body c.requires.assignment c.requires.opened.body) c.requires.assignment.denials (λ these k. only_grown c.args.history.now old one c.args.line these c.requires.stands grows k) c.requires.line c.in_ok-folding.ensures.line h) c.add_resolved.ensures.line

pub returns-clause-grows : goal.returns-clause-grows
returns-clause-grows c = grown_trans c.args.history.now c.args.work.now c.add_folding.new.work c.add_resolved.new.work c.add_folding.ensures.grows c.add_resolved.ensures.grows

pub add_resolved-requires-clause-over : goal.add_resolved-requires-clause-over
add_resolved-requires-clause-over c = body_in c.add_folding.new.work.bank c.args.history.now c.args.case.connective c.args.opened.body (id_grown c.args.work.now.bank c.add_folding.new.work.bank c.args.opened.body _ c.add_folding.ensures.grows.grows.bank c.requires.opened.body)
