use Rattle.std.proofs.Common.{ℕ}
use Rattle.nq_bank.specs.Content.{term_at}
use Rattle.nq_rule.proofs.Made.{for_ok}
use Rattle.nq_kernel.specs.declared.work.Work.{Work}
use Rattle.nq_quick.specs.Decisions.{Decides}
use Rattle.nq_quick.proofs.LineLemmas.{ResolvesTo, only_stands}
use Rattle.nq_quick.proofs.DecisionLemmas.{right_can}
use Rattle.nq_quick.proofs.ClosingLemmas.{closed_right}
use Rattle.nq_quick.proofs.closings.close_right.Goals as goal

pub add_resolved-requires-clause-line : goal.add_resolved-requires-clause-line
add_resolved-requires-clause-line c = only_stands c.args.work.now c.args.right_line _ c.requires.right

pub add_resolved-requires-clause-other : goal.add_resolved-requires-clause-other
add_resolved-requires-clause-other c = only_stands c.args.work.now c.args.rest _ c.requires.rest

pub add_resolved-requires-clause-term : goal.add_resolved-requires-clause-term
add_resolved-requires-clause-term c = (right_can c.args.work.now.bank c.args.assignment.now c.args.t c.args.case.connective c.args.p c.args.q c.requires.case.head c.requires.can).term

pub returns-clause-line : goal.returns-clause-line
returns-clause-line c =
    let old : Work = c.args.work.now in
    let new : Work = c.add_resolved.new.work in
    let P : ℕ → Type 0 = ResolvesTo old new c.args.case.right (term_at old.bank c.args.q) c.args.right_line c.args.rest in
    let Q : ℕ → Type 0 = λ n. Decides new n c.args.assignment.now c.args.t in
    for_ok c.add_resolved.result P Q (λ n h. closed_right old new n c.args.assignment.now c.args.t c.args.case c.args.p c.args.q c.requires.can c.requires.case c.args.rest c.args.right_line c.add_resolved.ensures.grows.grows.bank c.requires.rest c.requires.right h) c.add_resolved.ensures.line

pub add_resolved-requires-clause-over : goal.add_resolved-requires-clause-over
add_resolved-requires-clause-over c = (right_can c.args.work.now.bank c.args.assignment.now c.args.t c.args.case.connective c.args.p c.args.q c.requires.case.head c.requires.can).over.over
