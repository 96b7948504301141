use Rattle.std.proofs.Common.{◌≡◌, ◌∙◌, ℕ, ap, sym}
use Rattle.nq_bank.specs.Content.{term_at, terms_at}
use Rattle.nq_rule.proofs.Made.{for_ok}
use Rattle.nq_kernel.specs.declared.work.Work.{Work}
use Rattle.nq_quick.specs.Assignments.{truth_with}
use Rattle.nq_fragments.specs.Propositions.{proposition_of}
use Rattle.nq_quick.specs.Choices.{branch_of}
use Rattle.nq_quick.specs.Lines.{if_at}
use Rattle.nq_quick.specs.Decisions.{Decides, truth_at}
use Rattle.nq_quick.proofs.LineLemmas.{only_stands}
use Rattle.nq_quick.proofs.ChoiceLemmas.{ChoosesTo}
use Rattle.nq_quick.proofs.DecisionLemmas.{parts_stand}
use Rattle.nq_quick.proofs.ClosingLemmas.{closed_choice}
use Rattle.nq_quick.proofs.closings.close_choice.Goals as goal

pub add_choice-requires-clause-whole : goal.add_choice-requires-clause-whole
add_choice-requires-clause-whole c = record { stands = c.requires.can.term; denotes = c.requires.head.term }

pub add_choice-requires-clause-parts : goal.add_choice-requires-clause-parts
add_choice-requires-clause-parts c = parts_stand c.args.work.now.bank c.args.assignment.now c.args.t c.args.parts c.requires.head c.requires.can.term

pub add_choice-requires-clause-room : goal.add_choice-requires-clause-room
add_choice-requires-clause-room c =
    λ e. c.requires.can.room (sym (c.is_true-value.ensures ∙ ap (λ ids. truth_with (terms_at c.args.work.now.bank ids) (proposition_of (term_at c.args.work.now.bank c.args.t))) c.as_slice-2.ensures.value) ∙ e)

pub add_choice-requires-clause-test : goal.add_choice-requires-clause-test
add_choice-requires-clause-test c = only_stands c.args.work.now c.args.test_line _ c.requires.test

pub add_choice-requires-clause-branch : goal.add_choice-requires-clause-branch
add_choice-requires-clause-branch c = only_stands c.args.work.now c.args.branch_line _ c.requires.branch

pub returns-clause-line : goal.returns-clause-line
returns-clause-line c =
    let old : Work = c.args.work.now in
    let new : Work = c.add_choice.new.work in
    let test = c.is_true-test.result in
    let value = c.is_true-value.result in
    let e : test ≡ truth_at old.bank c.args.assignment.now c.args.parts.test = c.is_true-test.ensures ∙ ap (λ ids. truth_with (terms_at old.bank ids) (proposition_of (term_at old.bank c.args.parts.test))) c.as_slice.ensures.value in
    let f : value ≡ truth_at old.bank c.args.assignment.now c.args.t = c.is_true-value.ensures ∙ ap (λ ids. truth_with (terms_at old.bank ids) (proposition_of (term_at old.bank c.args.t))) c.as_slice-2.ensures.value in
    let P : ℕ → Type 0 = ChoosesTo old new test value (term_at old.bank c.args.parts.test) (term_at old.bank (branch_of c.args.parts test)) (if_at old.bank c.args.parts) c.args.test_line c.args.branch_line in
    let Q : ℕ → Type 0 = λ n. Decides new n c.args.assignment.now c.args.t in
    for_ok c.add_choice.result P Q (λ n h. closed_choice old new n c.args.assignment.now c.args.t c.args.parts test value c.args.test_line c.args.branch_line c.add_choice.ensures.grows.grows.bank c.requires.can c.requires.head e f c.requires.test c.requires.branch h) c.add_choice.ensures.line

pub add_choice-requires-clause-over : goal.add_choice-requires-clause-over
add_choice-requires-clause-over c = c.requires.can.over.over
