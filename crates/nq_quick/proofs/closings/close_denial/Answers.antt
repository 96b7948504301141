use Rattle.std.proofs.Common.{◌≡◌, ◌∙◌, ℕ, true, false, ap, sym}
use Rattle.nq_bank.specs.Content.{Stands, term_at, terms_at}
use Rattle.nq_bank.proofs.Growth.{Grows-trans, Stands-grown}
use Rattle.nq_rule.proofs.Made.{for_ok}
use Rattle.nq_kernel.specs.declared.work.Work.{Work}
use Rattle.nq_kernel.proofs.HeldLines.{holds_stands}
use Rattle.nq_quick.specs.Assignments.{truth_with}
use Rattle.nq_fragments.specs.Propositions.{proposition_of}
use Rattle.nq_quick.specs.Decisions.{Decides, truth_at}
use Rattle.nq_quick.proofs.LineLemmas.{CutsTo, grown_trans, grown_refl, only_stands}
use Rattle.nq_quick.proofs.ChoiceLemmas.{line_stands_grown}
use Rattle.nq_quick.proofs.DecisionLemmas.{denied_can}
use Rattle.nq_quick.proofs.ClosingLemmas.{closed_false_denial, closed_true_denial, denial_room}
use Rattle.nq_quick.proofs.InLemmas.{term_in_grown}
use Rattle.nq_quick.proofs.closings.close_denial.Goals as goal

pub returns-then-not-is_true-clause-line : goal.returns-then-not-is_true-clause-line
returns-then-not-is_true-clause-line c =
    let e : truth_at c.args.work.now.bank c.args.assignment.now c.args.p ≡ false = sym (c.is_true.ensures ∙ ap (λ ids. truth_with (terms_at c.args.work.now.bank ids) (proposition_of (term_at c.args.work.now.bank c.args.p))) c.as_slice.ensures.value) ∙ c.if-not-is_true.true in
    closed_false_denial c.args.work.now c.args.line c.args.assignment.now c.args.t c.args.p c.requires.can c.requires.head e c.requires.line

pub returns-then-not-is_true-clause-grows : goal.returns-then-not-is_true-clause-grows
returns-then-not-is_true-clause-grows c = grown_refl c.args.history.now c.args.work.now c.requires.stands

pub add_either-requires-clause-room : goal.add_either-requires-clause-room
add_either-requires-clause-room c =
    let e : truth_at c.args.work.now.bank c.args.assignment.now c.args.p ≡ true = sym (c.is_true.ensures ∙ ap (λ ids. truth_with (terms_at c.args.work.now.bank ids) (proposition_of (term_at c.args.work.now.bank c.args.p))) c.as_slice.ensures.value) ∙ c.if-not-is_true.false in
    denial_room c.args.work.now.bank c.args.assignment.now c.args.t c.args.p c.requires.can c.requires.head e

pub add_cut-requires-clause-first : goal.add_cut-requires-clause-first
add_cut-requires-clause-first c = line_stands_grown c.args.history.now c.args.work.now c.add_either.new.work c.args.line c.requires.stands c.add_either.ensures.grows.grows (only_stands c.args.work.now c.args.line _ c.requires.line)

pub add_cut-requires-clause-second : goal.add_cut-requires-clause-second
add_cut-requires-clause-second c = holds_stands c.add_either.new.work c.in_ok-either.either _ c.in_ok-either.ensures.line

pub add_cut-requires-clause-term : goal.add_cut-requires-clause-term
add_cut-requires-clause-term c = Stands-grown c.args.work.now.bank c.add_either.new.work.bank c.args.p c.add_either.ensures.grows.grows.bank (denied_can c.args.work.now.bank c.args.assignment.now c.args.t c.args.p c.requires.head c.requires.can).term

pub returns-clause-line : goal.returns-clause-line
returns-clause-line c =
    let old : Work = c.args.work.now in
    let one : Work = c.add_either.new.work in
    let new : Work = c.add_cut.new.work in
    let first = c.add_either.ensures.grows.grows in
    let e : truth_at old.bank c.args.assignment.now c.args.p ≡ true = sym (c.is_true.ensures ∙ ap (λ ids. truth_with (terms_at old.bank ids) (proposition_of (term_at old.bank c.args.p))) c.as_slice.ensures.value) ∙ c.if-not-is_true.false in
    let P : ℕ → Type 0 = CutsTo one new (term_at one.bank c.args.p) c.args.line c.in_ok-either.either in
    let Q : ℕ → Type 0 = λ n. Decides new n c.args.assignment.now c.args.t in
    let stands : Stands old.bank c.args.p = (denied_can old.bank c.args.assignment.now c.args.t c.args.p c.requires.head c.requires.can).term in
    for_ok c.add_cut.result P Q (λ n h. closed_true_denial c.args.history.now old one new n c.args.assignment.now c.args.t c.args.p c.args.line c.in_ok-either.either c.requires.stands first (Grows-trans old.bank one.bank new.bank first.bank c.add_cut.ensures.grows.grows.bank) c.requires.can c.requires.head stands e c.requires.line c.in_ok-either.ensures.line h) c.add_cut.ensures.line

pub returns-clause-grows : goal.returns-clause-grows
returns-clause-grows c = grown_trans c.args.history.now c.args.work.now c.add_either.new.work c.add_cut.new.work c.add_either.ensures.grows c.add_cut.ensures.grows

pub add_either-requires-clause-over : goal.add_either-requires-clause-over
add_either-requires-clause-over c = c.requires.can.over.over

pub add_cut-requires-clause-over : goal.add_cut-requires-clause-over
add_cut-requires-clause-over c = term_in_grown c.args.work.now.bank c.add_either.new.work.bank c.args.history.now c.args.p c.add_either.ensures.grows.grows.bank c.requires.stands.history (denied_can c.args.work.now.bank c.args.assignment.now c.args.t c.args.p c.requires.head c.requires.can).term (denied_can c.args.work.now.bank c.args.assignment.now c.args.t c.args.p c.requires.head c.requires.can).over.over
