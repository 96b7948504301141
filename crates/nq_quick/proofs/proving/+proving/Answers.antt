use Rattle.std.proofs.Common.{◌≡◌, ◌∷◌, ◌++◌, [], sym, subst, arith}
use Rattle.std.specs.Prelude.{All}
use Rattle.nq_logic.specs.Terms.{Term}
use Rattle.nq_logic.specs.Words.{not_term}
use Rattle.nq_bank.specs.Content.{Stands, Grows, IsIdOf, term_at}
use Rattle.nq_bank.proofs.Growth.{Grows-trans, Stands-grown}
use Rattle.nq_bank.proofs.Standing.{id_grown}
use Rattle.nq_rule.proofs.Made.{for_ok}
use Rattle.nq_proof.specs.Clauses.{Clause}
use Rattle.nq_kernel.specs.declared.work.Work.{Work}
use Rattle.nq_kernel.specs.Growing.{WorkGrows}
use Rattle.nq_quick.specs.declared.assignments.Assignment.{Assignment}
use Rattle.nq_quick.specs.Lines.{LineHasOnly}
use Rattle.nq_quick.specs.Decisions.{denials_at}
use Rattle.nq_quick.specs.Coverings.{CanProve}
use Rattle.nq_quick.proofs.LineLemmas.{CutsTo, grown_refl, grown_trans, only_stands}
use Rattle.nq_quick.proofs.ChoiceLemmas.{line_stands_grown}
use Rattle.nq_quick.proofs.DecisionLemmas.{assignment_grown}
use Rattle.nq_quick.proofs.ProvingLemmas.{can_prove_grown, true_can, true_denials, false_can, false_denials, atom_stands, atom_in, last_first, goal_literals, goal_same, denied_grown, first_grown}
use Rattle.nq_quick.proofs.InLemmas.{term_in_grown}
use Rattle.nq_quick.proofs.proving.+proving.Goals as goal

pub prove_both-prove-requires : goal.prove_both-prove-requires
prove_both-prove-requires t c =
    let old : Work = c.args.work.now in
    let one : Work = c.deny.new.work in
    let a : Assignment = c.args.assignment.now in
    let first : WorkGrows c.args.history.now old one = c.deny.ensures.grows.grows in
    let can : CanProve one.bank c.args.history.now c.args.goal (c.args.atom ∷ c.args.rest.now) a = can_prove_grown old.bank one.bank c.args.goal (c.args.atom ∷ c.args.rest.now) a first.bank c.requires.can in
    let is : IsIdOf one.bank c.in_ok-denied.denied (not_term (term_at one.bank c.args.atom)) = denied_grown old.bank one.bank c.args.atom c.in_ok-denied.denied first.bank (atom_stands old.bank c.args.goal c.args.atom c.args.rest.now a a c.requires.can) c.in_ok-denied.ensures.denied in
    (omega arith, (first.stands, true_can one.bank c.args.goal c.args.atom c.args.rest.now a c.in_ok-with.with can c.in_ok-denied.denied c.in_ok-with.ensures.0 c.in_ok-with.ensures.1 is))

pub prove_both-returns-in_err-line-clause-grows : goal.prove_both-returns-in_err-line-clause-grows
prove_both-returns-in_err-line-clause-grows t c = grown_trans c.args.history.now c.args.work.now c.deny.new.work c.prove.new.work c.deny.ensures.grows c.prove.ensures.grows

pub prove_both-says-requires-clause-others : goal.prove_both-says-requires-clause-others
prove_both-says-requires-clause-others t c =
    let both : Grows c.args.work.now.bank c.prove.new.work.bank = Grows-trans c.args.work.now.bank c.deny.new.work.bank c.prove.new.work.bank c.deny.ensures.grows.grows.bank c.prove.ensures.grows.grows.bank in
    subst (All (Stands c.prove.new.work.bank)) (sym c.as_slice.ensures.value) (assignment_grown c.args.work.now.bank c.prove.new.work.bank both c.args.assignment.now c.requires.can.assignment).denials

pub prove_both-returns-then-says-clause-grows : goal.prove_both-returns-then-says-clause-grows
prove_both-returns-then-says-clause-grows t c = grown_trans c.args.history.now c.args.work.now c.deny.new.work c.prove.new.work c.deny.ensures.grows c.prove.ensures.grows

pub prove_both-prove_other-requires : goal.prove_both-prove_other-requires
prove_both-prove_other-requires t c =
    let old : Work = c.args.work.now in
    let one : Work = c.deny.new.work in
    let two : Work = c.prove.new.work in
    let a : Assignment = c.args.assignment.now in
    let first : WorkGrows c.args.history.now old one = c.deny.ensures.grows.grows in
    let second : WorkGrows c.args.history.now one two = c.prove.ensures.grows.grows in
    let both : Grows old.bank two.bank = Grows-trans old.bank one.bank two.bank first.bank second.bank in
    let atom_old : Stands old.bank c.args.atom = atom_stands old.bank c.args.goal c.args.atom c.args.rest.now a a c.requires.can in
    let can : CanProve two.bank c.args.history.now c.args.goal (c.args.atom ∷ c.args.rest.now) a = can_prove_grown old.bank two.bank c.args.goal (c.args.atom ∷ c.args.rest.now) a both c.requires.can in
    let is : IsIdOf two.bank c.in_ok-denied.denied (not_term (term_at two.bank c.args.atom)) = denied_grown old.bank two.bank c.args.atom c.in_ok-denied.denied both atom_old (id_grown one.bank two.bank c.in_ok-denied.denied (not_term (term_at old.bank c.args.atom)) second.bank c.in_ok-denied.ensures.denied) in
    let e : denials_at two.bank c.in_ok-with.with ≡ denials_at two.bank a ++ not_term (term_at two.bank c.args.atom) ∷ [] = true_denials two.bank c.args.goal c.args.atom c.args.rest.now a c.in_ok-with.with can c.in_ok-denied.denied c.in_ok-with.ensures.1 is in
    let line : LineHasOnly two c.in_ok-line.line (term_at two.bank c.args.goal ∷ (denials_at two.bank a ++ not_term (term_at two.bank c.args.atom) ∷ [])) = subst (λ (us : Clause). LineHasOnly two c.in_ok-line.line (term_at two.bank c.args.goal ∷ us)) e c.in_ok-line.ensures.line in
    (omega arith, (second.stands, (can, last_first two c.in_ok-line.line (term_at two.bank c.args.goal) (not_term (term_at two.bank c.args.atom)) (denials_at two.bank a) line)))

pub prove_both-returns-clause-grows : goal.prove_both-returns-clause-grows
prove_both-returns-clause-grows t c = grown_trans c.args.history.now c.args.work.now c.deny.new.work c.prove_other.new.work c.deny.ensures.grows (grown_trans c.args.history.now c.deny.new.work c.prove.new.work c.prove_other.new.work c.prove.ensures.grows c.prove_other.ensures.grows)

pub prove_other-prove-requires : goal.prove_other-prove-requires
prove_other-prove-requires t c =
    (omega arith, (c.requires.stands, false_can c.args.work.now.bank c.args.goal c.args.atom c.args.rest.now c.args.assignment.now c.in_ok-without.without c.requires.can c.in_ok-without.ensures.0 c.in_ok-without.ensures.1))

pub prove_other-add_cut-requires-clause-second : goal.prove_other-add_cut-requires-clause-second
prove_other-add_cut-requires-clause-second t c = line_stands_grown c.args.history.now c.args.work.now c.prove.new.work c.args.first c.requires.stands c.prove.ensures.grows.grows (only_stands c.args.work.now c.args.first _ c.requires.first)

pub prove_other-add_cut-requires-clause-term : goal.prove_other-add_cut-requires-clause-term
prove_other-add_cut-requires-clause-term t c = Stands-grown c.args.work.now.bank c.prove.new.work.bank c.args.atom c.prove.ensures.grows.grows.bank (atom_stands c.args.work.now.bank c.args.goal c.args.atom c.args.rest.now c.args.assignment.now c.args.assignment.now c.requires.can)

pub prove_other-returns-clause-line : goal.prove_other-returns-clause-line
prove_other-returns-clause-line t c =
    let old : Work = c.args.work.now in
    let one : Work = c.prove.new.work in
    let new : Work = c.add_cut.new.work in
    let a : Assignment = c.args.assignment.now in
    let first : WorkGrows c.args.history.now old one = c.prove.ensures.grows.grows in
    let atom_old : Stands old.bank c.args.atom = atom_stands old.bank c.args.goal c.args.atom c.args.rest.now a a c.requires.can in
    let can : CanProve one.bank c.args.history.now c.args.goal (c.args.atom ∷ c.args.rest.now) a = can_prove_grown old.bank one.bank c.args.goal (c.args.atom ∷ c.args.rest.now) a first.bank c.requires.can in
    let u : Term = term_at one.bank c.args.atom in
    let these : Clause = goal_literals one.bank c.args.goal a in
    let e : denials_at one.bank c.in_ok-without.without ≡ denials_at one.bank a ++ u ∷ [] = false_denials one.bank c.args.goal c.args.atom c.args.rest.now a c.in_ok-without.without can c.in_ok-without.ensures.1 in
    let line : LineHasOnly one c.in_ok-line.line (term_at one.bank c.args.goal ∷ (denials_at one.bank a ++ u ∷ [])) = subst (λ (us : Clause). LineHasOnly one c.in_ok-line.line (term_at one.bank c.args.goal ∷ us)) e c.in_ok-line.ensures.line in
    let left : LineHasOnly one c.in_ok-line.line (u ∷ these) = last_first one c.in_ok-line.line (term_at one.bank c.args.goal) u (denials_at one.bank a) line in
    let right : LineHasOnly one c.args.first (not_term u ∷ these) = first_grown c.args.history.now old one c.args.first c.args.goal c.args.atom a c.requires.stands first c.requires.can.goal atom_old c.requires.can.assignment c.requires.first in
    for_ok c.add_cut.result (CutsTo one new u c.in_ok-line.line c.args.first) (λ n. LineHasOnly new n (goal_literals new.bank c.args.goal a)) (λ n cuts.
    subst (LineHasOnly new n) (sym (goal_same one.bank new.bank c.args.goal a c.add_cut.ensures.grows.grows.bank can.goal can.assignment)) (cuts these left right)) c.add_cut.ensures.line

pub prove_other-returns-clause-grows : goal.prove_other-returns-clause-grows
prove_other-returns-clause-grows t c = grown_trans c.args.history.now c.args.work.now c.prove.new.work c.add_cut.new.work c.prove.ensures.grows c.add_cut.ensures.grows

pub prove_other-add_cut-requires-clause-over : goal.prove_other-add_cut-requires-clause-over
prove_other-add_cut-requires-clause-over t c = term_in_grown c.args.work.now.bank c.prove.new.work.bank c.args.history.now c.args.atom c.prove.ensures.grows.grows.bank c.requires.stands.history (atom_stands c.args.work.now.bank c.args.goal c.args.atom c.args.rest.now c.args.assignment.now c.args.assignment.now c.requires.can) (atom_in c.args.work.now.bank c.args.goal c.args.atom c.args.rest.now c.args.assignment.now c.args.assignment.now c.requires.can)

pub prove_both-deny-requires-clause-term : goal.prove_both-deny-requires-clause-term
prove_both-deny-requires-clause-term t c = atom_stands c.args.work.now.bank c.args.goal c.args.atom c.args.rest.now c.args.assignment.now c.args.assignment.now c.requires.can

pub prove_other-returns-in_err-without-clause-grows : goal.prove_other-returns-in_err-without-clause-grows
prove_other-returns-in_err-without-clause-grows t c = grown_refl c.args.history.now c.args.work.now c.requires.stands

pub prove_other-says-requires-clause-others : goal.prove_other-says-requires-clause-others
prove_other-says-requires-clause-others t c =
    subst (All (Stands c.prove.new.work.bank)) (sym c.as_slice.ensures.value) (assignment_grown c.args.work.now.bank c.prove.new.work.bank c.prove.ensures.grows.grows.bank c.args.assignment.now c.requires.can.assignment).denials
