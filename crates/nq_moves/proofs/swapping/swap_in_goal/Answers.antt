use Rattle.std.proofs.Common.{◌≡◌, ◌∙◌, map, ap, sym, subst}
use Rattle.std.specs.Prelude.{All, IsSome}
use Rattle.nq_bank.specs.Content.{Stands, term_at, terms_at}
use Rattle.nq_bank.specs.Parts.{parts_of}
use Rattle.nq_proof.specs.Clauses.{literal_at, distinct}
use Rattle.nq_kernel.proofs.GrowingLemmas.{WorkGrows-refl}
use Rattle.nq_lines.specs.Lines.{IsTermIn}
use Rattle.nq_rule.proofs.Made.{for_ok}
use Rattle.nq_moves.specs.Swapped.{reading_at, CrossingStands, swapped_literal, swapped_goal}
use Rattle.nq_moves.proofs.ClosingLemmas.{all_stand}
use Rattle.nq_moves.proofs.EqualLemmas.{both_ok}
use Rattle.nq_moves.proofs.SwappedLemmas.{rest_in, child_in, if_some}
use Rattle.nq_moves.proofs.swapping.swap_in_goal.Goals as goal

pub clause_without-requires-clause-terms : goal.clause_without-requires-clause-terms
clause_without-requires-clause-terms c = all_stand c.args.history.now c.args.work.now c.args.goal.now c.requires.goal

pub returns-in_err-rest-clause-grows : goal.returns-in_err-rest-clause-grows
returns-in_err-rest-clause-grows c = WorkGrows-refl c.args.history.now c.args.work.now c.requires.stands

pub swap_literals-requires-clause-terms : goal.swap_literals-requires-clause-terms
swap_literals-requires-clause-terms c =
    subst (All (IsTermIn c.args.history.now c.args.work.now)) (sym c.as_slice.ensures.value) (rest_in c.args.history.now c.args.work.now c.args.work.now c.args.goal.now c.in_ok-rest.rest.items c.in_ok-rest.rest.items c.in_ok-rest.rest.items c.args.r c.requires.goal c.in_ok-rest.ensures.stand c.in_ok-rest.ensures.clause)

pub swap_literals-requires-clause-whole : goal.swap_literals-requires-clause-whole
swap_literals-requires-clause-whole c = if_some c.args.crossing (CrossingStands c.args.history.now c.args.work.now c.args.goal.now) (λ x. IsTermIn c.args.history.now c.args.work.now x.whole) (λ x k. k.whole) c.requires.crossing

pub swap_literals-requires-clause-place : goal.swap_literals-requires-clause-place
swap_literals-requires-clause-place c = if_some c.args.crossing (CrossingStands c.args.history.now c.args.work.now c.args.goal.now) (λ x. IsSome (literal_at x.place (parts_of (term_at c.args.work.now.bank x.whole)))) (λ x k. k.place) c.requires.crossing

pub distinct_clause-requires : goal.distinct_clause-requires
distinct_clause-requires c =
    let new = c.swap_literals.new.work in
    subst (All (Stands new.bank)) (sym c.as_slice-2.ensures.value) (all_stand c.args.history.now new c.in_ok-made.made.items c.in_ok-made.ensures.over)

pub returns-clause-child : goal.returns-clause-child
returns-clause-child c =
    let old = c.args.work.now in
    let new = c.swap_literals.new.work in
    let X = swapped_literal old.bank (reading_at old.bank c.args.r) c.args.crossing in
    let made = c.in_ok-made.ensures.terms ∙ ap (λ xs. map X (terms_at old.bank xs)) c.as_slice.ensures.value ∙ ap (map X) c.in_ok-rest.ensures.clause in
    for_ok c.distinct_clause.result (λ v. terms_at new.bank v.items ≡ distinct (terms_at new.bank c.as_slice-2.result.now)) (λ v. terms_at new.bank v.items ≡ swapped_goal old.bank c.args.r c.args.crossing c.args.goal.now)
    (λ v is. is ∙ ap (λ xs. distinct (terms_at new.bank xs)) c.as_slice-2.ensures.value ∙ ap distinct made) c.distinct_clause.ensures.clause

pub returns-clause-over : goal.returns-clause-over
returns-clause-over c =
    let new = c.swap_literals.new.work in
    let made = c.in_ok-made.made.items in
    both_ok c.distinct_clause.result (λ v. terms_at new.bank v.items ≡ distinct (terms_at new.bank c.as_slice-2.result.now)) (λ v. All (Stands new.bank) v.items) (λ v. All (IsTermIn c.args.history.now new) v.items)
    (λ v is stand. child_in c.args.history.now c.args.work.now new c.args.goal.now made made v.items c.args.r c.in_ok-made.ensures.over stand (is ∙ ap (λ xs. distinct (terms_at new.bank xs)) c.as_slice-2.ensures.value)) c.distinct_clause.ensures.clause c.distinct_clause.ensures.stand
