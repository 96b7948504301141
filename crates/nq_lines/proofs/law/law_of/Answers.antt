use Rattle.std.proofs.Common.{◌≡◌, ◌∷◌, [], ◌∙◌, sym, ap, ap₂, subst}
use Rattle.std.specs.Prelude.{is_some, IsSome}
use Rattle.nq_logic.specs.Terms.{Term}
use Rattle.nq_logic.specs.Words.{not_term, equal_term, if_term}
use Rattle.nq_bank.specs.Content.{term_at}
use Rattle.nq_bank.specs.Parts.{parts_of}
use Rattle.nq_rule.proofs.Made.{for_ok}
use Rattle.nq_proof.specs.Clauses.{literal_at}
use Rattle.nq_kernel.specs.declared.work.Work.{Work}
use Rattle.nq_kernel.specs.Growing.{WorkGrows}
use Rattle.nq_kernel.proofs.GrowingLemmas.{WorkGrows-trans}
use Rattle.nq_lines.specs.Lines.{LineHasOnly, JoinsTo, CarriesTo}
use Rattle.nq_lines.proofs.LineLemmas.{leads_only, line_grown, only_stands}
use Rattle.nq_lines.proofs.TermLemmas.{term_grown, same_term_grown}
use Rattle.nq_lines.specs.Branches.{HasJoined, if_at}
use Rattle.nq_lines.proofs.BranchLemmas.{branches_grown, if_id}
use Rattle.nq_lines.proofs.LawLemmas.{law_by}
use Rattle.nq_rule.specs.declared.branching.Branches.{Branches}
use Rattle.nq_lines.proofs.LawLemmas.{test_there}
use Rattle.nq_lines.specs.Lines.{CarriesTo}
use Rattle.nq_lines.proofs.law.law_of.Goals as goal

pub equate-requires-clause-left : goal.equate-requires-clause-left
equate-requires-clause-left c = (term_grown c.args.history.now c.args.work.now c.equal_or_not.new.work c.args.before.test c.requires.stands c.equal_or_not.ensures.grows c.requires.before.test)

pub equate-requires-clause-right : goal.equate-requires-clause-right
equate-requires-clause-right c = (term_grown c.args.history.now c.args.work.now c.equal_or_not.new.work c.args.after.test c.requires.stands c.equal_or_not.ensures.grows c.requires.after.test)

pub opposites-requires-clause-term : goal.opposites-requires-clause-term
opposites-requires-clause-term c = c.in_ok-tests.ensures.over

pub condition-requires-clause-parts : goal.condition-requires-clause-parts
condition-requires-clause-parts c = (branches_grown c.args.history.now c.args.work.now c.opposites.new.work c.args.before c.requires.stands (WorkGrows-trans c.args.history.now c.args.work.now c.equal_or_not.new.work c.opposites.new.work c.equal_or_not.ensures.grows (WorkGrows-trans c.args.history.now c.equal_or_not.new.work c.equate.new.work c.opposites.new.work c.equate.ensures.grows c.opposites.ensures.grows)) c.requires.before)

pub condition-requires-2-clause-parts : goal.condition-requires-2-clause-parts
condition-requires-2-clause-parts c = (branches_grown c.args.history.now c.args.work.now c.condition.new.work (record { test = c.args.after.test; first = c.args.before.first; second = c.args.before.second }) c.requires.stands (WorkGrows-trans c.args.history.now c.args.work.now c.equal_or_not.new.work c.condition.new.work c.equal_or_not.ensures.grows (WorkGrows-trans c.args.history.now c.equal_or_not.new.work c.equate.new.work c.condition.new.work c.equate.ensures.grows (WorkGrows-trans c.args.history.now c.equate.new.work c.opposites.new.work c.condition.new.work c.opposites.ensures.grows c.condition.ensures.grows))) (record { test = c.requires.after.test; first = c.requires.before.first; second = c.requires.before.second }))

pub condition-requires-3-clause-parts : goal.condition-requires-3-clause-parts
condition-requires-3-clause-parts c = (branches_grown c.args.history.now c.args.work.now c.condition-2.new.work c.args.after c.requires.stands (WorkGrows-trans c.args.history.now c.args.work.now c.equal_or_not.new.work c.condition-2.new.work c.equal_or_not.ensures.grows (WorkGrows-trans c.args.history.now c.equal_or_not.new.work c.equate.new.work c.condition-2.new.work c.equate.ensures.grows (WorkGrows-trans c.args.history.now c.equate.new.work c.opposites.new.work c.condition-2.new.work c.opposites.ensures.grows (WorkGrows-trans c.args.history.now c.opposites.new.work c.condition.new.work c.condition-2.new.work c.condition.ensures.grows c.condition-2.ensures.grows)))) c.requires.after)

pub congruent_line-requires-clause-call : goal.congruent_line-requires-clause-call
congruent_line-requires-clause-call c = (term_grown c.args.history.now c.condition.new.work c.condition-3.new.work c.in_ok-left.left c.condition.ensures.grows.stands (WorkGrows-trans c.args.history.now c.condition.new.work c.condition-2.new.work c.condition-3.new.work c.condition-2.ensures.grows c.condition-3.ensures.grows) c.in_ok-left.ensures.over)

pub congruent_line-requires-clause-argument : goal.congruent_line-requires-clause-argument
congruent_line-requires-clause-argument c = (term_grown c.args.history.now c.args.work.now c.condition-3.new.work c.args.after.test c.requires.stands (WorkGrows-trans c.args.history.now c.args.work.now c.equal_or_not.new.work c.condition-3.new.work c.equal_or_not.ensures.grows (WorkGrows-trans c.args.history.now c.equal_or_not.new.work c.equate.new.work c.condition-3.new.work c.equate.ensures.grows (WorkGrows-trans c.args.history.now c.equate.new.work c.opposites.new.work c.condition-3.new.work c.opposites.ensures.grows (WorkGrows-trans c.args.history.now c.opposites.new.work c.condition.new.work c.condition-3.new.work c.condition.ensures.grows (WorkGrows-trans c.args.history.now c.condition.new.work c.condition-2.new.work c.condition-3.new.work c.condition-2.ensures.grows c.condition-3.ensures.grows))))) c.requires.after.test)

pub congruent_line-requires-clause-place : goal.congruent_line-requires-clause-place
congruent_line-requires-clause-place c =
    let is = (same_term_grown c.args.history.now c.condition.new.work c.condition-3.new.work c.in_ok-left.left (WorkGrows-trans c.args.history.now c.condition.new.work c.condition-2.new.work c.condition-3.new.work c.condition-2.ensures.grows c.condition-3.ensures.grows) c.in_ok-left.ensures.over) ∙ (if_id c.args.work.now c.opposites.new.work c.condition.new.work c.in_ok-left.left c.args.before (same_term_grown c.args.history.now c.args.work.now c.opposites.new.work c.args.before.test (WorkGrows-trans c.args.history.now c.args.work.now c.equal_or_not.new.work c.opposites.new.work c.equal_or_not.ensures.grows (WorkGrows-trans c.args.history.now c.equal_or_not.new.work c.equate.new.work c.opposites.new.work c.equate.ensures.grows c.opposites.ensures.grows)) c.requires.before.test) (same_term_grown c.args.history.now c.args.work.now c.opposites.new.work c.args.before.first (WorkGrows-trans c.args.history.now c.args.work.now c.equal_or_not.new.work c.opposites.new.work c.equal_or_not.ensures.grows (WorkGrows-trans c.args.history.now c.equal_or_not.new.work c.equate.new.work c.opposites.new.work c.equate.ensures.grows c.opposites.ensures.grows)) c.requires.before.first) (same_term_grown c.args.history.now c.args.work.now c.opposites.new.work c.args.before.second (WorkGrows-trans c.args.history.now c.args.work.now c.equal_or_not.new.work c.opposites.new.work c.equal_or_not.ensures.grows (WorkGrows-trans c.args.history.now c.equal_or_not.new.work c.equate.new.work c.opposites.new.work c.equate.ensures.grows c.opposites.ensures.grows)) c.requires.before.second) c.in_ok-left.ensures.condition).denotes in
    subst (λ t. IsSome (literal_at 1 (parts_of t))) (sym is) (ap is_some (test_there (term_at c.args.work.now.bank c.args.before.test) (term_at c.args.work.now.bank c.args.before.first) (term_at c.args.work.now.bank c.args.before.second)))

pub congruent_line-requires-clause-equation : goal.congruent_line-requires-clause-equation
congruent_line-requires-clause-equation c = (line_grown c.args.history.now c.opposites.new.work c.condition-3.new.work c.in_ok-either.either c.opposites.ensures.grows.stands (WorkGrows-trans c.args.history.now c.opposites.new.work c.condition.new.work c.condition-3.new.work c.condition.ensures.grows (WorkGrows-trans c.args.history.now c.condition.new.work c.condition-2.new.work c.condition-3.new.work c.condition-2.ensures.grows c.condition-3.ensures.grows)) (only_stands c.opposites.new.work c.in_ok-either.either _ (leads_only c.opposites.new.work c.in_ok-either.either _ _ c.in_ok-either.ensures.line)))

pub transitive-requires-clause-left : goal.transitive-requires-clause-left
transitive-requires-clause-left c = (term_grown c.args.history.now c.condition.new.work c.congruent_line.new.work c.in_ok-left.left c.condition.ensures.grows.stands (WorkGrows-trans c.args.history.now c.condition.new.work c.condition-2.new.work c.congruent_line.new.work c.condition-2.ensures.grows (WorkGrows-trans c.args.history.now c.condition-2.new.work c.condition-3.new.work c.congruent_line.new.work c.condition-3.ensures.grows c.congruent_line.ensures.grows)) c.in_ok-left.ensures.over)

pub transitive-requires-clause-middle : goal.transitive-requires-clause-middle
transitive-requires-clause-middle c = (term_grown c.args.history.now c.condition-2.new.work c.congruent_line.new.work c.in_ok-between.between c.condition-2.ensures.grows.stands (WorkGrows-trans c.args.history.now c.condition-2.new.work c.condition-3.new.work c.congruent_line.new.work c.condition-3.ensures.grows c.congruent_line.ensures.grows) c.in_ok-between.ensures.over)

pub transitive-requires-clause-right : goal.transitive-requires-clause-right
transitive-requires-clause-right c = (term_grown c.args.history.now c.condition-3.new.work c.congruent_line.new.work c.in_ok-right.right c.condition-3.ensures.grows.stands c.congruent_line.ensures.grows c.in_ok-right.ensures.over)

pub transitive-requires-clause-first : goal.transitive-requires-clause-first
transitive-requires-clause-first c = c.in_ok-carried.ensures.stands

pub transitive-requires-clause-second : goal.transitive-requires-clause-second
transitive-requires-clause-second c = (line_grown c.args.history.now c.equal_or_not.new.work c.congruent_line.new.work c.in_ok-line.line c.equal_or_not.ensures.grows.stands (WorkGrows-trans c.args.history.now c.equal_or_not.new.work c.equate.new.work c.congruent_line.new.work c.equate.ensures.grows (WorkGrows-trans c.args.history.now c.equate.new.work c.opposites.new.work c.congruent_line.new.work c.opposites.ensures.grows (WorkGrows-trans c.args.history.now c.opposites.new.work c.condition.new.work c.congruent_line.new.work c.condition.ensures.grows (WorkGrows-trans c.args.history.now c.condition.new.work c.condition-2.new.work c.congruent_line.new.work c.condition-2.ensures.grows (WorkGrows-trans c.args.history.now c.condition-2.new.work c.condition-3.new.work c.congruent_line.new.work c.condition-3.ensures.grows c.congruent_line.ensures.grows))))) c.in_ok-line.ensures.stands)

pub returns-in_err-tests-clause-grows : goal.returns-in_err-tests-clause-grows
returns-in_err-tests-clause-grows c = (WorkGrows-trans c.args.history.now c.args.work.now c.equal_or_not.new.work c.equate.new.work c.equal_or_not.ensures.grows c.equate.ensures.grows)

pub returns-in_err-either-clause-grows : goal.returns-in_err-either-clause-grows
returns-in_err-either-clause-grows c = (WorkGrows-trans c.args.history.now c.args.work.now c.equal_or_not.new.work c.opposites.new.work c.equal_or_not.ensures.grows (WorkGrows-trans c.args.history.now c.equal_or_not.new.work c.equate.new.work c.opposites.new.work c.equate.ensures.grows c.opposites.ensures.grows))

pub returns-in_err-left-clause-grows : goal.returns-in_err-left-clause-grows
returns-in_err-left-clause-grows c = (WorkGrows-trans c.args.history.now c.args.work.now c.equal_or_not.new.work c.condition.new.work c.equal_or_not.ensures.grows (WorkGrows-trans c.args.history.now c.equal_or_not.new.work c.equate.new.work c.condition.new.work c.equate.ensures.grows (WorkGrows-trans c.args.history.now c.equate.new.work c.opposites.new.work c.condition.new.work c.opposites.ensures.grows c.condition.ensures.grows)))

pub returns-in_err-between-clause-grows : goal.returns-in_err-between-clause-grows
returns-in_err-between-clause-grows c = (WorkGrows-trans c.args.history.now c.args.work.now c.equal_or_not.new.work c.condition-2.new.work c.equal_or_not.ensures.grows (WorkGrows-trans c.args.history.now c.equal_or_not.new.work c.equate.new.work c.condition-2.new.work c.equate.ensures.grows (WorkGrows-trans c.args.history.now c.equate.new.work c.opposites.new.work c.condition-2.new.work c.opposites.ensures.grows (WorkGrows-trans c.args.history.now c.opposites.new.work c.condition.new.work c.condition-2.new.work c.condition.ensures.grows c.condition-2.ensures.grows))))

pub returns-in_err-right-clause-grows : goal.returns-in_err-right-clause-grows
returns-in_err-right-clause-grows c = (WorkGrows-trans c.args.history.now c.args.work.now c.equal_or_not.new.work c.condition-3.new.work c.equal_or_not.ensures.grows (WorkGrows-trans c.args.history.now c.equal_or_not.new.work c.equate.new.work c.condition-3.new.work c.equate.ensures.grows (WorkGrows-trans c.args.history.now c.equate.new.work c.opposites.new.work c.condition-3.new.work c.opposites.ensures.grows (WorkGrows-trans c.args.history.now c.opposites.new.work c.condition.new.work c.condition-3.new.work c.condition.ensures.grows (WorkGrows-trans c.args.history.now c.condition.new.work c.condition-2.new.work c.condition-3.new.work c.condition-2.ensures.grows c.condition-3.ensures.grows)))))

pub returns-in_err-carried-clause-grows : goal.returns-in_err-carried-clause-grows
returns-in_err-carried-clause-grows c = (WorkGrows-trans c.args.history.now c.args.work.now c.equal_or_not.new.work c.congruent_line.new.work c.equal_or_not.ensures.grows (WorkGrows-trans c.args.history.now c.equal_or_not.new.work c.equate.new.work c.congruent_line.new.work c.equate.ensures.grows (WorkGrows-trans c.args.history.now c.equate.new.work c.opposites.new.work c.congruent_line.new.work c.opposites.ensures.grows (WorkGrows-trans c.args.history.now c.opposites.new.work c.condition.new.work c.congruent_line.new.work c.condition.ensures.grows (WorkGrows-trans c.args.history.now c.condition.new.work c.condition-2.new.work c.congruent_line.new.work c.condition-2.ensures.grows (WorkGrows-trans c.args.history.now c.condition-2.new.work c.condition-3.new.work c.congruent_line.new.work c.condition-3.ensures.grows c.congruent_line.ensures.grows))))))

pub returns-clause-grows : goal.returns-clause-grows
returns-clause-grows c = (WorkGrows-trans c.args.history.now c.args.work.now c.equal_or_not.new.work c.transitive.new.work c.equal_or_not.ensures.grows (WorkGrows-trans c.args.history.now c.equal_or_not.new.work c.equate.new.work c.transitive.new.work c.equate.ensures.grows (WorkGrows-trans c.args.history.now c.equate.new.work c.opposites.new.work c.transitive.new.work c.opposites.ensures.grows (WorkGrows-trans c.args.history.now c.opposites.new.work c.condition.new.work c.transitive.new.work c.condition.ensures.grows (WorkGrows-trans c.args.history.now c.condition.new.work c.condition-2.new.work c.transitive.new.work c.condition-2.ensures.grows (WorkGrows-trans c.args.history.now c.condition-2.new.work c.condition-3.new.work c.transitive.new.work c.condition-3.ensures.grows (WorkGrows-trans c.args.history.now c.condition-3.new.work c.congruent_line.new.work c.transitive.new.work c.congruent_line.ensures.grows c.transitive.ensures.grows)))))))

pub returns-clause-line : goal.returns-clause-line
returns-clause-line c =
    let h = c.args.history.now in
    let w0 : Work = c.args.work.now in
    let w1 : Work = c.equal_or_not.new.work in
    let w2 : Work = c.equate.new.work in
    let w3 : Work = c.opposites.new.work in
    let w4 : Work = c.condition.new.work in
    let w5 : Work = c.condition-2.new.work in
    let w6 : Work = c.condition-3.new.work in
    let w7 : Work = c.congruent_line.new.work in
    let w8 : Work = c.transitive.new.work in
    let g01 : WorkGrows h w0 w1 = c.equal_or_not.ensures.grows in
    let g03 : WorkGrows h w0 w3 = (WorkGrows-trans c.args.history.now c.args.work.now c.equal_or_not.new.work c.opposites.new.work c.equal_or_not.ensures.grows (WorkGrows-trans c.args.history.now c.equal_or_not.new.work c.equate.new.work c.opposites.new.work c.equate.ensures.grows c.opposites.ensures.grows)) in
    let g04 : WorkGrows h w0 w4 = (WorkGrows-trans c.args.history.now c.args.work.now c.equal_or_not.new.work c.condition.new.work c.equal_or_not.ensures.grows (WorkGrows-trans c.args.history.now c.equal_or_not.new.work c.equate.new.work c.condition.new.work c.equate.ensures.grows (WorkGrows-trans c.args.history.now c.equate.new.work c.opposites.new.work c.condition.new.work c.opposites.ensures.grows c.condition.ensures.grows))) in
    let g05 : WorkGrows h w0 w5 = (WorkGrows-trans c.args.history.now c.args.work.now c.equal_or_not.new.work c.condition-2.new.work c.equal_or_not.ensures.grows (WorkGrows-trans c.args.history.now c.equal_or_not.new.work c.equate.new.work c.condition-2.new.work c.equate.ensures.grows (WorkGrows-trans c.args.history.now c.equate.new.work c.opposites.new.work c.condition-2.new.work c.opposites.ensures.grows (WorkGrows-trans c.args.history.now c.opposites.new.work c.condition.new.work c.condition-2.new.work c.condition.ensures.grows c.condition-2.ensures.grows)))) in
    let g06 : WorkGrows h w0 w6 = (WorkGrows-trans c.args.history.now c.args.work.now c.equal_or_not.new.work c.condition-3.new.work c.equal_or_not.ensures.grows (WorkGrows-trans c.args.history.now c.equal_or_not.new.work c.equate.new.work c.condition-3.new.work c.equate.ensures.grows (WorkGrows-trans c.args.history.now c.equate.new.work c.opposites.new.work c.condition-3.new.work c.opposites.ensures.grows (WorkGrows-trans c.args.history.now c.opposites.new.work c.condition.new.work c.condition-3.new.work c.condition.ensures.grows (WorkGrows-trans c.args.history.now c.condition.new.work c.condition-2.new.work c.condition-3.new.work c.condition-2.ensures.grows c.condition-3.ensures.grows))))) in
    let g07 : WorkGrows h w0 w7 = (WorkGrows-trans c.args.history.now c.args.work.now c.equal_or_not.new.work c.congruent_line.new.work c.equal_or_not.ensures.grows (WorkGrows-trans c.args.history.now c.equal_or_not.new.work c.equate.new.work c.congruent_line.new.work c.equate.ensures.grows (WorkGrows-trans c.args.history.now c.equate.new.work c.opposites.new.work c.congruent_line.new.work c.opposites.ensures.grows (WorkGrows-trans c.args.history.now c.opposites.new.work c.condition.new.work c.congruent_line.new.work c.condition.ensures.grows (WorkGrows-trans c.args.history.now c.condition.new.work c.condition-2.new.work c.congruent_line.new.work c.condition-2.ensures.grows (WorkGrows-trans c.args.history.now c.condition-2.new.work c.condition-3.new.work c.congruent_line.new.work c.condition-3.ensures.grows c.congruent_line.ensures.grows)))))) in
    let g17 : WorkGrows h w1 w7 = (WorkGrows-trans c.args.history.now c.equal_or_not.new.work c.equate.new.work c.congruent_line.new.work c.equate.ensures.grows (WorkGrows-trans c.args.history.now c.equate.new.work c.opposites.new.work c.congruent_line.new.work c.opposites.ensures.grows (WorkGrows-trans c.args.history.now c.opposites.new.work c.condition.new.work c.congruent_line.new.work c.condition.ensures.grows (WorkGrows-trans c.args.history.now c.condition.new.work c.condition-2.new.work c.congruent_line.new.work c.condition-2.ensures.grows (WorkGrows-trans c.args.history.now c.condition-2.new.work c.condition-3.new.work c.congruent_line.new.work c.condition-3.ensures.grows c.congruent_line.ensures.grows))))) in
    let g36 : WorkGrows h w3 w6 = (WorkGrows-trans c.args.history.now c.opposites.new.work c.condition.new.work c.condition-3.new.work c.condition.ensures.grows (WorkGrows-trans c.args.history.now c.condition.new.work c.condition-2.new.work c.condition-3.new.work c.condition-2.ensures.grows c.condition-3.ensures.grows)) in
    let g46 : WorkGrows h w4 w6 = (WorkGrows-trans c.args.history.now c.condition.new.work c.condition-2.new.work c.condition-3.new.work c.condition-2.ensures.grows c.condition-3.ensures.grows) in
    let g47 : WorkGrows h w4 w7 = (WorkGrows-trans c.args.history.now c.condition.new.work c.condition-2.new.work c.congruent_line.new.work c.condition-2.ensures.grows (WorkGrows-trans c.args.history.now c.condition-2.new.work c.condition-3.new.work c.congruent_line.new.work c.condition-3.ensures.grows c.congruent_line.ensures.grows)) in
    let g57 : WorkGrows h w5 w7 = (WorkGrows-trans c.args.history.now c.condition-2.new.work c.condition-3.new.work c.congruent_line.new.work c.condition-3.ensures.grows c.congruent_line.ensures.grows) in
    let g67 : WorkGrows h w6 w7 = c.congruent_line.ensures.grows in
    let b = c.args.before in
    let a = c.args.after in
    let m0 : Branches = record { test = a.test; first = b.first; second = b.second } in
    let p : Term = term_at w0.bank b.test in
    let q : Term = term_at w0.bank a.test in
    let x : Term = term_at w0.bank b.first in
    let y : Term = term_at w0.bank b.second in
    let r : Term = if_at w0.bank a in
    let m : Term = if_term (not_term q) (equal_term y (term_at w0.bank a.second)) (equal_term x (term_at w0.bank a.first)) in
    let tests : term_at w2.bank c.in_ok-tests.tests ≡ equal_term p q = c.in_ok-tests.ensures.equation.denotes ∙ ap₂ equal_term (same_term_grown h w0 w1 b.test g01 c.requires.before.test) (same_term_grown h w0 w1 a.test g01 c.requires.after.test) in
    let either : LineHasOnly w3 c.in_ok-either.either (equal_term p q ∷ not_term (equal_term p q) ∷ []) = subst (λ z. LineHasOnly w3 c.in_ok-either.either (z ∷ not_term z ∷ [])) tests (leads_only w3 c.in_ok-either.either _ _ c.in_ok-either.ensures.line) in
    let left : term_at w4.bank c.in_ok-left.left ≡ if_term p x y = (if_id w0 w3 w4 c.in_ok-left.left b (same_term_grown h w0 w3 b.test g03 c.requires.before.test) (same_term_grown h w0 w3 b.first g03 c.requires.before.first) (same_term_grown h w0 w3 b.second g03 c.requires.before.second) c.in_ok-left.ensures.condition).denotes in
    let between : term_at w5.bank c.in_ok-between.between ≡ if_term q x y = (if_id w0 w4 w5 c.in_ok-between.between m0 (same_term_grown h w0 w4 m0.test g04 c.requires.after.test) (same_term_grown h w0 w4 m0.first g04 c.requires.before.first) (same_term_grown h w0 w4 m0.second g04 c.requires.before.second) c.in_ok-between.ensures.condition).denotes in
    let right : term_at w6.bank c.in_ok-right.right ≡ r = (if_id w0 w5 w6 c.in_ok-right.right a (same_term_grown h w0 w5 a.test g05 c.requires.after.test) (same_term_grown h w0 w5 a.first g05 c.requires.after.first) (same_term_grown h w0 w5 a.second g05 c.requires.after.second) c.in_ok-right.ensures.condition).denotes in
    let carries = (subst (λ z. CarriesTo w6 w7 1 (if_term p x y) z c.in_ok-either.either c.in_ok-carried.carried) (same_term_grown h w0 w6 a.test g06 c.requires.after.test) (subst (λ z. CarriesTo w6 w7 1 z (term_at w6.bank a.test) c.in_ok-either.either c.in_ok-carried.carried) (same_term_grown h w4 w6 c.in_ok-left.left g46 c.in_ok-left.ensures.over ∙ left) c.in_ok-carried.ensures.line)) in
    for_ok c.transitive.result (JoinsTo w7 w8 (term_at w7.bank c.in_ok-left.left) (term_at w7.bank c.in_ok-between.between) (term_at w7.bank c.in_ok-right.right) c.in_ok-carried.carried c.in_ok-line.line) (HasJoined w0 w8 b a) (λ n f.
    law_by h w1 w3 w6 w7 w8 p q x y r m c.in_ok-either.either c.in_ok-carried.carried c.in_ok-line.line n g36 g17 c.equal_or_not.ensures.grows.stands c.opposites.ensures.grows.stands either carries c.in_ok-line.ensures.line (subst (λ z. JoinsTo w7 w8 (if_term p x y) (if_term q x y) z c.in_ok-carried.carried c.in_ok-line.line n) (same_term_grown h w6 w7 c.in_ok-right.right g67 c.in_ok-right.ensures.over ∙ right) (subst (λ z. JoinsTo w7 w8 (if_term p x y) z (term_at w7.bank c.in_ok-right.right) c.in_ok-carried.carried c.in_ok-line.line n) (same_term_grown h w5 w7 c.in_ok-between.between g57 c.in_ok-between.ensures.over ∙ between) (subst (λ z. JoinsTo w7 w8 z (term_at w7.bank c.in_ok-between.between) (term_at w7.bank c.in_ok-right.right) c.in_ok-carried.carried c.in_ok-line.line n) (same_term_grown h w4 w7 c.in_ok-left.left g47 c.in_ok-left.ensures.over ∙ left) f)))) c.transitive.ensures.line
