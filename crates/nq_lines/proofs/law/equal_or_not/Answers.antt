use Rattle.std.proofs.Common.{◌∷◌, [], ◌∙◌, List, subst}
use Rattle.nq_logic.specs.Terms.{Term}
use Rattle.nq_logic.specs.Words.{not_term, equal_term, if_term}
use Rattle.nq_bank.specs.Content.{term_at}
use Rattle.nq_rule.proofs.Made.{for_ok}
use Rattle.nq_kernel.specs.declared.work.Work.{Work}
use Rattle.nq_kernel.specs.Growing.{WorkGrows}
use Rattle.nq_kernel.proofs.GrowingLemmas.{WorkGrows-trans}
use Rattle.nq_lines.specs.Lines.{LineHasOnly, MakesOf}
use Rattle.nq_lines.proofs.LineLemmas.{line_grown, only_stands}
use Rattle.nq_lines.proofs.TermLemmas.{term_grown, same_term_grown}
use Rattle.nq_lines.specs.Branches.{if_at}
use Rattle.nq_lines.specs.Law.{AreEqualBranches, IsJoined, moved_at}
use Rattle.nq_lines.proofs.BranchLemmas.{branches_grown}
use Rattle.nq_lines.proofs.LawLemmas.{joined_parts}
use Rattle.nq_rule.specs.declared.branching.Branches.{Branches}
use Rattle.nq_lines.proofs.law.equal_or_not.Goals as goal

pub undeny-requires-clause-term : goal.undeny-requires-clause-term
undeny-requires-clause-term c = (term_grown c.args.history.now c.args.work.now c.first_part.new.work c.args.after.test c.requires.stands (WorkGrows-trans c.args.history.now c.args.work.now c.equations.new.work c.first_part.new.work c.equations.ensures.grows c.first_part.ensures.grows) c.requires.after.test)

pub undeny-requires-clause-line : goal.undeny-requires-clause-line
undeny-requires-clause-line c = only_stands c.first_part.new.work c.in_ok-denied.denied _ c.in_ok-denied.ensures.line

pub second_part-requires-clause-parts : goal.second_part-requires-clause-parts
second_part-requires-clause-parts c = (branches_grown c.args.history.now c.equations.new.work c.undeny.new.work c.in_ok-parts.parts c.equations.ensures.grows.stands (WorkGrows-trans c.args.history.now c.equations.new.work c.first_part.new.work c.undeny.new.work c.first_part.ensures.grows c.undeny.ensures.grows) c.in_ok-parts.ensures.over)

pub equal_branches-requires-clause-before : goal.equal_branches-requires-clause-before
equal_branches-requires-clause-before c = (branches_grown c.args.history.now c.args.work.now c.second_part.new.work c.args.before c.requires.stands (WorkGrows-trans c.args.history.now c.args.work.now c.equations.new.work c.second_part.new.work c.equations.ensures.grows (WorkGrows-trans c.args.history.now c.equations.new.work c.first_part.new.work c.second_part.new.work c.first_part.ensures.grows (WorkGrows-trans c.args.history.now c.first_part.new.work c.undeny.new.work c.second_part.new.work c.undeny.ensures.grows c.second_part.ensures.grows))) c.requires.before)

pub equal_branches-requires-clause-after : goal.equal_branches-requires-clause-after
equal_branches-requires-clause-after c = (branches_grown c.args.history.now c.args.work.now c.second_part.new.work c.args.after c.requires.stands (WorkGrows-trans c.args.history.now c.args.work.now c.equations.new.work c.second_part.new.work c.equations.ensures.grows (WorkGrows-trans c.args.history.now c.equations.new.work c.first_part.new.work c.second_part.new.work c.first_part.ensures.grows (WorkGrows-trans c.args.history.now c.first_part.new.work c.undeny.new.work c.second_part.new.work c.undeny.ensures.grows c.second_part.ensures.grows))) c.requires.after)

pub equal_branches-requires-clause-first : goal.equal_branches-requires-clause-first
equal_branches-requires-clause-first c = only_stands c.second_part.new.work c.in_ok-first.first _ c.in_ok-first.ensures.line

pub equal_branches-requires-clause-second : goal.equal_branches-requires-clause-second
equal_branches-requires-clause-second c = (line_grown c.args.history.now c.undeny.new.work c.second_part.new.work c.in_ok-second.second c.undeny.ensures.grows.stands c.second_part.ensures.grows c.in_ok-second.ensures.stands)

pub returns-in_err-denied-clause-grows : goal.returns-in_err-denied-clause-grows
returns-in_err-denied-clause-grows c = (WorkGrows-trans c.args.history.now c.args.work.now c.equations.new.work c.first_part.new.work c.equations.ensures.grows c.first_part.ensures.grows)

pub returns-in_err-second-clause-grows : goal.returns-in_err-second-clause-grows
returns-in_err-second-clause-grows c = (WorkGrows-trans c.args.history.now c.args.work.now c.equations.new.work c.undeny.new.work c.equations.ensures.grows (WorkGrows-trans c.args.history.now c.equations.new.work c.first_part.new.work c.undeny.new.work c.first_part.ensures.grows c.undeny.ensures.grows))

pub returns-in_err-first-clause-grows : goal.returns-in_err-first-clause-grows
returns-in_err-first-clause-grows c = (WorkGrows-trans c.args.history.now c.args.work.now c.equations.new.work c.second_part.new.work c.equations.ensures.grows (WorkGrows-trans c.args.history.now c.equations.new.work c.first_part.new.work c.second_part.new.work c.first_part.ensures.grows (WorkGrows-trans c.args.history.now c.first_part.new.work c.undeny.new.work c.second_part.new.work c.undeny.ensures.grows c.second_part.ensures.grows)))

pub returns-clause-grows : goal.returns-clause-grows
returns-clause-grows c = (WorkGrows-trans c.args.history.now c.args.work.now c.equations.new.work c.equal_branches.new.work c.equations.ensures.grows (WorkGrows-trans c.args.history.now c.equations.new.work c.first_part.new.work c.equal_branches.new.work c.first_part.ensures.grows (WorkGrows-trans c.args.history.now c.first_part.new.work c.undeny.new.work c.equal_branches.new.work c.undeny.ensures.grows (WorkGrows-trans c.args.history.now c.undeny.new.work c.second_part.new.work c.equal_branches.new.work c.second_part.ensures.grows c.equal_branches.ensures.grows))))

pub returns-clause-line : goal.returns-clause-line
returns-clause-line c =
    let h = c.args.history.now in
    let w0 : Work = c.args.work.now in
    let w1 : Work = c.equations.new.work in
    let w2 : Work = c.first_part.new.work in
    let w3 : Work = c.undeny.new.work in
    let w4 : Work = c.second_part.new.work in
    let w5 : Work = c.equal_branches.new.work in
    let g02 : WorkGrows h w0 w2 = (WorkGrows-trans c.args.history.now c.args.work.now c.equations.new.work c.first_part.new.work c.equations.ensures.grows c.first_part.ensures.grows) in
    let g04 : WorkGrows h w0 w4 = (WorkGrows-trans c.args.history.now c.args.work.now c.equations.new.work c.second_part.new.work c.equations.ensures.grows (WorkGrows-trans c.args.history.now c.equations.new.work c.first_part.new.work c.second_part.new.work c.first_part.ensures.grows (WorkGrows-trans c.args.history.now c.first_part.new.work c.undeny.new.work c.second_part.new.work c.undeny.ensures.grows c.second_part.ensures.grows))) in
    let g13 : WorkGrows h w1 w3 = (WorkGrows-trans c.args.history.now c.equations.new.work c.first_part.new.work c.undeny.new.work c.first_part.ensures.grows c.undeny.ensures.grows) in
    let g23 : WorkGrows h w2 w3 = c.undeny.ensures.grows in
    let g34 : WorkGrows h w3 w4 = c.second_part.ensures.grows in
    let b = c.args.before in
    let a = c.args.after in
    let parts : Branches = c.in_ok-parts.parts in
    let eqs = c.in_ok-parts.ensures.parts in
    let over = c.in_ok-parts.ensures.over in
    let q : Term = term_at w0.bank a.test in
    let x : Term = equal_term (term_at w0.bank b.first) (term_at w0.bank a.first) in
    let y : Term = equal_term (term_at w0.bank b.second) (term_at w0.bank a.second) in
    let m : Term = if_term (not_term q) y x in
    let e : Term = equal_term (moved_at w0.bank b a) (if_at w0.bank a) in
    let denied : LineHasOnly w2 c.in_ok-denied.denied (y ∷ not_term (not_term q) ∷ not_term m ∷ []) = (subst (λ z. LineHasOnly w2 c.in_ok-denied.denied (y ∷ not_term (not_term q) ∷ not_term (if_term (not_term q) y z) ∷ [])) eqs.second.denotes (subst (λ z. LineHasOnly w2 c.in_ok-denied.denied (z ∷ not_term (not_term q) ∷ not_term (if_term (not_term q) z (term_at w1.bank parts.second)) ∷ [])) eqs.first.denotes (subst (λ z. LineHasOnly w2 c.in_ok-denied.denied ((term_at w1.bank parts.first) ∷ not_term z ∷ not_term (if_term z (term_at w1.bank parts.first) (term_at w1.bank parts.second)) ∷ [])) eqs.test.denotes c.in_ok-denied.ensures.line))) in
    let first : LineHasOnly w4 c.in_ok-first.first (x ∷ not_term q ∷ not_term m ∷ []) = (subst (λ z. LineHasOnly w4 c.in_ok-first.first (z ∷ (not_term q) ∷ not_term (if_term (not_term q) y z) ∷ [])) (same_term_grown h w1 w3 parts.second g13 over.second ∙ eqs.second.denotes) (subst (λ z. LineHasOnly w4 c.in_ok-first.first ((term_at w3.bank parts.second) ∷ (not_term q) ∷ not_term (if_term (not_term q) z (term_at w3.bank parts.second)) ∷ [])) (same_term_grown h w1 w3 parts.first g13 over.first ∙ eqs.first.denotes) (subst (λ z. LineHasOnly w4 c.in_ok-first.first ((term_at w3.bank parts.second) ∷ z ∷ not_term (if_term z (term_at w3.bank parts.first) (term_at w3.bank parts.second)) ∷ [])) (same_term_grown h w1 w3 parts.test g13 over.test ∙ eqs.test.denotes) c.in_ok-first.ensures.line))) in
    let makes = subst (λ z. MakesOf w2 w3 (not_term (not_term z)) z c.in_ok-denied.denied c.in_ok-second.second) (same_term_grown h w0 w2 a.test g02 c.requires.after.test) c.in_ok-second.ensures.line in
    for_ok c.equal_branches.result (AreEqualBranches w4 w5 b a c.in_ok-first.first c.in_ok-second.second) (IsJoined w0 w5 b a) (λ n f.
    joined_parts h w2 w3 w4 w5 e x y q m c.in_ok-denied.denied c.in_ok-second.second c.in_ok-first.first n g23 g34 denied makes first (subst (λ z. (these : List Term) → LineHasOnly w4 c.in_ok-first.first (equal_term (term_at w0.bank b.first) (term_at w0.bank a.first) ∷ not_term (term_at w0.bank a.test) ∷ these) → LineHasOnly w4 c.in_ok-second.second (equal_term z (term_at w0.bank a.second) ∷ (term_at w0.bank a.test) ∷ these) → LineHasOnly w5 n (equal_term (if_term (term_at w0.bank a.test) (term_at w0.bank b.first) z) (if_term (term_at w0.bank a.test) (term_at w0.bank a.first) (term_at w0.bank a.second)) ∷ these)) (same_term_grown h w0 w4 b.second g04 c.requires.before.second) (subst (λ z. (these : List Term) → LineHasOnly w4 c.in_ok-first.first (equal_term z (term_at w0.bank a.first) ∷ not_term (term_at w0.bank a.test) ∷ these) → LineHasOnly w4 c.in_ok-second.second (equal_term (term_at w4.bank b.second) (term_at w0.bank a.second) ∷ (term_at w0.bank a.test) ∷ these) → LineHasOnly w5 n (equal_term (if_term (term_at w0.bank a.test) z (term_at w4.bank b.second)) (if_term (term_at w0.bank a.test) (term_at w0.bank a.first) (term_at w0.bank a.second)) ∷ these)) (same_term_grown h w0 w4 b.first g04 c.requires.before.first) (subst (λ z. (these : List Term) → LineHasOnly w4 c.in_ok-first.first (equal_term (term_at w4.bank b.first) (term_at w0.bank a.first) ∷ not_term (term_at w0.bank a.test) ∷ these) → LineHasOnly w4 c.in_ok-second.second (equal_term (term_at w4.bank b.second) z ∷ (term_at w0.bank a.test) ∷ these) → LineHasOnly w5 n (equal_term (if_term (term_at w0.bank a.test) (term_at w4.bank b.first) (term_at w4.bank b.second)) (if_term (term_at w0.bank a.test) (term_at w0.bank a.first) z) ∷ these)) (same_term_grown h w0 w4 a.second g04 c.requires.after.second) (subst (λ z. (these : List Term) → LineHasOnly w4 c.in_ok-first.first (equal_term (term_at w4.bank b.first) z ∷ not_term (term_at w0.bank a.test) ∷ these) → LineHasOnly w4 c.in_ok-second.second (equal_term (term_at w4.bank b.second) (term_at w4.bank a.second) ∷ (term_at w0.bank a.test) ∷ these) → LineHasOnly w5 n (equal_term (if_term (term_at w0.bank a.test) (term_at w4.bank b.first) (term_at w4.bank b.second)) (if_term (term_at w0.bank a.test) z (term_at w4.bank a.second)) ∷ these)) (same_term_grown h w0 w4 a.first g04 c.requires.after.first) (subst (λ z. (these : List Term) → LineHasOnly w4 c.in_ok-first.first (equal_term (term_at w4.bank b.first) (term_at w4.bank a.first) ∷ not_term z ∷ these) → LineHasOnly w4 c.in_ok-second.second (equal_term (term_at w4.bank b.second) (term_at w4.bank a.second) ∷ z ∷ these) → LineHasOnly w5 n (equal_term (if_term z (term_at w4.bank b.first) (term_at w4.bank b.second)) (if_term z (term_at w4.bank a.first) (term_at w4.bank a.second)) ∷ these)) (same_term_grown h w0 w4 a.test g04 c.requires.after.test) f)))))) c.equal_branches.ensures.line
