use Rattle.std.proofs.Common.{◌∷◌, List, subst}
use Rattle.nq_logic.specs.Terms.{Term}
use Rattle.nq_logic.specs.Words.{equal_term, if_term}
use Rattle.nq_bank.specs.Content.{term_at}
use Rattle.nq_rule.proofs.Made.{for_ok}
use Rattle.nq_kernel.specs.declared.work.Work.{Work}
use Rattle.nq_kernel.specs.Growing.{WorkGrows}
use Rattle.nq_kernel.proofs.GrowingLemmas.{WorkGrows-trans}
use Rattle.nq_lines.specs.Lines.{LineHasOnly, CutsTo}
use Rattle.nq_lines.proofs.LineLemmas.{line_grown}
use Rattle.nq_lines.proofs.TermLemmas.{term_grown, same_term_grown}
use Rattle.nq_lines.proofs.Chains.{cuts_by}
use Rattle.nq_lines.specs.Branches.{if_at}
use Rattle.nq_lines.specs.Law.{AreEqualBranches, moved_at}
use Rattle.nq_lines.proofs.BranchLemmas.{branches_grown}
use Rattle.nq_lines.proofs.LawLemmas.{equal_by}
use Rattle.nq_lines.proofs.law.equal_branches.Goals as goal

pub second_case-requires-clause-before : goal.second_case-requires-clause-before
second_case-requires-clause-before c = (branches_grown c.args.history.now c.args.work.now c.first_case.new.work c.args.before c.requires.stands c.first_case.ensures.grows c.requires.before)

pub second_case-requires-clause-after : goal.second_case-requires-clause-after
second_case-requires-clause-after c = (branches_grown c.args.history.now c.args.work.now c.first_case.new.work c.args.after c.requires.stands c.first_case.ensures.grows c.requires.after)

pub second_case-requires-clause-shown : goal.second_case-requires-clause-shown
second_case-requires-clause-shown c = (line_grown c.args.history.now c.args.work.now c.first_case.new.work c.args.second c.requires.stands c.first_case.ensures.grows c.requires.second)

pub cut-requires-clause-second : goal.cut-requires-clause-second
cut-requires-clause-second c = (line_grown c.args.history.now c.first_case.new.work c.second_case.new.work c.in_ok-one.one c.first_case.ensures.grows.stands c.second_case.ensures.grows c.in_ok-one.ensures.stands)

pub cut-requires-clause-term : goal.cut-requires-clause-term
cut-requires-clause-term c = (term_grown c.args.history.now c.args.work.now c.second_case.new.work c.args.after.test c.requires.stands (WorkGrows-trans c.args.history.now c.args.work.now c.first_case.new.work c.second_case.new.work c.first_case.ensures.grows c.second_case.ensures.grows) c.requires.after.test)

pub returns-in_err-two-clause-grows : goal.returns-in_err-two-clause-grows
returns-in_err-two-clause-grows c = (WorkGrows-trans c.args.history.now c.args.work.now c.first_case.new.work c.second_case.new.work c.first_case.ensures.grows c.second_case.ensures.grows)

pub returns-clause-grows : goal.returns-clause-grows
returns-clause-grows c = (WorkGrows-trans c.args.history.now c.args.work.now c.first_case.new.work c.cut.new.work c.first_case.ensures.grows (WorkGrows-trans c.args.history.now c.first_case.new.work c.second_case.new.work c.cut.new.work c.second_case.ensures.grows c.cut.ensures.grows))

pub returns-clause-line : goal.returns-clause-line
returns-clause-line c =
    let h = c.args.history.now in
    let w0 : Work = c.args.work.now in
    let w1 : Work = c.first_case.new.work in
    let w2 : Work = c.second_case.new.work in
    let w3 : Work = c.cut.new.work in
    let g01 : WorkGrows h w0 w1 = c.first_case.ensures.grows in
    let g02 : WorkGrows h w0 w2 = (WorkGrows-trans c.args.history.now c.args.work.now c.first_case.new.work c.second_case.new.work c.first_case.ensures.grows c.second_case.ensures.grows) in
    let g12 : WorkGrows h w1 w2 = c.second_case.ensures.grows in
    let b = c.args.before in
    let a = c.args.after in
    let q : Term = term_at w0.bank a.test in
    let second : (these : List Term) → LineHasOnly w1 c.args.second (equal_term (term_at w0.bank b.second) (term_at w0.bank a.second) ∷ (term_at w0.bank a.test) ∷ these) → LineHasOnly w2 c.in_ok-two.two (equal_term (if_term (term_at w0.bank a.test) (term_at w0.bank b.first) (term_at w0.bank b.second)) (if_term (term_at w0.bank a.test) (term_at w0.bank a.first) (term_at w0.bank a.second)) ∷ (term_at w0.bank a.test) ∷ these) = (subst (λ z. (these : List Term) → LineHasOnly w1 c.args.second (equal_term z (term_at w0.bank a.second) ∷ (term_at w0.bank a.test) ∷ these) → LineHasOnly w2 c.in_ok-two.two (equal_term (if_term (term_at w0.bank a.test) (term_at w0.bank b.first) z) (if_term (term_at w0.bank a.test) (term_at w0.bank a.first) (term_at w0.bank a.second)) ∷ (term_at w0.bank a.test) ∷ these)) (same_term_grown h w0 w1 b.second g01 c.requires.before.second) (subst (λ z. (these : List Term) → LineHasOnly w1 c.args.second (equal_term (term_at w1.bank b.second) (term_at w0.bank a.second) ∷ (term_at w0.bank a.test) ∷ these) → LineHasOnly w2 c.in_ok-two.two (equal_term (if_term (term_at w0.bank a.test) z (term_at w1.bank b.second)) (if_term (term_at w0.bank a.test) (term_at w0.bank a.first) (term_at w0.bank a.second)) ∷ (term_at w0.bank a.test) ∷ these)) (same_term_grown h w0 w1 b.first g01 c.requires.before.first) (subst (λ z. (these : List Term) → LineHasOnly w1 c.args.second (equal_term (term_at w1.bank b.second) z ∷ (term_at w0.bank a.test) ∷ these) → LineHasOnly w2 c.in_ok-two.two (equal_term (if_term (term_at w0.bank a.test) (term_at w1.bank b.first) (term_at w1.bank b.second)) (if_term (term_at w0.bank a.test) (term_at w0.bank a.first) z) ∷ (term_at w0.bank a.test) ∷ these)) (same_term_grown h w0 w1 a.second g01 c.requires.after.second) (subst (λ z. (these : List Term) → LineHasOnly w1 c.args.second (equal_term (term_at w1.bank b.second) (term_at w1.bank a.second) ∷ (term_at w0.bank a.test) ∷ these) → LineHasOnly w2 c.in_ok-two.two (equal_term (if_term (term_at w0.bank a.test) (term_at w1.bank b.first) (term_at w1.bank b.second)) (if_term (term_at w0.bank a.test) z (term_at w1.bank a.second)) ∷ (term_at w0.bank a.test) ∷ these)) (same_term_grown h w0 w1 a.first g01 c.requires.after.first) (subst (λ z. (these : List Term) → LineHasOnly w1 c.args.second (equal_term (term_at w1.bank b.second) (term_at w1.bank a.second) ∷ z ∷ these) → LineHasOnly w2 c.in_ok-two.two (equal_term (if_term z (term_at w1.bank b.first) (term_at w1.bank b.second)) (if_term z (term_at w1.bank a.first) (term_at w1.bank a.second)) ∷ z ∷ these)) (same_term_grown h w0 w1 a.test g01 c.requires.after.test) c.in_ok-two.ensures.line))))) in
    for_ok c.cut.result (CutsTo w2 w3 (term_at w2.bank a.test) c.in_ok-two.two c.in_ok-one.one) (AreEqualBranches w0 w3 b a c.args.first c.args.second) (λ n f these x y.
    equal_by h w0 w1 w2 w3 q (equal_term (moved_at w0.bank b a) (if_at w0.bank a)) (equal_term (term_at w0.bank b.second) (term_at w0.bank a.second)) c.args.second c.in_ok-one.one c.in_ok-two.two n c.requires.stands g01 g12 these
    (c.in_ok-one.ensures.line these x) (second these) (cuts_by w2 w3 (term_at w2.bank a.test) q c.in_ok-two.two c.in_ok-one.one n (same_term_grown h w0 w2 a.test g02 c.requires.after.test) f) y) c.cut.ensures.line
