use Rattle.std.proofs.Common.{◌∷◌, [], ◌∙◌, subst}
use Rattle.nq_logic.specs.Terms.{Term}
use Rattle.nq_logic.specs.Words.{not_term, equal_term, if_term}
use Rattle.nq_bank.specs.Content.{term_at}
use Rattle.nq_rule.proofs.Made.{for_ok}
use Rattle.nq_kernel.specs.declared.work.Work.{Work}
use Rattle.nq_kernel.specs.Growing.{WorkGrows}
use Rattle.nq_kernel.proofs.GrowingLemmas.{WorkGrows-trans}
use Rattle.nq_lines.specs.Lines.{LineHasOnly, JoinsTo, MeetsIn}
use Rattle.nq_lines.proofs.LineLemmas.{line_grown, only_stands}
use Rattle.nq_lines.proofs.TermLemmas.{term_grown, same_term_grown}
use Rattle.nq_lines.specs.Branches.{if_at}
use Rattle.nq_lines.specs.Law.{IsFirstCase, moved_at}
use Rattle.nq_lines.proofs.BranchLemmas.{branches_grown, if_id}
use Rattle.nq_lines.proofs.LawLemmas.{case_by}
use Rattle.nq_lines.proofs.law.first_case.Goals as goal

pub condition-requires-clause-parts : goal.condition-requires-clause-parts
condition-requires-clause-parts c = (record { test = c.requires.after.test; first = c.requires.before.first; second = c.requires.before.second })

pub condition-requires-2-clause-parts : goal.condition-requires-2-clause-parts
condition-requires-2-clause-parts c = (branches_grown c.args.history.now c.args.work.now c.condition.new.work c.args.after c.requires.stands c.condition.ensures.grows c.requires.after)

pub first_chosen-requires-clause-test : goal.first_chosen-requires-clause-test
first_chosen-requires-clause-test c = (term_grown c.args.history.now c.args.work.now c.condition-2.new.work c.args.after.test c.requires.stands (WorkGrows-trans c.args.history.now c.args.work.now c.condition.new.work c.condition-2.new.work c.condition.ensures.grows c.condition-2.ensures.grows) c.requires.after.test)

pub first_chosen-requires-clause-first : goal.first_chosen-requires-clause-first
first_chosen-requires-clause-first c = (term_grown c.args.history.now c.args.work.now c.condition-2.new.work c.args.before.first c.requires.stands (WorkGrows-trans c.args.history.now c.args.work.now c.condition.new.work c.condition-2.new.work c.condition.ensures.grows c.condition-2.ensures.grows) c.requires.before.first)

pub first_chosen-requires-clause-second : goal.first_chosen-requires-clause-second
first_chosen-requires-clause-second c = (term_grown c.args.history.now c.args.work.now c.condition-2.new.work c.args.before.second c.requires.stands (WorkGrows-trans c.args.history.now c.args.work.now c.condition.new.work c.condition-2.new.work c.condition.ensures.grows c.condition-2.ensures.grows) c.requires.before.second)

pub transitive-requires-clause-left : goal.transitive-requires-clause-left
transitive-requires-clause-left c = (term_grown c.args.history.now c.condition.new.work c.first_chosen.new.work c.in_ok-one.one c.condition.ensures.grows.stands (WorkGrows-trans c.args.history.now c.condition.new.work c.condition-2.new.work c.first_chosen.new.work c.condition-2.ensures.grows c.first_chosen.ensures.grows) c.in_ok-one.ensures.over)

pub transitive-requires-clause-middle : goal.transitive-requires-clause-middle
transitive-requires-clause-middle c = (term_grown c.args.history.now c.args.work.now c.first_chosen.new.work c.args.before.first c.requires.stands (WorkGrows-trans c.args.history.now c.args.work.now c.condition.new.work c.first_chosen.new.work c.condition.ensures.grows (WorkGrows-trans c.args.history.now c.condition.new.work c.condition-2.new.work c.first_chosen.new.work c.condition-2.ensures.grows c.first_chosen.ensures.grows)) c.requires.before.first)

pub transitive-requires-clause-right : goal.transitive-requires-clause-right
transitive-requires-clause-right c = (term_grown c.args.history.now c.args.work.now c.first_chosen.new.work c.args.after.first c.requires.stands (WorkGrows-trans c.args.history.now c.args.work.now c.condition.new.work c.first_chosen.new.work c.condition.ensures.grows (WorkGrows-trans c.args.history.now c.condition.new.work c.condition-2.new.work c.first_chosen.new.work c.condition-2.ensures.grows c.first_chosen.ensures.grows)) c.requires.after.first)

pub transitive-requires-clause-first : goal.transitive-requires-clause-first
transitive-requires-clause-first c = only_stands c.first_chosen.new.work c.in_ok-left.left _ c.in_ok-left.ensures.line

pub transitive-requires-clause-second : goal.transitive-requires-clause-second
transitive-requires-clause-second c = (line_grown c.args.history.now c.args.work.now c.first_chosen.new.work c.args.shown c.requires.stands (WorkGrows-trans c.args.history.now c.args.work.now c.condition.new.work c.first_chosen.new.work c.condition.ensures.grows (WorkGrows-trans c.args.history.now c.condition.new.work c.condition-2.new.work c.first_chosen.new.work c.condition-2.ensures.grows c.first_chosen.ensures.grows)) c.requires.shown)

pub first_chosen-requires-2-clause-test : goal.first_chosen-requires-2-clause-test
first_chosen-requires-2-clause-test c = (term_grown c.args.history.now c.args.work.now c.transitive.new.work c.args.after.test c.requires.stands (WorkGrows-trans c.args.history.now c.args.work.now c.condition.new.work c.transitive.new.work c.condition.ensures.grows (WorkGrows-trans c.args.history.now c.condition.new.work c.condition-2.new.work c.transitive.new.work c.condition-2.ensures.grows (WorkGrows-trans c.args.history.now c.condition-2.new.work c.first_chosen.new.work c.transitive.new.work c.first_chosen.ensures.grows c.transitive.ensures.grows))) c.requires.after.test)

pub first_chosen-requires-2-clause-first : goal.first_chosen-requires-2-clause-first
first_chosen-requires-2-clause-first c = (term_grown c.args.history.now c.args.work.now c.transitive.new.work c.args.after.first c.requires.stands (WorkGrows-trans c.args.history.now c.args.work.now c.condition.new.work c.transitive.new.work c.condition.ensures.grows (WorkGrows-trans c.args.history.now c.condition.new.work c.condition-2.new.work c.transitive.new.work c.condition-2.ensures.grows (WorkGrows-trans c.args.history.now c.condition-2.new.work c.first_chosen.new.work c.transitive.new.work c.first_chosen.ensures.grows c.transitive.ensures.grows))) c.requires.after.first)

pub first_chosen-requires-2-clause-second : goal.first_chosen-requires-2-clause-second
first_chosen-requires-2-clause-second c = (term_grown c.args.history.now c.args.work.now c.transitive.new.work c.args.after.second c.requires.stands (WorkGrows-trans c.args.history.now c.args.work.now c.condition.new.work c.transitive.new.work c.condition.ensures.grows (WorkGrows-trans c.args.history.now c.condition.new.work c.condition-2.new.work c.transitive.new.work c.condition-2.ensures.grows (WorkGrows-trans c.args.history.now c.condition-2.new.work c.first_chosen.new.work c.transitive.new.work c.first_chosen.ensures.grows c.transitive.ensures.grows))) c.requires.after.second)

pub meet-requires-clause-left : goal.meet-requires-clause-left
meet-requires-clause-left c = (term_grown c.args.history.now c.condition.new.work c.first_chosen-2.new.work c.in_ok-one.one c.condition.ensures.grows.stands (WorkGrows-trans c.args.history.now c.condition.new.work c.condition-2.new.work c.first_chosen-2.new.work c.condition-2.ensures.grows (WorkGrows-trans c.args.history.now c.condition-2.new.work c.first_chosen.new.work c.first_chosen-2.new.work c.first_chosen.ensures.grows (WorkGrows-trans c.args.history.now c.first_chosen.new.work c.transitive.new.work c.first_chosen-2.new.work c.transitive.ensures.grows c.first_chosen-2.ensures.grows))) c.in_ok-one.ensures.over)

pub meet-requires-clause-middle : goal.meet-requires-clause-middle
meet-requires-clause-middle c = (term_grown c.args.history.now c.args.work.now c.first_chosen-2.new.work c.args.after.first c.requires.stands (WorkGrows-trans c.args.history.now c.args.work.now c.condition.new.work c.first_chosen-2.new.work c.condition.ensures.grows (WorkGrows-trans c.args.history.now c.condition.new.work c.condition-2.new.work c.first_chosen-2.new.work c.condition-2.ensures.grows (WorkGrows-trans c.args.history.now c.condition-2.new.work c.first_chosen.new.work c.first_chosen-2.new.work c.first_chosen.ensures.grows (WorkGrows-trans c.args.history.now c.first_chosen.new.work c.transitive.new.work c.first_chosen-2.new.work c.transitive.ensures.grows c.first_chosen-2.ensures.grows)))) c.requires.after.first)

pub meet-requires-clause-right : goal.meet-requires-clause-right
meet-requires-clause-right c = (term_grown c.args.history.now c.condition-2.new.work c.first_chosen-2.new.work c.in_ok-two.two c.condition-2.ensures.grows.stands (WorkGrows-trans c.args.history.now c.condition-2.new.work c.first_chosen.new.work c.first_chosen-2.new.work c.first_chosen.ensures.grows (WorkGrows-trans c.args.history.now c.first_chosen.new.work c.transitive.new.work c.first_chosen-2.new.work c.transitive.ensures.grows c.first_chosen-2.ensures.grows)) c.in_ok-two.ensures.over)

pub meet-requires-clause-first : goal.meet-requires-clause-first
meet-requires-clause-first c = (line_grown c.args.history.now c.transitive.new.work c.first_chosen-2.new.work c.in_ok-same.same c.transitive.ensures.grows.stands c.first_chosen-2.ensures.grows c.in_ok-same.ensures.stands)

pub meet-requires-clause-second : goal.meet-requires-clause-second
meet-requires-clause-second c = only_stands c.first_chosen-2.new.work c.in_ok-right.right _ c.in_ok-right.ensures.line

pub returns-in_err-two-clause-grows : goal.returns-in_err-two-clause-grows
returns-in_err-two-clause-grows c = (WorkGrows-trans c.args.history.now c.args.work.now c.condition.new.work c.condition-2.new.work c.condition.ensures.grows c.condition-2.ensures.grows)

pub returns-in_err-left-clause-grows : goal.returns-in_err-left-clause-grows
returns-in_err-left-clause-grows c = (WorkGrows-trans c.args.history.now c.args.work.now c.condition.new.work c.first_chosen.new.work c.condition.ensures.grows (WorkGrows-trans c.args.history.now c.condition.new.work c.condition-2.new.work c.first_chosen.new.work c.condition-2.ensures.grows c.first_chosen.ensures.grows))

pub returns-in_err-same-clause-grows : goal.returns-in_err-same-clause-grows
returns-in_err-same-clause-grows c = (WorkGrows-trans c.args.history.now c.args.work.now c.condition.new.work c.transitive.new.work c.condition.ensures.grows (WorkGrows-trans c.args.history.now c.condition.new.work c.condition-2.new.work c.transitive.new.work c.condition-2.ensures.grows (WorkGrows-trans c.args.history.now c.condition-2.new.work c.first_chosen.new.work c.transitive.new.work c.first_chosen.ensures.grows c.transitive.ensures.grows)))

pub returns-in_err-right-clause-grows : goal.returns-in_err-right-clause-grows
returns-in_err-right-clause-grows c = (WorkGrows-trans c.args.history.now c.args.work.now c.condition.new.work c.first_chosen-2.new.work c.condition.ensures.grows (WorkGrows-trans c.args.history.now c.condition.new.work c.condition-2.new.work c.first_chosen-2.new.work c.condition-2.ensures.grows (WorkGrows-trans c.args.history.now c.condition-2.new.work c.first_chosen.new.work c.first_chosen-2.new.work c.first_chosen.ensures.grows (WorkGrows-trans c.args.history.now c.first_chosen.new.work c.transitive.new.work c.first_chosen-2.new.work c.transitive.ensures.grows c.first_chosen-2.ensures.grows))))

pub returns-clause-grows : goal.returns-clause-grows
returns-clause-grows c = (WorkGrows-trans c.args.history.now c.args.work.now c.condition.new.work c.meet.new.work c.condition.ensures.grows (WorkGrows-trans c.args.history.now c.condition.new.work c.condition-2.new.work c.meet.new.work c.condition-2.ensures.grows (WorkGrows-trans c.args.history.now c.condition-2.new.work c.first_chosen.new.work c.meet.new.work c.first_chosen.ensures.grows (WorkGrows-trans c.args.history.now c.first_chosen.new.work c.transitive.new.work c.meet.new.work c.transitive.ensures.grows (WorkGrows-trans c.args.history.now c.transitive.new.work c.first_chosen-2.new.work c.meet.new.work c.first_chosen-2.ensures.grows c.meet.ensures.grows)))))

pub returns-clause-line : goal.returns-clause-line
returns-clause-line c =
    let h = c.args.history.now in
    let w0 : Work = c.args.work.now in
    let w1 : Work = c.condition.new.work in
    let w2 : Work = c.condition-2.new.work in
    let w3 : Work = c.first_chosen.new.work in
    let w4 : Work = c.transitive.new.work in
    let w5 : Work = c.first_chosen-2.new.work in
    let w6 : Work = c.meet.new.work in
    let g01 : WorkGrows h w0 w1 = c.condition.ensures.grows in
    let g02 : WorkGrows h w0 w2 = (WorkGrows-trans c.args.history.now c.args.work.now c.condition.new.work c.condition-2.new.work c.condition.ensures.grows c.condition-2.ensures.grows) in
    let g03 : WorkGrows h w0 w3 = (WorkGrows-trans c.args.history.now c.args.work.now c.condition.new.work c.first_chosen.new.work c.condition.ensures.grows (WorkGrows-trans c.args.history.now c.condition.new.work c.condition-2.new.work c.first_chosen.new.work c.condition-2.ensures.grows c.first_chosen.ensures.grows)) in
    let g04 : WorkGrows h w0 w4 = (WorkGrows-trans c.args.history.now c.args.work.now c.condition.new.work c.transitive.new.work c.condition.ensures.grows (WorkGrows-trans c.args.history.now c.condition.new.work c.condition-2.new.work c.transitive.new.work c.condition-2.ensures.grows (WorkGrows-trans c.args.history.now c.condition-2.new.work c.first_chosen.new.work c.transitive.new.work c.first_chosen.ensures.grows c.transitive.ensures.grows))) in
    let g05 : WorkGrows h w0 w5 = (WorkGrows-trans c.args.history.now c.args.work.now c.condition.new.work c.first_chosen-2.new.work c.condition.ensures.grows (WorkGrows-trans c.args.history.now c.condition.new.work c.condition-2.new.work c.first_chosen-2.new.work c.condition-2.ensures.grows (WorkGrows-trans c.args.history.now c.condition-2.new.work c.first_chosen.new.work c.first_chosen-2.new.work c.first_chosen.ensures.grows (WorkGrows-trans c.args.history.now c.first_chosen.new.work c.transitive.new.work c.first_chosen-2.new.work c.transitive.ensures.grows c.first_chosen-2.ensures.grows)))) in
    let g13 : WorkGrows h w1 w3 = (WorkGrows-trans c.args.history.now c.condition.new.work c.condition-2.new.work c.first_chosen.new.work c.condition-2.ensures.grows c.first_chosen.ensures.grows) in
    let g15 : WorkGrows h w1 w5 = (WorkGrows-trans c.args.history.now c.condition.new.work c.condition-2.new.work c.first_chosen-2.new.work c.condition-2.ensures.grows (WorkGrows-trans c.args.history.now c.condition-2.new.work c.first_chosen.new.work c.first_chosen-2.new.work c.first_chosen.ensures.grows (WorkGrows-trans c.args.history.now c.first_chosen.new.work c.transitive.new.work c.first_chosen-2.new.work c.transitive.ensures.grows c.first_chosen-2.ensures.grows))) in
    let g25 : WorkGrows h w2 w5 = (WorkGrows-trans c.args.history.now c.condition-2.new.work c.first_chosen.new.work c.first_chosen-2.new.work c.first_chosen.ensures.grows (WorkGrows-trans c.args.history.now c.first_chosen.new.work c.transitive.new.work c.first_chosen-2.new.work c.transitive.ensures.grows c.first_chosen-2.ensures.grows)) in
    let g45 : WorkGrows h w4 w5 = c.first_chosen-2.ensures.grows in
    let b = c.args.before in
    let a = c.args.after in
    let q : Term = term_at w0.bank a.test in
    let one : Term = moved_at w0.bank b a in
    let two : Term = if_at w0.bank a in
    let left : LineHasOnly w3 c.in_ok-left.left (not_term q ∷ equal_term one (term_at w0.bank b.first) ∷ []) = (subst (λ z. LineHasOnly w3 c.in_ok-left.left (not_term (term_at w0.bank a.test) ∷ equal_term (if_term (term_at w0.bank a.test) (term_at w0.bank b.first) z) (term_at w0.bank b.first) ∷ [])) (same_term_grown h w0 w2 b.second g02 c.requires.before.second) (subst (λ z. LineHasOnly w3 c.in_ok-left.left (not_term (term_at w0.bank a.test) ∷ equal_term (if_term (term_at w0.bank a.test) z (term_at w2.bank b.second)) z ∷ [])) (same_term_grown h w0 w2 b.first g02 c.requires.before.first) (subst (λ z. LineHasOnly w3 c.in_ok-left.left (not_term z ∷ equal_term (if_term z (term_at w2.bank b.first) (term_at w2.bank b.second)) (term_at w2.bank b.first) ∷ [])) (same_term_grown h w0 w2 a.test g02 c.requires.after.test) c.in_ok-left.ensures.line))) in
    let right : LineHasOnly w5 c.in_ok-right.right (not_term q ∷ equal_term two (term_at w0.bank a.first) ∷ []) = (subst (λ z. LineHasOnly w5 c.in_ok-right.right (not_term (term_at w0.bank a.test) ∷ equal_term (if_term (term_at w0.bank a.test) (term_at w0.bank a.first) z) (term_at w0.bank a.first) ∷ [])) (same_term_grown h w0 w4 a.second g04 c.requires.after.second) (subst (λ z. LineHasOnly w5 c.in_ok-right.right (not_term (term_at w0.bank a.test) ∷ equal_term (if_term (term_at w0.bank a.test) z (term_at w4.bank a.second)) z ∷ [])) (same_term_grown h w0 w4 a.first g04 c.requires.after.first) (subst (λ z. LineHasOnly w5 c.in_ok-right.right (not_term z ∷ equal_term (if_term z (term_at w4.bank a.first) (term_at w4.bank a.second)) (term_at w4.bank a.first) ∷ [])) (same_term_grown h w0 w4 a.test g04 c.requires.after.test) c.in_ok-right.ensures.line))) in
    let joins = (subst (λ z. JoinsTo w3 w4 one (term_at w0.bank b.first) z c.in_ok-left.left c.args.shown c.in_ok-same.same) (same_term_grown h w0 w3 a.first g03 c.requires.after.first) (subst (λ z. JoinsTo w3 w4 one z (term_at w3.bank a.first) c.in_ok-left.left c.args.shown c.in_ok-same.same) (same_term_grown h w0 w3 b.first g03 c.requires.before.first) (subst (λ z. JoinsTo w3 w4 z (term_at w3.bank b.first) (term_at w3.bank a.first) c.in_ok-left.left c.args.shown c.in_ok-same.same) (same_term_grown h w1 w3 c.in_ok-one.one g13 c.in_ok-one.ensures.over ∙ c.in_ok-one.ensures.condition.denotes) c.in_ok-same.ensures.line))) in
    for_ok c.meet.result (MeetsIn w5 w6 (term_at w5.bank c.in_ok-one.one) (term_at w5.bank a.first) (term_at w5.bank c.in_ok-two.two) c.in_ok-same.same c.in_ok-right.right) (IsFirstCase w0 w6 b a c.args.shown) (λ n f.
    case_by h w0 w3 w4 w5 w6 one two (term_at w0.bank b.first) (term_at w0.bank a.first) (not_term q) c.in_ok-left.left c.in_ok-right.right c.args.shown c.in_ok-same.same n c.requires.stands g03 c.transitive.ensures.grows g45 left right joins (subst (λ z. MeetsIn w5 w6 one (term_at w0.bank a.first) z c.in_ok-same.same c.in_ok-right.right n) (same_term_grown h w2 w5 c.in_ok-two.two g25 c.in_ok-two.ensures.over ∙ (if_id w0 w1 w2 c.in_ok-two.two a (same_term_grown h w0 w1 a.test g01 c.requires.after.test) (same_term_grown h w0 w1 a.first g01 c.requires.after.first) (same_term_grown h w0 w1 a.second g01 c.requires.after.second) c.in_ok-two.ensures.condition).denotes) (subst (λ z. MeetsIn w5 w6 one z (term_at w5.bank c.in_ok-two.two) c.in_ok-same.same c.in_ok-right.right n) (same_term_grown h w0 w5 a.first g05 c.requires.after.first) (subst (λ z. MeetsIn w5 w6 z (term_at w5.bank a.first) (term_at w5.bank c.in_ok-two.two) c.in_ok-same.same c.in_ok-right.right n) (same_term_grown h w1 w5 c.in_ok-one.one g15 c.in_ok-one.ensures.over ∙ c.in_ok-one.ensures.condition.denotes) f)))) c.meet.ensures.line
