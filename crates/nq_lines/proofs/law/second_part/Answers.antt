use Rattle.std.proofs.Common.{◌≡◌, ◌∷◌, [], ◌∙◌, subst}
use Rattle.nq_logic.specs.Terms.{Term}
use Rattle.nq_logic.specs.Words.{not_term, equal_term, if_term}
use Rattle.nq_bank.specs.Content.{term_at}
use Rattle.nq_rule.proofs.Made.{for_ok}
use Rattle.nq_proof.specs.Rules.{Forwards}
use Rattle.nq_kernel.specs.declared.work.Work.{Work}
use Rattle.nq_kernel.specs.Growing.{WorkGrows}
use Rattle.nq_kernel.proofs.GrowingLemmas.{WorkGrows-trans}
use Rattle.nq_lines.specs.Lines.{LineHasOnly, RewritesTo}
use Rattle.nq_lines.proofs.LineLemmas.{leads_only, line_grown, only_stands}
use Rattle.nq_lines.proofs.TermLemmas.{term_grown, same_term_grown}
use Rattle.nq_lines.specs.Branches.{if_at}
use Rattle.nq_lines.proofs.LawLemmas.{part_by}
use Rattle.nq_lines.proofs.law.second_part.Goals as goal

pub second_chosen-requires-clause-test : goal.second_chosen-requires-clause-test
second_chosen-requires-clause-test c = (term_grown c.args.history.now c.args.work.now c.opposites.new.work c.args.parts.test c.requires.stands (WorkGrows-trans c.args.history.now c.args.work.now c.condition.new.work c.opposites.new.work c.condition.ensures.grows c.opposites.ensures.grows) c.requires.parts.test)

pub second_chosen-requires-clause-first : goal.second_chosen-requires-clause-first
second_chosen-requires-clause-first c = (term_grown c.args.history.now c.args.work.now c.opposites.new.work c.args.parts.first c.requires.stands (WorkGrows-trans c.args.history.now c.args.work.now c.condition.new.work c.opposites.new.work c.condition.ensures.grows c.opposites.ensures.grows) c.requires.parts.first)

pub second_chosen-requires-clause-second : goal.second_chosen-requires-clause-second
second_chosen-requires-clause-second c = (term_grown c.args.history.now c.args.work.now c.opposites.new.work c.args.parts.second c.requires.stands (WorkGrows-trans c.args.history.now c.args.work.now c.condition.new.work c.opposites.new.work c.condition.ensures.grows c.opposites.ensures.grows) c.requires.parts.second)

pub rewrite_literal-requires-clause-left : goal.rewrite_literal-requires-clause-left
rewrite_literal-requires-clause-left c = (term_grown c.args.history.now c.condition.new.work c.second_chosen.new.work c.in_ok-whole.whole c.condition.ensures.grows.stands (WorkGrows-trans c.args.history.now c.condition.new.work c.opposites.new.work c.second_chosen.new.work c.opposites.ensures.grows c.second_chosen.ensures.grows) c.in_ok-whole.ensures.over)

pub rewrite_literal-requires-clause-right : goal.rewrite_literal-requires-clause-right
rewrite_literal-requires-clause-right c = (term_grown c.args.history.now c.args.work.now c.second_chosen.new.work c.args.parts.second c.requires.stands (WorkGrows-trans c.args.history.now c.args.work.now c.condition.new.work c.second_chosen.new.work c.condition.ensures.grows (WorkGrows-trans c.args.history.now c.condition.new.work c.opposites.new.work c.second_chosen.new.work c.opposites.ensures.grows c.second_chosen.ensures.grows)) c.requires.parts.second)

pub rewrite_literal-requires-clause-line : goal.rewrite_literal-requires-clause-line
rewrite_literal-requires-clause-line c = (line_grown c.args.history.now c.opposites.new.work c.second_chosen.new.work c.in_ok-either.either c.opposites.ensures.grows.stands c.second_chosen.ensures.grows (only_stands c.opposites.new.work c.in_ok-either.either _ (leads_only c.opposites.new.work c.in_ok-either.either _ _ c.in_ok-either.ensures.line)))

pub rewrite_literal-requires-clause-equation : goal.rewrite_literal-requires-clause-equation
rewrite_literal-requires-clause-equation c = only_stands c.second_chosen.new.work c.in_ok-law.law _ c.in_ok-law.ensures.line

pub returns-in_err-either-clause-grows : goal.returns-in_err-either-clause-grows
returns-in_err-either-clause-grows c = (WorkGrows-trans c.args.history.now c.args.work.now c.condition.new.work c.opposites.new.work c.condition.ensures.grows c.opposites.ensures.grows)

pub returns-in_err-law-clause-grows : goal.returns-in_err-law-clause-grows
returns-in_err-law-clause-grows c = (WorkGrows-trans c.args.history.now c.args.work.now c.condition.new.work c.second_chosen.new.work c.condition.ensures.grows (WorkGrows-trans c.args.history.now c.condition.new.work c.opposites.new.work c.second_chosen.new.work c.opposites.ensures.grows c.second_chosen.ensures.grows))

pub returns-clause-grows : goal.returns-clause-grows
returns-clause-grows c = (WorkGrows-trans c.args.history.now c.args.work.now c.condition.new.work c.rewrite_literal.new.work c.condition.ensures.grows (WorkGrows-trans c.args.history.now c.condition.new.work c.opposites.new.work c.rewrite_literal.new.work c.opposites.ensures.grows (WorkGrows-trans c.args.history.now c.opposites.new.work c.second_chosen.new.work c.rewrite_literal.new.work c.second_chosen.ensures.grows c.rewrite_literal.ensures.grows)))

pub returns-clause-line : goal.returns-clause-line
returns-clause-line c =
    let h = c.args.history.now in
    let w0 : Work = c.args.work.now in
    let w1 : Work = c.condition.new.work in
    let w2 : Work = c.opposites.new.work in
    let w3 : Work = c.second_chosen.new.work in
    let w4 : Work = c.rewrite_literal.new.work in
    let g02 : WorkGrows h w0 w2 = (WorkGrows-trans c.args.history.now c.args.work.now c.condition.new.work c.opposites.new.work c.condition.ensures.grows c.opposites.ensures.grows) in
    let g03 : WorkGrows h w0 w3 = (WorkGrows-trans c.args.history.now c.args.work.now c.condition.new.work c.second_chosen.new.work c.condition.ensures.grows (WorkGrows-trans c.args.history.now c.condition.new.work c.opposites.new.work c.second_chosen.new.work c.opposites.ensures.grows c.second_chosen.ensures.grows)) in
    let g13 : WorkGrows h w1 w3 = (WorkGrows-trans c.args.history.now c.condition.new.work c.opposites.new.work c.second_chosen.new.work c.opposites.ensures.grows c.second_chosen.ensures.grows) in
    let g23 : WorkGrows h w2 w3 = c.second_chosen.ensures.grows in
    let p0 = c.args.parts in
    let p : Term = term_at w0.bank p0.test in
    let m : Term = if_at w0.bank p0 in
    let x : Term = term_at w0.bank p0.second in
    let is : term_at w1.bank c.in_ok-whole.whole ≡ m = c.in_ok-whole.ensures.condition.denotes in
    let either : LineHasOnly w2 c.in_ok-either.either (m ∷ not_term m ∷ []) = subst (λ z. LineHasOnly w2 c.in_ok-either.either (z ∷ not_term z ∷ [])) is (leads_only w2 c.in_ok-either.either _ _ c.in_ok-either.ensures.line) in
    let law : LineHasOnly w3 c.in_ok-law.law (p ∷ equal_term m x ∷ []) = (subst (λ z. LineHasOnly w3 c.in_ok-law.law ((term_at w0.bank p0.test) ∷ equal_term (if_term (term_at w0.bank p0.test) (term_at w0.bank p0.first) z) z ∷ [])) (same_term_grown h w0 w2 p0.second g02 c.requires.parts.second) (subst (λ z. LineHasOnly w3 c.in_ok-law.law ((term_at w0.bank p0.test) ∷ equal_term (if_term (term_at w0.bank p0.test) z (term_at w2.bank p0.second)) (term_at w2.bank p0.second) ∷ [])) (same_term_grown h w0 w2 p0.first g02 c.requires.parts.first) (subst (λ z. LineHasOnly w3 c.in_ok-law.law (z ∷ equal_term (if_term z (term_at w2.bank p0.first) (term_at w2.bank p0.second)) (term_at w2.bank p0.second) ∷ [])) (same_term_grown h w0 w2 p0.test g02 c.requires.parts.test) c.in_ok-law.ensures.line))) in
    for_ok c.rewrite_literal.result (RewritesTo w3 w4 Forwards (term_at w3.bank c.in_ok-whole.whole) (term_at w3.bank p0.second) c.in_ok-either.either c.in_ok-law.law) (λ n. LineHasOnly w4 n (x ∷ p ∷ not_term m ∷ [])) (λ n f.
    part_by h w2 w3 w4 m x (p) c.in_ok-either.either c.in_ok-law.law n c.opposites.ensures.grows.stands g23 either law (subst (λ z. RewritesTo w3 w4 Forwards m z c.in_ok-either.either c.in_ok-law.law n) (same_term_grown h w0 w3 p0.second g03 c.requires.parts.second) (subst (λ z. RewritesTo w3 w4 Forwards z (term_at w3.bank p0.second) c.in_ok-either.either c.in_ok-law.law n) (same_term_grown h w1 w3 c.in_ok-whole.whole g13 c.in_ok-whole.ensures.over ∙ is) f))) c.rewrite_literal.ensures.line
