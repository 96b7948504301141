use Rattle.std.proofs.Common.{[], ◌∷◌, map, subst, arith}
use Rattle.nq_bank.specs.Content.{term_at}
use Rattle.nq_logic.specs.RuleShapes.{and_parts}
use Rattle.nq_logic.specs.Words.{not_term}
use Rattle.nq_kernel.proofs.GrowingLemmas.{WorkGrows-trans}
use Rattle.nq_lines.specs.Lines.{LineHasOnly, LineLeads}
use Rattle.nq_lines.proofs.LineLemmas.{leads_only, line_grown, only_grown, only_stands}
use Rattle.nq_lines.proofs.TermLemmas.{same_term_grown, term_grown}
use Rattle.nq_rule.proofs.Made.{for_ok}
use Rattle.nq_eliminate.specs.Supposing.{PairsTo}
use Rattle.nq_eliminate.proofs.SupposingLemmas.{left_in, no_and, one_holds_made, pair_holds_made, parts_of_and, right_in}
use Rattle.nq_eliminate.proofs.supposing.+holds.Goals as goal

pub holds-requires : goal.holds-requires
holds-requires t c =
    let before = c.in-Some.ensures.left in
    (omega (arith, before), (c.requires.stands, left_in c.args.history.now c.args.work.now _ c.args.p c.in-Some.a c.in-Some.b c.requires.term c.in-Some.ensures before))

pub holds-requires-in-Some : goal.holds-requires-in-Some
holds-requires-in-Some t c =
    let before = c.in-Some.ensures.right in
    (omega (arith, before), (c.holds.ensures.grows.stands, term_grown c.args.history.now c.args.work.now c.holds.new.work c.in-Some.b c.requires.stands c.holds.ensures.grows (right_in c.args.history.now c.args.work.now _ c.args.p c.in-Some.a c.in-Some.b c.requires.term c.in-Some.ensures before)))

pub returns-in_err-second-in-Some-clause-grows : goal.returns-in_err-second-in-Some-clause-grows
returns-in_err-second-in-Some-clause-grows t c = WorkGrows-trans c.args.history.now c.args.work.now c.holds.new.work c.holds-in-Some.new.work c.holds.ensures.grows c.holds-in-Some.ensures.grows

pub joined-requires-clause-left : goal.joined-requires-clause-left
joined-requires-clause-left t c =
    let grows = WorkGrows-trans c.args.history.now c.args.work.now c.holds.new.work c.holds-in-Some.new.work c.holds.ensures.grows c.holds-in-Some.ensures.grows in
    term_grown c.args.history.now c.args.work.now c.holds-in-Some.new.work c.in-Some.a c.requires.stands grows (left_in c.args.history.now c.args.work.now _ c.args.p c.in-Some.a c.in-Some.b c.requires.term c.in-Some.ensures c.in-Some.ensures.left)

pub joined-requires-clause-right : goal.joined-requires-clause-right
joined-requires-clause-right t c =
    let grows = WorkGrows-trans c.args.history.now c.args.work.now c.holds.new.work c.holds-in-Some.new.work c.holds.ensures.grows c.holds-in-Some.ensures.grows in
    term_grown c.args.history.now c.args.work.now c.holds-in-Some.new.work c.in-Some.b c.requires.stands grows (right_in c.args.history.now c.args.work.now _ c.args.p c.in-Some.a c.in-Some.b c.requires.term c.in-Some.ensures c.in-Some.ensures.right)

pub joined-requires-clause-first : goal.joined-requires-clause-first
joined-requires-clause-first t c = line_grown c.args.history.now c.holds.new.work c.holds-in-Some.new.work c.in_ok-first-in-Some.first c.holds.ensures.grows.stands c.holds-in-Some.ensures.grows (only_stands c.holds.new.work c.in_ok-first-in-Some.first _ c.in_ok-first-in-Some.ensures.line)

pub joined-requires-clause-second : goal.joined-requires-clause-second
joined-requires-clause-second t c = only_stands c.holds-in-Some.new.work c.in_ok-second-in-Some.second _ c.in_ok-second-in-Some.ensures.line

pub returns-in_ok-second-in-Some-clause-line : goal.returns-in_ok-second-in-Some-clause-line
returns-in_ok-second-in-Some-clause-line t c =
    let h = c.args.history.now in
    let w0 = c.args.work.now in
    let w1 = c.holds.new.work in
    let w2 = c.holds-in-Some.new.work in
    let w3 = c.joined.new.work in
    let g02 = WorkGrows-trans h w0 w1 w2 c.holds.ensures.grows c.holds-in-Some.ensures.grows in
    let is = c.in-Some.ensures in
    let in_a = left_in h w0 _ c.args.p c.in-Some.a c.in-Some.b c.requires.term is is.left in
    let in_b = right_in h w0 _ c.args.p c.in-Some.a c.in-Some.b c.requires.term is is.right in
    let A = term_at w0.bank c.in-Some.a in
    let B = term_at w0.bank c.in-Some.b in
    let P = term_at w0.bank c.args.p in
    let n1 = c.in_ok-first-in-Some.first in
    let n2 = c.in_ok-second-in-Some.second in
    for_ok c.joined.result (PairsTo w2 w3 (term_at w2.bank c.in-Some.a) (term_at w2.bank c.in-Some.b) n1 n2) (λ n. LineHasOnly w3 n (P ∷ map not_term (and_parts P)))
    (λ n pairs.
    pair_holds_made w2 w3 P A B n1 n2 n is.whole (parts_of_and w0.bank c.args.p c.in-Some.a c.in-Some.b is) (only_grown h w1 w2 n1 (A ∷ map not_term (and_parts A)) c.holds.ensures.grows.stands c.holds-in-Some.ensures.grows c.in_ok-first-in-Some.ensures.line)
    (subst (λ u. LineHasOnly w2 n2 (u ∷ map not_term (and_parts u))) (same_term_grown h w0 w1 c.in-Some.b c.holds.ensures.grows in_b) c.in_ok-second-in-Some.ensures.line)
    (subst (λ u. PairsTo w2 w3 u B n1 n2 n) (same_term_grown h w0 w2 c.in-Some.a g02 in_a) (subst (λ u. PairsTo w2 w3 (term_at w2.bank c.in-Some.a) u n1 n2 n) (same_term_grown h w0 w2 c.in-Some.b g02 in_b) pairs))) c.joined.ensures.line

pub returns-in_ok-second-in-Some-clause-grows : goal.returns-in_ok-second-in-Some-clause-grows
returns-in_ok-second-in-Some-clause-grows t c =
    let grows = WorkGrows-trans c.args.history.now c.args.work.now c.holds.new.work c.holds-in-Some.new.work c.holds.ensures.grows c.holds-in-Some.ensures.grows in
    WorkGrows-trans c.args.history.now c.args.work.now c.holds-in-Some.new.work c.joined.new.work grows c.joined.ensures.grows

pub returns-in-None-clause-line : goal.returns-in-None-clause-line
returns-in-None-clause-line t c =
    let w = c.args.work.now in
    let w1 = c.opposites.new.work in
    let p = term_at w.bank c.args.p in
    for_ok c.opposites.result (λ n. LineLeads w1 n p (not_term p ∷ [])) (λ n. LineHasOnly w1 n (p ∷ map not_term (and_parts p)))
    (λ n leads. one_holds_made w1 p n (no_and w.bank c.args.p c.in-None.ensures) (leads_only w1 n p (not_term p ∷ []) leads)) c.opposites.ensures.line
