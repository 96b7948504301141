use Rattle.std.proofs.Common.{◌≡◌, ◌∷◌, [], ◌||◌, List, sym, subst}
use Rattle.std.specs.Prelude.{not}
use Rattle.nq_logic.specs.Terms.{Term}
use Rattle.nq_logic.specs.Words.{or_term}
use Rattle.nq_bank.specs.Content.{term_at}
use Rattle.nq_rule.proofs.Made.{for_ok}
use Rattle.nq_lines.specs.Lines.{LineHasOnly}
use Rattle.nq_lines.proofs.TermLemmas.{same_term_grown}
use Rattle.nq_replay.proofs.UncountedLemmas.{grown_trans}
use Rattle.nq_part_lines.specs.Decisions.{told}
use Rattle.nq_part_lines.proofs.ChoiceLemmas.{both_opposite, decided_later, first_opposite, second_opposite}
use Rattle.nq_part_lines.proofs.KnownGrowth.{three_steps}
use Rattle.nq_part_lines.proofs.choices.either_line.Goals as goal

pub cut_decided-requires-clause-known : goal.cut_decided-requires-clause-known
cut_decided-requires-clause-known c =
    let old = c.args.work.now in
    decided_later c.args.history.now old c.choice_at.new.work c.requires.stands c.choice_at.ensures.grows.grows (term_at old.bank c.args.first.term) c.args.first.holds c.args.first c.requires.first

pub cut_decided-requires-2-clause-known : goal.cut_decided-requires-2-clause-known
cut_decided-requires-2-clause-known c =
    let old = c.args.work.now in
    decided_later c.args.history.now old c.choice_at.new.work c.requires.stands c.choice_at.ensures.grows.grows (term_at old.bank c.args.second.term) c.args.second.holds c.args.second c.requires.second

pub cut_decided-requires-else-second-clause-known : goal.cut_decided-requires-else-second-clause-known
cut_decided-requires-else-second-clause-known c =
    let h = c.args.history.now in
    let old = c.args.work.now in
    let two = c.cut_decided-2.new.work in
    let grows = grown_trans h old c.choice_at.new.work two c.choice_at.ensures.grows c.cut_decided-2.ensures.grows in
    decided_later h old two c.requires.stands grows.grows (term_at old.bank c.args.first.term) c.args.first.holds c.args.first c.requires.first

-- how the work grew
pub returns-then-first-clause-grows : goal.returns-then-first-clause-grows
returns-then-first-clause-grows c = grown_trans c.args.history.now c.args.work.now c.choice_at.new.work c.cut_decided.new.work c.choice_at.ensures.grows c.cut_decided.ensures.grows

pub returns-in_err-rest-clause-grows : goal.returns-in_err-rest-clause-grows
returns-in_err-rest-clause-grows c = grown_trans c.args.history.now c.args.work.now c.choice_at.new.work c.cut_decided-2.new.work c.choice_at.ensures.grows c.cut_decided-2.ensures.grows

pub returns-then-second-clause-grows : goal.returns-then-second-clause-grows
returns-then-second-clause-grows c = grown_trans c.args.history.now c.args.work.now c.choice_at.new.work c.cut_decided-2.new.work c.choice_at.ensures.grows c.cut_decided-2.ensures.grows

pub returns-else-second-clause-grows : goal.returns-else-second-clause-grows
returns-else-second-clause-grows c =
    three_steps c.args.history.now c.args.work.now c.choice_at.new.work c.cut_decided-2.new.work c.cut_decided-else-second.new.work c.choice_at.ensures.grows c.cut_decided-2.ensures.grows c.cut_decided-else-second.ensures.grows

-- the line
pub returns-then-first-clause-line : goal.returns-then-first-clause-line
returns-then-first-clause-line c =
    let old = c.args.work.now in
    let one = c.choice_at.new.work in
    let new = c.cut_decided.new.work in
    let a = c.args.first in
    let b = c.args.second in
    let law = c.in_ok-law.law in
    let x = term_at old.bank a.term in
    let y = term_at old.bank b.term in
    let whole = told (a.holds || b.holds) (or_term x y) in
    let same : term_at one.bank a.term ≡ x = same_term_grown c.args.history.now old one a.term c.choice_at.ensures.grows.grows c.requires.first.small.inside in
    let opposite : LineHasOnly one law (told (not a.holds) x ∷ whole ∷ []) = first_opposite one law x y a.holds b.holds c.if-first.true c.in_ok-law.ensures.line in
    for_ok c.cut_decided.result (λ n. (these : List Term) → LineHasOnly one law (told (not a.holds) (term_at one.bank a.term) ∷ these) → LineHasOnly new n these) (λ n. LineHasOnly new n (whole ∷ [])) (λ n k.
    k (whole ∷ []) (subst (λ t. LineHasOnly one law (told (not a.holds) t ∷ whole ∷ [])) (sym same) opposite)) c.cut_decided.ensures.line

pub returns-then-second-clause-line : goal.returns-then-second-clause-line
returns-then-second-clause-line c =
    let old = c.args.work.now in
    let one = c.choice_at.new.work in
    let a = c.args.first in
    let b = c.args.second in
    let law = c.in_ok-law.law in
    let x = term_at old.bank a.term in
    let y = term_at old.bank b.term in
    let whole = told (a.holds || b.holds) (or_term x y) in
    let same : term_at one.bank b.term ≡ y = same_term_grown c.args.history.now old one b.term c.choice_at.ensures.grows.grows c.requires.second.small.inside in
    let opposite : LineHasOnly one law (told (not b.holds) y ∷ whole ∷ []) = second_opposite one law x y a.holds b.holds c.if-first.false c.if-second.true c.in_ok-law.ensures.line in
    c.in_ok-rest.ensures.line (whole ∷ []) (subst (λ t. LineHasOnly one law (told (not b.holds) t ∷ whole ∷ [])) (sym same) opposite)

pub returns-else-second-clause-line : goal.returns-else-second-clause-line
returns-else-second-clause-line c =
    let h = c.args.history.now in
    let old = c.args.work.now in
    let one = c.choice_at.new.work in
    let two = c.cut_decided-2.new.work in
    let new = c.cut_decided-else-second.new.work in
    let a = c.args.first in
    let b = c.args.second in
    let law = c.in_ok-law.law in
    let rest = c.in_ok-rest.rest in
    let x = term_at old.bank a.term in
    let y = term_at old.bank b.term in
    let whole = told (a.holds || b.holds) (or_term x y) in
    let grows = grown_trans h old one two c.choice_at.ensures.grows c.cut_decided-2.ensures.grows in
    let same_y : term_at one.bank b.term ≡ y = same_term_grown h old one b.term c.choice_at.ensures.grows.grows c.requires.second.small.inside in
    let same_x : term_at two.bank a.term ≡ x = same_term_grown h old two a.term grows.grows c.requires.first.small.inside in
    let opposite : LineHasOnly one law (told (not b.holds) y ∷ told (not a.holds) x ∷ whole ∷ []) = both_opposite one law x y a.holds b.holds c.if-first.false c.if-second.false c.in_ok-law.ensures.line in
    let left : LineHasOnly two rest (told (not a.holds) x ∷ whole ∷ []) = c.in_ok-rest.ensures.line (told (not a.holds) x ∷ whole ∷ []) (subst (λ t. LineHasOnly one law (told (not b.holds) t ∷ told (not a.holds) x ∷ whole ∷ [])) (sym same_y) opposite) in
    for_ok c.cut_decided-else-second.result (λ n. (these : List Term) → LineHasOnly two rest (told (not a.holds) (term_at two.bank a.term) ∷ these) → LineHasOnly new n these) (λ n. LineHasOnly new n (whole ∷ [])) (λ n k.
    k (whole ∷ []) (subst (λ t. LineHasOnly two rest (told (not a.holds) t ∷ whole ∷ [])) (sym same_x) left)) c.cut_decided-else-second.ensures.line
