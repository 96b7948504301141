use Rattle.std.proofs.Common.{◌≡◌, ◌∙◌, ◌∷◌, ◌++◌, map, sym, ap, ap₂, subst}
use Rattle.std.specs.Prelude.{All}
use Rattle.nq_logic.specs.Terms.{Term}
use Rattle.nq_logic.specs.Words.{not_term}
use Rattle.nq_bank.specs.Content.{term_at, terms_at}
use Rattle.nq_proof.specs.Clauses.{Clause}
use Rattle.nq_kernel.proofs.GrowingLemmas.{WorkGrows-trans}
use Rattle.nq_lines.specs.Lines.{IsTermIn}
use Rattle.nq_lines.proofs.TermLemmas.{same_term_grown, term_grown}
use Rattle.nq_rule.proofs.Made.{for_ok}
use Rattle.nq_moves.proofs.SwappedLemmas.{goal_in_grown, goal_same}
use Rattle.nq_eliminate.proofs.KnownLemmas.{ids_cons}
use Rattle.nq_eliminate.proofs.making.to_rename.Goals as goal

pub with_denials-requires-clause-first : goal.with_denials-requires-clause-first
with_denials-requires-clause-first c =
    let h = c.args.history.now in
    let old = c.args.work.now in
    let mid = c.deny.new.work in
    let up = c.deny.ensures.grows in
    subst (All (IsTermIn h mid)) (sym (c.as_slice.ensures.value ∙ c.in_ok-first.ensures.ids))
    (ids_cons h mid c.args.r.now.whole (c.in_ok-denial.denial ∷ c.args.goal.now) (term_grown h old mid c.args.r.now.whole c.requires.stands up c.requires.whole)
    (ids_cons h mid c.in_ok-denial.denial c.args.goal.now c.in_ok-denial.ensures.over (goal_in_grown h old mid c.requires.stands up c.args.goal.now c.requires.goal)))

pub with_denials-requires-clause-terms : goal.with_denials-requires-clause-terms
with_denials-requires-clause-terms c =
    let h = c.args.history.now in
    let mid = c.deny.new.work in
    subst (All (IsTermIn h mid)) (sym c.as_slice-2.ensures.value) (goal_in_grown h c.args.work.now mid c.requires.stands c.deny.ensures.grows c.args.r.now.hypotheses.items c.requires.hypotheses)

pub returns-clause-literals : goal.returns-clause-literals
returns-clause-literals c =
    let h = c.args.history.now in
    let old = c.args.work.now in
    let mid = c.deny.new.work in
    let up = c.deny.ensures.grows in
    let r = c.args.r.now in
    let first : terms_at mid.bank c.as_slice.result.now ≡ term_at old.bank r.whole ∷ not_term (term_at old.bank c.args.equation) ∷ terms_at old.bank c.args.goal.now =
    ap (terms_at mid.bank) (c.as_slice.ensures.value ∙ c.in_ok-first.ensures.ids)
    ∙ ap (λ t. t ∷ term_at mid.bank c.in_ok-denial.denial ∷ terms_at mid.bank c.args.goal.now) (same_term_grown h old mid r.whole up c.requires.whole)
    ∙ ap₂ (λ (t : Term) (g : Clause). term_at old.bank r.whole ∷ t ∷ g) c.in_ok-denial.ensures.denied.denotes (goal_same h old mid c.requires.stands up c.args.goal.now c.requires.goal) in
    let hyps : terms_at mid.bank c.as_slice-2.result.now ≡ terms_at old.bank r.hypotheses.items =
    ap (terms_at mid.bank) c.as_slice-2.ensures.value ∙ goal_same h old mid c.requires.stands up r.hypotheses.items c.requires.hypotheses in
    for_ok c.with_denials.result (λ v. terms_at c.with_denials.new.work.bank v.items ≡ terms_at mid.bank c.as_slice.result.now ++ map not_term (terms_at mid.bank c.as_slice-2.result.now))
    (λ v. terms_at c.with_denials.new.work.bank v.items ≡ term_at old.bank r.whole ∷ not_term (term_at old.bank c.args.equation) ∷ (terms_at old.bank c.args.goal.now ++ map not_term (terms_at old.bank r.hypotheses.items)))
    (λ v is. is ∙ ap₂ (λ (a b : Clause). a ++ map not_term b) first hyps) c.with_denials.ensures.literals

pub returns-in_err-first-clause-grows : goal.returns-in_err-first-clause-grows
returns-in_err-first-clause-grows c = c.deny.ensures.grows

pub returns-clause-grows : goal.returns-clause-grows
returns-clause-grows c = WorkGrows-trans c.args.history.now c.args.work.now c.deny.new.work c.with_denials.new.work c.deny.ensures.grows c.with_denials.ensures.grows
