use Rattle.std.proofs.Common.{◌≡◌, ◌∷◌, ◌∙◌, ℕ, List, ap, ap₂, sym, subst}
use Rattle.std.specs.Prelude.{is_some}
use Rattle.nq_logic.specs.Terms.{Term}
use Rattle.nq_logic.specs.Words.{not_term, or_term}
use Rattle.nq_bank.specs.Content.{term_at}
use Rattle.nq_bank.proofs.Growth.{term_at-grown}
use Rattle.nq_rule.proofs.Made.{for_ok}
use Rattle.nq_kernel.specs.declared.work.Work.{Work}
use Rattle.nq_kernel.proofs.HeldLines.{held_grown}
use Rattle.nq_lines.specs.Lines.{LineHasOnly}
use Rattle.nq_replay.specs.Uncounted.{GrowsUncounted}
use Rattle.nq_replay.proofs.UncountedLemmas.{grown_trans}
use Rattle.nq_kernel.proofs.GrowingLemmas.{LineHolds-grown}
use Rattle.nq_lines.proofs.LineLemmas.{only_grown}
use Rattle.nq_measures.proofs.TermLemmas.{term_in_grown}
use Rattle.nq_replay.specs.LawClauses.{choice_opens_clause}
use Rattle.nq_measures.proofs.OpeningLemmas.{opened, behind, with_these}
use Rattle.nq_measures.proofs.openings.open_choice.Goals as goal

pub law_at-requires-clause-law : goal.law_at-requires-clause-law
law_at-requires-clause-law c = LineHolds-grown c.args.history.now c.args.work.now c.deny.new.work c.args.law choice_opens_clause c.requires.stands c.deny.ensures.grows.grows c.requires.law

pub law_at-requires-clause-left_over : goal.law_at-requires-clause-left_over
law_at-requires-clause-left_over c = term_in_grown c.args.work.now.bank c.deny.new.work.bank c.args.history.now c.args.t c.deny.ensures.grows.grows.bank c.requires.stands.history c.requires.left c.requires.left_over

pub law_at-requires-clause-right_over : goal.law_at-requires-clause-right_over
law_at-requires-clause-right_over c = term_in_grown c.args.work.now.bank c.deny.new.work.bank c.args.history.now c.args.u c.deny.ensures.grows.grows.bank c.requires.stands.history c.requires.right c.requires.right_over

pub law_at-requires-clause-denied : goal.law_at-requires-clause-denied
law_at-requires-clause-denied c =
    let h = c.deny.ensures.grows.grows.bank in
    let old = c.args.work.now.bank in
    let now = c.deny.new.work.bank in
    record { stands = c.in_ok-denied.ensures.denied.stands; denotes = c.in_ok-denied.ensures.denied.denotes ∙ ap not_term (c.requires.whole.denotes ∙ sym (ap₂ or_term (term_at-grown old now c.args.t h c.requires.left) (term_at-grown old now c.args.u h c.requires.right))) }

pub returns-in_err-here-clause-grows : goal.returns-in_err-here-clause-grows
returns-in_err-here-clause-grows c = grown_trans c.args.history.now c.args.work.now c.deny.new.work c.law_at.new.work c.deny.ensures.grows c.law_at.ensures.grows

pub add_cut-requires-clause-first : goal.add_cut-requires-clause-first
add_cut-requires-clause-first c =
    let grows = grown_trans c.args.history.now c.args.work.now c.deny.new.work c.law_at.new.work c.deny.ensures.grows c.law_at.ensures.grows in
    ap is_some (held_grown c.args.history.now c.args.work.now c.law_at.new.work c.args.line c.requires.stands grows.grows c.requires.line)

pub add_cut-requires-clause-over : goal.add_cut-requires-clause-over
add_cut-requires-clause-over c =
    let grows = grown_trans c.args.history.now c.args.work.now c.deny.new.work c.law_at.new.work c.deny.ensures.grows c.law_at.ensures.grows in
    term_in_grown c.args.work.now.bank c.law_at.new.work.bank c.args.history.now c.args.whole grows.grows.bank c.requires.stands.history c.requires.whole.stands c.requires.over

pub returns-clause-grows : goal.returns-clause-grows
returns-clause-grows c =
    let grows = grown_trans c.args.history.now c.args.work.now c.deny.new.work c.law_at.new.work c.deny.ensures.grows c.law_at.ensures.grows in
    grown_trans c.args.history.now c.args.work.now c.law_at.new.work c.add_cut.new.work grows c.add_cut.ensures.grows

pub returns-clause-line : goal.returns-clause-line
returns-clause-line c =
    let old : Work = c.args.work.now in
    let mid : Work = c.deny.new.work in
    let now : Work = c.law_at.new.work in
    let new : Work = c.add_cut.new.work in
    let grows : GrowsUncounted c.args.history.now old now = grown_trans c.args.history.now old mid now c.deny.ensures.grows c.law_at.ensures.grows in
    let t : Term = term_at old.bank c.args.t in
    let u : Term = term_at old.bank c.args.u in
    let w : Term = or_term t u in
    let same : term_at now.bank c.args.whole ≡ w = term_at-grown old.bank now.bank c.args.whole grows.grows.bank c.requires.whole.stands ∙ c.requires.whole.denotes in
    let law : LineHasOnly now c.in_ok-here.here (opened t u) =
    subst (λ (ls : List Term). LineHasOnly now c.in_ok-here.here ls) (ap₂ opened (term_at-grown old.bank mid.bank c.args.t c.deny.ensures.grows.grows.bank c.requires.left) (term_at-grown old.bank mid.bank c.args.u c.deny.ensures.grows.grows.bank c.requires.right)) c.in_ok-here.ensures.line in
    let P : ℕ → Type 0 = λ n. (these : List Term) → LineHasOnly now c.args.line (term_at now.bank c.args.whole ∷ these) → LineHasOnly now c.in_ok-here.here (not_term (term_at now.bank c.args.whole) ∷ these) → LineHasOnly new n these in
    let Q : ℕ → Type 0 = λ n. (these : List Term) → LineHasOnly old c.args.line (w ∷ these) → LineHasOnly new n (t ∷ u ∷ these) in
    for_ok c.add_cut.result P Q
    (λ n e these h.
    e (t ∷ u ∷ these)
    (subst (λ (v : Term). LineHasOnly now c.args.line (v ∷ t ∷ u ∷ these)) (sym same) (behind _ w t u these (only_grown c.args.history.now old now c.args.line (w ∷ these) c.requires.stands grows.grows h)))
    (subst (λ (v : Term). LineHasOnly now c.in_ok-here.here (not_term v ∷ t ∷ u ∷ these)) (sym same) (with_these _ t u these law)))
    c.add_cut.ensures.line
