-- Replacing within the second side of an equation.
use Rattle.std.proofs.Common.{◌≡◌, ℕ, List, [], ◌∷◌, sym, ap, subst, inl, inr}
use Rattle.std.specs.Prelude.{Some}
use Rattle.nq_logic.specs.Terms.{Term}
use Rattle.nq_logic.specs.Words.{not_term, equal_term}
use Rattle.nq_logic.specs.Numerals.{number_of}
use Rattle.nq_proof.specs.Paths.{replaced_at, around}
use Rattle.nq_proof.specs.Rules.{Forwards}
use Rattle.nq_history.specs.declared.entry.Entry.{Entry}
use Rattle.nq_kernel.specs.declared.work.Work.{Work}
use Rattle.nq_kernel.specs.Growing.{WorkStands, WorkGrows, LineStands}
use Rattle.nq_lines.specs.Lines.{LineLeads, CanReplace, ReplacesTo, DischargesTo}
use Rattle.nq_lines.proofs.LineLemmas.{leads_only, only_more, only_grown, only_stands}
use Rattle.nq_lines.specs.Inside.{HasPart, CarriesInside}

pub inside_equation : (path : List ℕ) (t old new whole : Term) → replaced_at path new t ≡ Some (old, whole) → replaced_at (2 ∷ path) new (equal_term t t) ≡ Some (old, equal_term t whole)
unfolding number_of
inside_equation path t old new whole e = ap (around (λ v. equal_term t v)) e

pub can_inside : (work : Work) (line : ℕ) (path items : List ℕ) (t old new now : Term) → items ≡ 2 ∷ path → now ≡ new → LineLeads work line (equal_term t t) [] → HasPart path old new t → CanReplace work line items now
can_inside work line path items t old new now e f leads part =
    subst (λ p. CanReplace work line p now) (sym e) (subst (CanReplace work line (2 ∷ path)) (sym f) (record {
      first = equal_term t t;
      these = [];
      leads = leads;
      change = (old, equal_term t part.whole);
      changed = inside_equation path t old new part.whole part.changed;
    }))

-- the step by the terms as they were, from the steps by ids
pub carries : (history : List Entry) (w0 w1 w2 w3 : Work) (path items : List ℕ) (t old new new1 old2 new2 : Term) (line replaced equation n : ℕ) → WorkStands history w0 → WorkGrows history w0 w2 → items ≡ 2 ∷ path → new1 ≡ new → old2 ≡ old → new2 ≡ new →
    LineLeads w1 line (equal_term t t) [] → ReplacesTo w1 w2 line items new1 Forwards replaced → DischargesTo w2 w3 Forwards old2 new2 replaced equation n → CarriesInside w0 w3 path t old new equation n
carries history w0 w1 w2 w3 path items t old new new1 old2 new2 line replaced equation n stands grows e f g k leads replaces discharges whole these changed shown =
    let r : ReplacesTo w1 w2 line (2 ∷ path) new Forwards replaced = subst (λ p. ReplacesTo w1 w2 line p new Forwards replaced) e (subst (λ v. ReplacesTo w1 w2 line items v Forwards replaced) f replaces) in
    let d : DischargesTo w2 w3 Forwards old new replaced equation n = subst (λ v. DischargesTo w2 w3 Forwards v new replaced equation n) g (subst (λ v. DischargesTo w2 w3 Forwards old2 v replaced equation n) k discharges) in
    let goal : Term = equal_term t whole in
    let used : Term = not_term (equal_term old new) in
    let there : LineLeads w2 replaced goal (used ∷ []) = r (equal_term t t) (old, goal) [] leads (inside_equation path t old new whole changed) in
    d (goal ∷ these)
    (only_more w2 replaced (goal ∷ used ∷ []) (used ∷ goal ∷ these) (λ v m. elim m [ inl s ↦ inr (inl s) | inr m ↦ elim m [ inl s ↦ inl s | inr none ↦ absurd none ] ]) (leads_only w2 replaced goal (used ∷ []) there))
    (only_more w2 equation (equal_term old new ∷ these) (equal_term old new ∷ goal ∷ these) (λ v m. elim m [ inl s ↦ inl s | inr m ↦ inr (inr m) ]) (only_grown history w0 w2 equation (equal_term old new ∷ these) stands grows shown))

pub replaced_stands : (w1 w2 : Work) (line : ℕ) (path items : List ℕ) (t old new now : Term) (replaced : ℕ) → items ≡ 2 ∷ path → now ≡ new → LineLeads w1 line (equal_term t t) [] → HasPart path old new t → ReplacesTo w1 w2 line items now Forwards replaced → LineStands w2 replaced
replaced_stands w1 w2 line path items t old new now replaced e f leads part replaces =
    let r : ReplacesTo w1 w2 line (2 ∷ path) new Forwards replaced = subst (λ p. ReplacesTo w1 w2 line p new Forwards replaced) e (subst (λ v. ReplacesTo w1 w2 line items v Forwards replaced) f replaces) in
    let there = r (equal_term t t) (old, equal_term t part.whole) [] leads (inside_equation path t old new part.whole part.changed) in
    only_stands w2 replaced (equal_term t part.whole ∷ not_term (equal_term old new) ∷ []) (leads_only w2 replaced (equal_term t part.whole) (not_term (equal_term old new) ∷ []) there)
