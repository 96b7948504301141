-- A literal that is denied twice.
use Rattle.std.proofs.Common.{◌≡◌, ℕ, List, [], ◌∷◌, ap, ◌∙◌, subst, inl, inr}
use Rattle.nq_logic.specs.Terms.{Term}
use Rattle.nq_logic.specs.Words.{not_term, equal_term}
use Rattle.nq_bank.specs.declared.node.TermId.{TermId}
use Rattle.nq_bank.specs.Content.{IsIdOf, term_at}
use Rattle.nq_history.specs.declared.entry.Entry.{Entry}
use Rattle.nq_kernel.specs.declared.work.Work.{Work}
use Rattle.nq_kernel.specs.Growing.{WorkStands, WorkGrows}
use Rattle.nq_lines.specs.Lines.{LineLeads, LineHasOnly, IsTermIn, CutsTo, MakesOf}
use Rattle.nq_lines.proofs.LineLemmas.{only_grown, only_more, leads_only}
use Rattle.nq_lines.proofs.TermLemmas.{same_term_grown}

-- cut by p from a line with p and the line of (NOT p) and (NOT (NOT p))
pub denied_twice : (history : List Entry) (w0 w1 w2 w3 : Work) (p denial : TermId) (line law n : ℕ) → WorkStands history w0 → WorkGrows history w0 w1 → WorkGrows history w0 w2 → IsTermIn history w0 p → IsIdOf w1.bank denial (not_term (term_at w0.bank p)) →
    LineLeads w2 law (term_at w1.bank denial) (not_term (term_at w1.bank denial) ∷ []) → CutsTo w2 w3 (term_at w2.bank p) line law n → MakesOf w0 w3 (term_at w0.bank p) (not_term (not_term (term_at w0.bank p))) line n
denied_twice history w0 w1 w2 w3 p denial line law n s0 g01 g02 p_in d leads cuts these h =
    let q : Term = term_at w0.bank p in
    let same : term_at w2.bank p ≡ q = same_term_grown history w0 w2 p g02 p_in in
    let both : LineHasOnly w2 law (not_term q ∷ not_term (not_term q) ∷ []) =
    subst (λ u. LineHasOnly w2 law (u ∷ not_term u ∷ [])) d.denotes (leads_only w2 law (term_at w1.bank denial) (not_term (term_at w1.bank denial) ∷ []) leads) in
    let cuts_q : CutsTo w2 w3 q line law n = subst (λ u. CutsTo w2 w3 u line law n) same cuts in
    cuts_q (not_term (not_term q) ∷ these)
    (only_more w2 line (q ∷ these) (q ∷ not_term (not_term q) ∷ these) (λ u m. elim m [ inl e ↦ inl e | inr k ↦ inr (inr k) ]) (only_grown history w0 w2 line (q ∷ these) s0 g02 h))
    (only_more w2 law (not_term q ∷ not_term (not_term q) ∷ []) (not_term q ∷ not_term (not_term q) ∷ these) (λ u m. elim m [ inl e ↦ inl e | inr k ↦ elim k [ inl e ↦ inr (inl e) | inr none ↦ absurd none ] ]) both)

-- the equation of a term and itself, denied twice
pub same_denied : (history : List Entry) (w0 w1 w2 w3 : Work) (t equation : TermId) (line n : ℕ) → WorkStands history w1 → WorkGrows history w0 w1 → WorkGrows history w1 w2 → IsTermIn history w0 t → LineLeads w1 line (equal_term (term_at w0.bank t) (term_at w0.bank t)) [] →
    IsIdOf w2.bank equation (equal_term (term_at w1.bank t) (term_at w1.bank t)) → MakesOf w2 w3 (term_at w2.bank equation) (not_term (not_term (term_at w2.bank equation))) line n → LineHasOnly w3 n (not_term (not_term (equal_term (term_at w0.bank t) (term_at w0.bank t))) ∷ [])
same_denied history w0 w1 w2 w3 t equation line n s1 g01 g12 t_in leads made makes =
    let u : Term = term_at w0.bank t in
    let same : term_at w2.bank equation ≡ equal_term u u = made.denotes ∙ ap (λ v. equal_term v v) (same_term_grown history w0 w1 t g01 t_in) in
    let given : LineHasOnly w2 line (equal_term u u ∷ []) = only_grown history w1 w2 line (equal_term u u ∷ []) s1 g12 (leads_only w1 line (equal_term u u) [] leads) in
    let makes_u : MakesOf w2 w3 (equal_term u u) (not_term (not_term (equal_term u u))) line n = subst (λ v. MakesOf w2 w3 v (not_term (not_term v)) line n) same makes in
    makes_u [] given
