-- Terms of which a line says that they are ordinals, or that they are themselves.
use Rattle.std.proofs.Common.{◌≡◌, ◌∙◌, ℕ, List, [], ◌∷◌, refl, sym, ap, subst, inl}
use Rattle.nq_logic.specs.Terms.{Term}
use Rattle.nq_logic.specs.Words.{call1, equal_term}
use Rattle.nq_bank.specs.declared.node.TermId.{TermId}
use Rattle.nq_bank.specs.Content.{IsIdOf, term_at}
use Rattle.nq_history.specs.declared.entry.Entry.{Entry}
use Rattle.nq_kernel.specs.declared.work.Work.{Work}
use Rattle.nq_kernel.specs.Growing.{WorkStands, WorkGrows, LineHolds}
use Rattle.nq_lines.specs.Lines.{IsTermIn, LineHasOnly, LineLeads, AreAmong}
use Rattle.nq_lines.specs.Facts.{IsFact}
use Rattle.nq_lines.specs.declared.facts.Fact.{Fact}
use Rattle.nq_lines.proofs.LineLemmas.{only_grown}
use Rattle.nq_lines.proofs.TermLemmas.{term_grown, same_term_grown}
use Rattle.nq_schemes.specs.Steps.{IsOrdinalIn}

-- the line of a term that is just that another is an ordinal
pub ordinal_said : (history : List Entry) (old new : Work) (fact : Fact) (t made : TermId) → WorkStands history old → WorkGrows history old new → IsFact history old fact → IsTermIn history old t →
    IsIdOf new.bank made (call1 "ORDINALP" (term_at old.bank t)) → made ≡ fact.term → IsOrdinalIn history new (record { term = t; line = fact.line })
ordinal_said history old new fact t made stands grows f k is same =
    let only : LineHasOnly old fact.line (term_at old.bank fact.term ∷ []) = record { literals = term_at old.bank fact.term ∷ []; stands = f.holds; only = λ u h. h } in
    let said : term_at old.bank fact.term ≡ call1 "ORDINALP" (term_at new.bank t) =
    sym (same_term_grown history old new fact.term grows f.term) ∙ ap (term_at new.bank) (sym same) ∙ is.denotes ∙ ap (λ (u : Term). call1 "ORDINALP" u) (sym (same_term_grown history old new t grows k)) in
    record {
      term = term_grown history old new t stands grows k;
      line = only_grown history old new fact.line _ stands grows (subst (λ (u : Term). LineHasOnly old fact.line (u ∷ [])) said only);
    }

nothing_else : (rest : List Term) → AreAmong rest [] → rest ≡ []
nothing_else [] h = refl
nothing_else (u ∷ us) h = absurd (h u (inl refl))

-- the line of the equation of a term and itself
pub same_shown : (history : List Entry) (w0 w1 w2 : Work) (t e : TermId) (n : ℕ) → WorkGrows history w0 w1 → WorkGrows history w1 w2 → IsTermIn history w0 t → IsTermIn history w1 e →
    IsIdOf w1.bank e (equal_term (term_at w0.bank t) (term_at w0.bank t)) → LineLeads w2 n (equal_term (term_at w1.bank t) (term_at w1.bank t)) [] → IsFact history w2 (record { term = e; line = n })
same_shown history w0 w1 w2 t e n g1 g2 tin ein is leads =
    let same : equal_term (term_at w1.bank t) (term_at w1.bank t) ≡ term_at w2.bank e =
    ap (λ (u : Term). equal_term u u) (same_term_grown history w0 w1 t g1 tin) ∙ sym is.denotes ∙ sym (same_term_grown history w1 w2 e g2 ein) in
    record {
      term = term_grown history w1 w2 e g1.stands g2 ein;
      holds = subst (λ (u : Term). LineHolds w2 n (u ∷ [])) same (subst (λ (rest : List Term). LineHolds w2 n (equal_term (term_at w1.bank t) (term_at w1.bank t) ∷ rest)) (nothing_else leads.rest leads.only) leads.holds);
    }
