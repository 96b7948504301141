-- Calls that are T where they are true.
use Rattle.std.proofs.Common.{◌≡◌, ◌∷◌, ◌∙◌, [], ℕ, List, Some, refl, ap, sym, subst, inl, inr}
use Rattle.nq_logic.specs.Terms.{Term}
use Rattle.nq_logic.specs.Words.{equal_term, not_term}
use Rattle.nq_bank.specs.Content.{IsIdOf, term_at, terms_at}
use Rattle.nq_bank.specs.declared.node.TermId.{TermId}
use Rattle.nq_history.specs.declared.entry.Entry.{Entry}
use Rattle.nq_kernel.specs.declared.work.Work.{Work}
use Rattle.nq_kernel.specs.Growing.{WorkStands, WorkGrows}
use Rattle.nq_lines.specs.Lines.{IsTermIn, LineHasOnly}
use Rattle.nq_lines.proofs.Among.{and_among, none_among}
use Rattle.nq_lines.proofs.LineLemmas.{only_more}
use Rattle.nq_lines.proofs.TermLemmas.{term_grown, same_term_grown}
use Rattle.nq_kernel.proofs.GrowingLemmas.{WorkGrows-trans}
use Rattle.nq_reduce.specs.Rewriting.{IsRewritten, denials}

-- a line that a term is another, or is false, shows what the term is rewritten to where it is assumed
pub truth_told : (history : List Entry) (w0 w1 w2 w3 : Work) (assumed : List Term) (t other equation denied : TermId) (line : ℕ) → WorkStands history w0 → WorkGrows history w0 w1 → WorkGrows history w1 w2 → WorkGrows history w2 w3 → IsTermIn history w0 t → IsTermIn history w1 other → term_at w2.bank equation ≡ equal_term (term_at w1.bank t) (term_at w1.bank other) → IsTermIn history w2 equation → term_at w3.bank denied ≡ not_term (term_at w2.bank t) → LineHasOnly w3 line (terms_at w3.bank (equation ∷ denied ∷ [])) → IsRewritten history w3 (term_at w0.bank t ∷ assumed) (term_at w0.bank t) (record { term = other; line = Some line })
truth_told history w0 w1 w2 w3 assumed t other equation denied line stands g1 g2 g3 there other_there says equation_there denies only =
    let T : Term = term_at w0.bank t in
    let there1 : IsTermIn history w1 t = term_grown history w0 w1 t stands g1 there in
    let same1 : term_at w1.bank t ≡ T = same_term_grown history w0 w1 t g1 there in
    let same2 : term_at w2.bank t ≡ T = same_term_grown history w1 w2 t g2 there1 ∙ same1 in
    let g13 : WorkGrows history w1 w3 = WorkGrows-trans history w1 w2 w3 g2 g3 in
    let there3 : IsTermIn history w3 other = term_grown history w1 w3 other g1.stands g13 other_there in
    let Y : Term = term_at w3.bank other in
    let other_same : term_at w1.bank other ≡ Y = sym (same_term_grown history w1 w3 other g13 other_there) in
    let first : term_at w3.bank equation ≡ equal_term T Y = same_term_grown history w2 w3 equation g3 equation_there ∙ (says ∙ (ap (λ x. equal_term x (term_at w1.bank other)) same1 ∙ ap (equal_term T) other_same)) in
    let second : term_at w3.bank denied ≡ not_term T = denies ∙ ap not_term same2 in
    let both : LineHasOnly w3 line (equal_term T Y ∷ not_term T ∷ []) = subst (λ x. LineHasOnly w3 line (equal_term T Y ∷ x ∷ [])) second (subst (λ x. LineHasOnly w3 line (x ∷ term_at w3.bank denied ∷ [])) first only) in
    let all : List Term = equal_term T Y ∷ not_term T ∷ denials assumed in
    record {
      new = there3;
      shown = only_more w3 line (equal_term T Y ∷ not_term T ∷ []) all (and_among (equal_term T Y) (not_term T ∷ []) all (inl refl) (and_among (not_term T) [] all (inr (inl refl)) (none_among all))) both;
    }
