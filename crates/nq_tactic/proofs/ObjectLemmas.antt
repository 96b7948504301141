-- Terms that are shown not to be F.
use Rattle.std.proofs.Common.{◌≡◌, ◌<◌, ◌∷◌, [], ◌∙◌, ℕ, List, length, get_or, refl, sym, ap₂}
use Rattle.std.specs.Prelude.{Option, IfSome}
use Rattle.nq_logic.specs.Words.{equal_term, false_term}
use Rattle.nq_bank.specs.declared.node.TermId.{TermId}
use Rattle.nq_bank.specs.Content.{Content, IsIdOf, term_at, terms_at}
use Rattle.nq_history.specs.declared.entry.Entry.{Entry}
use Rattle.nq_kernel.specs.declared.work.Work.{Work}
use Rattle.nq_kernel.specs.Growing.{WorkGrows}
use Rattle.nq_kernel.proofs.GrowingLemmas.{WorkGrows-trans}
use Rattle.nq_lines.specs.Lines.{LineHasOnly, IsTermIn}
use Rattle.nq_lines.proofs.Among.{and_among, none_among}
use Rattle.nq_lines.proofs.TermLemmas.{same_term_grown}
use Rattle.nq_simplify.proofs.OutcomeLemmas.{found_more}
use Rattle.nq_tactic.proofs.LineLemmas.{among_get, term_among}

-- F and the equation of a term with it are made, and the equation is rewritten
pub still_equation : (history : List Entry) (w0 w1 w2 w3 : Work) → WorkGrows history w0 w1 → WorkGrows history w1 w2 → WorkGrows history w2 w3 → (t falsity equation : TermId) → IsTermIn history w0 t → IsIdOf w1.bank falsity false_term → IsTermIn history w2 equation →
    IsIdOf w2.bank equation (equal_term (term_at w1.bank t) (term_at w1.bank falsity)) → term_at w3.bank equation ≡ equal_term (term_at w3.bank t) false_term
still_equation history w0 w1 w2 w3 g01 g12 g23 t falsity equation here is_no made is =
    let g13 : WorkGrows history w1 w3 = WorkGrows-trans history w1 w2 w3 g12 g23 in
    let then : term_at w1.bank t ≡ term_at w0.bank t = same_term_grown history w0 w1 t g01 here in
    let now : term_at w3.bank t ≡ term_at w0.bank t = same_term_grown history w0 w3 t (WorkGrows-trans history w0 w1 w3 g01 g13) here in
    same_term_grown history w2 w3 equation g23 made ∙ is.denotes ∙ ap₂ equal_term (then ∙ sym now) is_no.denotes

-- the line of a literal is one of the goal
pub literal_found : (work : Work) (bank : Content) (goal : List TermId) (i : ℕ) (d : TermId) (found : Option ℕ) → i < length goal → IfSome found (λ n. LineHasOnly work n (term_at bank (get_or goal i d) ∷ [])) → IfSome found (λ n. LineHasOnly work n (terms_at bank goal))
literal_found work bank goal i d found below h =
    let t : TermId = get_or goal i d in
    found_more work found (term_at bank t ∷ []) (terms_at bank goal) (and_among (term_at bank t) [] (terms_at bank goal) (term_among bank t goal (among_get goal i t d below refl)) (none_among (terms_at bank goal))) h
