-- The texts of goals, one literal after another.
use Rattle.std.proofs.Common.{◌≡◌, ◌∙◌, ◌+◌, ◌<◌, ℕ, List, [], ◌∷◌, ◌++◌, length, get_or, take, append-nil, append_assoc, ap, sym}
use Rattle.std.specs.Prelude.{codes}
use Rattle.std.proofs.lemmas.List.{map_more}
use Rattle.nq_logic.specs.Terms.{Term}
use Rattle.nq_language.specs.Printing.{printed}
use Rattle.nq_bank.specs.declared.node.TermId.{TermId}
use Rattle.nq_bank.specs.Content.{Content, term_at, terms_at}
use Rattle.nq_answers.specs.Goals.{more_literals}

-- a literal behind others
literals_push : (ts : List Term) (t : Term) → more_literals (ts ++ t ∷ []) ≡ more_literals ts ++ (codes " OR " ++ printed t)
literals_push [] t = ap (λ (x : List ℕ). codes " OR " ++ x) (append-nil (printed t))
literals_push (u ∷ ts) t =
    ap (λ (x : List ℕ). codes " OR " ++ (printed u ++ x)) (literals_push ts t)
    ∙ ap (λ (x : List ℕ). codes " OR " ++ x) (sym (append_assoc (printed u) (more_literals ts) (codes " OR " ++ printed t)))
    ∙ sym (append_assoc (codes " OR ") (printed u ++ more_literals ts) (codes " OR " ++ printed t))

-- the text with one literal more, which was printed behind an OR
pub literal_put : (bank : Content) (ids : List TermId) (i : ℕ) (d : TermId) (start old joined new : List ℕ) → i < length ids → old ≡ start ++ more_literals (terms_at bank (take i ids))
    → joined ≡ old ++ codes " OR " → new ≡ joined ++ printed (term_at bank (get_or ids i d)) → new ≡ start ++ more_literals (terms_at bank (take (i + 1) ids))
literal_put bank ids i d start old joined new lt before first second =
    let here : List ℕ = printed (term_at bank (get_or ids i d)) in
    let past : List ℕ = more_literals (terms_at bank (take i ids)) in
    second ∙ ap (λ (x : List ℕ). x ++ here) first ∙ append_assoc old (codes " OR ") here ∙ ap (λ (x : List ℕ). x ++ (codes " OR " ++ here)) before
    ∙ append_assoc start past (codes " OR " ++ here)
    ∙ ap (λ (x : List ℕ). start ++ x) (sym (literals_push (terms_at bank (take i ids)) (term_at bank (get_or ids i d))))
    ∙ ap (λ (ts : List Term). start ++ more_literals ts) (sym (map_more (term_at bank) ids i d lt))
