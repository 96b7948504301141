-- The sides of an equation.
use Rattle.std.proofs.Common.{◌≡◌, ◌<◌, ◌≤◌, suc, true, List, [], ◌∷◌, length, get_or, refl, sym, ap, ◌∙◌, arith}
use Rattle.std.specs.Prelude.{bytes_eq, codes, All}
use Rattle.nq_logic.specs.Terms.{Name, call}
use Rattle.nq_logic.specs.Words.{equal_term}
use Rattle.nq_bank.specs.declared.node.TermId.{TermId}
use Rattle.nq_bank.specs.Content.{Content, term_at, terms_at}
use Rattle.nq_bank.proofs.Texts.{bytes_eq-true}
use Rattle.nq_lines.specs.Facts.{HasSides}

pub two_sides : (bank : Content) (f : Name) (t : TermId) (ids : List TermId) (d : TermId) → term_at bank t ≡ call f (terms_at bank ids) → bytes_eq f (codes "EQUAL") ≡ true → 2 ≤ length ids → length ids < 3 → All (λ a. a.0 < t.0) ids → HasSides bank t (record { left = get_or ids 0 d; right = get_or ids 1 d })
two_sides bank f t ids d is same least most before = by_ids ids refl
  where
    by_ids : (xs : List TermId) → ids ≡ xs → HasSides bank t (record { left = get_or ids 0 d; right = get_or ids 1 d })
    by_ids [] e = let short : length ids ≡ 0 = ap length e in absurd (omega arith)
    by_ids (a ∷ []) e = let short : length ids ≡ 1 = ap length e in absurd (omega arith)
    by_ids (a ∷ b ∷ []) e =
        record {
          whole = is ∙ ap (λ g. call g (terms_at bank ids)) (bytes_eq-true f (codes "EQUAL") same) ∙ ap (λ xs. call (codes "EQUAL") (terms_at bank xs)) e ∙ ap (λ xs. equal_term (term_at bank (get_or xs 0 d)) (term_at bank (get_or xs 1 d))) (sym e);
          left = before 0 d (omega arith);
          right = before 1 d (omega arith);
        }
    by_ids (a ∷ b ∷ (c ∷ xs)) e = let long : length ids ≡ suc (suc (suc (length xs))) = ap length e in absurd (omega arith)
