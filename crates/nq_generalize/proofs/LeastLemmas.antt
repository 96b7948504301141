-- Terms that are kept of others.
use Rattle.std.proofs.Common.{◌≡◌, ◌<◌, ◌≤◌, ◌+◌, ℕ, zero, suc, Bool, true, false, if◌then◌else◌, List, [], ◌∷◌, ◌++◌, length, take, get_or, refl, sym, ap, ◌∙◌, subst, inl, inr, arith}
use Rattle.std.proofs.lemmas.List.{length-append, take_all, take_more}
use Rattle.nq_logic.specs.Terms.{Term, IsAmong}
use Rattle.nq_bank.specs.declared.node.TermId.{TermId}
use Rattle.nq_bank.specs.Content.{Content, Stands, term_at, terms_at}
use Rattle.std.specs.Prelude.{All}
use Rattle.nq_lines.specs.Lines.{AreAmong}
use Rattle.nq_stuck.proofs.Joined.{among_either, among_first, among_second}

pub terms_joined : (bank : Content) (xs ys : List TermId) → terms_at bank (xs ++ ys) ≡ terms_at bank xs ++ terms_at bank ys
terms_joined bank [] ys = refl
terms_joined bank (x ∷ xs) ys = ap (λ ts. term_at bank x ∷ ts) (terms_joined bank xs ys)

pub first_kept : (bank : Content) (kept others : List TermId) (first : TermId) → kept ≡ first ∷ [] → AreAmong (terms_at bank kept) (terms_at bank (first ∷ take 0 others))
first_kept bank kept others first is t m = elim (subst (λ ids. IsAmong t (terms_at bank ids)) is m) [ inl e ↦ inl e | inr none ↦ absurd none ]

pub least_more : (bank : Content) (old new others : List TermId) (first : TermId) (i : ℕ) (d : TermId) (held : Bool) → i < length others → AreAmong (terms_at bank old) (terms_at bank (first ∷ take i others)) → new ≡ (if held then old else old ++ get_or others i d ∷ []) →
    AreAmong (terms_at bank new) (terms_at bank (first ∷ take (i + 1) others))
least_more bank old new others first i d held below within told t m = by_test held (subst (λ ids. IsAmong t (terms_at bank ids)) told m)
  where
    x : TermId
    x = get_or others i d

    more : terms_at bank (first ∷ take (i + 1) others) ≡ terms_at bank (first ∷ take i others) ++ term_at bank x ∷ []
    more = ap (λ ids. term_at bank first ∷ terms_at bank ids) (take_more others i d below) ∙ ap (λ ts. term_at bank first ∷ ts) (terms_joined bank (take i others) (x ∷ []))

    earlier : IsAmong t (terms_at bank old) → IsAmong t (terms_at bank (first ∷ take (i + 1) others))
    earlier n = subst (IsAmong t) (sym more) (among_first t (terms_at bank (first ∷ take i others)) (term_at bank x ∷ []) (within t n))

    last : IsAmong t (term_at bank x ∷ []) → IsAmong t (terms_at bank (first ∷ take (i + 1) others))
    last n = subst (IsAmong t) (sym more) (among_second t (terms_at bank (first ∷ take i others)) (term_at bank x ∷ []) n)

    by_test : (b : Bool) → IsAmong t (terms_at bank (if b then old else old ++ x ∷ [])) → IsAmong t (terms_at bank (first ∷ take (i + 1) others))
    by_test true n = earlier n
    by_test false n = elim (among_either t (terms_at bank old) (term_at bank x ∷ []) (subst (IsAmong t) (terms_joined bank old (x ∷ [])) n)) [ inl here ↦ earlier here | inr there ↦ last there ]

pub some_more : (old new : List TermId) (x : TermId) (held : Bool) → 1 ≤ length old → new ≡ (if held then old else old ++ x ∷ []) → 1 ≤ length new
some_more old new x true some told = subst (λ ids. 1 ≤ length ids) (sym told) some
some_more old new x false some told = let longer : 1 ≤ length (old ++ x ∷ []) = omega (arith, length-append old (x ∷ []), some) in subst (λ ids. 1 ≤ length ids) (sym told) longer

pub some_first : (kept : List TermId) (first : TermId) → kept ≡ first ∷ [] → 1 ≤ length kept
some_first kept first is = let one : 1 ≤ 1 = omega arith in subst (λ ids. 1 ≤ length ids) (sym is) one

pub least_all : (bank : Content) (kept others : List TermId) (first : TermId) (i : ℕ) → length others ≤ i → AreAmong (terms_at bank kept) (terms_at bank (first ∷ take i others)) → AreAmong (terms_at bank kept) (terms_at bank (first ∷ others))
least_all bank kept others first i all within = subst (λ ids. AreAmong (terms_at bank kept) (terms_at bank (first ∷ ids))) (take_all i others all) within

pub one_stands : (bank : Content) (t : TermId) → Stands bank t → All (Stands bank) (t ∷ [])
one_stands bank t h zero d below = h
one_stands bank t h (suc k) d below = absurd (omega (arith, below))
