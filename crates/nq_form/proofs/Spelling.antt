-- Which texts end in a token, and which begin with one.
use Rattle.std.proofs.Common.{◌≡◌, ℕ, Bool, true, false, List, [], ◌∷◌, ◌++◌, refl, sym, subst, append-nil, inl, inr, nat_eq}
use Rattle.std.specs.Prelude.{◌⊎◌, IsTrue, not, ◌&&◌, ◌||◌}
use Rattle.std.specs.List.{list_all}
use Rattle.std.proofs.lemmas.Bool.{eqb-true}
use Rattle.nq_form.specs.Bytes.{is_separator, is_constituent, is_closed, begins_apart}
use Rattle.nq_form.specs.Token.{IsSymbol}

pub not_both : (b : Bool) → IsTrue b → IsTrue (not b) → ⊥
not_both true p q = cc
not_both false p q = cc

pub is_false : (b : Bool) → IsTrue (not b) → b ≡ false
is_false true h = cc
is_false false h = refl

pub and_front : (a b : Bool) → IsTrue (a && b) → IsTrue a
and_front true b h = refl
and_front false b h = h

pub and_back : (a b : Bool) → IsTrue (a && b) → IsTrue b
and_back true b h = h
and_back false b h = cc

either : (x y : Bool) → IsTrue (x || y) → IsTrue x ⊎ IsTrue y
either true y h = inl refl
either false y h = inr h

at_byte : (byte n : ℕ) → IsTrue (not (is_constituent n)) → IsTrue (nat_eq byte n) → IsTrue (not (is_constituent byte))
at_byte byte n h e = let same : byte ≡ n = eqb-true byte n e in subst (λ (z : ℕ). IsTrue (not (is_constituent z))) (sym same) h

pub separator-apart : (byte : ℕ) → IsTrue (is_separator byte) → IsTrue (not (is_constituent byte))
separator-apart byte h = elim (either _ (nat_eq byte 12) h) [
  | inr e ↦ at_byte byte 12 refl e
  | inl h ↦ elim (either _ (nat_eq byte 13) h) [
    | inr e ↦ at_byte byte 13 refl e
    | inl h ↦ elim (either _ (nat_eq byte 10) h) [
      | inr e ↦ at_byte byte 10 refl e
      | inl h ↦ elim (either (nat_eq byte 32) (nat_eq byte 9) h) [ inr e ↦ at_byte byte 9 refl e | inl e ↦ at_byte byte 32 refl e ]
    ]
  ]
]

pub closed-last : (text : List ℕ) (byte : ℕ) → IsTrue (not (is_constituent byte)) → IsTrue (is_closed (text ++ byte ∷ []))
closed-last [] byte h = h
closed-last (a ∷ []) byte h = h
closed-last (a ∷ b ∷ text) byte h = closed-last (b ∷ text) byte h

pub closed-append : (t u : List ℕ) (b : ℕ) → IsTrue (is_closed (b ∷ u)) → IsTrue (is_closed (t ++ b ∷ u))
closed-append [] u b h = h
closed-append (a ∷ []) u b h = h
closed-append (a ∷ c ∷ t) u b h = closed-append (c ∷ t) u b h

pub closed-back : (t : List ℕ) (b : ℕ) (w : List ℕ) → IsTrue (is_closed (t ++ b ∷ w)) → IsTrue (is_closed (b ∷ w))
closed-back [] b w h = h
closed-back (a ∷ []) b w h = h
closed-back (a ∷ c ∷ t) b w h = closed-back (c ∷ t) b w h

pub closed-inner : (b : ℕ) (u : List ℕ) → IsTrue (is_closed (b ∷ u)) → IsTrue (is_closed u)
closed-inner b [] h = refl
closed-inner b (c ∷ u) h = h

-- behind an opening parenthesis
pub closed-opened : (t u : List ℕ) → IsTrue (is_closed u) → IsTrue (is_closed (t ++ 40 ∷ u))
closed-opened t [] h = closed-last t 40 refl
closed-opened t (b ∷ u) h = closed-append t (b ∷ u) 40 h

constituents-open : (b : ℕ) (w : List ℕ) → IsTrue (list_all is_constituent (b ∷ w)) → IsTrue (is_closed (b ∷ w)) → ⊥
constituents-open b [] h k = not_both (is_constituent b) (and_front _ _ h) k
constituents-open b (c ∷ w) h k = constituents-open c w (and_back _ _ h) k

pub symbol-open : (t w : List ℕ) → IsSymbol w → IsTrue (is_closed (t ++ w)) → ⊥
symbol-open t [] s h = cc (s.front)
symbol-open t (b ∷ w) s h = constituents-open b w s.constituents (closed-back t b w h)

pub symbol-front : (w : List ℕ) → IsSymbol w → IsTrue (begins_apart w) → ⊥
symbol-front [] s h = cc (s.front)
symbol-front (b ∷ w) s h = not_both (is_constituent b) (and_front _ _ s.constituents) h

pub apart-front : (t u w : List ℕ) → IsTrue (is_closed t) ⊎ IsTrue (begins_apart (u ++ w)) → IsTrue (is_closed t) ⊎ IsTrue (begins_apart u)
apart-front t u w (inl k) = inl k
apart-front t [] w (inr k) = inr refl
apart-front t (b ∷ u) w (inr k) = inr k

-- where a token stands behind the second text, the first one is closed too
pub closed-seam : (t v x : List ℕ) → IsTrue (is_closed v) → (IsTrue (begins_apart x) → ⊥) → IsTrue (is_closed t) ⊎ IsTrue (begins_apart (v ++ x)) → IsTrue (is_closed (t ++ v))
closed-seam t (b ∷ v) x h f k = closed-append t v b h
closed-seam t [] x h f (inl k) = subst (λ (z : List ℕ). IsTrue (is_closed z)) (sym (append-nil t)) k
closed-seam t [] x h f (inr k) = absurd (f k)

pub seam-more : (t u r : List ℕ) → IsTrue (is_closed t) ⊎ IsTrue (begins_apart (u ++ r)) → IsTrue (is_closed u) ⊎ IsTrue (begins_apart r)
    → IsTrue (is_closed (t ++ u)) ⊎ IsTrue (begins_apart r)
seam-more t [] r (inl k) h = inl (subst (λ (z : List ℕ). IsTrue (is_closed z)) (sym (append-nil t)) k)
seam-more t [] r (inr k) h = inr k
seam-more t (b ∷ u) r k (inl h) = inl (closed-append t u b h)
seam-more t (b ∷ u) r k (inr h) = inr h
