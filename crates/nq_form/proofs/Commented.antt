-- A block comment or a string, as far as it was taken.
use Rattle.std.proofs.Common.{◌≡◌, ℕ, suc, Bool, false, List, [], ◌∷◌, ◌++◌, refl, ap, sym, ◌∙◌, subst, append_assoc, append-nil, nat_eq}
use Rattle.std.specs.Prelude.{not, ◌&&◌, ◌||◌}
use Rattle.nq_form.specs.Blank.{makes_pair, Comment, Commenting, outside, cut, closes, opens, other, Quotes, empty, plain, escaped}

-- comments that go on: what may follow their parts
pub record Nests (P : ℕ → List ℕ → Type 0) : Type 0 where
  pub closing : (n : ℕ) (v : List ℕ) → P n v → P (suc n) (124 ∷ 35 ∷ v)
  pub opening : (n : ℕ) (v : List ℕ) → P (suc (suc n)) v → P (suc n) (35 ∷ 124 ∷ v)
  pub passing : (n : ℕ) (v : List ℕ) (b : ℕ) → makes_pair b v ≡ false → P (suc n) v → P (suc n) (b ∷ v)

pub whole_comments : Nests Comment
whole_comments = record { closing = λ n v h. closes h; opening = λ n v h. opens h; passing = λ n v b e h. other b (ap not e) h }

pub cut_comments : Nests Commenting
cut_comments = record { closing = λ n v h. closes h; opening = λ n v h. opens h; passing = λ n v b e h. other b (ap not e) h }

-- A text is in so many comments past the first, and its last byte may begin a pair.
pub record Carries (P : ℕ → List ℕ → Type 0) (n q : ℕ) (c : List ℕ) : Type 0 where
  pub goes_on : (r : List ℕ) → P (suc n) r → makes_pair q r ≡ false → P 1 (c ++ r)
  pub ends : q ≡ 124 → (r : List ℕ) → P n r → P 1 (c ++ 35 ∷ r)
  pub begins : q ≡ 35 → (r : List ℕ) → P (suc (suc n)) r → P 1 (c ++ 124 ∷ r)

neither_pair : (a b : Bool) → a ≡ false → b ≡ false → (a || b) ≡ false
neither_pair a b p q = ap (λ (z : Bool). z || b) p ∙ q

no_pair-0 : (v : List ℕ) → makes_pair 0 v ≡ false
no_pair-0 [] = refl
no_pair-0 (c ∷ v) = refl

module _ (P : ℕ → List ℕ → Type 0) (k : Nests P) where
  joined : (c : List ℕ) (b : ℕ) (r : List ℕ) → P 1 (c ++ b ∷ r) → P 1 ((c ++ b ∷ []) ++ r)
  joined c b r h = subst (P 1) (sym (append_assoc c (b ∷ []) r)) h

  pub carries-start : Carries P 0 0 []
  carries-start = record { goes_on = λ r h e. h; ends = λ e. cc; begins = λ e. cc }

  pub carries-close : (n q : ℕ) (c : List ℕ) → Carries P (suc n) q c → q ≡ 124 → Carries P n 0 (c ++ 35 ∷ [])
  carries-close n q c h e = record { goes_on = λ r p f. joined c 35 r (h.ends e r p); ends = λ f. cc; begins = λ f. cc }

  pub carries-open : (n q : ℕ) (c : List ℕ) → Carries P n q c → q ≡ 35 → Carries P (suc n) 0 (c ++ 124 ∷ [])
  carries-open n q c h e = record { goes_on = λ r p f. joined c 124 r (h.begins e r p); ends = λ f. cc; begins = λ f. cc }

  pub carries-other : (n q : ℕ) (c : List ℕ) (b : ℕ) → Carries P n q c → (nat_eq q 124 && nat_eq b 35) ≡ false → (nat_eq q 35 && nat_eq b 124) ≡ false → Carries P n b (c ++ b ∷ [])
  carries-other n q c b h e f = record {
    goes_on = λ r p g. joined c b r (h.goes_on (b ∷ r) (k.passing n r b g p) (neither_pair (nat_eq q 35 && nat_eq b 124) (nat_eq q 124 && nat_eq b 35) f e));
    ends = λ g r p. joined c b (35 ∷ r) (subst (λ (z : ℕ). P 1 (c ++ z ∷ 35 ∷ r)) (sym g) (h.goes_on (124 ∷ 35 ∷ r) (k.closing n r p) (subst (λ (z : ℕ). makes_pair q (z ∷ 35 ∷ r) ≡ false) g (neither_pair (nat_eq q 35 && nat_eq b 124) (nat_eq q 124 && nat_eq b 35) f e))));
    begins = λ g r p. joined c b (124 ∷ r) (subst (λ (z : ℕ). P 1 (c ++ z ∷ 124 ∷ r)) (sym g) (h.goes_on (35 ∷ 124 ∷ r) (k.opening n r p) (subst (λ (z : ℕ). makes_pair q (z ∷ 124 ∷ r) ≡ false) g (neither_pair (nat_eq q 35 && nat_eq b 124) (nat_eq q 124 && nat_eq b 35) f e))));
  }

no_pair-end : (q : ℕ) → makes_pair q [] ≡ false
no_pair-end q = refl

-- the end of the outermost comment
pub comment-whole : (q : ℕ) (c : List ℕ) → Carries Comment 0 q c → q ≡ 124 → Comment 1 (c ++ 35 ∷ [])
comment-whole q c h e = h.ends e [] outside

-- the end of the text in a comment
pub comment-cut : (n q : ℕ) (c : List ℕ) → Carries Commenting n q c → Commenting 1 c
comment-cut n q c h = subst (Commenting 1) (append-nil c) (h.goes_on [] cut (no_pair-end q))

pub quotes-more : (s bytes r more : List ℕ) → Quotes s bytes → Quotes r more → Quotes (s ++ r) (bytes ++ more)
quotes-more s bytes r more empty q = q
quotes-more s bytes r more (plain {s = x} {bytes = y} b h k p) q = plain b h k (quotes-more x y r more p q)
quotes-more s bytes r more (escaped {s = x} {bytes = y} b p) q = escaped b (quotes-more x y r more p q)
