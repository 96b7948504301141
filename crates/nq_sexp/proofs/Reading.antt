-- What was taken so far.
use Rattle.std.proofs.Common.{◌≡◌, ℕ, ◌+◌, ◌^◌, ◌<◌, ◌≤◌, List, [], ◌∷◌, ◌++◌, length, refl, ap, sym, ◌∙◌, subst, arith, append_assoc, append-nil, inl, inr}
use Rattle.std.specs.Prelude.{Option, None, Some, IsTrue, Bool, true, false}
use Rattle.std.specs.Io.KnownBytes.{Consumes, prepend_known}
use Rattle.std.proofs.lemmas.Grind.{common_steps}
use Rattle.nq_sexp.specs.Held.{Held, behind, ahead, IsAsked, Taken}
use Rattle.nq_form.specs.Bytes.{is_closed}
use Rattle.nq_sexp.specs.Halt.{IsPrompt}

pub Consumes-nothing : (a : Option (List ℕ)) → Consumes a a []
Consumes-nothing None = tt
Consumes-nothing (Some xs) = refl

pub Consumes-more : (a b c : Option (List ℕ)) (xs ys : List ℕ) → Consumes a b xs → Consumes b c ys → Consumes a c (xs ++ ys)
Consumes-more None b c xs ys p q = tt
Consumes-more (Some x) None c xs ys p q = absurd p
Consumes-more (Some x) (Some y) None xs ys p q = absurd q
Consumes-more (Some x) (Some y) (Some z) xs ys p q = p ∙ ap (λ l. xs ++ l) q ∙ sym (append_assoc xs ys z)

-- going past the byte in hand consumes it
pub Consumes-one : (left : Option (List ℕ)) (old new : List ℕ) (byte : ℕ) → old ≡ byte ∷ new → Consumes (prepend_known old left) (prepend_known new left) (byte ∷ [])
Consumes-one None old new byte e = tt
Consumes-one (Some xs) old new byte e = ap (λ z. z ++ xs) e

-- a source that told its end has nothing behind
pub behind-end : (told : Bool) (left : Option (List ℕ)) (xs : List ℕ) → IsTrue told → behind told left ≡ Some xs → xs ≡ []
behind-end true None xs h e = cc
behind-end true (Some ys) xs h e = cc
behind-end false left xs h e = cc

-- the source was asked, which is so only where it had not told its end
pub not_told : (old new : Bool) → (IsTrue old → IsTrue new) → new ≡ false → old ≡ false
not_told false new h e = refl
not_told true new h e = let told : new ≡ true = h refl in cc

-- the bytes that a source gave are in hand
Consumes-given : (a b : Option (List ℕ)) (xs : List ℕ) → Consumes a b xs → Consumes a (prepend_known xs b) []
Consumes-given None b xs c = tt
Consumes-given (Some x) None xs c = absurd c
Consumes-given (Some x) (Some y) xs c = c

nothing_in_hand : (left : Option (List ℕ)) → prepend_known [] left ≡ left
nothing_in_hand None = refl
nothing_in_hand (Some xs) = refl

pub none_in_hand : (held : Held) (left : Option (List ℕ)) → held.bytes ≡ [] → held.told ≡ false → ahead held left ≡ left
none_in_hand held left e untold =
    ap (λ (z : List ℕ). prepend_known z (behind held.told left)) e ∙ ap (λ (t : Bool). prepend_known [] (behind t left)) untold ∙ nothing_in_hand left

module _ {S : Type 0} where
  asked-more : (a b c : S) (old mid new t u : List ℕ) → IsAsked a b old mid t → IsAsked b c mid new u → IsAsked a c old new (t ++ u)
  asked-more a b c old mid new t u (inl p) (inl q) = inl (q.0 ∙ p.0, p.1 ∙ ap (λ z. t ++ z) q.1 ∙ sym (append_assoc t u new))
  asked-more a b c old mid new t u (inl p) (inr q) = inr (q.0, ap (λ z. t ++ z) q.1 ∙ sym (append_assoc t mid q.0) ∙ ap (λ z. z ++ q.0) (sym p.1))
  asked-more a b c old mid new t u (inr p) q = inr (p.0 ++ u, ap (λ z. z ++ u) p.1 ∙ append_assoc old p.0 u)

  pub prompt-more : (a b c : S) (old mid t u : List ℕ) → IsAsked a b old mid t → IsPrompt b c mid u → 0 < length u → (IsTrue (is_closed (t ++ u)) → IsTrue (is_closed u)) → IsPrompt a c old (t ++ u)
  prompt-more a b c old mid t u (inl p) (inl q) some k = inl (q ∙ p.0)
  prompt-more a b c old mid t u (inl p) (inr q) some k = inr (q.0, ap (λ z. t ++ z) q.1 ∙ sym (append_assoc t mid q.0) ∙ ap (λ z. z ++ q.0) (sym p.1), λ h. q.2 (k h))
  prompt-more a b c old mid t u (inr p) q some k = inr (p.0 ++ u, ap (λ z. z ++ u) p.1 ∙ append_assoc old p.0 u, λ h. grind (arith, common_steps))

  -- a text that isn't closed may go on
  pub prompt-open : (a b : S) (old new t : List ℕ) → IsAsked a b old new t → (IsTrue (is_closed t) → ⊥) → IsPrompt a b old t
  prompt-open a b old new t (inl p) f = inl p.0
  prompt-open a b old new t (inr p) f = inr (p.0, p.1, λ h. absurd (f h))

  pub taken-more : (left : S → Option (List ℕ)) (a b c : Held) (p q r : S) (t u : List ℕ) → Taken left a p b q t → Taken left b q c r u → Taken left a p c r (t ++ u)
  taken-more left a b c p q r t u x y = record {
    known = Consumes-more _ _ _ t u x.known y.known;
    count = grind (arith, common_steps, x.count, y.count);
    within = y.within;
    asked = asked-more p q r a.bytes b.bytes c.bytes t u x.asked y.asked;
    kept = λ h. let first = x.kept h in let second = y.kept first.0 in (second.0, second.1 ∙ first.1);
  }

  pub taken-as : (left : S → Option (List ℕ)) (a b : Held) (p q : S) (t u : List ℕ) → t ≡ u → Taken left a p b q t → Taken left a p b q u
  taken-as left a b p q t u e x = subst (λ (z : List ℕ). Taken left a p b q z) e x

  -- the next byte was looked at
  pub taken-looked : (left : S → Option (List ℕ)) (a b c : Held) (p q r : S) (t : List ℕ) → Taken left a p b q t → Taken left b q c r [] → Taken left a p c r t
  taken-looked left a b c p q r t x y = taken-as left a c p r (t ++ []) t (append-nil t) (taken-more left a b c p q r t [] x y)

  pub taken-one : (left : S → Option (List ℕ)) (a b : Held) (p : S) (byte : ℕ) → a.bytes ≡ byte ∷ b.bytes → b.at ≡ a.at + 1 → b.told ≡ a.told → a.at < 2 ^ 25 → Taken left a p b p (byte ∷ [])
  taken-one left a b p byte e f same h = record {
    known = subst (λ (t : Bool). Consumes (ahead a (left p)) (prepend_known b.bytes (behind t (left p))) (byte ∷ [])) (sym same) (Consumes-one (behind a.told (left p)) a.bytes b.bytes byte e);
    count = grind (arith, common_steps);
    within = omega arith;
    asked = inl (refl, e);
    kept = λ h. (same ∙ h, refl);
  }

  -- nothing was asked
  pub taken-none : (left : S → Option (List ℕ)) (a b : Held) (p : S) → b ≡ a → a.at ≤ 2 ^ 25 → Taken left a p b p []
  taken-none left a b p e h = subst (λ (z : Held). Taken left a p z p []) (sym e) (record { known = Consumes-nothing (ahead a (left p)); count = omega arith; within = h; asked = inl (refl, refl); kept = λ k. (k, refl) })

  -- the source was asked where nothing was in hand, and gave some bytes
  pub taken-given : (left : S → Option (List ℕ)) (a b : Held) (p q : S) → a.bytes ≡ [] → a.told ≡ false → b.told ≡ false → b.at ≡ a.at → a.at ≤ 2 ^ 25 → Consumes (left p) (left q) b.bytes → Taken left a p b q []
  taken-given left a b p q empty untold still e h c = record {
    known = subst (λ (z : Option (List ℕ)). Consumes z (prepend_known b.bytes (behind b.told (left q))) []) (sym (none_in_hand a (left p) empty untold))
        (subst (λ (t : Bool). Consumes (left p) (prepend_known b.bytes (behind t (left q))) []) (sym still) (Consumes-given (left p) (left q) b.bytes c));
    count = omega (arith, e);
    within = omega (arith, e, h);
    asked = inr ([], sym (append-nil a.bytes ∙ empty));
    kept = λ k. let no : true ≡ false = sym k ∙ untold in cc;
  }
