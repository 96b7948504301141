-- A name with a numeral behind it that is in no use is found among as many as there are names, and one more.
use Rattle.std.proofs.Common.{◌≡◌, ℕ, zero, suc, ◌+◌, ◌^◌, ◌<◌, ◌≤◌, Bool, true, false, ◌&&◌, ◌||◌, not, List, [], ◌∷◌, ◌++◌, length, refl, sym, ap, ◌∙◌, subst, arith, codes}
use Rattle.std.specs.Prelude.{bytes_eq, nat_eq, nat_le, ◌==◌}
use Rattle.std.specs.List.{AllByRecursion, IsDistinct, list_all, list_any}
use Rattle.std.specs.Cmp.{IsEquivalence}
use Rattle.std.specs.Fmt.{decimal}
use Rattle.std.proofs.lemmas.List.{append_cancel_left}
use Rattle.std.proofs.lemmas.Fmt.{decimal_injective}
use Rattle.std.proofs.lemmas.Slice.Eq.{bytes_eq-Decides}
use Rattle.std.proofs.lemmas.Bool.{eqb-true}
use Rattle.std.proofs.lemmas.Map.Made.{length-le_from_is_member}
use Rattle.nq_logic.specs.Terms.{Name}
use Rattle.nq_logic.specs.Histories.{History}
use Rattle.nq_logic.specs.Ground.{all_events}
use Rattle.nq_logic.specs.Names.{events_names, has_name, reserved_names, is_no_more, ends_nest, is_nest, is_reserved, is_in_use}
use Rattle.nq_events.specs.MadeNames.{numbered_from, unused_from, switched_name}
use Rattle.nq_event.specs.MadeNameLaw.{HasFewNames, MadeNamesAreUnused}

-- the sign - stands in the name
abbrev has_dash : Name → Bool
has_dash [] = false
has_dash (b ∷ bs) = nat_eq b 45 || has_dash bs

or_true : (a : Bool) → (a || true) ≡ true
or_true true = refl
or_true false = refl

dash_left : (xs ys : Name) → has_dash xs ≡ true → has_dash (xs ++ ys) ≡ true
dash_left [] ys h = absurd (cc)
dash_left (b ∷ xs) ys h = by_first (nat_eq b 45) (λ k. dash_left xs ys k) h where
  by_first : (c : Bool) → (has_dash xs ≡ true → has_dash (xs ++ ys) ≡ true) → (c || has_dash xs) ≡ true → (c || has_dash (xs ++ ys)) ≡ true
  by_first true rest k = refl
  by_first false rest k = rest k

dash_right : (xs ys : Name) → has_dash ys ≡ true → has_dash (xs ++ ys) ≡ true
dash_right [] ys h = h
dash_right (b ∷ xs) ys h = ap (λ (c : Bool). nat_eq b 45 || c) (dash_right xs ys h) ∙ or_true (nat_eq b 45)

-- no reserved name has a sign -
dashless : (x : Name) (ys : List Name) → list_all (λ (y : Name). not (has_dash y)) ys ≡ true → has_dash x ≡ true → has_name x ys ≡ false
dashless x [] h k = refl
dashless x (y ∷ ys) h k = by_name (bytes_eq x y) (has_dash y) (λ g. dashless x ys g k) refl refl h where
  by_name : (b d : Bool) → (list_all (λ (z : Name). not (has_dash z)) ys ≡ true → has_name x ys ≡ false) → bytes_eq x y ≡ b → has_dash y ≡ d → (not d && list_all (λ (z : Name). not (has_dash z)) ys) ≡ true → (b || has_name x ys) ≡ false
  by_name true true rest e f g = absurd (cc)
  by_name true false rest e f g = absurd (let same : x ≡ y = (bytes_eq-Decides x y).0 e in let dashed : has_dash y ≡ true = ap has_dash (sym same) ∙ k in cc)
  by_name false true rest e f g = absurd (cc)
  by_name false false rest e f g = rest g

both_false : (a b c d : Bool) → c ≡ false → d ≡ false → ((a && c) || (b && d)) ≡ false
both_false true true c d h k = let l : (c || d) ≡ false = ap (λ (z : Bool). z || d) h ∙ k in l
both_false true false c d h k = let l : (c || false) ≡ false = ap (λ (z : Bool). z || false) h in l
both_false false true c d h k = k
both_false false false c d h k = refl

more_dashed : (bs : Name) → has_dash bs ≡ true → is_no_more bs ≡ false
more_dashed [] h = absurd (cc)
more_dashed (b ∷ bs) h = refl

nest_dashed : (count : ℕ) (bs : Name) → has_dash bs ≡ true → ends_nest count bs ≡ false
nest_dashed count [] h = absurd (cc)
nest_dashed count (b ∷ bs) h = by_first (nat_eq b 45) (λ k. nest_dashed (suc count) bs k) refl h where
  by_first : (c : Bool) → (has_dash bs ≡ true → ends_nest (suc count) bs ≡ false) → nat_eq b 45 ≡ c → (c || has_dash bs) ≡ true → ends_nest count (b ∷ bs) ≡ false
  by_first true rest e k = let is : b ≡ 45 = eqb-true b 45 e in subst (λ (z : ℕ). ends_nest count (z ∷ bs) ≡ false) (sym is) refl
  by_first false rest e k = both_false (b == 82 && nat_le 2 count) (b == 65 || b == 68) (is_no_more bs) (ends_nest (suc count) bs) (more_dashed bs k) (rest k)

and_false : (a c : Bool) → c ≡ false → (a && c) ≡ false
and_false true c h = h
and_false false c h = refl

no_nest : (x : Name) → has_dash x ≡ true → is_nest x ≡ false
no_nest [] h = refl
no_nest (b ∷ bs) h = by_first (nat_eq b 45) refl h where
  by_first : (c : Bool) → nat_eq b 45 ≡ c → (c || has_dash bs) ≡ true → is_nest (b ∷ bs) ≡ false
  by_first true e k = let is : b ≡ 45 = eqb-true b 45 e in subst (λ (z : ℕ). is_nest (z ∷ bs) ≡ false) (sym is) refl
  by_first false e k = and_false (b == 67) (ends_nest 0 bs) (nest_dashed 0 bs k)

no_reserved : (x : Name) → has_dash x ≡ true → is_reserved x ≡ false
no_reserved x h = ap (λ (z : Bool). z || is_nest x) (dashless x reserved_names refl h) ∙ no_nest x h

-- the names with the numerals from 1 to k
abbrev candidates : Name → ℕ → List Name
candidates name zero = []
candidates name (suc k) = (name ++ decimal (suc k)) ∷ candidates name k

length_candidates : (name : Name) (k : ℕ) → length (candidates name k) ≡ k
length_candidates name zero = refl
length_candidates name (suc k) = ap suc (length_candidates name k)

bytes_apart : (b : Bool) (f g : Name) → bytes_eq f g ≡ b → (f ≡ g → ⊥) → b ≡ false
bytes_apart true f g h k = absurd (k ((bytes_eq-Decides f g).0 h))
bytes_apart false f g h k = refl

other_numeral : (name : Name) (m k : ℕ) → k < m → m < 2 ^ 64 → bytes_eq (name ++ decimal m) (name ++ decimal k) ≡ false
other_numeral name m k below few =
    bytes_apart (bytes_eq (name ++ decimal m) (name ++ decimal k)) (name ++ decimal m) (name ++ decimal k) refl
    (λ same. let equal : m ≡ k = decimal_injective m k few (omega arith) (append_cancel_left name (decimal m) (decimal k) same) in absurd (omega arith))

apart_from : (name : Name) (m k : ℕ) → k < m → m < 2 ^ 64 → AllByRecursion (λ (y : Name). bytes_eq (name ++ decimal m) y ≡ false) (candidates name k)
apart_from name m zero below few = tt
apart_from name m (suc k) below few = (other_numeral name m (suc k) below few, apart_from name m k (omega arith) few)

candidates_distinct : (name : Name) (k : ℕ) → k < 2 ^ 64 → IsDistinct bytes_eq (candidates name k)
unfolding IsDistinct
candidates_distinct name zero few = tt
candidates_distinct name (suc k) few = (apart_from name (suc k) k (omega arith) few, candidates_distinct name k (omega arith))

bytes_laws : IsEquivalence bytes_eq
bytes_laws = record {
  refl = λ x. (bytes_eq-Decides x x).1 refl;
  symm = λ x y. flipped x y (bytes_eq x y) refl;
  congr = λ x y z h. ap (λ (w : Name). bytes_eq w z) ((bytes_eq-Decides x y).0 h);
} where
  flipped : (x y : Name) (b : Bool) → bytes_eq x y ≡ b → bytes_eq x y ≡ bytes_eq y x
  flipped x y true e = e ∙ sym ((bytes_eq-Decides y x).1 (sym ((bytes_eq-Decides x y).0 e)))
  flipped x y false e = e ∙ sym (bytes_apart (bytes_eq y x) y x refl (λ same. let hit : bytes_eq x y ≡ true = (bytes_eq-Decides x y).1 (sym same) in cc))

member_name : (x : Name) (ys : List Name) → has_name x ys ≡ list_any (bytes_eq x) ys
member_name x [] = refl
member_name x (y ∷ ys) = ap (λ (z : Bool). bytes_eq x y || z) (member_name x ys)

-- each candidate is among the names, so there are no more candidates than names
module _ (name : Name) (names : List Name) where
  abbrev AreUsed : ℕ → Type 0
  AreUsed k = (j : ℕ) → 0 < j → j ≤ k → has_name (name ++ decimal j) names ≡ true

  candidate_used : (q : Name) (k : ℕ) → AreUsed k → list_any (bytes_eq q) (candidates name k) ≡ true → has_name q names ≡ true
  candidate_used q zero used h = absurd (cc)
  candidate_used q (suc k) used h = by_first (bytes_eq q (name ++ decimal (suc k))) (λ g. candidate_used q k (λ j lo hi. used j lo (omega arith)) g) refl h where
    by_first : (b : Bool) → (list_any (bytes_eq q) (candidates name k) ≡ true → has_name q names ≡ true) → bytes_eq q (name ++ decimal (suc k)) ≡ b → (b || list_any (bytes_eq q) (candidates name k)) ≡ true → has_name q names ≡ true
    by_first true rest e g = ap (λ (w : Name). has_name w names) ((bytes_eq-Decides q (name ++ decimal (suc k))).0 e) ∙ used (suc k) (omega arith) (omega arith)
    by_first false rest e g = rest g

  pub no_more_candidates : (k : ℕ) → k < 2 ^ 64 → AreUsed k → k ≤ length names
  no_more_candidates k few used =
      let within = length-le_from_is_member bytes_laws (candidates name k) names (candidates_distinct name k few) (λ q h. sym (member_name q names) ∙ candidate_used q k used h) in
      let count = length_candidates name k in
      omega (arith, within, count)

picked : (h : History) (c rest : Name) (b : Bool) → is_in_use c h ≡ b → (b ≡ true → is_in_use rest h ≡ false) → is_in_use (elim b [ true ↦ rest | false ↦ c ]) h ≡ false
picked h c rest true e k = k refl
picked h c rest false e k = e

by_use : (b c : Bool) → b ≡ false → (b || c) ≡ true → c ≡ true
by_use true c e h = absurd (cc)
by_use false c e h = h

not_used : (b : Bool) → (b ≡ true → ⊥) → b ≡ false
not_used true h = absurd (h refl)
not_used false h = refl

module _ (h : History) (name : Name) (dashed : has_dash name ≡ true) (few : HasFewNames h) where
  abbrev names : List Name
  names = events_names (all_events h)

  used_name : (k : ℕ) → is_in_use (name ++ decimal k) h ≡ true → has_name (name ++ decimal k) names ≡ true
  used_name k e = by_use (is_reserved (name ++ decimal k)) (has_name (name ++ decimal k) names) (no_reserved (name ++ decimal k) (dash_left name (decimal k) dashed)) e

  one_more : (k : ℕ) → AreUsed name names k → is_in_use (name ++ decimal (suc k)) h ≡ true → AreUsed name names (suc k)
  one_more k used e j lo hi = by_place (nat_eq j (suc k)) refl where
    by_place : (b : Bool) → nat_eq j (suc k) ≡ b → has_name (name ++ decimal j) names ≡ true
    by_place true f = let is : j ≡ suc k = eqb-true j (suc k) f in ap (λ (z : ℕ). has_name (name ++ decimal z) names) is ∙ used_name (suc k) e
    by_place false f = used j lo (at_most j k f hi) where
      at_most : (j k : ℕ) → nat_eq j (suc k) ≡ false → j ≤ suc k → j ≤ k
      at_most j k f hi = grind arith

  numbered_unused : (k more : ℕ) → k + more ≡ length names → AreUsed name names k → is_in_use (numbered_from h name (suc k) more) h ≡ false
  numbered_unused k zero sum used =
      not_used (is_in_use (name ++ decimal (suc k)) h)
      (λ e. let within = no_more_candidates name names (suc k) (omega (arith, few, sum)) (one_more k used e) in absurd (omega (arith, within, sum)))
  numbered_unused k (suc more) sum used =
      picked h (name ++ decimal (suc k)) (numbered_from h name (suc (suc k)) more) (is_in_use (name ++ decimal (suc k)) h) refl
      (λ e. numbered_unused (suc k) more (omega (arith, sum)) (one_more k used e))

  unused_found : is_in_use (unused_from h name) h ≡ false
  unused_found =
      picked h name (numbered_from h name 1 (length names)) (is_in_use name h) refl
      (λ e. numbered_unused 0 (length names) (omega arith) (λ j lo hi. absurd (omega arith)))

switched_dashed : (disabled : Bool) (old : Name) → has_dash (switched_name disabled old) ≡ true
switched_dashed true old = dash_right old (codes "-OFF") refl
switched_dashed false old = dash_right old (codes "-ON") refl

pub made_names_unused : MadeNamesAreUnused
made_names_unused h disabled old few = unused_found h (switched_name disabled old) (switched_dashed disabled old) few
