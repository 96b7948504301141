-- Lists of rules, one for each function.
use Rattle.std.proofs.Common.{◌≡◌, ◌<◌, ◌≤◌, ◌+◌, ℕ, Bool, true, false, List, [], ◌∷◌, ◌++◌, length, map, get_or, append-nil, refl, sym, ap, ◌∙◌, arith}
use Rattle.std.specs.Prelude.{nat_eq, nat_lt, if◌then◌else◌, Vec}
use Rattle.std.specs.List.{filter}
use Rattle.std.proofs.lemmas.List.Elements.{filter-append}
use Rattle.std.specs.declared.alloc.Global.{Global}
use Rattle.std.proofs.Math.ListN.{set}
use Rattle.std.proofs.lemmas.Bool.{ltb-true, ltb-false, lt-ltb, le-ltb}
use Rattle.std.proofs.lemmas.Bool.Decides.{Decides-eqb}
use Rattle.std.proofs.lemmas.List.{get_or-map, get_or-set_other, length-set, get_or_past, length-map}
use Rattle.std.proofs.lemmas.Grind.{get_or-set_at}
use Rattle.nq_bank.specs.declared.node.Sym.{Sym}
use Rattle.nq_rule_table.specs.declared.rule.RuleRef.{RuleRef}
use Rattle.nq_rule_table.specs.Rules.{rule_if}
use Rattle.nq_rule_table.specs.Tables.{list_at, is_early}
use Rattle.nq_rule_table.proofs.RuleLemmas.{rule_late}

abbrev items_of : Vec RuleRef Global → List RuleRef
items_of v = v.items

-- a list that stands for another
module _ (vs : List (Vec RuleRef Global)) (n : ℕ) (v w : Vec RuleRef Global) (within : n < length vs) (is : w ≡ get_or vs n w) where
  pub set_here : (g : Sym) → g.0 ≡ n → list_at (set vs n v) g ≡ v.items
  set_here g same =
      let long = length-set vs n v in
      get_or-map items_of (set vs n v) g.0 v [] (omega (arith, long, same, within)) ∙ ap items_of (get_or-set_at vs n g.0 v v same within)

  pub was_here : (g : Sym) → g.0 ≡ n → list_at vs g ≡ w.items
  was_here g same = get_or-map items_of vs g.0 w [] (omega (arith, same, within)) ∙ ap items_of (ap (λ k. get_or vs k w) same ∙ sym is)

  pub set_there : (g : Sym) → (g.0 ≡ n → ⊥) → list_at (set vs n v) g ≡ list_at vs g
  set_there g other = by_place (nat_lt g.0 (length vs)) refl
    where
      by_place : (b : Bool) → nat_lt g.0 (length vs) ≡ b → list_at (set vs n v) g ≡ list_at vs g
      by_place true e =
          let low = ltb-true g.0 (length vs) e in
          let long = length-set vs n v in
          get_or-map items_of (set vs n v) g.0 v [] (omega (arith, long, low))
          ∙ ap items_of (get_or-set_other vs n g.0 v v (λ same. other same))
          ∙ sym (get_or-map items_of vs g.0 v [] low)
      by_place false e =
          let high = ltb-false g.0 (length vs) e in
          let long = length-set vs n v in
          let longer = length-map (set vs n v) items_of in
          let as_long = length-map vs items_of in
          get_or_past (map items_of (set vs n v)) g.0 [] (omega (arith, long, longer, high)) ∙ sym (get_or_past (map items_of vs) g.0 [] (omega (arith, as_long, high)))

  -- a list with one more rule
  pub put_there : (rule : RuleRef) → v.items ≡ w.items ++ rule ∷ [] → (g : Sym) → list_at (set vs n v) g ≡ list_at vs g ++ rule_if (nat_eq g.0 n) rule
  put_there rule more g = by_same (nat_eq g.0 n) refl
    where
      differ : (b : Bool) → b ≡ false → b ≡ true → ⊥
      differ b f t = cc

      by_same : (b : Bool) → nat_eq g.0 n ≡ b → list_at (set vs n v) g ≡ list_at vs g ++ rule_if b rule
      by_same true e = let same = (Decides-eqb g.0 n).0 e in set_here g same ∙ more ∙ ap (λ l. l ++ rule ∷ []) (sym (was_here g same))
      by_same false e = set_there g (λ same. differ (nat_eq g.0 n) e ((Decides-eqb g.0 n).1 same)) ∙ sym (append-nil (list_at vs g))

  same_there : v.items ≡ w.items → (g : Sym) → list_at (set vs n v) g ≡ list_at vs g
  same_there same g = by_same (nat_eq g.0 n) refl
    where
      differ : (b : Bool) → b ≡ false → b ≡ true → ⊥
      differ b f t = cc

      by_same : (b : Bool) → nat_eq g.0 n ≡ b → list_at (set vs n v) g ≡ list_at vs g
      by_same true e = let here = (Decides-eqb g.0 n).0 e in set_here g here ∙ same ∙ sym (was_here g here)
      by_same false e = set_there g (λ here. differ (nat_eq g.0 n) e ((Decides-eqb g.0 n).1 here))

  -- the rules of earlier entries stay
  pub early_put : (rule : RuleRef) → v.items ≡ w.items ++ rule ∷ [] → (g : Sym) → filter (is_early rule.place) (list_at (set vs n v) g) ≡ filter (is_early rule.place) (list_at vs g)
  early_put rule more g =
      ap (filter (is_early rule.place)) (put_there rule more g) ∙ filter-append (is_early rule.place) (list_at vs g) (rule_if (nat_eq g.0 n) rule)
      ∙ ap (λ l. filter (is_early rule.place) (list_at vs g) ++ l) (rule_late rule.place (nat_eq g.0 n) rule refl) ∙ append-nil (filter (is_early rule.place) (list_at vs g))

  pub early_same : (place : ℕ) → v.items ≡ w.items → (g : Sym) → filter (is_early place) (list_at (set vs n v) g) ≡ filter (is_early place) (list_at vs g)
  early_same place same g = ap (filter (is_early place)) (same_there same g)

-- the first entries' rules are kept in one list more
module _ (kept : ℕ) (old vs : List (Vec RuleRef Global)) (i : ℕ) (v w : Vec RuleRef Global) (within : i < length vs) (is : w ≡ get_or vs i w) (only : v.items ≡ filter (is_early kept) w.items) where
  abbrev chosen : Sym → Bool → List RuleRef
  chosen f b = if b then filter (is_early kept) (list_at old f) else list_at old f

  pub kept_more : ((f : Sym) → list_at vs f ≡ chosen f (nat_lt f.0 i)) → (f : Sym) → list_at (set vs i v) f ≡ chosen f (nat_lt f.0 (i + 1))
  kept_more so_far f = by_same (nat_eq f.0 i) refl
    where
      differ : (b : Bool) → b ≡ false → b ≡ true → ⊥
      differ b f t = cc

      below : (m n : ℕ) → m ≡ n → m < n + 1
      below m n e = omega (arith, e)

      past : (m n : ℕ) → m ≡ n → n ≤ m
      past m n e = omega (arith, e)

      by_same : (b : Bool) → nat_eq f.0 i ≡ b → list_at (set vs i v) f ≡ chosen f (nat_lt f.0 (i + 1))
      by_same true e =
          let same = (Decides-eqb f.0 i).0 e in
          set_here vs i v w within is f same ∙ only
          ∙ ap (filter (is_early kept)) (sym (was_here vs i v w within is f same) ∙ so_far f ∙ ap (chosen f) (le-ltb f.0 i (past f.0 i same)))
          ∙ sym (ap (chosen f) (lt-ltb f.0 (i + 1) (below f.0 i same)))
      by_same false e =
          let other : f.0 ≡ i → ⊥ = λ same. differ (nat_eq f.0 i) e ((Decides-eqb f.0 i).1 same) in
          set_there vs i v w within is f other ∙ so_far f ∙ ap (chosen f) (by_order (nat_lt f.0 i) refl other)
        where
          by_order : (b : Bool) → nat_lt f.0 i ≡ b → (f.0 ≡ i → ⊥) → nat_lt f.0 i ≡ nat_lt f.0 (i + 1)
          by_order true low other = low ∙ sym (lt-ltb f.0 (i + 1) (let l = ltb-true f.0 i low in omega (arith, l)))
          by_order false high other = high ∙ sym (le-ltb f.0 (i + 1) (by_gap (nat_lt i f.0) refl))
            where
              by_gap : (b : Bool) → nat_lt i f.0 ≡ b → i + 1 ≤ f.0
              by_gap true more = let m = ltb-true i f.0 more in omega (arith, m)
              by_gap false less =
                  let l = ltb-false i f.0 less in
                  let h = ltb-false f.0 i high in
                  let same : f.0 ≡ i = omega (arith, l, h) in
                  absurd (other same)
