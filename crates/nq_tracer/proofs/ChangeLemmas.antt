-- What the measured variables become at a recursive call.
use Rattle.std.proofs.Common.{◌≡◌, ◌∙◌, Bool, true, false, ℕ, List, [], ◌∷◌, ◌++◌, ◌&&◌, ◌||◌, ◌⊎◌, map, length, refl, sym, ap, ap₂, subst, inl, inr}
use Rattle.std.specs.Prelude.{Option, Some, None, not, if◌then◌else◌, bytes_eq}
use Rattle.std.proofs.lemmas.Slice.Eq.{bytes_eq-Decides}
use Rattle.nq_logic.specs.Terms.{Name, Term, Variable, Function, Applied, IsAmong, Each, Substitution, substituted, value_at}
use Rattle.nq_logic.specs.Names.{has_name, are_distinct}
use Rattle.nq_logic.specs.Admissible.{HasVariables, matched}
use Rattle.nq_logic.specs.RuleShapes.{variables_of}
use Rattle.nq_logic.proofs.Lists.{each_append}
use Rattle.nq_events.specs.Inductions.{measured, names_of, name_before, are_distinct_names}
use Rattle.nq_tracer.specs.Cases.{change_of, changes_of}

-- ---- names

same_name : (x : Name) → bytes_eq x x ≡ true
same_name x = (bytes_eq-Decides x x).1 refl

pub has_among : (x : Name) (xs : List Name) → IsAmong x xs → has_name x xs ≡ true
has_among x [] m = absurd m
has_among x (y ∷ xs) (inl e) = ap (λ b. b || has_name x xs) ((bytes_eq-Decides x y).1 e)
has_among x (y ∷ xs) (inr m) = either (bytes_eq x y) (has_among x xs m)
  where
    either : (b : Bool) → has_name x xs ≡ true → (b || has_name x xs) ≡ true
    either true e = refl
    either false e = e

-- a name of the list is not a name that the list has not
apart : (w v : Name) (vs : List Name) → has_name w vs ≡ true → has_name v vs ≡ false → bytes_eq w v ≡ false
apart w v vs here out = by_test (bytes_eq w v) refl
  where
    by_test : (b : Bool) → bytes_eq w v ≡ b → b ≡ false
    by_test true e = let same : true ≡ false = sym here ∙ ap (λ z. has_name z vs) ((bytes_eq-Decides w v).0 e) ∙ out in absurd cc
    by_test false e = refl

-- ---- the first variable and the others

-- the names of a term and more are the name of a variable and those of the rest
record AreNames (t : Term) (rest : List Term) (vs : List Name) : Type 0 where
  v : List ℕ
  more : List (List ℕ)
  is : t ≡ Variable v
  rest_is : names_of rest ≡ Some more
  all : vs ≡ v ∷ more

named_by : (t : Term) (rest : List Term) (vs : List Name) (o : Option (List Name)) → names_of rest ≡ o → name_before t o ≡ Some vs → AreNames t rest vs
named_by (Variable x) rest vs (Some more) r e = record { v = x; more = more; is = refl; rest_is = r; all = let s : x ∷ more ≡ vs = cc in sym s }
named_by (Variable x) rest vs None r e = absurd cc
named_by (Function f) rest vs o r e = absurd cc
named_by (Applied f u) rest vs o r e = absurd cc

names_told : (t : Term) (rest : List Term) (vs : List Name) → names_of (t ∷ rest) ≡ Some vs → AreNames t rest vs
names_told t rest vs e = named_by t rest vs (names_of rest) refl e

not_first : (v : Name) (more : List Name) → are_distinct (v ∷ more) ≡ true → has_name v more ≡ false
not_first v more e = by_test (has_name v more) refl e
  where
    by_test : (b : Bool) → has_name v more ≡ b → (not b && are_distinct more) ≡ true → b ≡ false
    by_test true h d = absurd cc
    by_test false h d = refl

rest_distinct : (v : Name) (more : List Name) → are_distinct (v ∷ more) ≡ true → are_distinct more ≡ true
rest_distinct v more e = by_test (not (has_name v more)) e
  where
    by_test : (b : Bool) → (b && are_distinct more) ≡ true → are_distinct more ≡ true
    by_test true d = d
    by_test false d = absurd cc

abbrev keys : Substitution → List Name
keys s = map (λ (b : List ℕ × Term). b.0) s

module _ (formals : List Name) (image : Name → Term) where
  -- what stands in the place of a measured formal is one of the variables
  record IsVariableAt (s : Substitution) (vs : List Name) (x : Name) : Type 0 where
    w : List ℕ
    is : value_at s x ≡ Variable w
    among : has_name w vs ≡ true

  variable_at : (s : Substitution) (vs : List Name) (x : Name) → names_of (measured formals s) ≡ Some vs → IsAmong x (keys s) → has_name x formals ≡ true → IsVariableAt s vs x
  variable_at [] vs x names key formal = absurd key
  variable_at (b ∷ s) vs x names key formal = by_test (bytes_eq x b.0) refl (has_name b.0 formals) refl names key (λ ws n k. variable_at s ws x n k formal)
    where
      by_test : (same : Bool) → bytes_eq x b.0 ≡ same → (p : Bool) → has_name b.0 formals ≡ p → names_of (if p then b.1 ∷ measured formals s else measured formals s) ≡ Some vs → (x ≡ b.0) ⊎ IsAmong x (keys s)
          → ((ws : List Name) → names_of (measured formals s) ≡ Some ws → IsAmong x (keys s) → IsVariableAt s ws x) → IsVariableAt (b ∷ s) vs x
      by_test true e true f n k rest =
          let t = names_told b.1 (measured formals s) vs n in
          record {
            w = t.v;
            is = ap (λ q. if q then b.1 else value_at s x) e ∙ t.is;
            among = subst (λ z. has_name t.v z ≡ true) (sym t.all) (ap (λ q. q || has_name t.v t.more) (same_name t.v));
          }
      by_test true e false f n k rest = let clash : true ≡ false = sym formal ∙ ap (λ z. has_name z formals) ((bytes_eq-Decides x b.0).0 e) ∙ f in absurd cc
      by_test false e p f n (inl same) rest = let clash : true ≡ false = sym ((bytes_eq-Decides x b.0).1 same) ∙ e in absurd cc
      by_test false e true f n (inr k) rest =
          let t = names_told b.1 (measured formals s) vs n in
          let later = rest t.more t.rest_is k in
          record {
            w = later.w;
            is = ap (λ q. if q then b.1 else value_at s x) e ∙ later.is;
            among = subst (λ z. has_name later.w z ≡ true) (sym t.all) (more_has (bytes_eq later.w t.v) (has_name later.w t.more) later.among);
          }
        where
          more_has : (a c : Bool) → c ≡ true → (a || c) ≡ true
          more_has true c h = refl
          more_has false c h = h
      by_test false e false f n (inr k) rest =
          let later = rest vs n k in
          record { w = later.w; is = ap (λ q. if q then b.1 else value_at s x) e ∙ later.is; among = later.among }

  -- and it becomes the image of the formal
  pub becomes_image : (s : Substitution) (vs : List Name) (x : Name) → names_of (measured formals s) ≡ Some vs → are_distinct vs ≡ true → IsAmong x (keys s) → has_name x formals ≡ true
      → substituted (changes_of formals image s) (value_at s x) ≡ image x
  becomes_image [] vs x names distinct key formal = absurd key
  becomes_image (b ∷ s) vs x names distinct key formal = by_test (bytes_eq x b.0) refl (has_name b.0 formals) refl names key (λ ws n d k. becomes_image s ws x n d k formal)
    where
      by_test : (same : Bool) → bytes_eq x b.0 ≡ same → (p : Bool) → has_name b.0 formals ≡ p → names_of (if p then b.1 ∷ measured formals s else measured formals s) ≡ Some vs → (x ≡ b.0) ⊎ IsAmong x (keys s)
          → ((ws : List Name) → names_of (measured formals s) ≡ Some ws → are_distinct ws ≡ true → IsAmong x (keys s) → substituted (changes_of formals image s) (value_at s x) ≡ image x)
          → substituted (if has_name b.0 formals then change_of b.1 (image b.0) (changes_of formals image s) else changes_of formals image s) (if bytes_eq x b.0 then b.1 else value_at s x) ≡ image x
      by_test true e true f n k rest =
          let t = names_told b.1 (measured formals s) vs n in
          ap₂ (λ p q. substituted (if p then change_of b.1 (image b.0) (changes_of formals image s) else changes_of formals image s) (if q then b.1 else value_at s x)) f e
          ∙ ap (λ (u : Term). substituted (change_of u (image b.0) (changes_of formals image s)) u) t.is
          ∙ ap (λ q. if q then image b.0 else value_at (changes_of formals image s) t.v) (same_name t.v)
          ∙ ap image (sym ((bytes_eq-Decides x b.0).0 e))
      by_test true e false f n k rest = let clash : true ≡ false = sym formal ∙ ap (λ z. has_name z formals) ((bytes_eq-Decides x b.0).0 e) ∙ f in absurd cc
      by_test false e p f n (inl same) rest = let clash : true ≡ false = sym ((bytes_eq-Decides x b.0).1 same) ∙ e in absurd cc
      by_test false e true f n (inr k) rest =
          let t = names_told b.1 (measured formals s) vs n in
          let here = variable_at s t.more x t.rest_is k formal in
          let distinct_all : are_distinct (t.v ∷ t.more) ≡ true = subst (λ z. are_distinct z ≡ true) t.all distinct in
          ap₂ (λ p q. substituted (if p then change_of b.1 (image b.0) (changes_of formals image s) else changes_of formals image s) (if q then b.1 else value_at s x)) f e
          ∙ ap (λ (u : Term). substituted (change_of u (image b.0) (changes_of formals image s)) (value_at s x)) t.is
          ∙ ap (substituted ((t.v, image b.0) ∷ changes_of formals image s)) here.is
          ∙ ap (λ q. if q then image b.0 else value_at (changes_of formals image s) here.w) (apart here.w t.v t.more here.among (not_first t.v t.more distinct_all))
          ∙ ap (substituted (changes_of formals image s)) (sym here.is)
          ∙ rest t.more t.rest_is (rest_distinct t.v t.more distinct_all) k
      by_test false e false f n (inr k) rest =
          ap₂ (λ p q. substituted (if p then change_of b.1 (image b.0) (changes_of formals image s) else changes_of formals image s) (if q then b.1 else value_at s x)) f e
          ∙ rest vs n distinct k

-- ---- a term at the images

pub follows : (first here there : Substitution) (m : Term) → Each (λ x. substituted first (value_at here x) ≡ substituted here (value_at there x)) (variables_of m)
    → substituted first (substituted here m) ≡ substituted here (substituted there m)
follows first here there (Variable x) each = each.0
follows first here there (Function f) each = refl
follows first here there (Applied t u) each =
    ap₂ Applied (follows first here there t (left (variables_of t) (variables_of u) each)) (follows first here there u (right (variables_of t) (variables_of u) each))
  where
    left : (xs ys : List Name) → Each (λ x. substituted first (value_at here x) ≡ substituted here (value_at there x)) (xs ++ ys) → Each (λ x. substituted first (value_at here x) ≡ substituted here (value_at there x)) xs
    left [] ys e = tt
    left (x ∷ xs) ys e = (e.0, left xs ys e.1)

    right : (xs ys : List Name) → Each (λ x. substituted first (value_at here x) ≡ substituted here (value_at there x)) (xs ++ ys) → Each (λ x. substituted first (value_at here x) ≡ substituted here (value_at there x)) ys
    right [] ys e = e
    right (x ∷ xs) ys e = right xs ys e.1

-- ---- formals and their places

-- the variables of a term over names are among these
pub variables_among : (xs : List Name) (m : Term) → HasVariables xs m → Each (λ x. IsAmong x xs) (variables_of m)
variables_among xs (Variable x) has = (has, tt)
variables_among xs (Function f) has = tt
variables_among xs (Applied t u) has = each_append (λ x. IsAmong x xs) (variables_of t) (variables_of u) (variables_among xs t has.0) (variables_among xs u has.1)

-- as many arguments as formals: each formal has its place
pub keys_are : (xs : List Name) (ts : List Term) → length ts ≡ length xs → map (λ (b : List ℕ × Term). b.0) (matched xs ts) ≡ xs
keys_are [] ts e = refl
keys_are (x ∷ xs) [] e = absurd cc
keys_are (x ∷ xs) (t ∷ ts) e = let less : length ts ≡ length xs = cc in ap (λ (ys : List Name). x ∷ ys) (keys_are xs ts less)

pub distinct_names_told : (o : Option (List Name)) → are_distinct_names o ≡ true → (vs : List Name) × ((o ≡ Some vs) × (are_distinct vs ≡ true))
distinct_names_told None e = absurd cc
distinct_names_told (Some vs) e = (vs, (refl, e))
