-- Names for a rule's variables: those of a call, and new ones for the others.
use Rattle.std.proofs.Common.{◌≡◌, ◌≤◌, ℕ, suc, Bool, true, false, if◌then◌else◌, Option, Some, None, List, [], ◌∷◌, length, refl, sym, ap, ◌∙◌, subst, inl, inr, arith}
use Rattle.std.specs.Prelude.{bytes_eq, ◌⊎◌}
use Rattle.nq_logic.specs.Terms.{Name, Variable, IsAmong, Substitution, value_at}
use Rattle.nq_logic.specs.Admissible.{AreDistinct}
use Rattle.nq_bank.proofs.Texts.{bytes_eq-true, eq-bytes_eq}
use Rattle.nq_goals.specs.Eliminating.{name_in, named_by, names_for, renaming}
use Rattle.nq_eliminate.proofs.Names.{same_name}

abbrev pub Pairs : Type 0
Pairs = List (List ℕ × List ℕ)

-- what stands in a variable's place is the name of the call, or a new one
pub data Source (ps : Pairs) (new : List Name) (s : Substitution) (x : Name) : Type 0 where
  told : (y : List ℕ) → name_in ps x ≡ Some y → value_at s x ≡ Variable y → Source ps new s x
  fresh : (z : List ℕ) → name_in ps x ≡ None → IsAmong z new → value_at s x ≡ Variable z → Source ps new s x

pub value_here : (x a b : Name) (s : Substitution) → bytes_eq x a ≡ true → value_at ((a, Variable b) ∷ s) x ≡ Variable b
value_here x a b s e = ap (λ t. if t then Variable b else value_at s x) e

pub value_later : (x a b : Name) (s : Substitution) → bytes_eq x a ≡ false → value_at ((a, Variable b) ∷ s) x ≡ value_at s x
value_later x a b s e = ap (λ t. if t then Variable b else value_at s x) e

pub passed_on : (ps : Pairs) (new more : List Name) (s : Substitution) (x a b : Name) → bytes_eq x a ≡ false → ((z : Name) → IsAmong z new → IsAmong z more) → Source ps new s x → Source ps more ((a, Variable b) ∷ s) x
passed_on ps new more s x a b apart within (told y named is) = told y named (value_later x a b s apart ∙ is)
passed_on ps new more s x a b apart within (fresh z named m is) = fresh z named (within z m) (value_later x a b s apart ∙ is)

-- what is among the rest
rest_among : (x a : Name) (xs : List Name) → bytes_eq x a ≡ false → IsAmong x (a ∷ xs) → IsAmong x xs
rest_among x a xs apart (inl e) = let here : bytes_eq x a ≡ true = eq-bytes_eq x a e in absurd (cc)
rest_among x a xs apart (inr m) = m

-- the rest of the variables have sources, whatever names are left
abbrev HaveSources : Pairs → List Name → Name → Type 0
HaveSources ps xs x = (ys : List Name) → IsAmong x xs → length xs ≤ length ys → Source ps ys (renaming xs (names_for ps xs ys)) x

pub source : (ps : Pairs) (xs new : List Name) (x : Name) → IsAmong x xs → length xs ≤ length new → Source ps new (renaming xs (names_for ps xs new)) x
source ps [] new x m many = absurd m
source ps (a ∷ xs) new x m many = by_name (λ ys k n. source ps xs ys x k n) (name_in ps a) refl new many
  where
    by_name : HaveSources ps xs x → (o : Option (List ℕ)) → name_in ps a ≡ o → (ys : List Name) → suc (length xs) ≤ length ys → Source ps ys (renaming (a ∷ xs) (named_by o ys (names_for ps xs))) x
    by_name rest (Some y) e ys enough = by_test (bytes_eq x a) refl
      where
        by_test : (b : Bool) → bytes_eq x a ≡ b → Source ps ys ((a, Variable y) ∷ renaming xs (names_for ps xs ys)) x
        by_test true k = told y (ap (name_in ps) (bytes_eq-true x a k) ∙ e) (value_here x a y (renaming xs (names_for ps xs ys)) k)
        by_test false k = passed_on ps ys ys (renaming xs (names_for ps xs ys)) x a y k (λ z n. n) (rest ys (rest_among x a xs k m) (omega (arith, enough)))
    by_name rest None e [] enough = absurd (omega (arith, enough))
    by_name rest None e (z ∷ zs) enough = by_test (bytes_eq x a) refl
      where
        by_test : (b : Bool) → bytes_eq x a ≡ b → Source ps (z ∷ zs) ((a, Variable z) ∷ renaming xs (names_for ps xs zs)) x
        by_test true k = fresh z (ap (name_in ps) (bytes_eq-true x a k) ∙ e) (inl refl) (value_here x a z (renaming xs (names_for ps xs zs)) k)
        by_test false k = passed_on ps zs (z ∷ zs) (renaming xs (names_for ps xs zs)) x a z k (λ w n. inr n) (rest zs (rest_among x a xs k m) (omega (arith, enough)))

-- the call has this name for a variable of the list
pub record FromCall (ps : Pairs) (xs : List Name) (y : Name) : Type 0 where
  pub variable : List ℕ
  pub among : IsAmong variable xs
  pub named : name_in ps variable ≡ Some y

-- each name is one of the call, of a variable of the list, or a new one
pub name_from : (ps : Pairs) (xs new : List Name) (y : Name) → IsAmong y (names_for ps xs new) → (IsAmong y new ⊎ FromCall ps xs y)
name_from ps [] new y m = absurd m
name_from ps (a ∷ xs) new y m = by_name (λ ys n. wider (name_from ps xs ys y n)) (name_in ps a) refl new m
  where
    wider : {X : Type 0} → X ⊎ FromCall ps xs y → X ⊎ FromCall ps (a ∷ xs) y
    wider (inl new_one) = inl new_one
    wider (inr call) = inr (record { variable = call.variable; among = inr call.among; named = call.named })

    by_name : ((ys : List Name) → IsAmong y (names_for ps xs ys) → (IsAmong y ys ⊎ FromCall ps (a ∷ xs) y)) → (o : Option (List ℕ)) → name_in ps a ≡ o → (ys : List Name) → IsAmong y (named_by o ys (names_for ps xs)) → (IsAmong y ys ⊎ FromCall ps (a ∷ xs) y)
    by_name later (Some w) e ys (inl is) = inr (record { variable = a; among = inl refl; named = e ∙ ap Some (sym is) })
    by_name later (Some w) e ys (inr n) = later ys n
    by_name later None e [] n = absurd n
    by_name later None e (z ∷ zs) (inl is) = inl (inl is)
    by_name later None e (z ∷ zs) (inr n) = elim (later zs n) [ inl new_one ↦ inl (inr new_one) | inr call ↦ inr call ]

pub none_some : (o : Option (List ℕ)) (y : List ℕ) → o ≡ None → o ≡ Some y → ⊥
none_some o y e k = cc

-- a new name of a later variable
fresh_later : (ps : Pairs) (xs new : List Name) (x : Name) (z : List ℕ) → IsAmong x xs → length xs ≤ length new → name_in ps x ≡ None → value_at (renaming xs (names_for ps xs new)) x ≡ Variable z → IsAmong z new
fresh_later ps xs new x z m many none is = by_source (source ps xs new x m many)
  where
    by_source : Source ps new (renaming xs (names_for ps xs new)) x → IsAmong z new
    by_source (told y named at) = absurd (none_some (name_in ps x) y none named)
    by_source (fresh w named k at) = subst (λ v. IsAmong v new) (same_name w z (sym at ∙ is)) k

-- two of the rest of the variables are one where their names are, whatever names are left
abbrev AreOne : Pairs → List Name → Name → Name → List ℕ → Type 0
AreOne ps xs x y z =
    (ys : List Name) → AreDistinct ys → length xs ≤ length ys → IsAmong x xs → IsAmong y xs → value_at (renaming xs (names_for ps xs ys)) x ≡ Variable z → value_at (renaming xs (names_for ps xs ys)) y ≡ Variable z → x ≡ y

-- two variables with the same new name are one
pub fresh_same : (ps : Pairs) (xs new : List Name) (x y : Name) (z : List ℕ) → AreDistinct new → length xs ≤ length new → IsAmong x xs → IsAmong y xs → name_in ps x ≡ None → name_in ps y ≡ None →
    value_at (renaming xs (names_for ps xs new)) x ≡ Variable z → value_at (renaming xs (names_for ps xs new)) y ≡ Variable z → x ≡ y
fresh_same ps [] new x y z apart many m n none nor is at = absurd m
fresh_same ps (a ∷ xs) new x y z apart many m n none nor is at = by_name (λ ys distinct enough k l i j. fresh_same ps xs ys x y z distinct enough k l none nor i j) (name_in ps a) refl new apart many is at
  where
    not_told : (v w : List ℕ) → name_in ps v ≡ None → name_in ps a ≡ Some w → bytes_eq v a ≡ false
    not_told v w unnamed named = by_test (bytes_eq v a) refl
      where
        by_test : (b : Bool) → bytes_eq v a ≡ b → b ≡ false
        by_test false k = refl
        by_test true k = absurd (none_some (name_in ps a) w (sym (ap (name_in ps) (bytes_eq-true v a k)) ∙ unnamed) named)

    by_name : AreOne ps xs x y z → (o : Option (List ℕ)) → name_in ps a ≡ o → (ys : List Name) → AreDistinct ys → suc (length xs) ≤ length ys → value_at (renaming (a ∷ xs) (named_by o ys (names_for ps xs))) x ≡ Variable z →
        value_at (renaming (a ∷ xs) (named_by o ys (names_for ps xs))) y ≡ Variable z → x ≡ y
    by_name again (Some w) e ys distinct enough i j =
        let kx = not_told x w none e in
        let ky = not_told y w nor e in
        let rest = renaming xs (names_for ps xs ys) in
        again ys distinct (omega (arith, enough)) (rest_among x a xs kx m) (rest_among y a xs ky n) (sym (value_later x a w rest kx) ∙ i) (sym (value_later y a w rest ky) ∙ j)
    by_name again None e [] distinct enough i j = absurd (omega (arith, enough))
    by_name again None e (w ∷ ws) distinct enough i j = by_tests (bytes_eq x a) (bytes_eq y a) refl refl
      where
        rest : Substitution
        rest = renaming xs (names_for ps xs ws)

        fewer : length xs ≤ length ws
        fewer = omega (arith, enough)

        by_tests : (b c : Bool) → bytes_eq x a ≡ b → bytes_eq y a ≡ c → x ≡ y
        by_tests true true k l = bytes_eq-true x a k ∙ sym (bytes_eq-true y a l)
        by_tests true false k l =
            let first : w ≡ z = same_name w z (sym (value_here x a w rest k) ∙ i) in
            let later = fresh_later ps xs ws y z (rest_among y a xs l n) fewer nor (sym (value_later y a w rest l) ∙ j) in
            absurd (distinct.0 (subst (λ v. IsAmong v ws) (sym first) later))
        by_tests false true k l =
            let first : w ≡ z = same_name w z (sym (value_here y a w rest l) ∙ j) in
            let later = fresh_later ps xs ws x z (rest_among x a xs k m) fewer none (sym (value_later x a w rest k) ∙ i) in
            absurd (distinct.0 (subst (λ v. IsAmong v ws) (sym first) later))
        by_tests false false k l =
            again ws distinct.1 fewer (rest_among x a xs k m) (rest_among y a xs l n) (sym (value_later x a w rest k) ∙ i) (sym (value_later y a w rest l) ∙ j)
