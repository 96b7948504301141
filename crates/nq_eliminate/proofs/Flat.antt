-- Calls of variables alone, and what a renaming makes of them.
use Rattle.std.proofs.Common.{◌≡◌, ℕ, Bool, true, false, ◌||◌, ◌&&◌, if◌then◌else◌, Some, List, [], ◌∷◌, ◌++◌, refl, sym, ap, ◌∙◌, subst, inl, inr}
use Rattle.std.specs.Prelude.{bytes_eq, not}
use Rattle.nq_logic.specs.Terms.{Name, Term, Variable, Function, Applied, IsAmong, Substitution, substituted, value_at}
use Rattle.nq_logic.specs.Names.{has_name}
use Rattle.nq_logic.specs.RuleShapes.{has_argument, has_distinct_variables, variables_of}
use Rattle.nq_bank.proofs.Texts.{bytes_eq-true, eq-bytes_eq}
use Rattle.nq_goals.specs.Eliminating.{arguments_paired, is_renamed, name_in}
use Rattle.nq_eliminate.proofs.Names.{IsVariableTerm, among_either, among_first, among_second, same_some}

pub second_true : (a b : Bool) → (a && b) ≡ true → b ≡ true
second_true true b e = e
second_true false b e = absurd (cc)

-- a substitution that puts variables in variables' places
abbrev pub Renames : Substitution → Type 0
Renames s = (x : Name) → IsVariableTerm (value_at s x)

-- the pairs of a call and of what a renaming makes of it
abbrev pub pairs_of : Substitution → Term → List (List ℕ × List ℕ)
pairs_of s d = arguments_paired d (substituted s d)

pub is_renamed_by : (s : Substitution) → Renames s → (seen : List Name) (d : Term) → has_distinct_variables seen d ≡ true → is_renamed d (substituted s d) ≡ true
is_renamed_by s each seen (Variable x) flat = absurd (cc)
is_renamed_by s each seen (Function f) flat = eq-bytes_eq f f refl
is_renamed_by s each seen (Applied t (Variable x)) flat =
    subst (λ v. is_renamed (Applied t (Variable x)) (Applied (substituted s t) v) ≡ true) (sym (each x).is) (is_renamed_by s each (x ∷ seen) t (second_true (not (has_name x seen)) (has_distinct_variables (x ∷ seen) t) flat))
is_renamed_by s each seen (Applied t (Function f)) flat = absurd (cc)
is_renamed_by s each seen (Applied t (Applied u v)) flat = absurd (cc)

-- the pairs of one more argument
pairs_more : (s : Substitution) (each : Renames s) (t : Term) (x : Name) → pairs_of s (Applied t (Variable x)) ≡ (x, (each x).name) ∷ pairs_of s t
pairs_more s each t x = ap (λ v. arguments_paired (Applied t (Variable x)) (Applied (substituted s t) v)) (each x).is

-- a name that is found is what the renaming puts there, and stands in what it makes
pub found_value : (s : Substitution) → Renames s → (seen : List Name) (d : Term) → has_distinct_variables seen d ≡ true → (x y : Name) → name_in (pairs_of s d) x ≡ Some y → value_at s x ≡ Variable y
found_value s each seen (Variable z) flat x y e = absurd (cc)
found_value s each seen (Function f) flat x y e = absurd (cc)
found_value s each seen (Applied t (Variable z)) flat x y e =
    by_test (λ k. found_value s each (z ∷ seen) t (second_true (not (has_name z seen)) (has_distinct_variables (z ∷ seen) t) flat) x y k) (bytes_eq x z) refl (subst (λ ps. name_in ps x ≡ Some y) (pairs_more s each t z) e)
  where
    by_test : (name_in (pairs_of s t) x ≡ Some y → value_at s x ≡ Variable y) → (b : Bool) → bytes_eq x z ≡ b → (if b then Some (each z).name else name_in (pairs_of s t) x) ≡ Some y → value_at s x ≡ Variable y
    by_test later true k n = ap (value_at s) (bytes_eq-true x z k) ∙ ((each z).is ∙ ap Variable (same_some (each z).name y n))
    by_test later false k n = later n
found_value s each seen (Applied t (Function f)) flat x y e = absurd (cc)
found_value s each seen (Applied t (Applied u v)) flat x y e = absurd (cc)

pub found_stands : (s : Substitution) → Renames s → (seen : List Name) (d : Term) → has_distinct_variables seen d ≡ true → (x y : Name) → name_in (pairs_of s d) x ≡ Some y → IsAmong y (variables_of (substituted s d))
found_stands s each seen (Variable z) flat x y e = absurd (cc)
found_stands s each seen (Function f) flat x y e = absurd (cc)
found_stands s each seen (Applied t (Variable z)) flat x y e =
    subst (λ v. IsAmong y (variables_of (substituted s t) ++ variables_of v)) (sym (each z).is) (by_test (λ k. found_stands s each (z ∷ seen) t (second_true (not (has_name z seen)) (has_distinct_variables (z ∷ seen) t) flat) x y k) (bytes_eq x z) refl (subst (λ ps. name_in ps x ≡ Some y) (pairs_more s each t z) e))
  where
    by_test : (name_in (pairs_of s t) x ≡ Some y → IsAmong y (variables_of (substituted s t))) → (b : Bool) → bytes_eq x z ≡ b → (if b then Some (each z).name else name_in (pairs_of s t) x) ≡ Some y → IsAmong y (variables_of (substituted s t) ++ (each z).name ∷ [])
    by_test later true k n = among_second y (variables_of (substituted s t)) ((each z).name ∷ []) (inl (sym (same_some (each z).name y n)))
    by_test later false k n = among_first y (variables_of (substituted s t)) ((each z).name ∷ []) (later n)
found_stands s each seen (Applied t (Function f)) flat x y e = absurd (cc)
found_stands s each seen (Applied t (Applied u v)) flat x y e = absurd (cc)

-- a variable of the call has its pair
pub record HasPair (ps : List (List ℕ × List ℕ)) (x : Name) : Type 0 where
  pub name : List ℕ
  pub named : name_in ps x ≡ Some name

pub has_pair : (s : Substitution) → Renames s → (seen : List Name) (d : Term) → has_distinct_variables seen d ≡ true → (x : Name) → IsAmong x (variables_of d) → HasPair (pairs_of s d) x
has_pair s each seen (Variable z) flat x m = absurd (cc)
has_pair s each seen (Function f) flat x m = absurd m
has_pair s each seen (Applied t (Variable z)) flat x m = subst (λ ps. HasPair ps x) (sym (pairs_more s each t z)) (by_test (λ k. has_pair s each (z ∷ seen) t (second_true (not (has_name z seen)) (has_distinct_variables (z ∷ seen) t) flat) x k) (bytes_eq x z) refl)
  where
    by_test : (IsAmong x (variables_of t) → HasPair (pairs_of s t) x) → (b : Bool) → bytes_eq x z ≡ b → HasPair ((z, (each z).name) ∷ pairs_of s t) x
    by_test later true k = record { name = (each z).name; named = ap (λ b. if b then Some (each z).name else name_in (pairs_of s t) x) k }
    by_test later false k =
        elim (among_either x (variables_of t) (z ∷ []) m) [
          | inl left ↦ let p = later left in record { name = p.name; named = ap (λ b. if b then Some (each z).name else name_in (pairs_of s t) x) k ∙ p.named }
          | inr right ↦ elim right [ inl same ↦ let here : bytes_eq x z ≡ true = eq-bytes_eq x z same in absurd (cc) | inr none ↦ absurd none ]
        ]
has_pair s each seen (Applied t (Function f)) flat x m = absurd (cc)
has_pair s each seen (Applied t (Applied u v)) flat x m = absurd (cc)

pub argument_variable : (seen : List Name) (d : Term) → has_distinct_variables seen d ≡ true → (x : Name) → has_argument x d ≡ true → IsAmong x (variables_of d)
argument_variable seen (Variable z) flat x e = absurd (cc)
argument_variable seen (Function f) flat x e = absurd (cc)
argument_variable seen (Applied t (Variable z)) flat x e = by_test (λ h. argument_variable (z ∷ seen) t (second_true (not (has_name z seen)) (has_distinct_variables (z ∷ seen) t) flat) x h) (bytes_eq x z) refl e
  where
    by_test : (has_argument x t ≡ true → IsAmong x (variables_of t)) → (b : Bool) → bytes_eq x z ≡ b → (b || has_argument x t) ≡ true → IsAmong x (variables_of t ++ z ∷ [])
    by_test later true k h = among_second x (variables_of t) (z ∷ []) (inl (bytes_eq-true x z k))
    by_test later false k h = among_first x (variables_of t) (z ∷ []) (later h)
argument_variable seen (Applied t (Function f)) flat x e = absurd (cc)
argument_variable seen (Applied t (Applied u v)) flat x e = absurd (cc)

left_same : (t u v w : Term) → ◌≡◌ {A = Term} (Applied t v) (Applied u w) → t ≡ u
left_same t u v w e = cc

right_same : (t u v w : Term) → ◌≡◌ {A = Term} (Applied t v) (Applied u w) → v ≡ w
right_same t u v w e = cc

-- where one renaming tells apart what the other does, calls that it makes the same are made the same by the other
pub same_made : (fine coarse : Substitution) (seen other : List Name) (d e : Term) → has_distinct_variables seen d ≡ true → has_distinct_variables other e ≡ true →
    ((x y : Name) → IsAmong x (variables_of d) → IsAmong y (variables_of e) → value_at fine x ≡ value_at fine y → value_at coarse x ≡ value_at coarse y) →
    substituted fine d ≡ substituted fine e → substituted coarse d ≡ substituted coarse e
same_made fine coarse seen other (Variable x) e flat even each same = absurd (cc)
same_made fine coarse seen other (Function f) (Variable y) flat even each same = absurd (cc)
same_made fine coarse seen other (Function f) (Function g) flat even each same = same
same_made fine coarse seen other (Function f) (Applied u w) flat even each same = absurd (cc)
same_made fine coarse seen other (Applied t (Variable x)) (Variable y) flat even each same = absurd (cc)
same_made fine coarse seen other (Applied t (Variable x)) (Function g) flat even each same = absurd (cc)
same_made fine coarse seen other (Applied t (Variable x)) (Applied u (Variable y)) flat even each same =
    let left : substituted fine t ≡ substituted fine u = left_same (substituted fine t) (substituted fine u) (value_at fine x) (value_at fine y) same in
    let right : value_at fine x ≡ value_at fine y = right_same (substituted fine t) (substituted fine u) (value_at fine x) (value_at fine y) same in
    let flat_t = second_true (not (has_name x seen)) (has_distinct_variables (x ∷ seen) t) flat in
    let flat_u = second_true (not (has_name y other)) (has_distinct_variables (y ∷ other) u) even in
    let rest = same_made fine coarse (x ∷ seen) (y ∷ other) t u flat_t flat_u (λ a b m n. each a b (among_first a (variables_of t) (x ∷ []) m) (among_first b (variables_of u) (y ∷ []) n)) left in
    ap (λ v. Applied v (value_at coarse x)) rest
    ∙ ap (λ v. Applied (substituted coarse u) v) (each x y (among_second x (variables_of t) (x ∷ []) (inl refl)) (among_second y (variables_of u) (y ∷ []) (inl refl)) right)
same_made fine coarse seen other (Applied t (Variable x)) (Applied u (Function g)) flat even each same = absurd (cc)
same_made fine coarse seen other (Applied t (Variable x)) (Applied u (Applied v w)) flat even each same = absurd (cc)
same_made fine coarse seen other (Applied t (Function f)) e flat even each same = absurd (cc)
same_made fine coarse seen other (Applied t (Applied v w)) e flat even each same = absurd (cc)
