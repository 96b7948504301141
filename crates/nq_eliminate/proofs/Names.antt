-- Names among names, and what a renaming makes of them.
use Rattle.std.proofs.Common.{◌≡◌, ℕ, Bool, true, false, ◌||◌, if◌then◌else◌, Option, Some, List, [], ◌∷◌, ◌++◌, length, refl, sym, ap, ◌∙◌, subst, inl, inr, arith}
use Rattle.std.specs.Prelude.{bytes_eq, ◌⊎◌}
use Rattle.nq_logic.specs.Terms.{Name, Term, Variable, Function, Applied, IsAmong, Substitution, substituted, value_at}
use Rattle.nq_logic.specs.Names.{has_name}
use Rattle.nq_logic.specs.RuleShapes.{inner_terms, variables_of}
use Rattle.nq_bank.proofs.Texts.{bytes_eq-true, eq-bytes_eq}
use Rattle.nq_proof.specs.Clauses.{Clause}
use Rattle.nq_goals.specs.Eliminating.{renaming}
use Rattle.nq_goals.specs.NewVariables.{clause_variables}
use Rattle.nq_goals.specs.Replacing.{parts_in, parts_in_all}

pub among_either : {X : Type 0} (p : X) (xs ys : List X) → IsAmong p (xs ++ ys) → IsAmong p xs ⊎ IsAmong p ys
among_either p [] ys m = inr m
among_either p (x ∷ xs) ys (inl e) = inl (inl e)
among_either p (x ∷ xs) ys (inr m) = elim (among_either p xs ys m) [ inl here ↦ inl (inr here) | inr there ↦ inr there ]

pub among_first : {X : Type 0} (p : X) (xs ys : List X) → IsAmong p xs → IsAmong p (xs ++ ys)
among_first p [] ys m = absurd m
among_first p (x ∷ xs) ys (inl e) = inl e
among_first p (x ∷ xs) ys (inr m) = inr (among_first p xs ys m)

pub among_second : {X : Type 0} (p : X) (xs ys : List X) → IsAmong p ys → IsAmong p (xs ++ ys)
among_second p [] ys m = m
among_second p (x ∷ xs) ys m = inr (among_second p xs ys m)

pub has_among : (x : Name) (ys : List Name) → has_name x ys ≡ true → IsAmong x ys
has_among x [] e = absurd (cc)
has_among x (y ∷ ys) e = by_test (bytes_eq x y) refl (λ h. has_among x ys h) e
  where
    by_test : (b : Bool) → bytes_eq x y ≡ b → (has_name x ys ≡ true → IsAmong x ys) → (b || has_name x ys) ≡ true → IsAmong x (y ∷ ys)
    by_test true same later h = inl (bytes_eq-true x y same)
    by_test false same later h = inr (later h)

or_true : (b : Bool) → (b || true) ≡ true
or_true true = refl
or_true false = refl

pub among_has : (x : Name) (ys : List Name) → IsAmong x ys → has_name x ys ≡ true
among_has x [] m = absurd m
among_has x (y ∷ ys) (inl e) = ap (λ b. b || has_name x ys) (eq-bytes_eq x y e)
among_has x (y ∷ ys) (inr m) = ap (λ b. bytes_eq x y || b) (among_has x ys m) ∙ or_true (bytes_eq x y)

-- the variables of what stands in a term are variables of the term
inner_variables : (x : Name) (t u : Term) → IsAmong u (inner_terms t) → IsAmong x (variables_of u) → IsAmong x (variables_of t)
inner_variables x (Variable y) u m k = absurd m
inner_variables x (Function f) u m k = absurd m
inner_variables x (Applied t a) u m k =
    elim (among_either u (inner_terms t) (a ∷ inner_terms a) m) [
      | inl left ↦ among_first x (variables_of t) (variables_of a) (inner_variables x t u left k)
      | inr right ↦ elim right [ inl e ↦ among_second x (variables_of t) (variables_of a) (subst (λ v. IsAmong x (variables_of v)) e k) | inr inner ↦ among_second x (variables_of t) (variables_of a) (inner_variables x a u inner k) ]
    ]

pub part_variables : (x : Name) (t u : Term) → IsAmong u (parts_in t) → IsAmong x (variables_of u) → IsAmong x (variables_of t)
part_variables x t u (inl e) k = subst (λ v. IsAmong x (variables_of v)) e k
part_variables x t u (inr m) k = inner_variables x t u m k

pub goal_variables : (x : Name) (goal : Clause) (u : Term) → IsAmong u (parts_in_all goal) → IsAmong x (variables_of u) → IsAmong x (clause_variables goal)
goal_variables x [] u m k = absurd m
goal_variables x (t ∷ goal) u m k =
    elim (among_either u (parts_in t) (parts_in_all goal) m) [
      | inl here ↦ among_first x (variables_of t) (clause_variables goal) (part_variables x t u here k)
      | inr there ↦ among_second x (variables_of t) (clause_variables goal) (goal_variables x goal u there k)
    ]

-- a term that is a variable
pub record IsVariableTerm (t : Term) : Type 0 where
  pub name : List ℕ
  pub is : t ≡ Variable name

pub renamed_value : (xs ys : List Name) (x : Name) → IsVariableTerm (value_at (renaming xs ys) x)
renamed_value [] ys x = record { name = x; is = refl }
renamed_value (a ∷ xs) [] x = record { name = x; is = refl }
renamed_value (a ∷ xs) (b ∷ ys) x = by_test (bytes_eq x a) (renamed_value xs ys x)
  where
    by_test : (t : Bool) → IsVariableTerm (value_at (renaming xs ys) x) → IsVariableTerm (if t then Variable b else value_at (renaming xs ys) x)
    by_test true later = record { name = b; is = refl }
    by_test false later = later

pub same_name : (x y : List ℕ) → ◌≡◌ {A = Term} (Variable x) (Variable y) → x ≡ y
same_name x y e = cc

pub same_some : (x y : List ℕ) → ◌≡◌ {A = Option (List ℕ)} (Some x) (Some y) → x ≡ y
same_some x y e = cc

-- what a renaming puts in a variable's place is one of its names
pub value_among : (xs ys : List Name) (x y : Name) → IsAmong x xs → length ys ≡ length xs → value_at (renaming xs ys) x ≡ Variable y → IsAmong y ys
value_among [] ys x y m many e = absurd m
value_among (a ∷ xs) [] x y m many e = absurd (omega (arith, many))
value_among (a ∷ xs) (b ∷ ys) x y m many e = by_test (bytes_eq x a) refl (λ k w. value_among xs ys x y k (omega (arith, many)) w) e
  where
    by_test : (t : Bool) → bytes_eq x a ≡ t → (IsAmong x xs → value_at (renaming xs ys) x ≡ Variable y → IsAmong y ys) → (if t then Variable b else value_at (renaming xs ys) x) ≡ Variable y → IsAmong y (b ∷ ys)
    by_test true k later v = inl (sym (same_name b y v))
    by_test false k later v = elim m [ inl same ↦ let here : bytes_eq x a ≡ true = eq-bytes_eq x a same in absurd (cc) | inr n ↦ inr (later n v) ]

-- terms in which two substitutions put the same are made the same
pub agree : (s r : Substitution) (t : Term) → ((x : Name) → IsAmong x (variables_of t) → value_at s x ≡ value_at r x) → substituted s t ≡ substituted r t
agree s r (Variable x) each = each x (inl refl)
agree s r (Function f) each = refl
agree s r (Applied t u) each =
    ap (λ v. Applied v (substituted s u)) (agree s r t (λ x m. each x (among_first x (variables_of t) (variables_of u) m)))
    ∙ ap (λ v. Applied (substituted r t) v) (agree s r u (λ x m. each x (among_second x (variables_of t) (variables_of u) m)))
