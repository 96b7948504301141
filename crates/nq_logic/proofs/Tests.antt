-- The tests on names and variables tell what they are named for.
use Rattle.std.proofs.Common.{◌≡◌, ℕ, zero, suc, Bool, true, false, ◌||◌, ◌&&◌, List, [], ◌∷◌, ◌⊎◌, refl, ap, ap₂, inl, inr}
use Rattle.std.specs.Prelude.{◌↔◌, not, bytes_eq, ◌==◌}
use Rattle.std.proofs.lemmas.Slice.Eq.{bytes_eq-Decides}
use Rattle.nq_logic.specs.Terms.{Name, Term, Variable, Function, Applied, Symbol, Takes, IsTerm, IsAmong}
use Rattle.std.proofs.lemmas.Bool.{eqb-true, eq-eqb}
use Rattle.nq_logic.specs.Names.{has_name, are_among, are_distinct}
use Rattle.nq_logic.specs.Admissible.{has_variables}
use Rattle.nq_logic.specs.Tests.{NamesFound, NamesWithin, NamesDistinct, VariablesTold, has_symbol, takes, is_term, TermsTold}

pub true_not_false : (b : Bool) → b ≡ true → b ≡ false → ⊥
true_not_false b h k = cc

not_told : {A : Type 0} (b : Bool) → b ≡ true ↔ A → not b ≡ true ↔ (A → ⊥)
not_told true told = ((λ h. absurd (true_not_false false h refl)), (λ h. absurd (h (told.0 refl))))
not_told false told = ((λ h a. true_not_false false (told.1 a) refl), (λ h. refl))

-- what two tests tell together, by what each tells
module _ {A B : Type 0} where
  either_holds : (a b : Bool) → a ≡ true ↔ A → b ≡ true ↔ B → A ⊎ B → a || b ≡ true
  either_holds true b first second h = refl
  either_holds false b first second (inl x) = absurd (true_not_false false (first.1 x) refl)
  either_holds false b first second (inr y) = second.1 y

  either_told : (a b : Bool) → a ≡ true ↔ A → b ≡ true ↔ B → a || b ≡ true ↔ A ⊎ B
  either_told true b first second = ((λ h. inl (first.0 refl)), (λ h. refl))
  either_told false b first second = ((λ h. inr (second.0 h)), either_holds false b first second)

  pub both_told : (a b : Bool) → a ≡ true ↔ A → b ≡ true ↔ B → a && b ≡ true ↔ A × B
  both_told true b first second = ((λ h. (first.0 refl, second.0 h)), (λ h. second.1 h.1))
  both_told false b first second = ((λ h. absurd (true_not_false false h refl)), (λ h. first.1 h.0))

pub names_found_law : NamesFound
names_found_law x [] = ((λ h. absurd (true_not_false false h refl)), (λ h. absurd h))
names_found_law x (y ∷ ys) = either_told (bytes_eq x y) (has_name x ys) (bytes_eq-Decides x y) (names_found_law x ys)

pub names_within_law : NamesWithin
names_within_law [] ys = ((λ h. tt), (λ h. refl))
names_within_law (x ∷ xs) ys = both_told (has_name x ys) (are_among xs ys) (names_found_law x ys) (names_within_law xs ys)

pub names_distinct_law : NamesDistinct
names_distinct_law [] = ((λ h. tt), (λ h. refl))
names_distinct_law (x ∷ xs) = both_told (not (has_name x xs)) (are_distinct xs) (not_told (has_name x xs) (names_found_law x xs)) (names_distinct_law xs)

pub variables_told_law : VariablesTold
variables_told_law xs (Variable x) = names_found_law x xs
variables_told_law xs (Function f) = ((λ h. tt), (λ h. refl))
variables_told_law xs (Applied t u) = both_told (has_variables xs t) (has_variables xs u) (variables_told_law xs t) (variables_told_law xs u)

-- names that differ by the test are two
pub names_apart : (n m : Name) → bytes_eq n m ≡ false → n ≡ m → ⊥
names_apart n m test same = true_not_false (bytes_eq n m) ((bytes_eq-Decides n m).1 same) test

-- and the one is not all that the other may be
pub only_name_apart : (n m : Name) → bytes_eq n m ≡ false → IsAmong n (m ∷ []) → ⊥
only_name_apart n m test (inl same) = names_apart n m test same
only_name_apart n m test (inr none) = none

-- two symbols are one where their names and their numbers of arguments are
symbol_told : (s other : Symbol) → bytes_eq s.0 other.0 && s.1 == other.1 ≡ true ↔ s ≡ other
symbol_told s other =
    let told = both_told (bytes_eq s.0 other.0) (s.1 == other.1) (bytes_eq-Decides s.0 other.0) (eqb-true s.1 other.1, eq-eqb s.1 other.1) in (
      (λ h. let same = told.0 h in ap₂ (λ f n. (f, n)) same.0 same.1),
      (λ e. told.1 (ap (λ s. s.0) e, ap (λ s. s.1) e)),
    )

symbols_told : (s : Symbol) (symbols : List Symbol) → has_symbol s symbols ≡ true ↔ IsAmong s symbols
symbols_told s [] = ((λ h. absurd (true_not_false false h refl)), (λ h. absurd h))
symbols_told s (other ∷ symbols) = either_told (bytes_eq s.0 other.0 && s.1 == other.1) (has_symbol s symbols) (symbol_told s other) (symbols_told s symbols)

takes_told : (symbols : List Symbol) (t : Term) (n : ℕ) → takes symbols t n ≡ true ↔ Takes symbols t n
takes_told symbols (Variable x) zero = ((λ h. tt), (λ h. refl))
takes_told symbols (Variable x) (suc n) = ((λ h. absurd (true_not_false false h refl)), (λ h. absurd h))
takes_told symbols (Function f) n = symbols_told (f, n) symbols
takes_told symbols (Applied t u) n = both_told (takes symbols t (suc n)) (takes symbols u zero) (takes_told symbols t (suc n)) (takes_told symbols u zero)

pub terms_told_law : TermsTold
terms_told_law symbols t = takes_told symbols t zero

pub no_term : (symbols : List Symbol) (t : Term) → is_term symbols t ≡ false → IsTerm symbols t → ⊥
no_term symbols t test o = true_not_false (is_term symbols t) ((terms_told_law symbols t).1 o) test
