-- The rows of the table of axioms that tell the kind of a base and of a call of a constructor.
use Rattle.std.proofs.Common.{◌≡◌, ◌<◌, ◌∙◌, ℕ, zero, suc, Bool, true, false, Option, Some, None, List, [], ◌∷◌, ◌++◌, refl, sym, ap, subst, inl, inr, arith}
use Rattle.std.specs.Prelude.{slice_get, codes, bytes_eq, ◌==◌, ◌&&◌}
use Rattle.nq_logic.specs.Terms.{Name, Term, Function, Each}
use Rattle.nq_logic.specs.Histories.{History, Shell, events_shells, events_definitions, Definition}
use Rattle.nq_logic.specs.Ground.{ground_definitions, ground_shells}
use Rattle.nq_logic.specs.Shells.{recognizes, made}
use Rattle.nq_logic.specs.ShellPrinciple.{shells_of}
use Rattle.nq_proof.specs.Clauses.{Clause}
use Rattle.nq_proof.specs.Rows.{GroundRow, ground_rows, row_found, definition_found, opening, opening_at, shell_found, shell_clause_at, shell_row, first_found, axiom_clause}
use Rattle.nq_proof.proofs.Tests.{names_same, some_same, none_is_not_some}
use Rattle.nq_kernel.specs.Ready.{IsReady}
use Rattle.nq_types.proofs.OwnNames.{one_constructor, no_taken_name, no_false_name}

differ : (f g : Name) → (f ≡ g → ⊥) → bytes_eq f g ≡ false
differ f g apart = by_test (bytes_eq f g) refl
  where
    by_test : (b : Bool) → bytes_eq f g ≡ b → b ≡ false
    by_test true e = absurd (apart (names_same f g e))
    by_test false e = refl

name_itself : (xs : List ℕ) → bytes_eq xs xs ≡ true
name_itself [] = refl
name_itself (x ∷ xs) = grind (arith, name_itself xs)

-- no ground row has this name and number
no_row : (name : Name) (row : ℕ) (rows : List GroundRow) → Each (λ r. (bytes_eq name r.name && (row == r.row)) ≡ false) rows → row_found name row rows ≡ None
no_row name row [] each = refl
no_row name row (r ∷ rows) each = by_test (no_row name row rows each.1) (bytes_eq name r.name && (row == r.row)) each.0
  where
    by_test : row_found name row rows ≡ None → (b : Bool) → b ≡ false → elim b as (λ b. Option (List Term)) [ true ↦ Some r.literals | false ↦ row_found name row rows ] ≡ None
    by_test rest true e = absurd cc
    by_test rest false e = rest

other_row : (b : Bool) → (b && false) ≡ false
other_row true = refl
other_row false = refl

other_name : (b c : Bool) → b ≡ false → (b && c) ≡ false
other_name true c e = absurd cc
other_name false c e = refl

no_opening : (o : Option Definition) (row : ℕ) → (row == 1) ≡ false → opening_at row o ≡ None
no_opening None row e = refl
no_opening (Some d) row e = by_test (row == 1) e
  where
    by_test : (b : Bool) → b ≡ false → elim b as (λ b. Option (List Term)) [ true ↦ Some (opening d) | false ↦ None ] ≡ None
    by_test true h = absurd cc
    by_test false h = refl

-- a row of the first shell with the constructor
record RowOf (name : Name) (row : ℕ) (s : Shell) (o : Option Clause) : Type 0 where
  before : List Shell
  is : o ≡ shell_clause_at before s 0 (shell_row row)

row_of_shell : (name : Name) (row : ℕ) (earlier shells : List Shell) (k : ℕ) (s : Shell) → slice_get shells k ≡ Some s → bytes_eq name s.constructor ≡ true → ((j : ℕ) (q : Shell) → j < k → slice_get shells j ≡ Some q → bytes_eq name q.constructor ≡ false) → RowOf name row s (shell_found name row 0 earlier shells)
row_of_shell name row earlier [] k s at same others = absurd (none_is_not_some s at)
row_of_shell name row earlier (q ∷ shells) zero s at same others =
    let here : bytes_eq name q.constructor ≡ true = subst (λ x. bytes_eq name x.constructor ≡ true) (sym (some_same q s at)) same in
    record { before = earlier; is = by_test (bytes_eq name q.constructor) here ∙ ap (λ x. shell_clause_at earlier x 0 (shell_row row)) (some_same q s at) }
  where
    by_test : (b : Bool) → b ≡ true → elim b as (λ b. Option (List Term)) [ true ↦ shell_clause_at earlier q 0 (shell_row row) | false ↦ shell_found name row 0 (earlier ++ (q ∷ [])) shells ] ≡ shell_clause_at earlier q 0 (shell_row row)
    by_test true e = refl
    by_test false e = absurd cc
row_of_shell name row earlier (q ∷ shells) (suc k) s at same others =
    let rest = row_of_shell name row (earlier ++ (q ∷ [])) shells k s at same (λ j x below there. others (suc j) x (omega (arith, below)) there) in
    record { before = rest.before; is = by_test (bytes_eq name q.constructor) (others 0 q (omega arith) refl) ∙ rest.is }
  where
    by_test : (b : Bool) → b ≡ false → elim b as (λ b. Option (List Term)) [ true ↦ shell_clause_at earlier q 0 (shell_row row) | false ↦ shell_found name row 0 (earlier ++ (q ∷ [])) shells ] ≡ shell_found name row 0 (earlier ++ (q ∷ [])) shells
    by_test true e = absurd cc
    by_test false e = refl

module _ (h : History) (ready : IsReady h) (k : ℕ) (s : Shell) (at : slice_get (shells_of h) k ≡ Some s) where
  found_here : (row : ℕ) → RowOf s.constructor row s (shell_found s.constructor row 0 [] (ground_shells ++ events_shells h))
  found_here row =
      row_of_shell s.constructor row [] (ground_shells ++ events_shells h) k s at (name_itself s.constructor) (λ j q below there.
      differ s.constructor q.constructor (λ same. let places : j ≡ k = one_constructor h j k q s ready there at (sym same) in absurd (omega (arith, places, below))))

  row_is : (row : ℕ) → (row == 1) ≡ false → row_found s.constructor row ground_rows ≡ None → axiom_clause h s.constructor row 0 ≡ shell_clause_at (found_here row).before s 0 (shell_row row)
  row_is row other none =
      ap (λ o. first_found o (first_found (opening_at row (definition_found s.constructor (ground_definitions ++ events_definitions h))) (shell_found s.constructor row 0 [] (ground_shells ++ events_shells h)))) none
      ∙ ap (λ o. first_found o (shell_found s.constructor row 0 [] (ground_shells ++ events_shells h))) (no_opening (definition_found s.constructor (ground_definitions ++ events_definitions h)) row other)
      ∙ (found_here row).is

  second_none : row_found s.constructor 2 ground_rows ≡ None
  second_none =
      no_row s.constructor 2 ground_rows (
        other_row (bytes_eq s.constructor (codes "TRUE")),
        (
          other_row (bytes_eq s.constructor (codes "FALSE")),
          (
            other_name (bytes_eq s.constructor (codes "FALSE")) true (differ s.constructor (codes "FALSE") (no_false_name h k s ready at)),
            (
              other_row (bytes_eq s.constructor (codes "EQUAL")),
              (
                other_row (bytes_eq s.constructor (codes "IF")),
                (
                  other_name (bytes_eq s.constructor (codes "IF")) true (differ s.constructor (codes "IF") (no_taken_name h k s (codes "IF") ready at (inl refl))),
                  (
                    other_row (bytes_eq s.constructor (codes "COUNT")),
                    (other_name (bytes_eq s.constructor (codes "LESSP")) true (differ s.constructor (codes "LESSP") (no_taken_name h k s (codes "LESSP") ready at (inr (inl refl)))), tt),
                  ),
                ),
              ),
            ),
          ),
        ),
      )

  third_none : row_found s.constructor 3 ground_rows ≡ None
  third_none =
      no_row s.constructor 3 ground_rows (
        other_row (bytes_eq s.constructor (codes "TRUE")),
        (
          other_row (bytes_eq s.constructor (codes "FALSE")),
          (
            other_row (bytes_eq s.constructor (codes "FALSE")),
            (
              other_row (bytes_eq s.constructor (codes "EQUAL")),
              (
                other_row (bytes_eq s.constructor (codes "IF")),
                (
                  other_row (bytes_eq s.constructor (codes "IF")),
                  (
                    other_row (bytes_eq s.constructor (codes "COUNT")),
                    (other_row (bytes_eq s.constructor (codes "LESSP")), tt),
                  ),
                ),
              ),
            ),
          ),
        ),
      )

  pub made_row : axiom_clause h s.constructor 2 0 ≡ Some (recognizes s (made s) ∷ [])
  made_row = row_is 2 refl second_none

  pub base_row : (b : Name) → s.base ≡ Some b → axiom_clause h s.constructor 3 0 ≡ Some (recognizes s (Function b) ∷ [])
  base_row b has = row_is 3 refl third_none ∙ ap (λ o. base_rows o) has
    where
      base_rows : Option Name → Option Clause
      base_rows o = shell_clause_at (found_here 3).before (record s { base = o }) 0 (shell_row 3)
