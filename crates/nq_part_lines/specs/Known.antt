-- What is known of a shell whose parts get lines: its rows, which are not deep, and the functions that they name.
use Rattle.std.specs.Prelude.{◌≡◌, ◌≤◌, ◌⊎◌, ◌||◌, ℕ, suc, Bool, true, false, [], ◌∷◌, ◌++◌, Some, bytes_eq, codes, length, slice_get}
use Rattle.nq_logic.specs.Terms.{Name, Term, Function, IsAmong, Each}
use Rattle.nq_logic.specs.Words.{call1, not_term, equal_term, zero_term, add1_term, true_term, false_term}
use Rattle.nq_logic.specs.Sizes.{depth_of}
use Rattle.nq_logic.specs.Ground.{symbols_of}
use Rattle.nq_logic.specs.Histories.{History, Part, Shell}
use Rattle.nq_logic.specs.ShellPrinciple.{listed, shells_of}
use Rattle.nq_logic.specs.Shells.{made, made_with, remade, whole, part_sizes, part_variable, restricted, recognizes, is_base, sum_of}
use Rattle.nq_proof.specs.Clauses.{Clause}
use Rattle.nq_proof.specs.Rows.{axiom_clause}
use Rattle.nq_kernel.specs.Ready.{recognizer_limit}
use Rattle.nq_arith.specs.Nests.{accessor_of}
use Rattle.nq_lines.specs.OwnTerms.{HasOwnTerms}
use Rattle.nq_part_lines.specs.Defaults.{HasTruthDefault, has_base, is_free}

-- the greatest depth of a literal of a row
abbrev pub row_room : ℕ
row_room = 200

-- the clause of a row, whose literals are not deep
pub record IsRow (h : History) (name : Name) (row part : ℕ) (c : Clause) : Type 0 where
  pub is : axiom_clause h name row part ≡ Some c
  pub low : Each (λ t. depth_of t ≤ row_room) c

-- there is such a row
pub record HasRow (h : History) (name : Name) (row part : ℕ) : Type 0 where
  pub clause : Clause
  pub there : IsRow h name row part clause

-- that the part at a place is allowed
abbrev pub allowed : ℕ → Part → Term
allowed k part = restricted part.restriction (part_variable k)

-- the size of the object that the constructor makes of its variables
abbrev pub size_is : Shell → Term
size_is s = equal_term (call1 "COUNT" (made s)) (add1_term (sum_of (part_sizes 0 s.parts)))

-- the rows of the part at a place; it has no restriction, or the base of a shell, T or F for its default
pub record IsKnownPart (h : History) (s : Shell) (k : ℕ) (part : Part) : Type 0 where
  pub taken : IsRow h s.constructor 6 (suc k) (not_term (allowed k part) ∷ equal_term (accessor_of part (made s)) (part_variable k) ∷ [])
  pub wrong : IsRow h s.constructor 7 (suc k) (allowed k part ∷ equal_term (accessor_of part (made s)) (Function part.default) ∷ [])
  pub same : IsRow h s.constructor 10 (suc k) (allowed k part ∷ equal_term (made s) (made_with s k (Function part.default)) ∷ [])
  pub other : bytes_eq part.accessor (codes "ADD1") ≡ false
  pub few : length (listed part.restriction) ≤ recognizer_limit
  pub default_is : (is_free part.restriction || has_base part.default (shells_of h)) ≡ true ⊎ ((yes : Bool) × HasTruthDefault h part yes)

-- the rows of a shell and of its parts, and that its accessors are functions of the history
pub record IsKnownShell (h : History) (s : Shell) : Type 0 where
  pub again : IsRow h s.constructor 5 0 (not_term (recognizes s whole) ∷ (is_base s.base ++ (equal_term (remade s) whole ∷ [])))
  pub size : IsRow h s.constructor 14 0 (size_is s ∷ [])
  pub parts : (k : ℕ) (part : Part) → slice_get s.parts k ≡ Some part → IsKnownPart h s k part
  pub accessors : Each (λ part. IsAmong (part.accessor, 1) (symbols_of h)) s.parts

-- the size of each base is 0
abbrev pub HasZeroBases : History → Type 0
HasZeroBases h = (b : Shell) (d : Name) → IsAmong b (shells_of h) → b.base ≡ Some d → IsRow h b.constructor 15 0 (equal_term (call1 "COUNT" (Function d)) zero_term ∷ [])

-- T and F are no objects of a shell
pub record AreNoObjects (h : History) (s : Shell) : Type 0 where
  pub truth : IsRow h s.constructor 11 0 (not_term (recognizes s true_term) ∷ [])
  pub falsity : IsRow h s.constructor 12 0 (not_term (recognizes s false_term) ∷ [])

-- a history of which lines of parts are made
pub record HasKnownRows (h : History) : Type 0 where
  pub bases : HasZeroBases h
  pub truths : Each (AreNoObjects h) (shells_of h)
  pub own : HasOwnTerms h
