-- The tables of axioms: which clause stands under a name, in a row, for a part.
use Rattle.std.specs.Prelude.{ℕ, zero, suc, ◌==◌, ◌&&◌, true, false, List, [], ◌∷◌, ◌++◌, map, Option, Some, None, slice_get, bytes_eq, codes}
use Rattle.nq_logic.specs.Terms.{Name, Term, Variable, Function, Applied, call}
use Rattle.nq_logic.specs.Words.{call1, call2, true_term, false_term, if_term, equal_term, not_term, zero_term, add1_term}
use Rattle.nq_logic.specs.Histories.{History, Shell, Part, Definition, events_shells, events_definitions}
use Rattle.nq_logic.specs.Ground.{ground_definitions, ground_shells, x_term, y_term, z_term}
use Rattle.nq_logic.specs.Shells.{restricted, part_variable, made, made_with, whole, remade, is_base, part_sizes, sum_of, recognizes}
use Rattle.nq_proof.specs.Clauses.{Clause}

-- the first that is something
abbrev pub first_found : {X : Type 0} → Option X → Option X → Option X
first_found None other = other
first_found (Some x) other = Some x

-- a row of the table of ground symbols
pub record GroundRow : Type 0 where
  pub name : List ℕ
  pub row : ℕ
  pub literals : List Term

abbrev pub ground_rows : List GroundRow
ground_rows =
    record { name = codes "TRUE"; row = 1; literals = true_term ∷ [] }
    ∷ record { name = codes "FALSE"; row = 1; literals = not_term false_term ∷ [] }
    ∷ record { name = codes "FALSE"; row = 2; literals = x_term ∷ equal_term x_term false_term ∷ [] }
    ∷ record { name = codes "EQUAL"; row = 1; literals = equal_term (equal_term x_term y_term) true_term ∷ equal_term (equal_term x_term y_term) false_term ∷ [] }
    ∷ record { name = codes "IF"; row = 1; literals = x_term ∷ equal_term (if_term x_term y_term z_term) z_term ∷ [] }
    ∷ record { name = codes "IF"; row = 2; literals = not_term x_term ∷ equal_term (if_term x_term y_term z_term) y_term ∷ [] }
    ∷ record { name = codes "COUNT"; row = 1; literals = call1 "NUMBERP" (call1 "COUNT" x_term) ∷ [] }
    ∷ record { name = codes "LESSP"; row = 2; literals = call1 "ZEROP" x_term ∷ call2 "LESSP" (call1 "SUB1" x_term) x_term ∷ [] }
    ∷ []

abbrev pub row_found : Name → ℕ → List GroundRow → Option Clause
row_found name row [] = None
row_found name row (r ∷ rows) = elim (bytes_eq name r.name && (row == r.row)) as (λ b. Option (List Term)) [ true ↦ Some r.literals | false ↦ row_found name row rows ]

abbrev pub definition_found : Name → List Definition → Option Definition
definition_found name [] = None
definition_found name (d ∷ definitions) = elim (bytes_eq name d.function) as (λ b. Option Definition) [ true ↦ Some d | false ↦ definition_found name definitions ]

-- (EQUAL call body), which is row 1 of the defined function
abbrev pub opening : Definition → Clause
opening d = equal_term (call d.function (map Variable d.formals)) d.body ∷ []

abbrev pub opening_at : ℕ → Option Definition → Option Clause
opening_at row None = None
opening_at row (Some d) = elim (row == 1) as (λ b. Option (List Term)) [ true ↦ Some (opening d) | false ↦ None ]

-- the rows of the table of shell axioms, in their order
pub data ShellRow : Type 0 where
  RecognizerIsTruthValue : ShellRow
  MadeIsRecognized : ShellRow
  BaseIsRecognized : ShellRow
  MadeIsNoBase : ShellRow
  RemadeIsSame : ShellRow
  PartOfMade : ShellRow
  WrongPartOfMade : ShellRow
  PartOfOther : ShellRow
  PartOfBase : ShellRow
  WrongPart : ShellRow
  TruthIsNone : ShellRow
  FalsityIsNone : ShellRow
  KindsDiffer : ShellRow
  SizeOfMade : ShellRow
  SizeOfBase : ShellRow

abbrev pub shell_rows : List ShellRow
shell_rows =
    RecognizerIsTruthValue ∷ MadeIsRecognized ∷ BaseIsRecognized ∷ MadeIsNoBase ∷ RemadeIsSame ∷ PartOfMade ∷ WrongPartOfMade ∷ PartOfOther
    ∷ PartOfBase ∷ WrongPart ∷ TruthIsNone ∷ FalsityIsNone ∷ KindsDiffer ∷ SizeOfMade ∷ SizeOfBase ∷ []

-- the row of this number, counted from 1
abbrev pub shell_row : ℕ → Option ShellRow
shell_row zero = None
shell_row (suc n) = slice_get shell_rows n

-- a clause that has no part's number
abbrev pub whole_row : ℕ → Clause → Option Clause
whole_row zero c = Some c
whole_row (suc k) c = None

-- a clause that speaks of the base
abbrev pub base_row : ℕ → (Name → Clause) → Option Name → Option Clause
base_row zero c None = None
base_row zero c (Some b) = Some (c b)
base_row (suc k) c b = None

-- a clause that speaks of the part, or the shell, at place k
abbrev pub found_row : {X : Type 0} → ℕ → (ℕ → X → Option Clause) → List X → Option Clause
found_row zero c xs = None
found_row (suc k) c xs = elim (slice_get xs k) as (λ o. Option (List Term)) [ None ↦ None | Some x ↦ c k x ]

abbrev pub accessed_by : Part → Term → Term
accessed_by part t = Applied (Function part.accessor) t

abbrev pub default_of : Part → Term
default_of part = Function part.default

-- the clause in this row of the table for the shell s, where the earlier shells are given
abbrev pub shell_clause : List Shell → Shell → ℕ → ShellRow → Option Clause
shell_clause earlier s i RecognizerIsTruthValue = whole_row i (equal_term (recognizes s whole) true_term ∷ equal_term (recognizes s whole) false_term ∷ [])
shell_clause earlier s i MadeIsRecognized = whole_row i (recognizes s (made s) ∷ [])
shell_clause earlier s i BaseIsRecognized = base_row i (λ b. recognizes s (Function b) ∷ []) s.base
shell_clause earlier s i MadeIsNoBase = base_row i (λ b. not_term (equal_term (made s) (Function b)) ∷ []) s.base
shell_clause earlier s i RemadeIsSame = whole_row i (not_term (recognizes s whole) ∷ (is_base s.base ++ (equal_term (remade s) whole ∷ [])))
shell_clause earlier s i PartOfMade =
    found_row i (λ k part. Some (not_term (restricted part.restriction (part_variable k)) ∷ equal_term (accessed_by part (made s)) (part_variable k) ∷ [])) s.parts
shell_clause earlier s i WrongPartOfMade =
    found_row i (λ k part. Some (restricted part.restriction (part_variable k) ∷ equal_term (accessed_by part (made s)) (default_of part) ∷ [])) s.parts
shell_clause earlier s i PartOfOther = found_row i (λ k part. Some (recognizes s whole ∷ equal_term (accessed_by part whole) (default_of part) ∷ [])) s.parts
shell_clause earlier s i PartOfBase = found_row i (λ k part. base_row 0 (λ b. equal_term (accessed_by part (Function b)) (default_of part) ∷ []) s.base) s.parts
shell_clause earlier s i WrongPart =
    found_row i (λ k part. Some (restricted part.restriction (part_variable k) ∷ equal_term (made s) (made_with s k (default_of part)) ∷ [])) s.parts
shell_clause earlier s i TruthIsNone = whole_row i (not_term (recognizes s true_term) ∷ [])
shell_clause earlier s i FalsityIsNone = whole_row i (not_term (recognizes s false_term) ∷ [])
shell_clause earlier s i KindsDiffer = found_row i (λ k other. Some (not_term (recognizes s whole) ∷ not_term (recognizes other whole) ∷ [])) earlier
shell_clause earlier s i SizeOfMade = whole_row i (equal_term (call1 "COUNT" (made s)) (add1_term (sum_of (part_sizes 0 s.parts))) ∷ [])
shell_clause earlier s i SizeOfBase = base_row i (λ b. equal_term (call1 "COUNT" (Function b)) zero_term ∷ []) s.base

abbrev pub shell_clause_at : List Shell → Shell → ℕ → Option ShellRow → Option Clause
shell_clause_at earlier s i None = None
shell_clause_at earlier s i (Some row) = shell_clause earlier s i row

-- the shell whose constructor has this name, with the shells before it
abbrev pub shell_found : Name → ℕ → ℕ → List Shell → List Shell → Option Clause
shell_found name row i earlier [] = None
shell_found name row i earlier (s ∷ later) =
    elim (bytes_eq name s.constructor) as (λ b. Option (List Term)) [
      | true ↦ shell_clause_at earlier s i (shell_row row)
      | false ↦ shell_found name row i (earlier ++ (s ∷ [])) later
    ]

-- The clause of this name, row and part in a history: a row of the ground symbols, an opened definition, or a row of a
-- shell, which has its constructor's name. The ground rows and the definitions have no parts.
abbrev pub without_part : ℕ → Option Clause → Option Clause
without_part zero o = o
without_part (suc i) o = None

abbrev pub axiom_clause : History → Name → ℕ → ℕ → Option Clause
axiom_clause h name row i =
    first_found (without_part i (row_found name row ground_rows))
    (first_found (without_part i (opening_at row (definition_found name (ground_definitions ++ events_definitions h))))
    (shell_found name row i [] (ground_shells ++ events_shells h)))
