-- The ground history as a table of texts: the functions with their arities, and the definitions as they are written.
use Prim.Native.String.{String as Text}
use Rattle.std.specs.Prelude.{◌≡◌, ℕ, Bool, true, false, ◌&&◌, if◌then◌else◌, List, [], ◌∷◌, ◌++◌, map, Some, None, is_some, codes}
use Rattle.nq_logic.specs.Terms.{Term, Variable, Function, Applied, Symbol, call}
use Rattle.nq_logic.specs.Words.{call0, literal_atom}
use Rattle.nq_logic.specs.Histories.{Definition, events_shells, events_definitions}
use Rattle.nq_logic.specs.Ground.{ground_symbols, ground_shells, ground_definitions, ground_history}
use Rattle.nq_logic.specs.Names.{symbol_names, are_distinct}
use Rattle.nq_logic.specs.Admissible.{mentions, has_variables}
use Rattle.nq_logic.specs.Tests.{is_term}
use Rattle.nq_logic.specs.Evaluation.{are_same}

-- how a few constants are written
abbrev constants : List (Term × Text)
constants = (call0 "TRUE", "T") ∷ (call0 "FALSE", "F") ∷ (call0 "ZERO", "0") ∷ (literal_atom "NIL", "NIL") ∷ []

abbrev written_or : List ℕ → Term → List (Term × Text) → List ℕ
written_or other t [] = other
written_or other t (row ∷ rows) = if are_same t row.0 then codes row.1 else written_or other t rows

-- a term in parentheses, or without its own, its parts apart by single spaces
abbrev pub spelled : Term → Bool → List ℕ
spelled (Variable x) inside = x
spelled (Function f) inside = if inside then f else written_or f (Function f) constants
spelled (Applied t u) inside =
    let parts = spelled t true ++ (codes " " ++ spelled u false) in
    if inside then parts else written_or (codes "(" ++ (parts ++ codes ")")) (Applied t u) constants

abbrev pub written : Term → List ℕ
written t = spelled t false

-- how a definition is written: its call, and its body
abbrev pub equation_of : Definition → List ℕ × List ℕ
equation_of d = (written (call d.function (map Variable d.formals)), written d.body)

-- the texts of a table's rows
abbrev pub rows_of : List (Text × Text) → List (List ℕ × List ℕ)
rows_of rows = map (λ row. (codes row.0, codes row.1)) rows

abbrev pub arities_of : List (Text × ℕ) → List Symbol
arities_of rows = map (λ row. (codes row.0, row.1)) rows

-- each definition that has a measure, with the measure as it is written
abbrev pub measures_of : List Definition → List (List ℕ × List ℕ)
measures_of [] = []
measures_of (d ∷ ds) = elim d.measure as (λ o. List (List ℕ × List ℕ)) [ None ↦ measures_of ds | Some m ↦ (d.function, written m) ∷ measures_of ds ]

abbrev arity_table : List (Text × ℕ)
arity_table =
    ("TRUE", 0) ∷ ("FALSE", 0) ∷ ("EQUAL", 2) ∷ ("IF", 3) ∷ ("COUNT", 1)
    ∷ ("ADD1", 1) ∷ ("ZERO", 0) ∷ ("NUMBERP", 1) ∷ ("SUB1", 1)
    ∷ ("CONS", 2) ∷ ("LISTP", 1) ∷ ("CAR", 1) ∷ ("CDR", 1)
    ∷ ("PACK", 1) ∷ ("LITATOM", 1) ∷ ("UNPACK", 1)
    ∷ ("MINUS", 1) ∷ ("NEGATIVEP", 1) ∷ ("NEGATIVE-GUTS", 1)
    ∷ ("TRUEP", 1) ∷ ("FALSEP", 1) ∷ ("NOT", 1) ∷ ("AND", 2) ∷ ("OR", 2) ∷ ("IMPLIES", 2) ∷ ("IFF", 2)
    ∷ ("ZEROP", 1) ∷ ("FIX", 1) ∷ ("PLUS", 2) ∷ ("LESSP", 2) ∷ ("DIFFERENCE", 2) ∷ ("TIMES", 2) ∷ ("QUOTIENT", 2) ∷ ("REMAINDER", 2)
    ∷ ("GREATERP", 2) ∷ ("LEQ", 2) ∷ ("GEQ", 2)
    ∷ ("NLISTP", 1) ∷ ("APPEND", 2) ∷ ("MEMBER", 2) ∷ ("ORD-LESSP", 2) ∷ ("ORDINALP", 1) ∷ ("IDENTITY", 1) ∷ ("MAX", 2)
    ∷ ("UNION", 2) ∷ ("ADD-TO-SET", 2) ∷ ("ASSOC", 2) ∷ ("PAIRLIST", 2) ∷ []

abbrev definition_table : List (Text × Text)
definition_table =
    ("(TRUEP X)", "(EQUAL X T)")
    ∷ ("(FALSEP X)", "(EQUAL X F)")
    ∷ ("(NOT P)", "(IF P F T)")
    ∷ ("(AND P Q)", "(IF P (IF Q T F) F)")
    ∷ ("(OR P Q)", "(IF P T (IF Q T F))")
    ∷ ("(IMPLIES P Q)", "(IF P (IF Q T F) T)")
    ∷ ("(IFF P Q)", "(IF P (IF Q T F) (IF Q F T))")
    ∷ ("(ZEROP X)", "(IF (EQUAL X 0) T (IF (NUMBERP X) F T))")
    ∷ ("(FIX X)", "(IF (NUMBERP X) X 0)")
    ∷ ("(PLUS X Y)", "(IF (ZEROP X) (FIX Y) (ADD1 (PLUS (SUB1 X) Y)))")
    ∷ ("(LESSP X Y)", "(IF (ZEROP Y) F (IF (ZEROP X) T (LESSP (SUB1 X) (SUB1 Y))))")
    ∷ ("(DIFFERENCE X Y)", "(IF (ZEROP X) 0 (IF (ZEROP Y) X (DIFFERENCE (SUB1 X) (SUB1 Y))))")
    ∷ ("(TIMES X Y)", "(IF (ZEROP X) 0 (PLUS Y (TIMES (SUB1 X) Y)))")
    ∷ ("(QUOTIENT X Y)", "(IF (ZEROP Y) 0 (IF (LESSP X Y) 0 (ADD1 (QUOTIENT (DIFFERENCE X Y) Y))))")
    ∷ ("(REMAINDER X Y)", "(IF (ZEROP Y) (FIX X) (IF (LESSP X Y) (FIX X) (REMAINDER (DIFFERENCE X Y) Y)))")
    ∷ ("(GREATERP X Y)", "(LESSP Y X)")
    ∷ ("(LEQ X Y)", "(NOT (LESSP Y X))")
    ∷ ("(GEQ X Y)", "(NOT (LESSP X Y))")
    ∷ ("(NLISTP X)", "(NOT (LISTP X))")
    ∷ ("(APPEND X Y)", "(IF (LISTP X) (CONS (CAR X) (APPEND (CDR X) Y)) Y)")
    ∷ ("(MEMBER X Y)", "(IF (NLISTP Y) F (IF (EQUAL X (CAR Y)) T (MEMBER X (CDR Y))))")
    ∷ ("(ORD-LESSP X Y)", "(IF (NOT (LISTP X)) (IF (NOT (LISTP Y)) (LESSP X Y) T) (IF (NOT (LISTP Y)) F (IF (ORD-LESSP (CAR X) (CAR Y)) T (AND (EQUAL (CAR X) (CAR Y)) (ORD-LESSP (CDR X) (CDR Y))))))")
    ∷ ("(ORDINALP X)", "(IF (LISTP X) (AND (ORDINALP (CAR X)) (AND (NOT (EQUAL (CAR X) 0)) (AND (ORDINALP (CDR X)) (OR (NOT (LISTP (CDR X))) (NOT (ORD-LESSP (CAR X) (CAR (CDR X)))))))) (NUMBERP X))")
    ∷ ("(IDENTITY X)", "X")
    ∷ ("(MAX X Y)", "(IF (LESSP X Y) Y (FIX X))")
    ∷ ("(UNION X Y)", "(IF (LISTP X) (IF (MEMBER (CAR X) Y) (UNION (CDR X) Y) (CONS (CAR X) (UNION (CDR X) Y))) Y)")
    ∷ ("(ADD-TO-SET X Y)", "(IF (MEMBER X Y) Y (CONS X Y))")
    ∷ ("(ASSOC X Y)", "(IF (LISTP Y) (IF (EQUAL X (CAR (CAR Y))) (CAR Y) (ASSOC X (CDR Y))) F)")
    ∷ ("(PAIRLIST X Y)", "(IF (LISTP X) (CONS (CONS (CAR X) (CAR Y)) (PAIRLIST (CDR X) (CDR Y))) NIL)")
    ∷ []

abbrev measure_table : List (Text × Text)
measure_table =
    ("PLUS", "(COUNT X)") ∷ ("LESSP", "(COUNT X)") ∷ ("DIFFERENCE", "(COUNT X)") ∷ ("TIMES", "(COUNT X)") ∷ ("QUOTIENT", "(COUNT X)") ∷ ("REMAINDER", "(COUNT X)")
    ∷ ("APPEND", "(COUNT X)") ∷ ("MEMBER", "(COUNT Y)") ∷ ("ORD-LESSP", "(COUNT X)") ∷ ("ORDINALP", "(COUNT X)") ∷ ("UNION", "(COUNT X)") ∷ ("ASSOC", "(COUNT Y)") ∷ ("PAIRLIST", "(COUNT X)") ∷ []

-- The ground history is the table's.
pub record IsGroundTable : Type 0 where
  pub arities : ground_symbols ≡ arities_of arity_table
  pub names : are_distinct (symbol_names ground_symbols) ≡ true
  pub definitions : map equation_of ground_definitions ≡ rows_of definition_table
  pub bodies : map (λ d. is_term ground_symbols d.body && has_variables d.formals d.body && are_distinct d.formals) ground_definitions ≡ map (λ d. true) ground_definitions
  pub measures : measures_of ground_definitions ≡ rows_of measure_table
  pub recursive : map (λ d. is_some d.measure) ground_definitions ≡ map (λ d. mentions d.function d.body) ground_definitions
  pub shells_as_events : events_shells ground_history ≡ ground_shells
  pub definitions_as_events : events_definitions ground_history ≡ ground_definitions
