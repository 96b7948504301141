-- Logs: lines with their clauses.
use Rattle.std.specs.Prelude.{ℕ, zero, suc, ◌-◌, ◌==◌, nat_lt, Bool, true, false, ◌&&◌, List, [], ◌∷◌, Option, Some, None, length, bytes_eq}
use Rattle.nq_logic.specs.Terms.{Term, Variable, Function, Applied, Symbol}
use Rattle.nq_logic.specs.Histories.{History}
use Rattle.nq_logic.specs.Ground.{symbols_of}
use Rattle.nq_proof.specs.Clauses.{Clause}
use Rattle.nq_proof.specs.Rules.{Rule, conclusion, rule_terms, is_basic}

abbrev pub has_symbol : List ℕ → ℕ → List Symbol → Bool
has_symbol f n [] = false
has_symbol f n (s ∷ symbols) = elim (bytes_eq f s.0 && (n == s.1)) as (λ b. Bool) [ true ↦ true | false ↦ has_symbol f n symbols ]

-- whether the term is right over these symbols, with so many arguments more
abbrev pub takes : List Symbol → Term → ℕ → Bool
takes symbols (Variable x) n = n == 0
takes symbols (Function f) n = has_symbol f n symbols
takes symbols (Applied t u) n = takes symbols t (suc n) && takes symbols u 0

abbrev pub are_terms : List Symbol → List Term → Bool
are_terms symbols [] = true
are_terms symbols (t ∷ ts) = takes symbols t 0 && are_terms symbols ts

-- a line of a block that has a number, or the end of a line's use
pub data LogLine : Type 0 where
  Ruled : (rule : Rule) → LogLine
  Dropped : (line : ℕ) → LogLine

-- the clauses of the lines so far, the latest first; None where a line was dropped
abbrev pub Standing : Type 0
Standing = List (Option (List Term))

abbrev pub standing_at : Standing → ℕ → Option Clause
standing_at [] k = None
standing_at (c ∷ cs) zero = c
standing_at (c ∷ cs) (suc k) = standing_at cs k

-- the clause of line n, counted from 1
abbrev pub clause_of : Standing → ℕ → Option Clause
clause_of cs zero = None
clause_of cs (suc k) = elim (nat_lt k (length cs)) as (λ b. Option (List Term)) [ true ↦ standing_at cs (length cs - suc k) | false ↦ None ]

-- the line at place k, counted from the latest, dropped
abbrev pub dropped : Standing → ℕ → Standing
dropped [] k = []
dropped (c ∷ cs) zero = None ∷ cs
dropped (c ∷ cs) (suc k) = c ∷ dropped cs k

-- the lines with one more
abbrev pub one_more : Standing → Option Clause → Option Standing
one_more cs None = None
one_more cs (Some c) = Some (Some c ∷ cs)

abbrev pub after_line : History → Standing → LogLine → Option Standing
after_line h cs (Ruled rule) =
    elim (are_terms (symbols_of h) (rule_terms rule)) as (λ b. Option (List (Option (List Term)))) [
      | true ↦ one_more cs (conclusion h (clause_of cs) rule)
      | false ↦ None
    ]
after_line h cs (Dropped n) = elim (clause_of cs n) as (λ o. Option (List (Option (List Term)))) [ Some c ↦ Some (dropped cs (length cs - n)) | None ↦ None ]

-- the lines that stand after these, if each of these is allowed
abbrev pub after_lines : History → Option Standing → List LogLine → Option Standing
after_lines h None log = None
after_lines h (Some cs) [] = Some cs
after_lines h (Some cs) (line ∷ log) = after_lines h (after_line h cs line) log

abbrev pub last_clause : Option Standing → Option Clause
last_clause None = None
last_clause (Some []) = None
last_clause (Some (c ∷ cs)) = c

-- lines that stand before the first, in their order
abbrev pub standing_of : Standing → List Clause → Standing
standing_of cs [] = cs
standing_of cs (c ∷ known) = standing_of (Some c ∷ cs) known

-- the clause in which a log of allowed lines ends, whose first lines are these known clauses
abbrev pub proved_from : History → List (List Term) → List LogLine → Option Clause
proved_from h known log = last_clause (after_lines h (Some (standing_of [] known)) log)

-- the clause in which a log of allowed lines ends
abbrev pub proved_by : History → List LogLine → Option Clause
proved_by h log = proved_from h [] log

abbrev pub is_basic_line : LogLine → Bool
is_basic_line (Ruled rule) = is_basic rule
is_basic_line (Dropped n) = true

-- whether each rule of the log rests on no table of arithmetic
abbrev pub are_basic : List LogLine → Bool
are_basic [] = true
are_basic (line ∷ log) = is_basic_line line && are_basic log
