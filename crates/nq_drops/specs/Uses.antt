-- Which lines the lines of a block cite, and where each line is used last.
use Rattle.std.specs.Prelude.{ℕ, suc, nat_eq, Bool, true, false, ◌||◌, if◌then◌else◌, List, [], ◌∷◌, ◌++◌}
use Rattle.nq_logtext.specs.Fields.{Field, number}
use Rattle.nq_logtext.specs.Lines.{Line}
use Rattle.nq_logtext.specs.declared.word.Word.{Word}
use Rattle.nq_logtext.specs.declared.word.Word.TheVariants as word

-- the number that stands first, the first two, the fields after the first, and all numbers
abbrev pub first_number : List Field → List ℕ
first_number (number l ∷ fields) = l ∷ []
first_number fields = []

abbrev pub two_numbers : List Field → List ℕ
two_numbers (number l ∷ number m ∷ fields) = l ∷ m ∷ []
two_numbers fields = []

abbrev pub after_first : List Field → List Field
after_first [] = []
after_first (f ∷ fields) = fields

abbrev pub all_numbers : List Field → List ℕ
all_numbers [] = []
all_numbers (number l ∷ fields) = l ∷ all_numbers fields
all_numbers (f ∷ fields) = all_numbers fields

-- the lines that a line with this first word and these fields cites
abbrev pub cited_by : List Field → Word → List ℕ
-- WEAKEN l t1 ... tk
cited_by fields word.Weaken = first_number fields
-- CUT l1 l2 t
cited_by fields word.Cut = two_numbers fields
-- INST l v1 t1 ... vk tk
cited_by fields word.Inst = first_number fields
-- REPLACE l k p t s
cited_by fields word.Replace = first_number fields
-- JOIN l1 l2 p x y
cited_by fields word.Join = two_numbers fields
-- SPLIT l k s
cited_by fields word.Split = first_number fields
-- NOTNOT l k
cited_by fields word.NotNot = first_number fields
-- INDUCT p m o b
cited_by fields word.Induct = two_numbers (after_first (after_first fields))
-- CASE q l
cited_by fields word.Case = first_number (after_first fields)
-- HYP r v1 t1 ... vk tk
cited_by fields word.Hyp = first_number fields
-- LEMMA n t l
cited_by fields word.Lemma = first_number (after_first (after_first fields))
-- MEASURE m o r1 ... rk
cited_by fields word.Measure = all_numbers (after_first fields)
-- no other line cites one
cited_by fields w = []

abbrev pub cited : Line → List ℕ
cited line = cited_by line.fields line.word

-- whether a line is a rule line, which has a number
abbrev pub is_rule : Word → Bool
is_rule word.Taut = true
is_rule word.Axiom = true
is_rule word.Event = true
is_rule word.Weaken = true
is_rule word.Cut = true
is_rule word.Inst = true
is_rule word.Refl = true
is_rule word.Replace = true
is_rule word.Join = true
is_rule word.Split = true
is_rule word.NotNot = true
is_rule word.Value = true
is_rule word.Linear = true
is_rule word.Induct = true
is_rule w = false

abbrev pub is_induction : Word → Bool
is_induction word.Induct = true
is_induction w = false

-- What each rule line cites, in their order, and last what the closing line cites. What CASE and HYP lines cite waits for the
-- INDUCT that uses them, and counts as its own; what MEASURE cites counts as the closing line's.
abbrev pub uses : List ℕ → List Line → List (List ℕ)
uses waiting [] = waiting ∷ []
uses waiting (line ∷ lines) =
    if is_induction line.word then (waiting ++ cited line) ∷ uses [] lines
    else (if is_rule line.word then cited line ∷ uses waiting lines else uses (waiting ++ cited line) lines)

abbrev pub is_listed : ℕ → List ℕ → Bool
is_listed l [] = false
is_listed l (k ∷ ks) = nat_eq k l || is_listed l ks

-- the number of the last of these uses that has the line, where the first of them has number n; else the one so far
abbrev pub last_from : List (List ℕ) → ℕ → ℕ → ℕ → ℕ
last_from [] n l so_far = so_far
last_from (here ∷ rest) n l so_far = last_from rest (suc n) l (if is_listed l here then n else so_far)

-- The number of the last line that cites line l, or its own where none does. The closing line has the number after the last
-- rule line's.
abbrev pub last_use : List (List ℕ) → ℕ → ℕ
last_use all l = last_from all 1 l l
