-- What stands between two lines of a log.
use Rattle.std.specs.Prelude.{ℕ, zero, suc, Bool, true, false, ◌&&◌, List, [], ◌∷◌, ◌++◌, Option, Some, None, is_none, is_some, slice_get}
use Rattle.nq_logtext.specs.Reading.{◌>>=◌}
use Rattle.nq_logic.specs.Terms.{Name, Term, Variable, Symbol}
use Rattle.nq_logic.specs.Histories.{History, Event, Part}
use Rattle.nq_logic.specs.Ground.{symbols_of}
use Rattle.nq_proof.specs.Clauses.{Clause}
use Rattle.nq_logic.specs.Names.{before_event}

abbrev pub is_empty : {X : Type 0} → List X → Bool
is_empty [] = true
is_empty (x ∷ xs) = false

-- a line that waits for an induction: numbers of terms and lines
pub data CaseLine : Type 0 where
  CaseOf : (test step : ℕ) → CaseLine
  HypothesisOf : (line : ℕ) (pairs : List (ℕ × ℕ)) → CaseLine

-- a line that waits for its definition
pub record MeasureLine : Type 0 where
  pub measure : ℕ
  pub ordinal : ℕ
  pub falls : List ℕ

-- The part of a block so far: the function that it introduces, its terms and its lines in their order, each dropped one
-- as None, and the lines that wait for a later one.
pub record Block : Type 0 where
  pub introduced : Option (List ℕ × ℕ)
  pub terms : List Term
  pub lines : List (Option (List Term))
  pub parts : List Part
  pub cases : List CaseLine
  pub measure : Option MeasureLine

abbrev pub no_lines : Block
no_lines = record { introduced = None; terms = []; lines = []; parts = []; cases = []; measure = None }

pub record State : Type 0 where
  pub history : List Event
  pub block : Block

-- what a closing line claims
pub data Claim : Type 0 where
  Grounded : Claim
  Adds : (event : Event) → Claim
  Undoes : (name : List ℕ) → Claim

abbrev pub after_claim : History → Claim → History
after_claim h Grounded = []
after_claim h (Adds e) = h ++ (e ∷ [])
after_claim h (Undoes n) = before_event n h

-- the state at the start of a block
abbrev pub start_of : History → State
start_of h = record { history = h; block = no_lines }

-- what a line leads to: a longer block, a claim, or the end of the log
pub data Step : Type 0 where
  Continues : (block : Block) → Step
  Claims : (claim : Claim) → Step
  Ends : Step

abbrev pub introduced_symbols : Option (Name × ℕ) → List Symbol
introduced_symbols None = []
introduced_symbols (Some s) = s ∷ []

-- the functions that the block's terms may have
abbrev pub block_symbols : State → List Symbol
block_symbols s = introduced_symbols s.block.introduced ++ symbols_of s.history

-- what has this number, counted from 1
abbrev pub numbered : {X : Type 0} → List X → ℕ → Option X
numbered xs zero = None
numbered xs (suc n) = slice_get xs n

abbrev pub term_at : Block → ℕ → Option Term
term_at block n = numbered block.terms n

abbrev pub terms_at : Block → List ℕ → Option (List Term)
terms_at block [] = Some []
terms_at block (n ∷ ns) = term_at block n >>= λ t. terms_at block ns >>= λ ts. Some (t ∷ ts)

abbrev pub variable_of : Term → Option Name
variable_of (Variable x) = Some x
variable_of t = None

abbrev pub variable_at : Block → ℕ → Option Name
variable_at block n = term_at block n >>= variable_of

abbrev pub variables_at : Block → List ℕ → Option (List Name)
variables_at block [] = Some []
variables_at block (n ∷ ns) = variable_at block n >>= λ x. variables_at block ns >>= λ xs. Some (x ∷ xs)

-- the clause of a line that was not dropped
abbrev pub clause_at : Block → ℕ → Option Clause
clause_at block n = numbered block.lines n >>= λ o. o

-- whether a line has this number, dropped or not
abbrev pub has_line : Block → ℕ → Bool
has_line block n = is_some (numbered block.lines n)

abbrev pub have_lines : Block → List ℕ → Bool
have_lines block [] = true
have_lines block (n ∷ ns) = has_line block n && have_lines block ns

abbrev pub has_term_at : Block → ℕ → Bool
has_term_at block n = is_some (term_at block n)

-- whether no line of the block stands yet
abbrev pub is_untouched : Block → Bool
is_untouched block =
    is_none block.introduced && is_empty block.terms && is_empty block.lines && is_empty block.parts && is_empty block.cases && is_none block.measure

-- the thing, where the condition holds
abbrev pub only_when : {X : Type 0} → Bool → X → Option X
only_when true x = Some x
only_when false x = None
