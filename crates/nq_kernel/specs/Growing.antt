-- How the work of a prover grows.
use Rattle.std.specs.Prelude.{◌≡◌, ◌≤◌, ◌<◌, ◌+◌, ◌-◌, ℕ, true, unwrap_or, All, IsSome, [], List, Some, length, take, slice_get}
use Rattle.nq_bank.specs.Content.{Content, Grows, IsNamed}
use Rattle.nq_steps.specs.NewNames.{AddsSymbols}
use Rattle.nq_proof.specs.Clauses.{Clause}
use Rattle.nq_kernel.specs.declared.rule.Line.{Line}
use Rattle.nq_kernel.specs.declared.prescription.Prescription.{Prescription}
use Rattle.nq_history.specs.declared.entry.Entry.{Entry}
use Rattle.nq_kernel.specs.Counting.{Counting}
use Rattle.nq_kernel.specs.declared.work.Work.{Work}
use Rattle.nq_history.specs.Events.{HistoryStands}
use Rattle.nq_kernel.specs.Lines.{ids_at}
use Rattle.nq_kernel.specs.Meaning.{IsOver, RuleStands, clause_at, conclusion_at}
use Rattle.nq_kernel.specs.Over.{IsVariable, RulesAreOver}
use Rattle.nq_rule.specs.Conclusions.{Concludes}

-- what the log and the history name stands in the bank
pub record Fits (bank : Content) (entries : List Entry) (lines : List Line) : Type 0 where
  pub log : IsOver bank lines
  pub history : HistoryStands bank entries

-- line k, counted from 0, has the clause that its rule gives after the lines before it
pub record IsLegal (bank : Content) (history : List Entry) (log : List Line) (k : ℕ) : Type 0 where
  pub line : Line
  pub at : slice_get log k ≡ Some line
  pub stands : line.stands ≡ true
  pub rule : RuleStands bank line.rule
  pub clause : Concludes bank line.clause.items (conclusion_at bank history (take k log) line.rule)

-- lines that stood are as they were, and each new one is legal
pub record LogGrows (bank : Content) (history : List Entry) (old new : List Line) : Type 0 where
  pub kept : take (length old) new ≡ old
  pub legal : (k : ℕ) → length old ≤ k → k < length new → IsLegal bank history new k

-- steps are only added, and the limit stays
pub record CountsUp (old new : Counting) : Type 0 where
  pub used : old.used ≤ new.used
  pub limit : new.limit ≡ old.limit

-- the function is named, and the line that shows its type prescription stands
pub record PrescriptionStands (bank : Content) (log : List Line) (p : Prescription) : Type 0 where
  pub function : IsNamed bank p.function
  pub line : IsSome (ids_at log p.line)

-- what the log, the history and the known type prescriptions name stands
pub record WorkStands (entries : List Entry) (work : Work) : Type 0 where
  pub log : IsOver work.bank work.log
  pub history : HistoryStands work.bank entries
  pub known : All (PrescriptionStands work.bank work.log) work.known.items

-- Terms, lines and what is known of functions stay, and steps are only added. New names are symbols in upper case. New lines
-- are legal, and their rules are over the history's functions, with variables that a log can spell.
pub record WorkGrows (history : List Entry) (old new : Work) : Type 0 where
  pub bank : Grows old.bank new.bank
  pub names : AddsSymbols old.bank new.bank
  pub log : LogGrows new.bank history old.log new.log
  pub rules : RulesAreOver IsVariable new.bank history (length old.log) new.log
  pub counter : CountsUp old.counter new.counter
  pub known : take (length old.known.items) new.known.items ≡ old.known.items
  pub stands : WorkStands history new

-- line n, counted from 1, stands and has this clause
abbrev pub LineHolds : Work → ℕ → Clause → Type 0
LineHolds work n c = clause_at work.bank work.log n ≡ Some c

-- line n stands
abbrev pub LineStands : Work → ℕ → Type 0
LineStands work n = IsSome (clause_at work.bank work.log n)

-- the clause of a line that stands
abbrev pub held : Work → ℕ → Clause
held work n = unwrap_or (clause_at work.bank work.log n) []

-- how many terms the bank got
abbrev pub made_in : Work → Work → ℕ
made_in old new = length new.bank.terms - length old.bank.terms

-- the steps used before, one for each new term, and these
abbrev pub sum_of : Work → Work → ℕ → ℕ
sum_of old new steps = old.counter.used + made_in old new + steps

-- they fit within the limit
abbrev pub IsWithin : Work → Work → ℕ → Type 0
IsWithin old new steps = sum_of old new steps ≤ old.counter.limit

-- they pass it
abbrev pub PassesLimit : Work → Work → ℕ → Type 0
PassesLimit old new steps = old.counter.limit < sum_of old new steps
