-- What the code's context means: the state of a log between two lines.
use Rattle.std.specs.Prelude.{◌≡◌, ℕ, List, map, Option, Some, None, All, IfSome}
use Rattle.std.specs.Option.{option_map}
use Rattle.nq_logtext.specs.declared.line.Binding.{Binding}
use Rattle.nq_logic.specs.Terms.{Name}
use Rattle.nq_logic.specs.Histories.{Event}
use Rattle.nq_logic.specs.Ground.{ground_history}
use Rattle.nq_logic.specs.Names.{event_in}
use Rattle.nq_bank.specs.declared.node.TermId.{TermId}
use Rattle.nq_bank.specs.declared.shell.Part.{Part}
use Rattle.nq_bank.specs.Content.{Content, IsNamed, Stands, terms_at, text_at}
use Rattle.nq_bank.specs.Shells.{parts_at, PartStands}
use Rattle.nq_proof.specs.Clauses.{Clause}
use Rattle.nq_history.specs.declared.entry.Entry.{Entry}
use Rattle.nq_history.specs.Events.{events_at, HistoryStands}
use Rattle.nq_history.specs.Marking.{AreMarked}
use Rattle.nq_kernel.specs.declared.rule.Line.{Line}
use Rattle.nq_kernel.specs.Lines.{ids_if}
use Rattle.nq_kernel.specs.Meaning.{IsOver}
use Rattle.nq_log.specs.States.{Block, State, CaseOf, HypothesisOf}
use Rattle.nq_log.specs.States as logs
use Rattle.nq_check.specs.declared.waiting.CaseLine.{CaseLine}
use Rattle.nq_check.specs.declared.waiting.Introduced.{Introduced}
use Rattle.nq_check.specs.declared.waiting.MeasureLine.{MeasureLine}
use Rattle.nq_check.specs.declared.waiting.CaseLine.TheVariants.{Case, Hypothesis}
use Rattle.nq_check.specs.declared.context.Context.{Context}

-- the clause of a line, where it stands
abbrev pub clause_of : Content → Line → Option Clause
clause_of bank line = option_map (terms_at bank) (ids_if line.stands line.clause.items)

abbrev pub pair_of : Binding → ℕ × ℕ
pair_of b = (b.variable, b.term)

-- a line that waits for an induction
abbrev pub case_of : CaseLine → logs.CaseLine
case_of (Case q l) = CaseOf q l
case_of (Hypothesis r bindings) = HypothesisOf r (map pair_of bindings.items)

-- a function that a block introduces
abbrev pub function_of : Content → Introduced → Name × ℕ
function_of bank f = (text_at bank f.function, f.arity)

-- a line that waits for its definition
abbrev pub measure_of : MeasureLine → logs.MeasureLine
measure_of m = record { measure = m.measure; ordinal = m.ordinal; falls = m.falls.items }

-- the block that introduces this function, of these terms and lines, and of the parts, cases and measure that wait
abbrev pub block_of : Content → Option Introduced → List TermId → List Line → List Part → List CaseLine → Option MeasureLine → Block
block_of bank introduced terms lines parts cases measure =
    record {
      introduced = option_map (function_of bank) introduced;
      terms = terms_at bank terms;
      lines = map (clause_of bank) lines;
      parts = parts_at bank parts;
      cases = map case_of cases;
      measure = option_map measure_of measure;
    }

-- the state that a context stands for
abbrev pub state_of : Context → State
state_of c = record { history = events_at c.bank c.history; block = block_of c.bank c.introduced c.terms.items c.log c.parts.items c.cases.items c.measure }

-- no event has the name of one of the ground history
pub record HasNewNames (history : List Event) : Type 0 where
  pub new : (n : Name) (e : Event) → event_in n ground_history ≡ Some e → event_in n history ≡ None

-- the history stands in the bank, each event can be undone, and none has the name of a ground event
pub record IsKept (bank : Content) (history : List Entry) : Type 0 where
  pub stands : HistoryStands bank history
  pub marks : AreMarked bank history
  pub names : HasNewNames (events_at bank history)

-- what the context names stands in its bank
pub record IsWhole (c : Context) : Type 0 where
  pub history : IsKept c.bank c.history
  pub introduced : IfSome c.introduced (λ f. IsNamed c.bank f.function)
  pub terms : All (Stands c.bank) c.terms.items
  pub lines : IsOver c.bank c.log
  pub parts : All (PartStands c.bank) c.parts.items
