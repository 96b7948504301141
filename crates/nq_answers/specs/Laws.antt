-- The laws of runs.
use Rattle.std.specs.Prelude.{◌≡◌, ◌⊎◌, ℕ, true, List, [], ◌∷◌}
use Rattle.nq_logic.specs.Histories.{History}
use Rattle.nq_logic.specs.Admissible.{mentions}
use Rattle.nq_form.specs.Form.{Form, Forms, end, dotted, next}
use Rattle.nq_events.specs.Events.{Event, BootStrap, AddShell, Dcl, Defn, AddAxiom, ProveLemma, Toggle, Undo, Skipped}
use Rattle.nq_events.specs.Reading.{event_of}
use Rattle.nq_fragments.specs.Fragments.{IsInNoFragment}
use Rattle.nq_goals.specs.Hints.{first_goal}
use Rattle.nq_goals.specs.Spent.{IsFalse}
use Rattle.nq_comment.specs.Reports.{Report}
use Rattle.nq_answers.specs.Derived.{Reported}
use Rattle.nq_answers.specs.Steps.{Runs, Step, after}

-- Of each run from the ground history, whatever its limit of steps, each event that was accepted or proved holds in the history just before it, and each
-- event that stands at the end in the history of the events before it that stand.
abbrev pub RunsAreDerived : Type 0
RunsAreDerived =
    (limit : ℕ) (forms : Forms) (reports : List Report) (history : History) → Runs limit [] forms reports history → Reported limit forms reports

-- What is left to the prover: whether a measure is proved of a definition that calls its own function, and whether a lemma in no
-- fragment is proved whose first goal is not false.
abbrev pub IsLeftToProver : History → Event → Type 0
IsLeftToProver h BootStrap = ⊥
IsLeftToProver h (AddShell shell) = ⊥
IsLeftToProver h (Dcl name formals) = ⊥
IsLeftToProver h (Defn name formals body measures) = mentions name body ≡ true
IsLeftToProver h (AddAxiom name classes t) = ⊥
IsLeftToProver h (ProveLemma name classes t hints) = IsInNoFragment h t × (IsFalse h (first_goal h hints t) → ⊥)
IsLeftToProver h (Toggle name old disabled) = ⊥
IsLeftToProver h (Undo name) = ⊥
IsLeftToProver h Skipped = ⊥

-- A form that is not left to the prover has one report in a history, whatever the limits of steps; and a report leads to one
-- history.
pub record StepsAreOne : Type 0 where
  pub report : (limit bound : ℕ) (old : History) (form : Form) (report other : Report) (new later : History) → Step limit old form report new → Step bound old form other later →
      (report ≡ other) ⊎ IsLeftToProver old (event_of old form)
  pub history : (limit bound : ℕ) (old : History) (form : Form) (report : Report) (new later : History) → Step limit old form report new → Step bound old form report later → new ≡ later

-- the lists are one as far as a form that is left to the prover, and there the reports may differ
abbrev pub AgreeUntilProver : History → Forms → List Report → List Report → Type 0
AgreeUntilProver old (next form forms) (report ∷ reports) (other ∷ others) =
    (report ≡ other × AgreeUntilProver (after old form report.answer) forms reports others) ⊎ IsLeftToProver old (event_of old form)
AgreeUntilProver old (next form forms) (report ∷ reports) [] = ⊥
AgreeUntilProver old (next form forms) [] others = ⊥
AgreeUntilProver old end reports others = reports ≡ others
AgreeUntilProver old (dotted form) reports others = reports ≡ others

-- Two lists of reports of the same forms, whatever the limits of steps, differ first where the prover decides. The same reports
-- lead to one history.
pub record RunsAreOne : Type 0 where
  pub reports : (limit bound : ℕ) (old : History) (forms : Forms) (reports others : List Report) (new later : History) → Runs limit old forms reports new → Runs bound old forms others later →
      AgreeUntilProver old forms reports others
  pub history : (limit bound : ℕ) (old : History) (forms : Forms) (reports : List Report) (new later : History) → Runs limit old forms reports new → Runs bound old forms reports later → new ≡ later
