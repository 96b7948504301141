-- The functions that the terms of an event may call.
use Rattle.std.specs.Prelude.{ℕ, nat_eq, bytes_eq, if◌then◌else◌, List, Option, None, Some}
use Rattle.nq_logic.specs.Terms.{Name}
use Rattle.nq_bank.specs.Content.{Content, IsNamed, text_at}
use Rattle.nq_history.specs.declared.entry.Entry.{Entry}
use Rattle.nq_history.specs.Events.{events_at, HistoryStands}
use Rattle.nq_history.specs.Functions.{arity_among, functions_of}
use Rattle.nq_events.specs.TermRefusals.{arity_of}
use Rattle.nq_event.specs.declared.arities.NewFunction.{NewFunction}
use Rattle.nq_event.specs.declared.arities.Functions.{Functions}

-- the arity of the name at this place
abbrev pub arity_at : Option NewFunction → List Entry → ℕ → Option ℕ
arity_at None history i = arity_among (record { 0 = i }) (functions_of history)
arity_at (Some f) history i = if nat_eq i f.name.0 then Some f.arity else arity_among (record { 0 = i }) (functions_of history)

-- the arities over texts, with that of a function that is being defined in front
abbrev pub arity_before : Content → Option NewFunction → (Name → Option ℕ) → Name → Option ℕ
arity_before bank None arity = arity
arity_before bank (Some f) arity = λ g. if bytes_eq g (text_at bank f.name) then Some f.arity else arity g

-- the arities of the functions, by their texts
unfoldable pub arities_at : Content → Functions → Name → Option ℕ
arities_at bank functions = arity_before bank functions.defined (arity_of (events_at bank functions.history.now))

abbrev pub NewStands : Content → Option NewFunction → Type 0
NewStands bank None = Unit {0}
NewStands bank (Some f) = IsNamed bank f.name

-- the history, and the name that is being defined, stand in the bank
pub record FunctionsStand (bank : Content) (functions : Functions) : Type 0 where
  pub history : HistoryStands bank functions.history.now
  pub defined : NewStands bank functions.defined
