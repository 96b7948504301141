-- What the test of a definition answers.
use Rattle.std.specs.Prelude.{◌≡◌, ⊤, List, map, Option, None, Some, Result, Ok, Err}
use Rattle.nq_logic.specs.Terms.{Name}
use Rattle.nq_bank.specs.declared.node.Sym.{Sym}
use Rattle.nq_bank.specs.declared.node.TermId.{TermId}
use Rattle.nq_bank.specs.Content.{Content, IsNamed, text_at, term_at}
use Rattle.nq_bank.specs.Shells.{texts_at}
use Rattle.nq_history.specs.declared.entry.Entry.{Entry}
use Rattle.nq_history.specs.Events.{events_at}
use Rattle.nq_event.specs.declared.event.Measure.{Measure}
use Rattle.nq_event.specs.EventsAt.{measure_at}
use Rattle.nq_events.specs.Refusals.{Refusal}
use Rattle.nq_events.specs.Refusals as refusal
use Rattle.nq_events.specs.OwnRefusals.{definition_refusal}
use Rattle.nq_admit.specs.declared.admission.AdmitFault.{AdmitFault}
use Rattle.nq_admit.specs.declared.admission.AdmitFault.TheVariants.{NameInUse, FormalIsConstant, RepeatedFormal, FreeVariable, BadMeasureHint, TooManyEvents, Memory}

-- the first refusal of the definition, if there is one
abbrev pub refusal_at : Content → List Entry → Sym → List Sym → TermId → List Measure → Option Refusal
refusal_at bank history name formals body measures =
    definition_refusal (events_at bank history) (text_at bank name) (texts_at bank formals) (term_at bank body) (map (measure_at bank) measures)

-- the fault is that refusal, or memory is wanting
abbrev pub IsFault : Content → Name → Option Refusal → AdmitFault → Type 0
IsFault bank name why NameInUse = why ≡ Some (refusal.FunctionInUse name)
IsFault bank name why (FormalIsConstant x) = why ≡ Some (refusal.FormalIsConstant (text_at bank x))
IsFault bank name why (RepeatedFormal x) = why ≡ Some (refusal.RepeatedFormal (text_at bank x))
IsFault bank name why (FreeVariable x) = why ≡ Some (refusal.FreeVariable (text_at bank x))
IsFault bank name why BadMeasureHint = why ≡ Some refusal.BadMeasureHint
IsFault bank name why TooManyEvents = why ≡ Some refusal.TooManyEvents
IsFault bank name why Memory = ⊤

-- accepted exactly where nothing refuses the definition
abbrev pub IsAdmission : Content → Name → Option Refusal → Result (Unit {0}) AdmitFault → Type 0
IsAdmission bank name why (Ok u) = why ≡ None
IsAdmission bank name why (Err fault) = IsFault bank name why fault

-- the names that a fault tells stand in the bank
abbrev pub IsNamedFault : Content → AdmitFault → Type 0
IsNamedFault bank NameInUse = ⊤
IsNamedFault bank (FormalIsConstant x) = IsNamed bank x
IsNamedFault bank (RepeatedFormal x) = IsNamed bank x
IsNamedFault bank (FreeVariable x) = IsNamed bank x
IsNamedFault bank BadMeasureHint = ⊤
IsNamedFault bank TooManyEvents = ⊤
IsNamedFault bank Memory = ⊤
