-- The events of a program, as the logic's events over texts.
use Rattle.std.specs.Prelude.{ℕ, List, map, All, IfSome}
use Rattle.std.specs.Option.{option_map}
use Rattle.nq_logic.specs.Terms.{Term}
use Rattle.nq_bank.specs.declared.node.Sym.{Sym}
use Rattle.nq_bank.specs.declared.node.TermId.{TermId}
use Rattle.nq_bank.specs.Content.{Content, IsNamed, Stands, text_at, term_at, terms_at}
use Rattle.nq_bank.specs.Shells.{texts_at, shell_at, ShellStands}
use Rattle.nq_clause.specs.declared.substitution.Pair.{Pair}
use Rattle.nq_history.specs.Events.{class_of}
use Rattle.nq_history.specs.Hints.{HintsStand}
use Rattle.nq_events.specs.Events as model
use Rattle.nq_event.specs.declared.event.Measure.{Measure}
use Rattle.nq_history.specs.declared.hints.Instance.{Instance}
use Rattle.nq_history.specs.declared.hints.Hints.{Hints}
use Rattle.nq_event.specs.declared.event.Event.{Event}
use Rattle.nq_event.specs.declared.event.Event.TheVariants.{BootStrap, AddShell, Dcl, Defn, AddAxiom, ProveLemma, Toggle, Undo, Skipped}

abbrev pub measure_at : Content → Measure → model.Measure
measure_at bank m = record { relation = text_at bank m.relation; term = term_at bank m.term }

abbrev pub pair_at : Content → Pair → List ℕ × Term
pair_at bank p = (text_at bank p.variable, term_at bank p.term)

abbrev pub instance_at : Content → Instance → model.Instance
instance_at bank i = record { name = text_at bank i.name; pairs = map (pair_at bank) i.pairs.items }

abbrev pub hints_at : Content → Hints → model.Hints
hints_at bank hints = record {
  instances = map (instance_at bank) hints.instances.items;
  enable = texts_at bank hints.enable.items;
  disable = texts_at bank hints.disable.items;
  expand = terms_at bank hints.expand.items;
  induct = option_map (term_at bank) hints.induct;
  hands_off = texts_at bank hints.hands_off.items;
  no_induct = hints.no_induct;
  no_generalize = hints.no_generalize;
  no_arith = hints.no_arith;
}

-- the event of the texts and terms of the bank
abbrev pub event_at : Content → Event → model.Event
event_at bank BootStrap = model.BootStrap
event_at bank (AddShell shell) = model.AddShell (shell_at bank shell)
event_at bank (Dcl name formals) = model.Dcl (text_at bank name) (texts_at bank formals.items)
event_at bank (Defn name formals body measures) = model.Defn (text_at bank name) (texts_at bank formals.items) (term_at bank body) (map (measure_at bank) measures.items)
event_at bank (AddAxiom name classes t) = model.AddAxiom (text_at bank name) (map class_of classes.items) (term_at bank t)
event_at bank (ProveLemma name classes t hints) = model.ProveLemma (text_at bank name) (map class_of classes.items) (term_at bank t) (hints_at bank hints)
event_at bank (Toggle name old disabled) = model.Toggle (text_at bank name) (text_at bank old) disabled
event_at bank (Undo name) = model.Undo (text_at bank name)
event_at bank Skipped = model.Skipped

pub record MeasureStands (bank : Content) (m : Measure) : Type 0 where
  pub relation : IsNamed bank m.relation
  pub measure : Stands bank m.term

pub record DclStands (bank : Content) (name : Sym) (formals : List Sym) : Type 0 where
  pub name_is : IsNamed bank name
  pub formals_are : All (IsNamed bank) formals

pub record DefnStands (bank : Content) (name : Sym) (formals : List Sym) (body : TermId) (measures : List Measure) : Type 0 where
  pub declared : DclStands bank name formals
  pub body_is : Stands bank body
  pub measures_are : All (MeasureStands bank) measures

pub record FormulaStands (bank : Content) (name : Sym) (t : TermId) : Type 0 where
  pub name_is : IsNamed bank name
  pub term_is : Stands bank t

-- names and terms of the event stand in the bank
abbrev pub EventStands : Content → Event → Type 0
EventStands bank BootStrap = Unit {0}
EventStands bank (AddShell shell) = ShellStands bank shell
EventStands bank (Dcl name formals) = DclStands bank name formals.items
EventStands bank (Defn name formals body measures) = DefnStands bank name formals.items body measures.items
EventStands bank (AddAxiom name classes t) = FormulaStands bank name t
EventStands bank (ProveLemma name classes t hints) = FormulaStands bank name t × HintsStand bank hints
EventStands bank (Toggle name old disabled) = IsNamed bank name × IsNamed bank old
EventStands bank (Undo name) = IsNamed bank name
EventStands bank Skipped = Unit {0}
