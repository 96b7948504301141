-- The definitions of a history and the hints of an event over a bank.
use Rattle.std.specs.Prelude.{ℕ, List, map, All, IfSome}
use Rattle.std.specs.Option.{option_map}
use Rattle.nq_logic.specs.Terms.{Term}
use Rattle.nq_logic.specs.Histories as logic
use Rattle.nq_bank.specs.Content.{Content, IsNamed, Stands, text_at, term_at, terms_at}
use Rattle.nq_bank.specs.Shells.{texts_at}
use Rattle.nq_clause.specs.declared.substitution.Pair.{Pair}
use Rattle.nq_history.specs.declared.hints.Instance.{Instance}
use Rattle.nq_history.specs.declared.hints.Hints.{Hints}
use Rattle.nq_events.specs.Events as model
use Rattle.nq_normal.specs.declared.definitions.Definition.{Definition}

-- the definition over texts and terms
abbrev pub definition_at : Content → Definition → logic.Definition
definition_at bank d = record { function = text_at bank d.name; formals = texts_at bank d.formals.now; body = term_at bank d.body; measure = option_map (term_at bank) d.measure }

-- the instances and hints over texts and terms
abbrev pub pair_at : Content → Pair → List ℕ × Term
pair_at bank p = (text_at bank p.variable, term_at bank p.term)

abbrev pub instance_at : Content → Instance → model.Instance
instance_at bank i = record { name = text_at bank i.name; pairs = map (pair_at bank) i.pairs.items }

abbrev pub hints_at : Content → Hints → model.Hints
hints_at bank hints = record {
  instances = map (instance_at bank) hints.instances.items;
  enable = texts_at bank hints.enable.items;
  disable = texts_at bank hints.disable.items;
  expand = terms_at bank hints.expand.items;
  induct = option_map (term_at bank) hints.induct;
  hands_off = texts_at bank hints.hands_off.items;
  no_induct = hints.no_induct;
  no_generalize = hints.no_generalize;
  no_arith = hints.no_arith;
}

-- names and terms of the definition stand in the bank
pub record DefinitionStands (bank : Content) (d : Definition) : Type 0 where
  pub name : IsNamed bank d.name
  pub formals : All (IsNamed bank) d.formals.now
  pub body : Stands bank d.body
  pub measure : IfSome d.measure (Stands bank)
