-- Definitions of a history, and what the calls of their functions suggest.
use Rattle.std.specs.Prelude.{Bool, false, ◌||◌, bytes_eq, List, [], ◌∷◌, All, IfSome}
use Rattle.std.specs.Option.{option_map}
use Rattle.nq_logic.specs.Terms.{Name, Term, Variable, Function, Applied}
use Rattle.nq_logic.specs.Histories as logic
use Rattle.nq_bank.specs.Content.{Content, IsNamed, Stands, text_at, term_at}
use Rattle.nq_bank.specs.Shells.{texts_at}
use Rattle.nq_event.specs.declared.definitions.Definition.{Definition}

-- the definition over texts and terms
abbrev pub definition_at : Content → Definition → logic.Definition
definition_at bank d = record { function = text_at bank d.name; formals = texts_at bank d.formals.now; body = term_at bank d.body; measure = option_map (term_at bank) d.measure }

-- names and terms of the definition stand in the bank
pub record DefinitionStands (bank : Content) (d : Definition) : Type 0 where
  pub name : IsNamed bank d.name
  pub formals : All (IsNamed bank) d.formals.now
  pub body : Stands bank d.body
  pub measure : IfSome d.measure (Stands bank)

abbrev pub is_variable : Name → Term → Bool
is_variable x (Variable y) = bytes_eq x y
is_variable x (Function f) = false
is_variable x (Applied t u) = false

-- is the variable one of these terms?
abbrev pub has_variable : Name → List Term → Bool
has_variable x [] = false
has_variable x (t ∷ ts) = is_variable x t || has_variable x ts
