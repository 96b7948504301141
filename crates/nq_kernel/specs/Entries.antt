-- What entries of a history bring to its axioms.
use Rattle.std.specs.Prelude.{ℕ, true, false, bytes_eq, Option, Some, None, List}
use Rattle.std.specs.Option.{option_map}
use Rattle.nq_logic.specs.Histories.{Definition}
use Rattle.nq_bank.specs.declared.node.Sym.{Sym}
use Rattle.nq_bank.specs.Content.{Content, text_at, term_at}
use Rattle.nq_bank.specs.Shells.{texts_at}
use Rattle.nq_history.specs.declared.entry.Entry.{Entry}
use Rattle.nq_history.specs.declared.entry.EntryKind.{EntryKind}
use Rattle.nq_history.specs.declared.entry.EntryKind.TheVariants as kind

abbrev pub kind_definition : Content → Sym → EntryKind → Option Definition
kind_definition bank name (kind.Shell shell) = None
kind_definition bank name (kind.Dcl n) = None
kind_definition bank name (kind.Defn formals body measure) =
    Some (record { function = text_at bank name; formals = texts_at bank formals.items; body = term_at bank body; measure = option_map (term_at bank) measure })
kind_definition bank name (kind.Axiom classes t) = None
kind_definition bank name (kind.Lemma classes t) = None
kind_definition bank name (kind.Toggle old disabled) = None

-- the definition that an entry brought, if it is one
abbrev pub entry_definition : Content → Entry → Option Definition
entry_definition bank e = kind_definition bank e.name e.kind

-- the definition, where it is of this name
abbrev pub named : List ℕ → Option Definition → Option Definition
named name None = None
named name (Some d) = elim (bytes_eq name d.function) as (λ b. Option Definition) [ true ↦ Some d | false ↦ None ]
