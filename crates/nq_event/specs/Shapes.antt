-- The parts of events, as the program has them.
use Rattle.std.specs.Prelude.{Bool, true, false, List, [], Option, None, Some}
use Rattle.nq_logic.specs.Terms.{Name}
use Rattle.nq_logic.specs.Histories.{Rewrite, Elim, Generalize, Restriction, OneOf, NoneOf, Part, Shell}
use Rattle.nq_form.specs.Form.{Form, symbol}
use Rattle.nq_events.specs.Parts.{symbol_in, TypeWord, OfClass, Meta, type_in, WrittenMeasure, measure_in, part_in}
use Rattle.nq_language.specs.Abbreviations.{is_word}
use Rattle.nq_sexp.specs.declared.Sexp.{Sexp}
use Rattle.nq_sexp.specs.Tree.{tree}
use Rattle.nq_event.specs.Reads.{name_at, read_each}
use Rattle.nq_event.specs.declared.parts.TypeOutline.{TypeOutline}
use Rattle.nq_event.specs.declared.parts.TypeOutline.TheVariants as type
use Rattle.nq_event.specs.declared.parts.MeasureOutline.{MeasureOutline}
use Rattle.nq_event.specs.declared.shells.RestrictionOutline.{RestrictionOutline}
use Rattle.nq_event.specs.declared.shells.PartOutline.{PartOutline}
use Rattle.nq_event.specs.declared.shells.ShellOutline.{ShellOutline}

-- the symbols of forms
abbrev pub names_at : List Sexp → List Name
names_at items = read_each symbol_in [] items

abbrev pub type_at : TypeOutline → TypeWord
type_at type.Rewrite = OfClass Rewrite
type_at type.Elim = OfClass Elim
type_at type.Generalize = OfClass Generalize
type_at type.Meta = Meta

abbrev pub type_if : Option TypeOutline → Option TypeWord
type_if None = None
type_if (Some t) = Some (type_at t)

-- the types of forms
abbrev pub types_at : List Sexp → List TypeWord
types_at items = read_each type_in Meta items

abbrev pub measure_at : MeasureOutline → WrittenMeasure
measure_at m = record { relation = m.relation.now; form = tree m.form.now }

abbrev pub measure_if : Option MeasureOutline → Option WrittenMeasure
measure_if None = None
measure_if (Some m) = Some (measure_at m)

abbrev pub no_measure : WrittenMeasure
no_measure = record { relation = []; form = symbol [] }

-- the measures of forms
abbrev pub measures_at : List Sexp → List WrittenMeasure
measures_at items = read_each measure_in no_measure items

abbrev pub restriction_of : Bool → List Name → Restriction
restriction_of true recognizers = OneOf recognizers
restriction_of false recognizers = NoneOf recognizers

abbrev pub restriction_at : RestrictionOutline → Restriction
restriction_at r = restriction_of r.one_of (names_at r.recognizers.now)

abbrev pub restriction_if : Option RestrictionOutline → Option Restriction
restriction_if None = None
restriction_if (Some r) = Some (restriction_at r)

abbrev pub part_at : PartOutline → Part
part_at p = record { accessor = p.accessor.now; restriction = restriction_at p.restriction; default = p.default.now }

abbrev pub part_if : Option PartOutline → Option Part
part_if None = None
part_if (Some p) = Some (part_at p)

abbrev pub no_part : Part
no_part = record { accessor = []; restriction = NoneOf []; default = [] }

abbrev pub shell_at : ShellOutline → Shell
shell_at s = record { constructor = s.constructor.now; base = name_at s.base; recognizer = s.recognizer.now; parts = read_each part_in no_part s.parts.now }

-- is a form the word META?
abbrev pub is_meta : Form → Bool
is_meta (symbol name) = is_word "META" name
is_meta _ = false
