-- The measures that are tried of a recursive definition.
use Rattle.std.specs.Prelude.{if◌then◌else◌, List, ◌++◌, map}
use Rattle.nq_logic.specs.Terms.{Name, Term, Variable}
use Rattle.nq_logic.specs.Words.{call1}
use Rattle.nq_language.specs.Abbreviations.{is_word}
use Rattle.nq_events.specs.Events.{Measure}

-- under LESSP the measure counts as a number, and under ORD-LESSP as an ordinal
abbrev pub ordinal_of : Measure → Term
ordinal_of m = if is_word "LESSP" m.relation then call1 "FIX" m.term else m.term

-- the size of a formal
abbrev pub size_measure : Name → Term
size_measure x = call1 "COUNT" (Variable x)

-- those of the hint in order, and then the size of each formal in order
abbrev pub tried_measures : List Name → List Measure → List Term
tried_measures formals measures = map ordinal_of measures ++ map size_measure formals
