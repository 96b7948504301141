-- Shells that lines tell.
use Rattle.std.specs.Prelude.{List}
use Rattle.nq_logtext.specs.declared.line.Mode.{Mode}
use Rattle.nq_logic.specs.Terms.{Name}
use Rattle.nq_logic.specs.Histories.{Part, Shell}
use Rattle.nq_log.specs.ClosingLines.{base_of, restriction_of}

abbrev pub told_part : Name → Mode → Name → List Name → Part
told_part accessor kind default recognizers = record { accessor = accessor; restriction = restriction_of kind recognizers; default = default }

abbrev pub told_shell : Name → Name → Name → List Part → Shell
told_shell constructor base recognizer parts = record { constructor = constructor; base = base_of base; recognizer = recognizer; parts = parts }
