-- The arguments so far that are measured, and those that are still to come.
use Rattle.std.proofs.Common.{◌≡◌, ◌++◌, drop}
use Rattle.std.specs.Prelude.{All}
use Rattle.nq_logic.specs.Admissible.{matched}
use Rattle.nq_logic.specs.RuleShapes.{variables_of}
use Rattle.nq_bank.specs.Content.{Stands, term_at, terms_at}
use Rattle.nq_bank.specs.Shells.{texts_at}
use Rattle.nq_events.specs.Inductions.{measured}
use Rattle.nq_event.proofs.inductions.measured.Given as goal

abbrev pub invariant-loop-i : goal.invariant-loop-i
invariant-loop-i l =
    record {
      stand : All (Stands l.bank) l.ids.items;
      are : measured (variables_of (term_at l.bank l.measure)) (matched (texts_at l.bank l.formals) (terms_at l.bank l.arguments))
          ≡ terms_at l.bank l.ids.items ++ measured (variables_of (term_at l.bank l.measure)) (matched (texts_at l.bank (drop l.i l.formals)) (terms_at l.bank (drop l.i l.arguments)));
    }
