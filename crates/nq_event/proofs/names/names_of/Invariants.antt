-- The symbols so far have their names.
use Rattle.std.proofs.Common.{take}
use Rattle.nq_bank.specs.Content.{Grows}
use Rattle.nq_event.specs.Readings.{AreNamesOf}
use Rattle.nq_event.specs.Shapes.{names_at}
use Rattle.nq_event.proofs.names.names_of.Given as goal

abbrev pub invariant-loop-form : goal.invariant-loop-form
invariant-loop-form l =
    record {
      grows : Grows l.fn.bank l.bank;
      names : AreNamesOf l.bank (names_at (take l.form-index l.forms)) l.names.items;
    }
