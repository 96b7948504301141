-- What is found of the formals from a place on.
use Rattle.std.proofs.Common.{◌≡◌, drop}
use Rattle.std.specs.Prelude.{IfSome}
use Rattle.std.specs.Option.{option_map}
use Rattle.nq_logic.specs.ShellPrinciple.{first_repeated}
use Rattle.nq_bank.specs.Content.{IsNamed, text_at}
use Rattle.nq_bank.specs.Shells.{texts_at}
use Rattle.nq_admit.specs.Formals.{IsSetOf}
use Rattle.nq_admit.proofs.formals.first_repeated.Given as goal

abbrev pub invariant-loop-i : goal.invariant-loop-i
invariant-loop-i l =
    record {
      later : IsSetOf l.bank (drop l.i l.formals) l.later;
      first : option_map (text_at l.bank) l.first ≡ first_repeated (texts_at l.bank (drop l.i l.formals));
      named : IfSome l.first (IsNamed l.bank);
    }
