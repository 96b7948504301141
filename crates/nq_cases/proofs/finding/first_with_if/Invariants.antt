-- None of the arguments so far has an IF.
use Rattle.std.proofs.Common.{◌≡◌, false, take}
use Rattle.nq_bank.specs.Content.{terms_at}
use Rattle.nq_cases.specs.Counts.{HasCounts}
use Rattle.nq_cases.specs.Choices.{any_if}
use Rattle.nq_cases.proofs.finding.first_with_if.Given as goal

abbrev pub invariant-loop-argument : goal.invariant-loop-argument
invariant-loop-argument l =
    record {
      place : l.place ≡ l.argument-index;
      none : any_if (terms_at l.bank (take l.argument-index l.argument-items)) ≡ false;
      known : HasCounts l.bank l.cap l.known;
    }
