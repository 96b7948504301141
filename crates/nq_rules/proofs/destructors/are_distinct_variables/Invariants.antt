-- Each term so far is a variable that is none of those after it.
use Rattle.std.proofs.Common.{◌≡◌, length}
use Rattle.std.specs.Prelude.{All}
use Rattle.nq_bank.specs.Content.{Stands, terms_at}
use Rattle.nq_rules.specs.Variables.{are_distinct_variables}
use Rattle.nq_rules.proofs.destructors.are_distinct_variables.Given as goal

abbrev pub decreases-loop-rest : goal.decreases-loop-rest
decreases-loop-rest l = length l.rest

abbrev pub invariant-loop-rest : goal.invariant-loop-rest
invariant-loop-rest l =
    record {
      stand : All (Stands l.bank) l.rest;
      same : are_distinct_variables (terms_at l.bank l.initial.rest) ≡ are_distinct_variables (terms_at l.bank l.rest);
    }
