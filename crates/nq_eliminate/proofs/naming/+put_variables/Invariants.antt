-- The variables of the arguments so far were put.
use Rattle.std.proofs.Common.{◌≡◌, ◌++◌, map, take}
use Rattle.std.specs.Prelude.{All}
use Rattle.nq_logic.specs.Terms.{Variable}
use Rattle.nq_bank.specs.Content.{Stands, terms_at}
use Rattle.nq_goals.specs.NewVariables.{clause_variables}
use Rattle.nq_eliminate.proofs.naming.+put_variables.Given as goal

abbrev pub decreases-put_variables : goal.decreases-put_variables
decreases-put_variables l = l.t.0

abbrev pub invariant-loop-a : goal.invariant-loop-a
invariant-loop-a l =
    record {
      more : terms_at l.bank l.found.items ≡ terms_at l.bank l.fn.found.items ++ map Variable (clause_variables (terms_at l.bank (take l.a-index l.arguments)));
      stand : All (Stands l.bank) l.found.items;
    }
