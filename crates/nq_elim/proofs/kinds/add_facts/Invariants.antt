-- The facts so far hold.
use Rattle.std.specs.Prelude.{All}
use Rattle.nq_bank.specs.Content.{terms_at}
use Rattle.nq_elim.specs.Reasons.{FactHolds}
use Rattle.nq_elim.proofs.kinds.add_facts.Given as goal

abbrev pub invariant-loop-fact : goal.invariant-loop-fact
invariant-loop-fact l = All (FactHolds l.history l.work (terms_at l.work.bank l.these)) l.facts.items
