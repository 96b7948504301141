-- The goal is no instance of an axiom or lemma so far.
use Rattle.std.proofs.Common.{take}
use Rattle.std.specs.Prelude.{All}
use Rattle.nq_history.specs.Events.{events_at}
use Rattle.nq_quick.specs.Earlier.{IsPassed}
use Rattle.nq_quick.proofs.earlier.earlier_instance.Given as goal

abbrev pub invariant-loop-e : goal.invariant-loop-e
invariant-loop-e l = All (IsPassed l.bank (events_at l.bank l.history) l.goal) (take l.e-index l.e-items)
