-- The first constant is among the formals that are left.
use Rattle.std.proofs.Common.{◌≡◌, drop}
use Rattle.nq_bank.specs.Shells.{texts_at}
use Rattle.nq_events.specs.OwnRefusals.{first_constant}
use Rattle.nq_admit.proofs.formals.first_constant.Given as goal

abbrev pub invariant-loop-formal : goal.invariant-loop-formal
invariant-loop-formal l = first_constant (texts_at l.bank (drop l.formal-index l.formals)) ≡ first_constant (texts_at l.bank l.formals)
