use Rattle.std.proofs.Common.{◌≡◌, drop}
use Rattle.nq_logic.specs.Terms.{value_at}
use Rattle.nq_abbrev.specs.Scope.{scope_at}
use Rattle.nq_abbrev.proofs.scope.variable.Given as goal

abbrev pub invariant-loop-binding : goal.invariant-loop-binding
invariant-loop-binding l = value_at (scope_at l.bank l.scope) l.name ≡ value_at (scope_at l.bank (drop l.binding-index l.scope)) l.name
