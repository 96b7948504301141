-- The bindings that are left give what all of them give.
use Rattle.std.proofs.Common.{◌≡◌, drop}
use Rattle.nq_logic.specs.Terms.{value_at, IsAmong}
use Rattle.nq_bank.specs.Content.{text_at}
use Rattle.nq_clause.specs.Binding.{bindings_at, variables_of}
use Rattle.nq_clause.proofs.binding.bound_to.Given as goal

abbrev pub invariant-loop-b : goal.invariant-loop-b
invariant-loop-b l =
    record {
      value : value_at (bindings_at l.bank (drop l.b-index l.bindings)) (text_at l.bank l.variable) ≡ value_at (bindings_at l.bank l.bindings) (text_at l.bank l.variable);
      onto : IsAmong (text_at l.bank l.variable) (variables_of (bindings_at l.bank (drop l.b-index l.bindings))) → IsAmong (text_at l.bank l.variable) (variables_of (bindings_at l.bank l.bindings));
      back : IsAmong (text_at l.bank l.variable) (variables_of (bindings_at l.bank l.bindings)) → IsAmong (text_at l.bank l.variable) (variables_of (bindings_at l.bank (drop l.b-index l.bindings)));
    }
