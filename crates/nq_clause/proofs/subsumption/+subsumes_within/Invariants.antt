-- No literal of d so far serves for the first one of c, and the bindings and their room are as they were.
use Rattle.std.proofs.Common.{◌≡◌, take, length}
use Rattle.nq_logic.specs.Terms.{Term, IsAmong}
use Rattle.nq_bank.specs.Content.{term_at, terms_at}
use Rattle.nq_clause.specs.Binding.{bindings_at}
use Rattle.nq_clause.specs.Subsumption.{SubsumesNone}
use Rattle.nq_clause.proofs.subsumption.+subsumes_within.Given as goal

abbrev pub decreases-subsumes_within : goal.decreases-subsumes_within
decreases-subsumes_within l = length l.c.now

abbrev pub invariant-loop-t : goal.invariant-loop-t
invariant-loop-t l =
    record {
      kept : l.bindings.items ≡ l.fn.bindings.items;
      room : l.bindings.cap ≡ l.fn.bindings.cap;
      none : (u : Term) → IsAmong u (terms_at l.bank (take l.t-index l.d)) → SubsumesNone (bindings_at l.bank l.fn.bindings.items) (term_at l.bank l.first) u (terms_at l.bank l.rest) (terms_at l.bank l.d);
    }
