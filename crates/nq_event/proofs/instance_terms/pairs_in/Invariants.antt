-- The forms so far are read.
use Rattle.std.proofs.Common.{List}
use Rattle.nq_sexp.specs.declared.Sexp.{Sexp}
use Rattle.nq_sexp.specs.Tree.{tree}
use Rattle.nq_history.specs.Events.{events_at, HistoryStands}
use Rattle.nq_events.specs.WrittenHints.{pair_in}
use Rattle.nq_events.specs.TermRefusals.{arity_of, pair_forms, terms_refusal}
use Rattle.nq_events.specs.HintTerms.{pair_given}
use Rattle.nq_clause.specs.Substitution.{PairStands}
use Rattle.nq_event.specs.EventsAt.{pair_at}
use Rattle.nq_event.specs.Hints.{no_pair, pairs_at}
use Rattle.nq_event.specs.Reads.{value_or}
use Rattle.nq_event.proofs.GrownLemmas.{IsReadSoFar}
use Rattle.nq_event.proofs.instance_terms.pairs_in.Given as goal

abbrev pub invariant-loop-form : goal.invariant-loop-form
invariant-loop-form l =
    record {
      history : HistoryStands l.bank l.history;
      read : IsReadSoFar PairStands pair_at (λ (fs : List Sexp). terms_refusal (arity_of (events_at l.fn.bank l.history)) (pair_forms (pairs_at fs))) (λ (f : Sexp). pair_given (events_at l.fn.bank l.history) (value_or no_pair (pair_in (tree f)))) l.fn.bank l.bank l.forms l.form-index l.pairs.items;
    }
