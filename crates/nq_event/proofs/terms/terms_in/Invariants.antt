-- The forms so far are read.
use Rattle.std.proofs.Common.{List}
use Rattle.nq_sexp.specs.declared.Sexp.{Sexp}
use Rattle.nq_sexp.specs.Tree.{tree}
use Rattle.nq_history.specs.Events.{events_at, HistoryStands}
use Rattle.nq_bank.specs.Content.{Stands, term_at}
use Rattle.nq_events.specs.TermRefusals.{arity_of, terms_refusal}
use Rattle.nq_events.specs.HintTerms.{term_in}
use Rattle.nq_event.specs.Reads.{forms_of}
use Rattle.nq_event.proofs.GrownLemmas.{IsReadSoFar}
use Rattle.nq_event.proofs.terms.terms_in.Given as goal

abbrev pub invariant-loop-form : goal.invariant-loop-form
invariant-loop-form l =
    record {
      history : HistoryStands l.bank l.history;
      read : IsReadSoFar Stands term_at (λ (fs : List Sexp). terms_refusal (arity_of (events_at l.fn.bank l.history)) (forms_of fs)) (λ (f : Sexp). term_in (events_at l.fn.bank l.history) (tree f)) l.fn.bank l.bank l.forms l.form-index l.terms.items;
    }
