use Rattle.std.proofs.Common.{sym, subst}
use Rattle.nq_events.specs.Refusals.{OfLanguage}
use Rattle.nq_events.specs.TermRefusals.{language_refusal}
use Rattle.nq_abbrev.specs.Met.{refusal_of}
use Rattle.nq_abbrev.specs.Meant.{IsRefusalOf}
use Rattle.nq_event.specs.Readings.{IsToldOf}
use Rattle.nq_event.proofs.ToldLemmas.{told_some}
use Rattle.nq_event.proofs.terms.term_fault.Goals as goal

pub returns-in-Refused : goal.returns-in-Refused
returns-in-Refused c =
    λ meant h.
    subst (λ m. IsToldOf (language_refusal m) c.term_refused.result) (sym (subst (IsRefusalOf meant) c.in-Refused.is h))
    (told_some (OfLanguage (refusal_of c.in-Refused.refusal)) c.term_refused.result c.term_refused.ensures)

pub returns-in-Memory : goal.returns-in-Memory
returns-in-Memory c = λ meant h. tt
