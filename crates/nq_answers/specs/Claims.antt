-- What a run claims in its log: the events that were accepted, proved or undone, in order.
use Rattle.std.specs.Prelude.{List, [], ◌∷◌, ◌++◌, length, Option, if◌then◌else◌}
use Rattle.nq_logic.specs.Terms.{Term}
use Rattle.nq_logic.specs.Histories.{History}
use Rattle.nq_logic.specs.Histories as logic
use Rattle.nq_form.specs.Form.{Form, Forms, end, dotted, next}
use Rattle.nq_log.specs.States.{Claim, Grounded, Adds, Undoes}
use Rattle.nq_events.specs.Events.{Event, BootStrap, AddShell, Dcl, Defn, AddAxiom, ProveLemma, Toggle, Undo, Skipped}
use Rattle.nq_events.specs.Reading.{event_of}
use Rattle.nq_events.specs.Effects.{defined}
use Rattle.nq_comment.specs.Reports.{Answer, Report}
use Rattle.nq_answers.specs.Steps.{after, is_taken, measure_by}

-- What an event claims that was taken, a recursive definition by this measure. A log does not tell rule classes.
abbrev pub event_claims : Event → Option Term → List Claim
event_claims BootStrap m = Grounded ∷ []
event_claims (AddShell shell) m = Adds (logic.AddShell shell) ∷ []
event_claims (Dcl name formals) m = Adds (logic.Declaration name (length formals)) ∷ []
event_claims (Defn name formals body measures) m = Adds (defined name formals body m) ∷ []
event_claims (AddAxiom name classes t) m = Adds (logic.Axiom name [] t) ∷ []
event_claims (ProveLemma name classes t hints) m = Adds (logic.Lemma name [] t) ∷ []
event_claims (Toggle name old disabled) m = Adds (logic.Toggle name old disabled) ∷ []
event_claims (Undo name) m = Undoes name ∷ []
event_claims Skipped m = []

-- what an event of this answer claims
abbrev pub claims_of : Event → Answer → List Claim
claims_of event answer = if is_taken answer then event_claims event (measure_by event answer) else []

abbrev pub claims_at : History → Form → Answer → List Claim
claims_at h form answer = claims_of (event_of h form) answer

-- what forms and their reports claim
abbrev pub claims_from : History → Forms → List Report → List Claim
claims_from h (next form forms) (report ∷ reports) = claims_at h form report.answer ++ claims_from (after h form report.answer) forms reports
claims_from h (next form forms) [] = []
claims_from h end reports = []
claims_from h (dotted form) reports = []
