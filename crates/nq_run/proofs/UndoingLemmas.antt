-- Events that take others away, as steps of a run.
use Rattle.std.proofs.Common.{◌≡◌, ℕ, Bool, true, false, List, refl, ap, sym, subst, ◌∙◌}
use Rattle.std.specs.Prelude.{Option, None, Some, is_some, not}
use Rattle.nq_logic.specs.Terms.{Name}
use Rattle.nq_logic.specs.Histories.{History}
use Rattle.nq_logic.specs.Ground.{ground_history}
use Rattle.nq_logic.specs.Names.{before_event, event_in, looked_up}
use Rattle.nq_form.specs.Form.{Form}
use Rattle.nq_bank.specs.declared.node.Mark.{Mark}
use Rattle.nq_history.specs.Lookups.{IsGroundEvent, IsUndoable}
use Rattle.nq_log.specs.States.{Undoes}
use Rattle.nq_block.specs.Blocks.{IsBlock}
use Rattle.nq_comment.specs.Reports.{Answer, Undone}
use Rattle.nq_comment.specs.declared.answer.FormAnswer.TheVariants as answers
use Rattle.nq_events.specs.Events as model
use Rattle.nq_events.specs.OwnRefusals.{own_refusal, refused_if}
use Rattle.nq_events.specs.Refusals.{Refusal, GroundEvent, NoSuchEvent}
use Rattle.nq_events.specs.TermRefusals.{first}
use Rattle.nq_answers.specs.Steps.{AnswersUnless, refusal_answer, refused, untaken}
use Rattle.nq_run.specs.Banks.{IsGivenBack}
use Rattle.nq_run.specs.HistoryView.{history_of, SessionStands}
use Rattle.nq_run.specs.Sessions.{TakesEvent}
use Rattle.nq_run.specs.declared.session.Session.{Session}

-- the refusals of an undo, by whether the name is known and whether it is of the ground history
undo_refusal : Bool → Bool → Name → Option Refusal
undo_refusal known ground x = first (refused_if (not known) (NoSuchEvent x)) (refused_if ground (GroundEvent x))

refusal_is : (h : History) (x : Name) (known ground : Bool) → is_some (looked_up x h) ≡ known → is_some (event_in x ground_history) ≡ ground → own_refusal h (model.Undo x) ≡ undo_refusal known ground x
unfolding own_refusal undo_refusal
refusal_is h x known ground k g = cc

undo_lawful : (h : History) (x : Name) → is_some (looked_up x h) ≡ true → is_some (event_in x ground_history) ≡ false → own_refusal h (model.Undo x) ≡ None
unfolding undo_refusal
undo_lawful h x known past = refusal_is h x true false known past

-- no event has the name
pub undo_unknown : (h : History) (form : Form) (x : Name) (answer : Answer) → is_some (looked_up x h) ≡ false → answer ≡ refusal_answer (NoSuchEvent x) → Some answer ≡ untaken h (model.Undo x)
unfolding undo_refusal
undo_unknown h form x answer unknown is = ap (λ (a : Answer). Some a) is ∙ sym (ap refused (refusal_is h x false (is_some (event_in x ground_history)) unknown refl))

-- the event is one of the ground history
pub undo_ground : (h : History) (form : Form) (x : Name) (answer : Answer) → IsGroundEvent x h → answer ≡ refusal_answer (GroundEvent x) → Some answer ≡ untaken h (model.Undo x)
unfolding undo_refusal
undo_ground h form x answer ground is = ap (λ (a : Answer). Some a) is ∙ sym (ap refused (refusal_is h x true true ground.known ground.ground))

-- the event and all later ones are gone
pub undo_taken : (limit : ℕ) (old new : Session) (mark : Mark) (form : Form) (x : Name) (count : ℕ) (logging : Bool) (text : List ℕ) → IsUndoable x (history_of old) count → history_of new ≡ before_event x (history_of old)
    → SessionStands new → IsGivenBack old new → (logging ≡ true → IsBlock (history_of old) (Undoes x) text)
    → TakesEvent limit old mark form (model.Undo x) logging (record { session = new; answer = answers.Undone count; block = text })
undo_taken limit old new mark form x count logging text is before stands given block = record {
  answered = subst (λ (o : Option Refusal). AnswersUnless limit (refused o) (history_of old) form (model.Undo x) (Undone count)) (sym (undo_lawful (history_of old) x is.known is.past))
      (ap (λ (n : ℕ). Undone n) is.count);
  after_is = before;
  stands = stands;
  bank = given;
  written = block;
}
