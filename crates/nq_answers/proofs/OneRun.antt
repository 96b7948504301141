-- Reports lead to one history, and the reports of a form differ only where the prover decides.
use Rattle.std.proofs.Common.{◌≡◌, ◌∙◌, Bool, true, false, List, [], ◌∷◌, Option, ℕ, ap, ap₂, refl, subst, sym, inl, inr}
use Rattle.std.specs.Prelude.{Some, None, ◌⊎◌}
use Rattle.nq_logic.specs.Terms.{Name, Term}
use Rattle.nq_logic.specs.Histories.{History}
use Rattle.nq_logic.specs.Admissible.{mentions}
use Rattle.nq_form.specs.Form.{Form, Forms, end, dotted, next}
use Rattle.nq_events.specs.Events.{Event, Hints, Measure, BootStrap, AddShell, Dcl, Defn, AddAxiom, ProveLemma, Toggle, Undo, Skipped as PassedOver}
use Rattle.nq_events.specs.Reading.{event_of}
use Rattle.nq_fragments.specs.Fragments.{IsInNoFragment}
use Rattle.nq_goals.specs.Hints.{first_goal}
use Rattle.nq_goals.specs.Spent.{IsFalse}
use Rattle.nq_comment.specs.Reports.{Answer, Report}
use Rattle.nq_answers.specs.Steps.{Answers, AnswersUnless, IsDefined, IsOutcome, IsTried, by_tautology, by_evaluation, by_instance, by_falsity, by_want, by_search, Runs, Step, after, refusal_of}
use Rattle.nq_answers.specs.Laws.{AgreeUntilProver, IsLeftToProver, RunsAreOne, StepsAreOne}

-- ---- the answer

-- the fragments in their order exclude one another, and so do they and a false first goal
tried_once : (limit bound : ℕ) (h : History) (form : Form) (hints : Hints) (t : Term) (answer other : Answer) → IsTried limit h form hints t answer → IsTried bound h form hints t other
    → (answer ≡ other) ⊎ (IsInNoFragment h t × (IsFalse h (first_goal h hints t) → ⊥))
tried_once limit bound h form hints t answer other (by_falsity a) (by_falsity b) = inl (a.answer_is ∙ sym b.answer_is)
tried_once limit bound h form hints t answer other (by_falsity a) (by_want b) = absurd (b.not_false a.falsity)
tried_once limit bound h form hints t answer other (by_falsity a) (by_search b) = absurd (b.not_false a.falsity)
tried_once limit bound h form hints t answer other (by_falsity a) (by_tautology b y) = absurd (a.no_fragment.no_tautology b)
tried_once limit bound h form hints t answer other (by_falsity a) (by_evaluation b) = absurd (a.no_fragment.no_value b.first.value)
tried_once limit bound h form hints t answer other (by_falsity a) (by_instance b y) = absurd (a.no_fragment.no_instance b.instance)
tried_once limit bound h form hints t answer other (by_want a) b = inr (a.no_fragment, a.not_false)
tried_once limit bound h form hints t answer other (by_search a) b = inr (a.no_fragment, a.not_false)
tried_once limit bound h form hints t answer other (by_tautology a x) (by_falsity b) = absurd (b.no_fragment.no_tautology a)
tried_once limit bound h form hints t answer other (by_tautology a x) (by_want b) = inr (b.no_fragment, b.not_false)
tried_once limit bound h form hints t answer other (by_tautology a x) (by_search b) = inr (b.no_fragment, b.not_false)
tried_once limit bound h form hints t answer other (by_tautology a x) (by_tautology b y) = inl (x ∙ sym y)
tried_once limit bound h form hints t answer other (by_tautology a x) (by_evaluation b) = absurd (b.first.no_tautology a)
tried_once limit bound h form hints t answer other (by_tautology a x) (by_instance b y) = absurd (b.no_tautology a)
tried_once limit bound h form hints t answer other (by_evaluation a) (by_falsity b) = absurd (b.no_fragment.no_value a.first.value)
tried_once limit bound h form hints t answer other (by_evaluation a) (by_want b) = inr (b.no_fragment, b.not_false)
tried_once limit bound h form hints t answer other (by_evaluation a) (by_search b) = inr (b.no_fragment, b.not_false)
tried_once limit bound h form hints t answer other (by_evaluation a) (by_tautology b y) = absurd (a.first.no_tautology b)
tried_once limit bound h form hints t answer other (by_evaluation a) (by_evaluation b) = inl (a.answer_is ∙ sym b.answer_is)
tried_once limit bound h form hints t answer other (by_evaluation a) (by_instance b y) = absurd (b.no_value a.first.value)
tried_once limit bound h form hints t answer other (by_instance a x) (by_falsity b) = absurd (b.no_fragment.no_instance a.instance)
tried_once limit bound h form hints t answer other (by_instance a x) (by_want b) = inr (b.no_fragment, b.not_false)
tried_once limit bound h form hints t answer other (by_instance a x) (by_search b) = inr (b.no_fragment, b.not_false)
tried_once limit bound h form hints t answer other (by_instance a x) (by_tautology b y) = absurd (a.no_tautology b)
tried_once limit bound h form hints t answer other (by_instance a x) (by_evaluation b) = absurd (a.no_value b.first.value)
tried_once limit bound h form hints t answer other (by_instance a x) (by_instance b y) = inl (x ∙ sym y)

defined_once : (h : History) (name : Name) (formals : List Name) (body : Term) (measures : List Measure) (answer other : Answer) (b : Bool) → mentions name body ≡ b
    → IsDefined b h name formals body measures answer → IsDefined b h name formals body measures other → (answer ≡ other) ⊎ (mentions name body ≡ true)
defined_once h name formals body measures answer other false plain x y = inl (x ∙ sym y)
defined_once h name formals body measures answer other true recursive x y = inr recursive

outcome_once : (limit bound : ℕ) (h : History) (form : Form) (e : Event) (answer other : Answer) → IsOutcome limit h form e answer → IsOutcome bound h form e other → (answer ≡ other) ⊎ IsLeftToProver h e
outcome_once limit bound h form BootStrap answer other a b = inl (a ∙ sym b)
outcome_once limit bound h form (AddShell shell) answer other a b = inl (a ∙ sym b)
outcome_once limit bound h form (Dcl name formals) answer other a b = inl (a ∙ sym b)
outcome_once limit bound h form (Defn name formals body measures) answer other a b = defined_once h name formals body measures answer other (mentions name body) refl a b
outcome_once limit bound h form (AddAxiom name classes t) answer other a b = inl (a ∙ sym b)
outcome_once limit bound h form (ProveLemma name classes t hints) answer other a b = tried_once limit bound h form hints t answer other a b
outcome_once limit bound h form (Toggle name old disabled) answer other a b = inl (a ∙ sym b)
outcome_once limit bound h form (Undo name) answer other a b = inl (a ∙ sym b)
outcome_once limit bound h form PassedOver answer other a b = inl (a ∙ sym b)

answer_unless : (limit bound : ℕ) (o : Option Answer) (h : History) (form : Form) (e : Event) (answer other : Answer) → AnswersUnless limit o h form e answer → AnswersUnless bound o h form e other
    → (answer ≡ other) ⊎ IsLeftToProver h e
answer_unless limit bound (Some refusal) h form e answer other a b = inl (a ∙ sym b)
answer_unless limit bound None h form e answer other a b = outcome_once limit bound h form e answer other a b

answer_once : (limit bound : ℕ) (h : History) (form : Form) (answer other : Answer) → Answers limit h form answer → Answers bound h form other → (answer ≡ other) ⊎ IsLeftToProver h (event_of h form)
answer_once limit bound h form answer other a b = answer_unless limit bound (refusal_of h form) h form (event_of h form) answer other a b

-- ---- the report, and the history after it

reports_same : (report other : Report) → report.word ≡ other.word → report.name ≡ other.name → report.answer ≡ other.answer → report ≡ other
reports_same report other word name answer =
    ap₂ (λ (w n : Option (List ℕ)). record { word = w; name = n; answer = report.answer }) word name
    ∙ ap (λ (a : Answer). record { word = other.word; name = other.name; answer = a }) answer

report_once : (limit bound : ℕ) (old : History) (form : Form) (report other : Report) (new later : History) → Step limit old form report new → Step bound old form other later
    → (report ≡ other) ⊎ IsLeftToProver old (event_of old form)
report_once limit bound old form report other new later a b = by_answer (answer_once limit bound old form report.answer other.answer a.answer b.answer)
  where
    by_answer : (report.answer ≡ other.answer) ⊎ IsLeftToProver old (event_of old form) → (report ≡ other) ⊎ IsLeftToProver old (event_of old form)
    by_answer (inl same) = inl (reports_same report other (a.word ∙ sym b.word) (a.name ∙ sym b.name) same)
    by_answer (inr left) = inr left

step_history : (limit bound : ℕ) (old : History) (form : Form) (report : Report) (new later : History) → Step limit old form report new → Step bound old form report later → new ≡ later
step_history limit bound old form report new later a b = a.history ∙ sym b.history

pub steps_once : StepsAreOne
steps_once = record { report = report_once; history = step_history }

-- ---- runs

runs_agree : (limit bound : ℕ) (old : History) (forms : Forms) (reports others : List Report) (new later : History) → Runs limit old forms reports new → Runs bound old forms others later
    → AgreeUntilProver old forms reports others
runs_agree limit bound old end [] [] new later a b = refl
runs_agree limit bound old end [] (q ∷ qs) new later a b = absurd b
runs_agree limit bound old end (r ∷ rs) others new later a b = absurd a
runs_agree limit bound old (dotted f) [] others new later a b = absurd a
runs_agree limit bound old (dotted f) (r ∷ rs) others new later a b = absurd a
runs_agree limit bound old (next f fs) [] others new later a b = absurd a
runs_agree limit bound old (next f fs) (r ∷ rs) [] new later a b = absurd b
runs_agree limit bound old (next f fs) (r ∷ rs) (q ∷ qs) new later a b =
    either (λ (same : r ≡ q). (
      same,
      runs_agree limit bound (after old f r.answer) fs rs qs new later a.1
          (subst (λ (z : Report). Runs bound (after old f z.answer) fs qs later) (sym same) b.1),
    ))
    (report_once limit bound old f r q _ _ a.0 b.0)
  where
    either : {X Y Z : Type 0} → (X → Y) → X ⊎ Z → Y ⊎ Z
    either f (inl x) = inl (f x)
    either f (inr z) = inr z

runs_history : (limit bound : ℕ) (old : History) (forms : Forms) (reports : List Report) (new later : History) → Runs limit old forms reports new → Runs bound old forms reports later → new ≡ later
runs_history limit bound old end [] new later a b = a ∙ sym b
runs_history limit bound old end (r ∷ rs) new later a b = absurd a
runs_history limit bound old (dotted f) [] new later a b = absurd a
runs_history limit bound old (dotted f) (r ∷ rs) new later a b = absurd a
runs_history limit bound old (next f fs) [] new later a b = absurd a
runs_history limit bound old (next f fs) (r ∷ rs) new later a b = runs_history limit bound (after old f r.answer) fs rs new later a.1 b.1

pub runs_once : RunsAreOne
runs_once = record { reports = runs_agree; history = runs_history }
