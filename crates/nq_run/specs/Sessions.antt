-- How a session takes a form: the try of a lemma, and what the session is afterwards.
use Rattle.std.specs.Prelude.{◌≡◌, ℕ, Bool, true, List, [], ◌∷◌, ◌++◌, All, Option, None, Some, if◌then◌else◌}
use Rattle.nq_logic.specs.Terms.{Name, Term}
use Rattle.nq_logic.specs.Formulas.{holds}
use Rattle.nq_logic.specs.Derivations.{Derivable}
use Rattle.nq_logic.specs.Histories.{History, Lemma, RuleClass}
use Rattle.nq_bank.specs.Content.{Content, Grows, term_at, text_at}
use Rattle.nq_bank.specs.Marks.{IsMarkOf, released}
use Rattle.nq_bank.specs.declared.node.Mark.{Mark}
use Rattle.nq_bank.specs.declared.node.Sym.{Sym}
use Rattle.nq_bank.specs.declared.node.TermId.{TermId}
use Rattle.nq_proof.specs.Rules.{has_only}
use Rattle.nq_history.specs.declared.entry.Entry.{Entry}
use Rattle.nq_history.specs.Marking.{IsWithin}
use Rattle.nq_history.specs.Events.{event_at, events_at}
use Rattle.nq_kernel.specs.declared.verdict.Quick.{Quick}
use Rattle.nq_kernel.specs.declared.verdict.Proof.TheVariants.{First, Waterfall}
use Rattle.nq_kernel.specs.declared.verdict.Verdict.{Verdict}
use Rattle.nq_kernel.specs.declared.verdict.Verdict.TheVariants.{Proved, Failed, OutOfSteps, NotYet}
use Rattle.nq_kernel.specs.declared.work.Work.{Work}
use Rattle.nq_kernel.specs.Growing.{WorkGrows}
use Rattle.nq_kernel.specs.Meaning.{clause_at}
use Rattle.nq_kernel.specs.Proving.{IsFirstFragment}
use Rattle.nq_fragments.specs.Fragments.{IsInNoFragment}
use Rattle.nq_form.specs.Form.{Form}
use Rattle.nq_log.specs.States.{Claim, Adds}
use Rattle.nq_events.specs.Events.{Event, ProveLemma, Hints}
use Rattle.nq_comment.specs.Reports.{Answer}
use Rattle.nq_comment.specs.ReportViews.{answer_of}
use Rattle.nq_run.specs.declared.session.Session.{Session}
use Rattle.nq_run.specs.declared.session.Taken.{Taken}
use Rattle.nq_run.specs.declared.proving.Found.{Found}
use Rattle.nq_run.specs.declared.proving.Found.TheVariants as finding
use Rattle.nq_run.specs.declared.proving.Found.TheVariants.{Fragment, Moves}
use Rattle.nq_run.specs.declared.proving.Shown.{Shown}
use Rattle.nq_run.specs.declared.proving.Tried.{Tried}
use Rattle.nq_answers.specs.Claims.{claims_at, claims_of}
use Rattle.nq_run.specs.Banks.{KeepsBank, LeavesBy}
use Rattle.nq_run.specs.HistoryView.{history_of, SessionStands}
use Rattle.nq_run.specs.Outcome.{AreBlocks}
use Rattle.nq_answers.specs.Spending.{IsUsedUp}
use Rattle.nq_answers.specs.Steps.{Answers, AnswersUnless, IsTried, after, after_event, is_taken, untaken}

-- what a verdict says of a lemma
abbrev pub found_of : Verdict → Found
found_of (Proved line (First way)) = Fragment line way
found_of (Proved line (Waterfall path)) = Moves line
found_of (Failed path cause) = finding.Unknown
found_of OutOfSteps = finding.OutOfSteps
found_of (NotYet path) = finding.Unknown

-- the line that shows a lemma
abbrev pub line_in : Found → Option ℕ
line_in (Fragment line way) = Some line
line_in (Moves line) = Some line
line_in finding.OutOfSteps = None
line_in finding.Unknown = None

-- The line has only the term, and the fragment is the first that holds it, or no fragment holds it. Steps ran out only where all
-- are used up.
abbrev pub IsShownBy : Work → History → Term → Found → Type 0
IsShownBy work h t (Fragment line way) = (has_only (clause_at work.bank work.log line) (t ∷ []) ≡ true) × IsFirstFragment h t way
IsShownBy work h t (Moves line) = (has_only (clause_at work.bank work.log line) (t ∷ []) ≡ true) × IsInNoFragment h t
IsShownBy work h t finding.OutOfSteps = IsInNoFragment h t × IsUsedUp work.counter.limit h
IsShownBy work h t finding.Unknown = IsInNoFragment h t

-- what is found of a lemma is so: it is derivable where it is proved, and all steps are used up where they ran out
abbrev pub IsFoundBy : ℕ → History → Term → Found → Type 0
IsFoundBy limit h t (Fragment line way) = IsFirstFragment h t way × Derivable h (holds t)
IsFoundBy limit h t (Moves line) = IsInNoFragment h t × Derivable h (holds t)
IsFoundBy limit h t finding.OutOfSteps = IsInNoFragment h t × IsUsedUp limit h
IsFoundBy limit h t finding.Unknown = IsInNoFragment h t

-- what is found of a lemma, where line n shows it
abbrev pub with_line : Found → ℕ → Found
with_line (Fragment line way) n = Fragment n way
with_line (Moves line) n = Moves n
with_line finding.OutOfSteps n = finding.OutOfSteps
with_line finding.Unknown n = finding.Unknown

-- Work that stands in the place of work: it too grew from work with no line, and shows of a lemma what the other shows.
pub record StandsFor (history : List Entry) (work : Work) (found : Found) (new : Shown) : Type 0 where
  pub grows : (begun : Work) → begun.log ≡ [] → begun.known.items ≡ [] → WorkGrows history begun work → WorkGrows history begun new.work
  pub shown : (h : History) (t : Term) → IsShownBy work h t found → IsShownBy new.work h t new.found

-- the fragment that proved a lemma
abbrev pub way_in : Found → Option Quick
way_in (Fragment line way) = Some way
way_in (Moves line) = None
way_in finding.OutOfSteps = None
way_in finding.Unknown = None

-- what a lemma claims that a line shows
abbrev pub shown_claims : Name → Term → Option ℕ → List Claim
shown_claims name t None = []
shown_claims name t (Some line) = Adds (Lemma name [] t) ∷ []

-- what a lemma claims of which this is found
abbrev pub found_claims : Name → Term → Found → List Claim
found_claims name t found = shown_claims name t (line_in found)

-- The try of a lemma: what is found of it, the block of what it claims, and the bank as it was before.
pub record Tries (limit : ℕ) (bank : Content) (history : List Entry) (name : Sym) (goal : TermId) (logging : Bool) (tried : Tried) : Type 0 where
  pub same : tried.bank ≡ bank
  pub found : IsFoundBy limit (events_at bank history) (term_at bank goal) tried.found
  pub written : logging ≡ true → AreBlocks (events_at bank history) (found_claims (text_at bank name) (term_at bank goal) tried.found) tried.block

-- the mark was taken of an earlier bank, which held these entries and has grown since
pub record IsMarkBefore (bank : Content) (history : List Entry) (mark : Mark) : Type 0 where
  pub earlier : Content
  pub mark_of : IsMarkOf earlier mark
  pub grew : Grows earlier bank
  pub held : All (IsWithin earlier) history

-- the session as it was before the form, with this answer, and no block: the bank is released to the mark
pub record IsUntaken (old : Session) (mark : Mark) (answer : Answer) (r : Taken) : Type 0 where
  pub bank : r.session.bank ≡ released old.bank mark
  pub entries : r.session.history ≡ old.history
  pub same : history_of r.session ≡ history_of old
  pub stands : SessionStands r.session
  pub answer_is : answer_of r.answer ≡ answer
  pub block_is : r.block ≡ []

-- one event more stands at the end, and the bank is the same
pub record IsAdded (old : Session) (entry : Entry) (new : Session) : Type 0 where
  pub bank : new.bank ≡ old.bank
  pub after : history_of new ≡ history_of old ++ event_at old.bank entry ∷ []
  pub stands : SessionStands new

-- what a form is answered, the session after it, what is kept of its bank, and the block of what the form claims
pub record Takes (limit : ℕ) (old : Session) (form : Form) (logging : Bool) (r : Taken) : Type 0 where
  pub answered : Answers limit (history_of old) form (answer_of r.answer)
  pub after_is : history_of r.session ≡ after (history_of old) form (answer_of r.answer)
  pub stands : SessionStands r.session
  pub bank : KeepsBank (is_taken (answer_of r.answer)) old form r.session
  pub written : logging ≡ true → AreBlocks (history_of old) (claims_at (history_of old) form (answer_of r.answer)) r.block

-- The same for the event of a form that isn't refused. The form was read into the bank, and the mark was taken before.
pub record TakesEvent (limit : ℕ) (old : Session) (mark : Mark) (form : Form) (event : Event) (logging : Bool) (r : Taken) : Type 0 where
  pub answered : AnswersUnless limit (untaken (history_of old) event) (history_of old) form event (answer_of r.answer)
  pub after_is : history_of r.session ≡ after_event (history_of old) event (answer_of r.answer)
  pub stands : SessionStands r.session
  pub bank : LeavesBy (is_taken (answer_of r.answer)) event mark old r.session
  pub written : logging ≡ true → AreBlocks (history_of old) (claims_of event (answer_of r.answer)) r.block

-- the history after a lemma, and its claim, where it was proved
abbrev pub after_lemma : History → Name → List RuleClass → Term → Answer → History
after_lemma old name classes t answer = if is_taken answer then old ++ Lemma name classes t ∷ [] else old

abbrev pub lemma_claims : Name → Term → Answer → List Claim
lemma_claims name t answer = if is_taken answer then Adds (Lemma name [] t) ∷ [] else []

-- the same for a lemma that nothing keeps from being tried
pub record TriesLemma (limit : ℕ) (old : Session) (mark : Mark) (form : Form) (name : Name) (classes : List RuleClass) (t : Term) (hints : Hints) (logging : Bool) (r : Taken) : Type 0 where
  pub tried : IsTried limit (history_of old) form hints t (answer_of r.answer)
  pub after_is : history_of r.session ≡ after_lemma (history_of old) name classes t (answer_of r.answer)
  pub stands : SessionStands r.session
  pub bank : LeavesBy (is_taken (answer_of r.answer)) (ProveLemma name classes t hints) mark old r.session
  pub written : logging ≡ true → AreBlocks (history_of old) (lemma_claims name t (answer_of r.answer)) r.block
