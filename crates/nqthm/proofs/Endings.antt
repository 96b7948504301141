-- What a run and a check leave, by their statuses, and which statuses the ending of a text allows.
use Rattle.std.proofs.Common.{sym, append-nil, inl, inr, ◌≡◌, ◌^◌, ◌≤◌, ◌<◌, ℕ, Bool, true, false, List, [], Option, subst, refl, arith, ap, ◌∙◌, if◌then◌else◌, ◌++◌, zero, suc}
use Rattle.std.specs.Prelude.{◌⊎◌, ◌==◌, IfSome, Some, None, Result, Ok, Err}
use Rattle.std.specs.Io.KnownBytes.{Appends}
use Rattle.std.proofs.KnownBytes.{Appends-nil}
use Rattle.std.proofs.lemmas.Bool.{eq-eqb, eqb-true}
use Rattle.nq_form.specs.Form.{Forms}
use Rattle.nq_form.specs.Grammar.{Ending, Reads, done, fault, too_long}
use Rattle.nq_form.proofs.OneReading.{one_reading}
use Rattle.nq_log.specs.Logs.{Right, Wrong, reading_by, step}
use Rattle.nq_log.specs.Logs as logs
use Rattle.nq_sexp.specs.declared.fault.ReadFault.TheVariants as read_fault
use Rattle.nq_comment.specs.Reports.{Report}
use Rattle.nq_comment.specs.Totals.{Totals, totals_of, unsuccessful}
use Rattle.nq_comment.specs.ReportViews.{ending_of}
use Rattle.nq_comment.specs.declared.report.SyntaxFault.{SyntaxFault}
use Rattle.nq_check.specs.Outcomes.{Answers, Checks, IsChecked, IsCutInClaims}
use Rattle.nq_check.specs.declared.verdict.Checked.{Checked}
use Rattle.nq_check.specs.declared.verdict.Checked.TheVariants as checked
use Rattle.nq_check.specs.declared.verdict.CheckFault.{CheckFault}
use Rattle.nq_check.specs.declared.verdict.CheckFault.TheVariants as check
use Rattle.nq_run.specs.Outcome.{Finished, Full, GrowsWithin, Halted, Held, Stopped, status_of}
use Rattle.nq_run.specs.RunFaults.{fault_status}
use Rattle.nq_run.specs.declared.runs.RunFault.{RunFault}
use Rattle.nq_run.specs.declared.runs.RunFault.TheVariants.{Read, Write, TooLong, Memory}
use Rattle.nq_run.proofs.LogLemmas.{logs_within_none}
use Rattle.nq_run.proofs.RunLemmas.{begun_interrupted}
use Rattle.nqthm.specs.Commands.{HasChecked, HasRun, check_status}
use Rattle.nqthm.specs.Statuses.{IsStatusOf, IsVerdictOf, SaysNothing}

-- ---- which statuses a text may have

-- the claim of a text, where the source told it
abbrev pub Agrees : Bool → Option (List ℕ) → ℕ → Type 0
Agrees logging left status = IfSome left (λ text. (forms : Forms) (ending : Ending) → Reads 500 (2 ^ 25) text forms ending → IsStatusOf logging ending status)

says_nothing : (logging : Bool) (ending : Ending) (status : ℕ) → SaysNothing logging status → IsStatusOf logging ending status
says_nothing logging done status h = inr h
says_nothing logging (fault code offset) status h = inr h
says_nothing logging too_long status h = inr h

nothing_agrees : (logging : Bool) (left : Option (List ℕ)) (status : ℕ) → SaysNothing logging status → Agrees logging left status
nothing_agrees logging None status h = tt
nothing_agrees logging (Some text) status h = λ forms ending reads. says_nothing logging ending status h

read_agrees : (logging : Bool) (left : Option (List ℕ)) (forms : Forms) (ending : Ending) (status : ℕ) → IfSome left (λ text. Reads 500 (2 ^ 25) text forms ending)
    → IsStatusOf logging ending status → Agrees logging left status
read_agrees logging None forms ending status reads is = tt
read_agrees logging (Some text) forms ending status reads is = λ others other more.
    subst (λ (e : Ending). IsStatusOf logging e status) (one_reading 500 (2 ^ 25) text forms others ending other reads more).1 is

-- ---- runs

-- a run that came to the end of its text, or to a fault of its spelling
abbrev pub Ended : ℕ → Bool → Option (List ℕ) → Option SyntaxFault → Totals → Held → Held → Type 0
Ended steps logging start f totals held now = (reports : List Report) × Finished steps logging start (ending_of f) reports held now × (totals ≡ totals_of reports)

whole_run : (steps : ℕ) (logging : Bool) (start left : Option (List ℕ)) (totals : Totals) (held now : Held) (status : ℕ) → Ended steps logging start None totals held now
    → (b : Bool) → (unsuccessful totals == 0) ≡ b → status ≡ (if b then 0 else 1) → HasRun steps logging start left held now status
whole_run steps logging start left totals held now status ended true none is =
    let none' : unsuccessful totals ≡ 0 = eqb-true (unsuccessful totals) 0 none in
    record {
      success = λ e. (ended.0, ended.1, ap unsuccessful (sym ended.2) ∙ none');
      refused = λ e. absurd (omega (arith, is, e));
      spelling = λ e. absurd (omega (arith, is, e));
      read = λ e. absurd (omega (arith, is, e));
      too_long = λ e. absurd (omega (arith, is, e));
      stopped = λ e. absurd (omega (arith, is, e));
      memory = λ e. absurd (omega (arith, is, e));
      ending = read_agrees logging start (ended.1).forms done status (ended.1).reads (inl (omega (arith, is)));
    }
whole_run steps logging start left totals held now status ended false some is =
    let some' : unsuccessful totals ≡ 0 → ⊥ = λ z. differ (sym (eq-eqb (unsuccessful totals) 0 z) ∙ some) in
    record {
      success = λ e. absurd (omega (arith, is, e));
      refused = λ e. (ended.0, ended.1, subst (λ (n : ℕ). 0 < n) (ap unsuccessful ended.2) (positive (unsuccessful totals) some'));
      spelling = λ e. absurd (omega (arith, is, e));
      read = λ e. absurd (omega (arith, is, e));
      too_long = λ e. absurd (omega (arith, is, e));
      stopped = λ e. absurd (omega (arith, is, e));
      memory = λ e. absurd (omega (arith, is, e));
      ending = read_agrees logging start (ended.1).forms done status (ended.1).reads (inl (omega (arith, is)));
    }
  where
    differ : true ≡ false → ⊥
    differ e = cc

    positive : (n : ℕ) → (n ≡ 0 → ⊥) → 0 < n
    positive zero differs = absurd (differs refl)
    positive (suc n) differs = omega (arith)

pub ended_run : (steps : ℕ) (logging : Bool) (start left : Option (List ℕ)) (f : Option SyntaxFault) (totals : Totals) (held now : Held) (status : ℕ) → status ≡ status_of f totals
    → Ended steps logging start f totals held now → HasRun steps logging start left held now status
ended_run steps logging start left None totals held now status is ended = whole_run steps logging start left totals held now status ended (unsuccessful totals == 0) refl is
ended_run steps logging start left (Some f) totals held now status is ended = record {
  success = λ e. absurd (omega (arith, is, e));
  refused = λ e. absurd (omega (arith, is, e));
  spelling = λ e. (ended.0, f.code, f.offset, ended.1);
  read = λ e. absurd (omega (arith, is, e));
  too_long = λ e. absurd (omega (arith, is, e));
  stopped = λ e. absurd (omega (arith, is, e));
  memory = λ e. absurd (omega (arith, is, e));
  ending = read_agrees logging start (ended.1).forms (fault f.code f.offset) status (ended.1).reads (inl is);
}

-- a run that stopped with no more to say than its status
stopped_run : (steps : ℕ) (logging : Bool) (start left : Option (List ℕ)) (held now : Held) (status : ℕ) → 5 ≤ status → status ≤ 6 → Stopped steps logging start held now
    → HasRun steps logging start left held now status
stopped_run steps logging start left held now status least most stopped = record {
  success = λ e. absurd (omega (arith, least, e));
  refused = λ e. absurd (omega (arith, least, e));
  spelling = λ e. absurd (omega (arith, least, e));
  read = λ e. absurd (omega (arith, least, e));
  too_long = λ e. absurd (omega (arith, most, e));
  stopped = λ e. stopped;
  memory = λ e. stopped;
  ending = nothing_agrees logging start status (inl (omega (arith, least), most));
}

unread_run : (steps : ℕ) (logging : Bool) (start left : Option (List ℕ)) (held now : Held) (status : ℕ) → status ≡ 4 → Halted steps logging start left read_fault.Read held now
    → HasRun steps logging start left held now status
unread_run steps logging start left held now status is halted = record {
  success = λ e. absurd (omega (arith, is, e));
  refused = λ e. absurd (omega (arith, is, e));
  spelling = λ e. absurd (omega (arith, is, e));
  read = λ e. halted;
  too_long = λ e. absurd (omega (arith, is, e));
  stopped = λ e. absurd (omega (arith, is, e));
  memory = λ e. absurd (omega (arith, is, e));
  ending = nothing_agrees logging start status (inl (omega (arith, is), omega (arith, is)));
}

-- the file is too long, or the log is full
abbrev pub Overrun : ℕ → Bool → Option (List ℕ) → Option (List ℕ) → Held → Held → Type 0
Overrun steps logging start left held now = Halted steps logging start left read_fault.FileTooLong held now ⊎ ((logging ≡ true) × Full steps start held now)

overrun_agrees : (steps : ℕ) (logging : Bool) (start left : Option (List ℕ)) (held now : Held) (status : ℕ) → status ≡ 7 → Overrun steps logging start left held now → Agrees logging start status
overrun_agrees steps logging start left held now status is (inl halted) = read_agrees logging start halted.forms too_long status halted.reads (inl is)
overrun_agrees steps logging start left held now status is (inr full) = nothing_agrees logging start status (inr (full.0, is))

overrun_run : (steps : ℕ) (logging : Bool) (start left : Option (List ℕ)) (held now : Held) (status : ℕ) → status ≡ 7 → Overrun steps logging start left held now
    → HasRun steps logging start left held now status
overrun_run steps logging start left held now status is over = record {
  success = λ e. absurd (omega (arith, is, e));
  refused = λ e. absurd (omega (arith, is, e));
  spelling = λ e. absurd (omega (arith, is, e));
  read = λ e. absurd (omega (arith, is, e));
  too_long = λ e. over;
  stopped = λ e. absurd (omega (arith, is, e));
  memory = λ e. absurd (omega (arith, is, e));
  ending = overrun_agrees steps logging start left held now status is over;
}

pub fault_run : (steps : ℕ) (logging : Bool) (start left : Option (List ℕ)) (held now : Held) (f : RunFault) (status : ℕ) → status ≡ fault_status f
    → (f ≡ Read → Halted steps logging start left read_fault.Read held now) → (f ≡ TooLong → Overrun steps logging start left held now) → Stopped steps logging start held now
    → HasRun steps logging start left held now status
fault_run steps logging start left held now Read status is read over stopped = unread_run steps logging start left held now status is (read refl)
fault_run steps logging start left held now Write status is read over stopped = stopped_run steps logging start left held now status (omega (arith, is)) (omega (arith, is)) stopped
fault_run steps logging start left held now Memory status is read over stopped = stopped_run steps logging start left held now status (omega (arith, is)) (omega (arith, is)) stopped
fault_run steps logging start left held now TooLong status is read over stopped = overrun_run steps logging start left held now status is (over refl)

-- before anything was read or written
pub untouched_run : (steps : ℕ) (logging : Bool) (start left : Option (List ℕ)) (held : Held) → HasRun steps logging start left held held 6
untouched_run steps logging start left held =
    stopped_run steps logging start left held held 6 (omega (arith)) (omega (arith))
    (inl (begun_interrupted steps logging start held held refl (logs_within_none logging held.log held.log _ refl)))

-- ---- checks

verdict_nothing : (ending : logs.Ending) (status : ℕ) → 4 ≤ status → status ≤ 7 → IsVerdictOf ending status
verdict_nothing Right status least most = inr (least, most)
verdict_nothing (Wrong line reason) status least most = inr (least, most)

abbrev pub Verdict : Option (List ℕ) → ℕ → Type 0
Verdict start status = IfSome start (λ text. IsVerdictOf (reading_by step text).ending status)

nothing_verdict : (start : Option (List ℕ)) (status : ℕ) → 4 ≤ status → status ≤ 7 → Verdict start status
nothing_verdict None status least most = tt
nothing_verdict (Some text) status least most = verdict_nothing (reading_by step text).ending status least most

answer_verdict : (claims : ℕ) (ending : logs.Ending) (answer : Checked) (status : ℕ) → status ≡ check_status (Ok answer) → Answers claims ending answer → IsVerdictOf ending status
answer_verdict claims Right (checked.Accepted k) status is answers = inl is
answer_verdict claims Right (checked.Refused line why) status is answers = absurd answers
answer_verdict claims (Wrong line reason) (checked.Accepted k) status is answers = absurd answers
answer_verdict claims (Wrong line reason) (checked.Refused at why) status is answers = inl is

checked_verdict : (start held now : Option (List ℕ)) (answer : Checked) (status : ℕ) → status ≡ check_status (Ok answer) → IsChecked step start held now answer → Verdict start status
checked_verdict None held now answer status is h = tt
checked_verdict (Some text) held now answer status is h =
    subst (λ (r : logs.Reading). IsVerdictOf r.ending status) (sym h.read) (answer_verdict _ h.reading.ending answer status is h.answers)

verdict_of : (start held now : Option (List ℕ)) (r : Result Checked CheckFault) (status : ℕ) → status ≡ check_status r → Checks step start held now r → Verdict start status
verdict_of start held now (Ok answer) status is checks = checked_verdict start held now answer status is checks
verdict_of start held now (Err check.Read) status is checks = nothing_verdict start status (omega (arith, is)) (omega (arith, is))
verdict_of start held now (Err check.Write) status is checks = nothing_verdict start status (omega (arith, is)) (omega (arith, is))
verdict_of start held now (Err check.Memory) status is checks = nothing_verdict start status (omega (arith, is)) (omega (arith, is))
verdict_of start held now (Err check.TooLong) status is checks = nothing_verdict start status (omega (arith, is)) (omega (arith, is))

pub has_checked : (start held now : Option (List ℕ)) (r : Result Checked CheckFault) (status : ℕ) → status ≡ check_status r → Checks step start held now r
    → HasChecked start held now status
has_checked start held now r status is checks = record {
  outcome = r;
  status_is = is;
  checks = checks;
  verdict = verdict_of start held now r status is checks;
}

-- before anything was read or written
pub untouched_checked : (start held : Option (List ℕ)) → HasChecked start held held 6
untouched_checked start held = has_checked start held held (Err check.Memory) 6 refl (inl cut)
  where
    nothing_read : (start : Option (List ℕ))
        → IfSome start (λ text. (taken : List ℕ) × (more : List ℕ) × (text ≡ taken ++ more) × (reading_by step taken ≡ reading_by step []))
    nothing_read None = tt
    nothing_read (Some text) = ([], text, refl, refl)

    cut : IsCutInClaims step start held held
    cut = record { reading = reading_by step []; read = nothing_read start; text = (0, Appends-nil held); sound = tt }

-- ---- the usage line

pub within_whole : (a b : Option (List ℕ)) (text : List ℕ) → Appends a b text → GrowsWithin a b text
within_whole a b text appends = record { front = text; rest = []; whole = sym (append-nil text); appends = appends }

pub within_none : (a : Option (List ℕ)) (text : List ℕ) → GrowsWithin a a text
within_none a text = record { front = []; rest = text; whole = refl; appends = Appends-nil a }
