-- One form more in a run.
use Rattle.std.proofs.Common.{◌≡◌, ◌+◌, ◌^◌, ◌<◌, ℕ, suc, Bool, true, false, List, [], ◌∷◌, ◌++◌, length, take, drop, Option, ap, sym, subst, ◌∙◌, refl, inl, inr, arith, append_assoc, append-nil, length-append}
use Rattle.std.specs.Prelude.{◌⊎◌, Result, Ok, Err, OnErr, OnOk, IfOk, Some, None, IfSome}
use Rattle.std.specs.Io.KnownBytes.{Appends}
use Rattle.std.proofs.KnownBytes.{Appends-kept, Appends-nil, Appends-trans}
use Rattle.std.proofs.lemmas.List.{take-append-drop}
use Rattle.nq_io.specs.Told.{AppendsPart}
use Rattle.nq_logic.specs.Histories.{History}
use Rattle.nq_form.specs.Form.{Form, Forms, end, dotted, next, push}
use Rattle.nq_form.specs.Grammar.{none}
use Rattle.nq_sexp.specs.Held.{Held}
use Rattle.nq_sexp.specs.Whole.{SoFar}
use Rattle.nq_comment.specs.Reports.{Report, kind_of}
use Rattle.nq_comment.specs.Text.{lines_from, lines_of_report, report_lines}
use Rattle.nq_comment.specs.Totals.{Totals, totals_of, with_kind, with_report}
use Rattle.nq_comment.specs.declared.kind.Kind.{Kind}
use Rattle.nq_comment.specs.declared.kind.Kind.TheVariants as kind
use Rattle.nq_logic.specs.Classes.{without_classes}
use Rattle.nq_block.specs.OpenLogs.{IsOpenLog, header_text}
use Rattle.nq_block.proofs.OpenLaws.{log_begins_law}
use Rattle.nq_answers.specs.Claims.{claims_at}
use Rattle.nq_run.proofs.LogLemmas.{log_more, one_block, logs_after, logs_same, logs_within, logs_within_after, within_after, within_whole}
use Rattle.nq_run.specs.HistoryView.{history_of}
use Rattle.nq_run.specs.declared.session.Session.{Session}
use Rattle.nq_run.specs.Outcome as outcome
use Rattle.nq_run.specs.Outcome.{Answered, Begun, BreaksLast, BreaksReport, CutOff, FilledLog, Finished, FinishedLog, Full, GrowsWithin, Halted, held_in, Interrupted, IsFinishedLog, IsLogOf, LacksLast, last_text, Logs, LogsWithin, PartialLog, Ran, Stopped, Turned, TurnStopped, UnendedLog, WriteFails, WroteWithin}
use Rattle.nq_answers.specs.Steps.{Runs, Step, after}
use Rattle.nq_answers.proofs.Deriving.{reported}

-- ---- a run goes on by one form

pub Runs-more : (limit : ℕ) (old : History) (earlier : Forms) (reports : List Report) (mid : History) (form : Form) (report : Report) (new : History)
    → Runs limit old earlier reports mid → Step limit mid form report new → Runs limit old (push earlier form) (reports ++ report ∷ []) new
Runs-more limit old end [] mid form report new here step =
    let from_old : Step limit old form report new = subst (λ (h : History). Step limit h form report new) here step in
    (subst (λ (h : History). Step limit old form report h) from_old.history from_old, from_old.history)
Runs-more limit old end (r ∷ rs) mid form report new here step = absurd here
Runs-more limit old (dotted f) [] mid form report new here step = absurd here
Runs-more limit old (dotted f) (r ∷ rs) mid form report new here step = absurd here
Runs-more limit old (next f fs) [] mid form report new here step = absurd here
Runs-more limit old (next f fs) (r ∷ rs) mid form report new here step =
    (here.0, Runs-more limit (after old f r.answer) fs rs mid form report new here.1 step)

lines_from-more : (n : ℕ) (reports : List Report) (report : Report)
    → lines_from n (reports ++ report ∷ []) ≡ lines_from n reports ++ lines_of_report (n + length reports) report
lines_from-more n [] report = append-nil (lines_of_report n report) ∙ ap (λ k. lines_of_report k report) (let e : n ≡ n + 0 = omega arith in e)
lines_from-more n (r ∷ rs) report =
    let number : n + 1 + length rs ≡ n + suc (length rs) = omega arith in
    ap (λ (text : List ℕ). lines_of_report n r ++ text) (lines_from-more (n + 1) rs report)
    ∙ sym (append_assoc (lines_of_report n r) (lines_from (n + 1) rs) (lines_of_report (n + 1 + length rs) report))
    ∙ ap (λ k. (lines_of_report n r ++ lines_from (n + 1) rs) ++ lines_of_report k report) number

-- the order of two counts doesn't matter
with_kind-swap : (a b : Kind) (t : Totals) → with_kind a (with_kind b t) ≡ with_kind b (with_kind a t)
with_kind-swap kind.Accepted kind.Accepted t = refl
with_kind-swap kind.Accepted kind.Refused t = refl
with_kind-swap kind.Accepted kind.Failed t = refl
with_kind-swap kind.Accepted kind.Skipped t = refl
with_kind-swap kind.Refused kind.Accepted t = refl
with_kind-swap kind.Refused kind.Refused t = refl
with_kind-swap kind.Refused kind.Failed t = refl
with_kind-swap kind.Refused kind.Skipped t = refl
with_kind-swap kind.Failed kind.Accepted t = refl
with_kind-swap kind.Failed kind.Refused t = refl
with_kind-swap kind.Failed kind.Failed t = refl
with_kind-swap kind.Failed kind.Skipped t = refl
with_kind-swap kind.Skipped kind.Accepted t = refl
with_kind-swap kind.Skipped kind.Refused t = refl
with_kind-swap kind.Skipped kind.Failed t = refl
with_kind-swap kind.Skipped kind.Skipped t = refl

totals_of-more : (reports : List Report) (report : Report) → totals_of (reports ++ report ∷ []) ≡ with_report report (totals_of reports)
totals_of-more [] report = refl
totals_of-more (r ∷ rs) report = ap (with_report r) (totals_of-more rs report) ∙ with_kind-swap (kind_of r.answer) (kind_of report.answer) (totals_of rs)

forms_with : (k : Kind) (t : Totals) → (with_kind k t).forms ≡ t.forms + 1
forms_with kind.Accepted t = refl
forms_with kind.Refused t = refl
forms_with kind.Failed t = refl
forms_with kind.Skipped t = refl

pub forms_of : (reports : List Report) → (totals_of reports).forms ≡ length reports
forms_of [] = refl
forms_of (r ∷ rs) =
    let rest : (totals_of rs).forms ≡ length rs = forms_of rs in
    let first : (with_report r (totals_of rs)).forms ≡ (totals_of rs).forms + 1 = forms_with (kind_of r.answer) (totals_of rs) in
    let count : (totals_of rs).forms + 1 ≡ suc (length rs) = omega (arith, rest) in
    first ∙ count

pub forms_after : (report : Report) (t u : Totals) → u ≡ with_report report t → u.forms ≡ t.forms + 1
forms_after report t u is = ap (λ (v : Totals). v.forms) is ∙ forms_with (kind_of report.answer) t

-- ---- what a sink gains

pub within_part : (a b : Option (List ℕ)) (text : List ℕ) → AppendsPart a b text → GrowsWithin a b text
within_part a b text part = record {
  front = take part.0 text;
  rest = drop part.0 text;
  whole = sym (take-append-drop part.0 text);
  appends = part.1;
}

-- the text that was written, as it is defined
pub appends_as : (a b : Option (List ℕ)) (slice text : List ℕ) {items : List ℕ} → items ≡ text → slice ≡ items → Appends a b slice → Appends a b text
appends_as a b slice text is same appends = subst (λ (t : List ℕ). Appends a b t) (same ∙ is) appends

pub within_as : (a b : Option (List ℕ)) (slice text : List ℕ) {items : List ℕ} → items ≡ text → slice ≡ items → GrowsWithin a b slice → GrowsWithin a b text
within_as a b slice text is same within = subst (λ (t : List ℕ). GrowsWithin a b t) (same ∙ is) within

pub logs_as : (logging : Bool) (a b : Option (List ℕ)) (slice text : List ℕ) → slice ≡ text → Logs logging a b slice → Logs logging a b text
logs_as logging a b slice text same logs = subst (λ (t : List ℕ). Logs logging a b t) same logs

pub log_within_as : (logging : Bool) (a b : Option (List ℕ)) (slice text : List ℕ) → slice ≡ text → LogsWithin logging a b slice → LogsWithin logging a b text
log_within_as logging a b slice text same logs = subst (λ (t : List ℕ). LogsWithin logging a b t) same logs

-- ---- the loop over the forms

pub Ran-start : (limit : ℕ) (logging : Bool) (a b : outcome.Held) (t : Totals) (h : History) (count : ℕ) → t ≡ totals_of [] → h ≡ [] → b.comment ≡ a.comment → Logs logging a.log b.log header_text
    → (logging ≡ true → count ≡ length header_text) → Ran limit logging end h t count a b
Ran-start limit logging a b t h count zero empty kept logs counted = record {
  reports = [];
  runs = empty;
  counted = zero;
  text = subst (λ (z : Option (List ℕ)). Appends a.comment z []) (sym kept) (Appends-nil a.comment);
  log = header_text;
  logs = logs;
  log_is = λ logs. subst (λ (k : History). IsOpenLog header_text [] (without_classes k)) (sym empty) log_begins_law;
  log_count = counted;
}

lines_of-turn : (reports : List Report) (report : Report) (forms : ℕ) → forms ≡ length reports
    → report_lines (reports ++ report ∷ []) ≡ report_lines reports ++ lines_of_report (forms + 1) report
lines_of-turn reports report forms is =
    let number : 1 + length reports ≡ forms + 1 = omega arith in
    lines_from-more 1 reports report ∙ ap (λ k. report_lines reports ++ lines_of_report k report) number

forms_counted : (reports : List Report) (t : Totals) → t ≡ totals_of reports → t.forms ≡ length reports
forms_counted reports t counted = ap (λ (s : Totals). s.forms) counted ∙ forms_of reports

log_after : (limit : ℕ) (logging : Bool) (earlier : Forms) (reports : List Report) (old new : History) (form : Form) (report : Report) (log block : List ℕ) → Runs limit [] earlier reports old
    → (logging ≡ true → IsLogOf earlier reports old log) → Answered limit form old new report logging block → logging ≡ true → IsLogOf (push earlier form) (reports ++ report ∷ []) new (log ++ block)
log_after limit true earlier reports old new form report log block runs so_far answered is = log_more limit earlier reports old new form report log block runs (so_far refl) answered
log_after limit false earlier reports old new form report log block runs so_far answered is = cc

pub Ran-more : (limit : ℕ) (logging : Bool) (earlier : Forms) (form : Form) (old new : Session) (t u : Totals) (count later : ℕ) (a b c : outcome.Held)
    → Ran limit logging earlier (history_of old) t count a b → Turned limit logging form old new t u count later b c → Ran limit logging (push earlier form) (history_of new) u later a c
Ran-more limit logging earlier form old new t u count later a b c ran turned = record {
  reports = ran.reports ++ turned.report ∷ [];
  runs = Runs-more limit [] earlier ran.reports (history_of old) form turned.report (history_of new) ran.runs turned.answered.step;
  counted = turned.totals ∙ ap (with_report turned.report) ran.counted ∙ sym (totals_of-more ran.reports turned.report);
  text = subst (Appends a.comment c.comment) (sym (lines_of-turn ran.reports turned.report t.forms (forms_counted ran.reports t ran.counted)))
      (Appends-trans a.comment b.comment c.comment _ _ ran.text turned.text);
  log = ran.log ++ turned.block;
  logs = logs_after logging a.log b.log c.log ran.log turned.block ran.logs turned.log;
  log_is = log_after limit logging earlier ran.reports (history_of old) (history_of new) form turned.report ran.log turned.block ran.runs ran.log_is turned.answered;
  log_count = λ logs. turned.log_count logs ∙ ap (λ n. n + length turned.block) (ran.log_count logs) ∙ sym (length-append ran.log turned.block);
}

pub begun_of : (start : Option (List ℕ)) (held : Held) (left : Option (List ℕ)) (forms : Forms) → SoFar start held left forms → IfSome start (λ text. Begun text forms)
begun_of None held left forms s = tt
begun_of (Some all) held left forms s =
    record { front = s.text; rest = s.rest; whole = s.whole; spelled = s.spelled; seam = elim s.seam [ inl k ↦ inl k | inr k ↦ inr k.0 ] }

pub partial_log : (logging : Bool) (forms : Forms) (reports : List Report) (history : History) (a b : Option (List ℕ)) (log : List ℕ)
    → LogsWithin logging a b log → (logging ≡ true → IsLogOf forms reports history log) → PartialLog logging forms reports a b
partial_log logging forms reports history a b log logs is = record { log = log; history = without_classes history; logs = logs; log_is = is }

pub unended : (limit : ℕ) (logging : Bool) (forms : Forms) (history : History) (t : Totals) (count : ℕ) (a b : outcome.Held) (now : Option (List ℕ)) (ran : Ran limit logging forms history t count a b) → now ≡ b.log
    → UnendedLog logging forms ran.reports a.log now
unended limit logging forms history t count a b now ran same =
    record { log = ran.log; history = without_classes history; logs = logs_same logging a.log b.log now ran.log ran.logs same; log_is = ran.log_is }

-- the last write of a form failed
module _ (limit : ℕ) (logging : Bool) (earlier : Forms) (form : Form) (old : History) (t : Totals) (count : ℕ) (a b c : outcome.Held) (ran : Ran limit logging earlier old t count a b)
    (wrote : WroteWithin limit logging (t.forms + 1) form old b c) where
  both_lines : report_lines (ran.reports ++ wrote.report ∷ []) ≡ report_lines ran.reports ++ lines_of_report (t.forms + 1) wrote.report
  both_lines = lines_of-turn ran.reports wrote.report t.forms (forms_counted ran.reports t ran.counted)

  cut_turn : WriteFails logging (lines_of_report (t.forms + 1) wrote.report) wrote.block b c → BreaksReport logging (push earlier form) (ran.reports ++ wrote.report ∷ []) a c
      ⊎ (Appends a.comment c.comment (report_lines (ran.reports ++ wrote.report ∷ [])) × PartialLog logging (push earlier form) (ran.reports ++ wrote.report ∷ []) a.log c.log)
  cut_turn (inl fails) = inl (record {
    earlier = earlier;
    form = form;
    forms_are = refl;
    before = ran.reports;
    report = wrote.report;
    reports_are = refl;
    text = subst (GrowsWithin a.comment c.comment) (sym both_lines) (within_after a.comment b.comment c.comment _ _ ran.text fails.0);
    log = unended limit logging earlier old t count a b c.log ran fails.1;
  })
  cut_turn (inr fails) =
      let new = after old form wrote.report.answer in
      inr (
        subst (Appends a.comment c.comment) (sym both_lines) (Appends-trans a.comment b.comment c.comment _ _ ran.text fails.1),
        partial_log logging (push earlier form) (ran.reports ++ wrote.report ∷ []) new a.log c.log (ran.log ++ wrote.block)
            (logs_within_after logging a.log b.log c.log ran.log wrote.block ran.logs (subst (λ (z : Bool). LogsWithin z b.log c.log wrote.block) (sym fails.0) fails.2))
            (log_after limit logging earlier ran.reports old new form wrote.report ran.log wrote.block ran.runs ran.log_is wrote.answered),
      )

pub Ran-stopped : (limit : ℕ) (logging : Bool) (left : Option (List ℕ)) (earlier : Forms) (form : Form) (old : History) (t : Totals) (count : ℕ) (a b c : outcome.Held)
    → Ran limit logging earlier old t count a b → IfSome left (λ text. Begun text earlier) → IfSome left (λ text. Begun text (push earlier form)) → TurnStopped limit logging (t.forms + 1) form old b c
    → Interrupted limit logging left a c
Ran-stopped limit logging left earlier form old t count a b c ran before later (inl kept) = record {
  forms = earlier;
  begins = before;
  reports = ran.reports;
  reported = reported limit earlier ran.reports old ran.runs;
  cut = inr (
    Appends-kept a.comment b.comment c.comment _ ran.text kept.0,
    partial_log logging earlier ran.reports old a.log c.log ran.log (logs_within logging a.log c.log ran.log (logs_same logging a.log b.log c.log ran.log ran.logs kept.1)) ran.log_is,
  );
}
Ran-stopped limit logging left earlier form old t count a b c ran before later (inr wrote) =
    let new = after old form wrote.report.answer in
    let runs = Runs-more limit [] earlier ran.reports old form wrote.report new ran.runs wrote.answered.step in
    record {
      forms = push earlier form;
      begins = later;
      reports = ran.reports ++ wrote.report ∷ [];
      reported = reported limit (push earlier form) (ran.reports ++ wrote.report ∷ []) new runs;
      cut = cut_turn limit logging earlier form old t count a b c ran wrote wrote.fails;
    }

pub if_some_weaker : {A : Type 0} (o : Option A) (P Q : A → Type 0) → ((a : A) → P a → Q a) → IfSome o P → IfSome o Q
if_some_weaker None P Q each holds = tt
if_some_weaker (Some a) P Q each holds = each a holds

-- the block of a form would fill the log
pub Ran-full : (limit : ℕ) (left : Option (List ℕ)) (earlier : Forms) (form : Form) (old : History) (t : Totals) (count : ℕ) (a b c : outcome.Held)
    → Ran limit true earlier old t count a b → IfSome left (λ text. Begun text (push earlier form)) → count < 2 ^ 62 → FilledLog limit count (t.forms + 1) form old b c → Full limit left a c
Ran-full limit left earlier form old t count a b c ran later within filled =
    let new = after old form filled.report.answer in
    let runs = Runs-more limit [] earlier ran.reports old form filled.report new ran.runs filled.answered.step in
    let counted = ran.log_count refl in
    let some : 0 < length filled.block = omega (arith, within, filled.full) in
    let one = one_block old (claims_at old form filled.report.answer) filled.block (filled.answered.written refl) some in
    record {
      forms = push earlier form;
      begins = later;
      reports = ran.reports ++ filled.report ∷ [];
      reported = reported limit (push earlier form) (ran.reports ++ filled.report ∷ []) new runs;
      text = subst (Appends a.comment c.comment) (sym (lines_of-turn ran.reports filled.report t.forms (forms_counted ran.reports t ran.counted)))
          (Appends-trans a.comment b.comment c.comment _ _ ran.text filled.text);
      log = ran.log;
      next = filled.block;
      logs = logs_same true a.log b.log c.log ran.log ran.logs filled.log;
      follows = inl (record {
        earlier = earlier;
        form = form;
        forms_are = refl;
        before = ran.reports;
        report = filled.report;
        reports_are = refl;
        history = old;
        runs = ran.runs;
        log_is = ran.log_is refl;
        claim = one.0;
        claims = one.1;
        block = one.2;
      });
      small = filled.small;
      full = omega (arith, counted, filled.full);
    }

pub on_err : {T E : Type 0} (r : Result T E) (P : Type 0) → P → OnErr r P
on_err (Ok value) P holds = tt
on_err (Err why) P holds = holds

-- ---- a write that failed

pub writes_fail : (logging : Bool) (lines text : List ℕ) (a b : outcome.Held) → Appends a.comment b.comment lines → LogsWithin logging a.log b.log text → WriteFails logging lines text a b
writes_fail true lines text a b appends within = inr (refl, appends, within)
writes_fail false lines text a b appends within = inl (within_whole a.comment b.comment lines appends, within)

pub log_fails : {T E : Type 0} (r : Result T E) (logging : Bool) (lines text : List ℕ) (a b c d : Option (List ℕ)) → Appends a b lines → OnErr r (LogsWithin logging c d text)
    → OnErr r (WriteFails logging lines text (held_in a c) (held_in b d))
log_fails (Ok x) logging lines text a b c d appends within = tt
log_fails (Err e) logging lines text a b c d appends within = writes_fail logging lines text (held_in a c) (held_in b d) appends within

pub fails_as : (logging : Bool) (closing text last own : List ℕ) (a b : outcome.Held) → closing ≡ text → last ≡ own → WriteFails logging closing last a b → WriteFails logging text own a b
fails_as logging closing text last own a b e f fails = subst (λ (t : List ℕ). WriteFails logging text t a b) f (subst (λ (t : List ℕ). WriteFails logging t last a b) e fails)

pub if_ok_on : {T E : Type 0} (r : Result T E) (P Q : T → Type 0) (A B C : Type 0) → ((x : T) → P x → A → B → C → Q x) → IfOk r P → OnOk r A → OnOk r B → OnOk r C → IfOk r Q
if_ok_on (Ok x) P Q A B C each p a b c = each x p a b c
if_ok_on (Err e) P Q A B C each p a b c = tt

pub on_err_weaker : {T E : Type 0} (r : Result T E) (A B : Type 0) → (A → B) → OnErr r A → OnErr r B
on_err_weaker (Ok x) A B each a = tt
on_err_weaker (Err e) A B each a = each a

-- ---- before the first form

nothing_begun : (left : Option (List ℕ)) → IfSome left (λ text. Begun text end)
nothing_begun None = tt
nothing_begun (Some text) = record { front = []; rest = text; whole = refl; spelled = none; seam = inl refl }

-- at most the first line of the log was written
pub begun_interrupted : (limit : ℕ) (logging : Bool) (left : Option (List ℕ)) (a b : outcome.Held) → b.comment ≡ a.comment → LogsWithin logging a.log b.log header_text → Interrupted limit logging left a b
begun_interrupted limit logging left a b kept logs = record {
  forms = end;
  begins = nothing_begun left;
  reports = [];
  reported = reported limit end [] [] refl;
  cut = inr (
    subst (λ (z : Option (List ℕ)). Appends a.comment z []) (sym kept) (Appends-nil a.comment),
    partial_log logging end [] [] a.log b.log header_text logs (λ w. log_begins_law),
  );
}

-- ---- where it is told in another way whether a log is written

pub turned_as : (limit : ℕ) (l m : Bool) (form : Form) (old new : Session) (t u : Totals) (count later : ℕ) (a b : outcome.Held) → l ≡ m → Turned limit l form old new t u count later a b
    → Turned limit m form old new t u count later a b
turned_as limit l m form old new t u count later a b same turned = subst (λ (z : Bool). Turned limit z form old new t u count later a b) same turned

pub stopped_as : (limit : ℕ) (l m : Bool) (number : ℕ) (form : Form) (old : History) (a b : outcome.Held) → l ≡ m → TurnStopped limit l number form old a b → TurnStopped limit m number form old a b
stopped_as limit l m number form old a b same stopped = subst (λ (z : Bool). TurnStopped limit z number form old a b) same stopped

pub ran_as : (limit : ℕ) (l m : Bool) (forms : Forms) (history : History) (t : Totals) (count : ℕ) (a b : outcome.Held) → l ≡ m → Ran limit l forms history t count a b → Ran limit m forms history t count a b
ran_as limit l m forms history t count a b same ran = subst (λ (z : Bool). Ran limit z forms history t count a b) same ran

pub logs_told : (l m : Bool) (a b : Option (List ℕ)) (t : List ℕ) → l ≡ m → Logs l a b t → Logs m a b t
logs_told l m a b t same logs = subst (λ (z : Bool). Logs z a b t) same logs

pub log_within_told : (l m : Bool) (a b : Option (List ℕ)) (t : List ℕ) → l ≡ m → LogsWithin l a b t → LogsWithin m a b t
log_within_told l m a b t same logs = subst (λ (z : Bool). LogsWithin z a b t) same logs
