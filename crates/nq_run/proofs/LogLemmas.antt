-- The log of a run goes on by the block of one form.
use Rattle.std.proofs.Common.{◌≡◌, ◌<◌, ℕ, Bool, true, false, List, [], ◌∷◌, ◌++◌, length, Option, refl, sym, ap, ◌∙◌, subst, append_assoc, append-nil, arith}
use Rattle.std.specs.Io.KnownBytes.{Appends, Keeps}
use Rattle.std.proofs.KnownBytes.{Appends-nil, Appends-trans, Appends-kept}
use Rattle.nq_logic.specs.Terms.{Term}
use Rattle.nq_logic.specs.Histories.{History}
use Rattle.nq_logic.specs.Histories as logic
use Rattle.nq_logic.specs.Classes.{without_class, without_classes}
use Rattle.nq_form.specs.Form.{Form, Forms, end, dotted, next, push}
use Rattle.nq_log.specs.States.{Claim, Grounded, Adds, Undoes, after_claim}
use Rattle.nq_logic.specs.Names.{before_event}
use Rattle.nq_logic.proofs.Classes.{classes_change_nothing_law}
use Rattle.std.specs.Prelude.{None, Some, if◌then◌else◌}
use Rattle.nq_block.specs.Blocks.{IsBlock}
use Rattle.nq_block.specs.OpenLogs.{IsOpenLog}
use Rattle.nq_block.proofs.OpenLaws.{block_follows_law}
use Rattle.nq_comment.specs.Reports.{Answer, Report}
use Rattle.nq_answers.specs.Claims.{claims_at, claims_from, claims_of, event_claims}
use Rattle.nq_events.specs.Events.{Event, BootStrap, AddShell, Dcl, Defn, AddAxiom, ProveLemma, Toggle, Undo, Skipped}
use Rattle.nq_events.specs.Reading.{event_of}
use Rattle.nq_events.specs.Effects.{defined, history_after}
use Rattle.nq_run.specs.Outcome.{Answered, AreBlocks, GrowsWithin, IsLogOf, Logs, LogsWithin}
use Rattle.nq_answers.specs.Steps.{Runs, after, after_event, is_taken, measure_by}

-- ---- what the log's sink gains

pub within_after : (a b c : Option (List ℕ)) (front text : List ℕ) → Appends a b front → GrowsWithin b c text → GrowsWithin a c (front ++ text)
within_after a b c front text first later = record {
  front = front ++ later.front;
  rest = later.rest;
  whole = ap (λ (t : List ℕ). front ++ t) later.whole ∙ sym (append_assoc front later.front later.rest);
  appends = Appends-trans a b c front later.front first later.appends;
}

pub within_kept : (a b c : Option (List ℕ)) (text : List ℕ) → Appends a b text → Keeps b c → GrowsWithin a c text
within_kept a b c text first kept = record {
  front = text;
  rest = [];
  whole = sym (append-nil text);
  appends = Appends-kept a b c text first kept;
}

pub within_whole : (a b : Option (List ℕ)) (text : List ℕ) → Appends a b text → GrowsWithin a b text
within_whole a b text appends = record { front = text; rest = []; whole = sym (append-nil text); appends = appends }

pub within_none : (a : Option (List ℕ)) (text : List ℕ) → GrowsWithin a a text
within_none a text = record { front = []; rest = text; whole = refl; appends = Appends-nil a }

pub kept_same : (a : Option (List ℕ)) → Keeps a a
kept_same None = tt
kept_same (Some a) = refl

pub logs_after : (logging : Bool) (a b c : Option (List ℕ)) (t u : List ℕ) → Logs logging a b t → Logs logging b c u → Logs logging a c (t ++ u)
logs_after true a b c t u first later = Appends-trans a b c t u first later
logs_after false a b c t u first later = later ∙ first

pub logs_within_after : (logging : Bool) (a b c : Option (List ℕ)) (t u : List ℕ) → Logs logging a b t → LogsWithin logging b c u → LogsWithin logging a c (t ++ u)
logs_within_after true a b c t u first later = within_after a b c t u first later
logs_within_after false a b c t u first later = later ∙ first

pub logs_within : (logging : Bool) (a b : Option (List ℕ)) (t : List ℕ) → Logs logging a b t → LogsWithin logging a b t
logs_within true a b t logs = within_whole a b t logs
logs_within false a b t logs = logs

pub logs_same : (logging : Bool) (a b c : Option (List ℕ)) (t : List ℕ) → Logs logging a b t → c ≡ b → Logs logging a c t
logs_same true a b c t logs same = subst (λ (z : Option (List ℕ)). Appends a z t) (sym same) logs
logs_same false a b c t logs same = same ∙ logs

pub logs_none : (logging : Bool) (a b : Option (List ℕ)) → b ≡ a → Logs logging a b []
logs_none true a b same = subst (λ (z : Option (List ℕ)). Appends a z []) (sym same) (Appends-nil a)
logs_none false a b same = same

pub logs_within_none : (logging : Bool) (a b : Option (List ℕ)) (t : List ℕ) → b ≡ a → LogsWithin logging a b t
logs_within_none true a b t same = subst (λ (z : Option (List ℕ)). GrowsWithin a z t) (sym same) (within_none a t)
logs_within_none false a b t same = same

pub no_logs : (logging : Bool) (a b : Option (List ℕ)) (t : List ℕ) → Logs logging a b t → logging ≡ false → b ≡ a
no_logs true a b t logs off = cc
no_logs false a b t logs off = logs

-- ---- the claims

pub claims_more : (limit : ℕ) (old : History) (done : Forms) (reports : List Report) (mid : History) (form : Form) (report : Report) → Runs limit old done reports mid
    → claims_from old (push done form) (reports ++ report ∷ []) ≡ claims_from old done reports ++ claims_at mid form report.answer
claims_more limit old end [] mid form report runs = append-nil (claims_at old form report.answer) ∙ ap (λ (h : History). claims_at h form report.answer) (sym runs)
claims_more limit old end (r ∷ rs) mid form report runs = absurd runs
claims_more limit old (dotted f) [] mid form report runs = absurd runs
claims_more limit old (dotted f) (r ∷ rs) mid form report runs = absurd runs
claims_more limit old (next f fs) [] mid form report runs = absurd runs
claims_more limit old (next f fs) (r ∷ rs) mid form report runs =
    ap (λ (claims : List Claim). claims_at old f r.answer ++ claims) (claims_more limit (after old f r.answer) fs rs mid form report runs.1)
    ∙ sym (append_assoc (claims_at old f r.answer) (claims_from (after old f r.answer) fs rs) (claims_at mid form report.answer))

open_as : (t u : List ℕ) (c d : List Claim) (h k : History) → t ≡ u → c ≡ d → h ≡ k → IsOpenLog t c h → IsOpenLog u d k
open_as t u c d h k text claims history opened =
    subst (λ (z : History). IsOpenLog u d z) history (subst (λ (z : List Claim). IsOpenLog u z h) claims (subst (λ (z : List ℕ). IsOpenLog z c h) text opened))

-- where nothing is claimed
open_same : (log : List ℕ) (claims : List Claim) (old : History) (block : List ℕ) → IsOpenLog log claims (without_classes old) → block ≡ [] → IsOpenLog (log ++ block) (claims ++ []) (without_classes old)
open_same log claims old block opened none =
    open_as log (log ++ block) claims (claims ++ []) (without_classes old) (without_classes old) (sym (append-nil log) ∙ ap (λ (t : List ℕ). log ++ t) (sym none)) (sym (append-nil claims)) refl opened

-- where a block claims something
open_claim : (log : List ℕ) (claims : List Claim) (old new : History) (block : List ℕ) (c : Claim) → IsOpenLog log claims (without_classes old) → IsBlock old c block
    → after_claim (without_classes old) c ≡ without_classes new → IsOpenLog (log ++ block) (claims ++ c ∷ []) (without_classes new)
open_claim log claims old new block c opened is makes =
    subst (λ (z : History). IsOpenLog (log ++ block) (claims ++ c ∷ []) z) makes (block_follows_law log block claims (without_classes old) old c opened is refl)

-- where it claims an event
open_added : (log : List ℕ) (claims : List Claim) (old : History) (block : List ℕ) (e : logic.Event) → IsOpenLog log claims (without_classes old) → IsBlock old (Adds (without_class e)) block
    → IsOpenLog (log ++ block) (claims ++ Adds (without_class e) ∷ []) (without_classes (old ++ e ∷ []))
open_added log claims old block e opened is = open_claim log claims old (old ++ e ∷ []) block (Adds (without_class e)) opened is (sym ((classes_change_nothing_law old).appended (e ∷ [])))

module _ (log : List ℕ) (claims : List Claim) (old : History) (block : List ℕ) (opened : IsOpenLog log claims (without_classes old)) where
  -- an event that was taken, by the measure that its answer tells
  open_taken : (e : Event) (m : Option Term) → AreBlocks old (event_claims e m) block → IsOpenLog (log ++ block) (claims ++ event_claims e m) (without_classes (history_after old e m))
  open_taken BootStrap m is = open_claim log claims old [] block Grounded opened is refl
  open_taken (AddShell shell) m is = open_added log claims old block (logic.AddShell shell) opened is
  open_taken (Dcl name formals) m is = open_added log claims old block (logic.Declaration name (length formals)) opened is
  open_taken (Defn name formals body measures) m is = open_added log claims old block (defined name formals body m) opened is
  open_taken (AddAxiom name classes t) m is = open_added log claims old block (logic.Axiom name classes t) opened is
  open_taken (ProveLemma name classes t hints) m is = open_added log claims old block (logic.Lemma name classes t) opened is
  open_taken (Toggle name other disabled) m is = open_added log claims old block (logic.Toggle name other disabled) opened is
  open_taken (Undo name) m is = open_claim log claims old (before_event name old) block (Undoes name) opened is ((classes_change_nothing_law old).undone name)
  open_taken Skipped m is = open_same log claims old block opened is

  open_by : (e : Event) (m : Option Term) (b : Bool) → AreBlocks old (if b then event_claims e m else []) block
      → IsOpenLog (log ++ block) (claims ++ (if b then event_claims e m else [])) (without_classes (if b then history_after old e m else old))
  open_by e m true is = open_taken e m is
  open_by e m false is = open_same log claims old block opened is

  open_event : (new : History) (e : Event) (answer : Answer) → AreBlocks old (claims_of e answer) block → new ≡ after_event old e answer
      → IsOpenLog (log ++ block) (claims ++ claims_of e answer) (without_classes new)
  open_event new e answer is same =
      subst (λ (h : History). IsOpenLog (log ++ block) (claims ++ claims_of e answer) (without_classes h)) (sym same) (open_by e (measure_by e answer) (is_taken answer) is)

-- the log with the block of one form more
pub log_more : (limit : ℕ) (done : Forms) (reports : List Report) (old new : History) (form : Form) (report : Report) (log block : List ℕ) → Runs limit [] done reports old
    → IsLogOf done reports old log → Answered limit form old new report true block → IsLogOf (push done form) (reports ++ report ∷ []) new (log ++ block)
log_more limit done reports old new form report log block runs before answered =
    subst (λ (claims : List Claim). IsOpenLog (log ++ block) claims (without_classes new)) (sym (claims_more limit [] done reports old form report runs))
    (open_event log (claims_from [] done reports) old block before new (event_of old form) report.answer (answered.written refl) answered.step.history)

-- ---- what would follow on a log that is full

-- a text that is not empty is a block of one claim
pub one_block : (h : History) (claims : List Claim) (text : List ℕ) → AreBlocks h claims text → 0 < length text → (c : Claim) × (claims ≡ c ∷ []) × IsBlock h c text
one_block h [] text blocks some = let none : length text ≡ 0 = ap length blocks in absurd (omega (arith, none, some))
one_block h (c ∷ []) text block some = (c, refl, block)
one_block h (c ∷ (d ∷ claims)) text blocks some = absurd blocks
