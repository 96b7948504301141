-- The try of a lemma, over a bank that its proof grows.
use Rattle.std.proofs.Common.{◌≡◌, ℕ, zero, suc, true, Option, List, [], ◌∷◌, length, take, ap, refl, sym, subst, ◌∙◌, arith}
use Rattle.std.specs.Prelude.{All, Some}
use Rattle.nq_logic.specs.Terms.{Name, Term, IsTerm}
use Rattle.nq_logic.specs.Formulas.{holds}
use Rattle.nq_logic.specs.Derivations.{Derivable}
use Rattle.nq_logic.specs.Ground.{symbols_of}
use Rattle.nq_logic.specs.Histories.{History}
use Rattle.nq_log.proofs.RuleSteps.{only_holds}
use Rattle.nq_bank.specs.declared.node.Mark.{Mark}
use Rattle.nq_bank.specs.declared.node.Sym.{Sym}
use Rattle.nq_bank.specs.declared.node.TermId.{TermId}
use Rattle.nq_bank.specs.Content.{Content, Grows, IsNamed, Stands, term_at, text_at}
use Rattle.nq_bank.specs.Marks.{CanRelease, IsMarkOf, released}
use Rattle.nq_bank.proofs.Growth.{IsNamed-grown, Stands-grown, term_at-grown, text_at-grown}
use Rattle.nq_proof.specs.Laws.{LinesHold}
use Rattle.nq_proof.specs.Rules.{has_only}
use Rattle.nq_history.specs.declared.entry.Entry.{Entry}
use Rattle.nq_history.specs.Events.{events_at, HistoryStands}
use Rattle.nq_history.proofs.HistoryLemmas.{events_at-grown}
use Rattle.nq_kernel.specs.declared.rule.Line.{Line}
use Rattle.nq_kernel.specs.declared.prescription.Prescription.{Prescription}
use Rattle.nq_kernel.specs.declared.verdict.Proof.TheVariants.{First, Waterfall}
use Rattle.nq_kernel.specs.declared.verdict.Verdict.{Verdict}
use Rattle.nq_kernel.specs.declared.verdict.Verdict.TheVariants.{Proved, Failed, OutOfSteps, NotYet}
use Rattle.nq_kernel.specs.declared.work.Work.{Work}
use Rattle.nq_kernel.specs.Growing.{CountsUp, LogGrows, PrescriptionStands, WorkGrows, WorkStands}
use Rattle.nq_kernel.specs.Meaning.{IsOver, clause_at}
use Rattle.nq_kernel.specs.Over.{IsVariable, RulesAreOver, TermIsIn}
use Rattle.nq_kernel.specs.Proving.{IsFirstPass, IsTold}
use Rattle.nq_kernel.specs.Ready.{WorkHolds}
use Rattle.nq_block.specs.declared.closing.Closing.TheVariants as closing
use Rattle.nq_block.specs.Closings.{CanClose, IsFree}
use Rattle.nq_block.specs.Names.{HasSymbols}
use Rattle.nq_spelling.specs.SpelledEvents.{IsSpelledFormula}
use Rattle.nq_answers.specs.Spending.{IsUsedUp}
use Rattle.nq_run.specs.Outcome.{AreBlocks}
use Rattle.nq_kernel.proofs.GrowingLemmas.{WorkGrows-trans, bank_grows, uncounted}
use Rattle.nq_needed.specs.Keeping.{IsShortened}
use Rattle.nq_needed.specs.declared.shortening.Shortened.{Shortened}
use Rattle.nq_run.specs.Sessions.{IsFoundBy, IsShownBy, StandsFor, found_claims, found_of, line_in, with_line}
use Rattle.nq_run.specs.declared.proving.Shown.{Shown}
use Rattle.nq_run.specs.declared.proving.Found.{Found}
use Rattle.nq_run.specs.declared.proving.Found.TheVariants as finding
use Rattle.nq_run.specs.declared.proving.Found.TheVariants.{Fragment, Moves}

-- ---- work on a bank

log_over : (bank : Content) (log : List Line) → log ≡ [] → IsOver bank log
log_over bank log none = subst (IsOver bank) (sym none) (record { stand = λ i d below. absurd (omega (arith, below)) })

-- with no line yet
pub work_stands : (history : List Entry) (bank : Content) (work : Work) → HistoryStands bank history → work.bank ≡ bank → work.log ≡ [] → work.known.items ≡ [] → WorkStands history work
work_stands history bank work stands bank_is none unknown =
    record {
      log = log_over work.bank work.log none;
      history = subst (λ (b : Content). HistoryStands b history) (sym bank_is) stands;
      known = subst (All (PrescriptionStands work.bank work.log)) (sym unknown) (λ i d below. absurd (omega (arith, below)));
    }

no_line : (bank : Content) (n : ℕ) (c : List Term) → clause_at bank [] n ≡ Some c → ⊥
no_line bank zero c e = absurd cc
no_line bank (suc k) c e = absurd cc

pub no_line_holds : (history : List Entry) (work : Work) → work.log ≡ [] → WorkHolds history work
no_line_holds history work none = subst (λ (log : List Line). LinesHold (events_at work.bank history) (clause_at work.bank log)) (sym none) (λ n c e. absurd (no_line work.bank n c e))

pub goal_in : (bank later : Content) (history : List Entry) (name : Name) (goal : TermId) → later ≡ bank → IsSpelledFormula (events_at bank history) name (term_at bank goal) → TermIsIn later history goal
goal_in bank later history name goal same spelled = subst (λ (b : Content). TermIsIn b history goal) (sym same) spelled.claimable.over

-- ---- what a verdict shows

-- where the counter is at its limit, all steps are used up
abbrev pub SpendsAll : Work → History → Type 0
SpendsAll work h = work.counter.used ≡ work.counter.limit → IsUsedUp work.counter.limit h

-- the work that began with no step used and no line
pub spends_all : (history : List Entry) (begun spent : Work) → begun.log ≡ [] → begun.counter.used ≡ 0 → WorkGrows history begun spent → SpendsAll spent (events_at begun.bank history)
spends_all history begun spent none unused grows all = record {
  entries = history;
  begun = begun;
  spent = spent;
  history_is = refl;
  no_lines = none;
  unused = unused;
  limit_is = sym grows.counter.limit;
  grows = grows;
  all_used = all;
}

pub shown_is : (work : Work) (h : History) (t : Term) (verdict : Verdict) → SpendsAll work h → IsTold work t verdict → IsFirstPass h t verdict → IsShownBy work h t (found_of verdict)
shown_is work h t (Proved line (First way)) spends told first = (told, first)
shown_is work h t (Proved line (Waterfall path)) spends told first = (told, first)
shown_is work h t (Failed path cause) spends told first = first
shown_is work h t OutOfSteps spends told first = (first, spends told)
shown_is work h t (NotYet path) spends told first = first

-- ---- work in the place of work

pub stands_for_itself : (history : List Entry) (work : Work) (found : Found) → StandsFor history work found (record { work = work; found = found })
stands_for_itself history work found = record { grows = λ begun none unknown grows. grows; shown = λ h t shown. shown }

take_none : (known : List Prescription) → take 0 known ≡ []
take_none [] = refl
take_none (p ∷ known) = refl

none_known : (begun new : List Prescription) → begun ≡ [] → take (length begun) new ≡ begun
none_known begun new unknown = subst (λ (known : List Prescription). take (length known) new ≡ known) (sym unknown) (take_none new)

-- with fewer lines it grew too
grew_shorter : (history : List Entry) (old : Work) (line : ℕ) (new : Shortened) → IsShortened history old line new → (begun : Work) → begun.log ≡ [] → begun.known.items ≡ [] → WorkGrows history begun old → WorkGrows history begun new.work
grew_shorter history old line new is begun none unknown grows =
    let across : WorkGrows history begun (record { bank = new.work.bank; log = old.log; counter = old.counter; known = old.known }) =
    WorkGrows-trans history begun old (record { bank = new.work.bank; log = old.log; counter = old.counter; known = old.known }) grows
    (bank_grows history old new.work.bank old.counter grows.stands is.bank is.names (uncounted old.counter)) in
    record {
      bank = across.bank;
      names = across.names;
      log = subst (λ (log : List Line). LogGrows new.work.bank history log new.work.log) (sym none) is.log;
      rules = subst (λ (log : List Line). RulesAreOver IsVariable new.work.bank history (length log) new.work.log) (sym none) is.rules;
      counter = subst (CountsUp begun.counter) (sym is.counter) grows.counter;
      known = none_known begun.known.items new.work.known.items unknown;
      stands = is.stands;
    }

only_shorter : (history : List Entry) (old : Work) (line : ℕ) (new : Shortened) → IsShortened history old line new → (t : Term) (n : ℕ) → n ≡ line → has_only (clause_at old.bank old.log n) (t ∷ []) ≡ true → has_only (clause_at new.work.bank new.work.log new.line) (t ∷ []) ≡ true
only_shorter history old line new is t n same only =
    ap (λ (c : Option (List Term)). has_only c (t ∷ [])) (is.clause ∙ ap (clause_at old.bank old.log) (sym same)) ∙ only

-- and its line shows the same
shown_shorter : (history : List Entry) (old : Work) (line : ℕ) (new : Shortened) (found : Found) → IsShortened history old line new → line_in found ≡ Some line → (h : History) (t : Term) → IsShownBy old h t found → IsShownBy new.work h t (with_line found new.line)
shown_shorter history old line new (Fragment n way) is at h t shown = (only_shorter history old line new is t n (cc) shown.0, shown.1)
shown_shorter history old line new (Moves n) is at h t shown = (only_shorter history old line new is t n (cc) shown.0, shown.1)
shown_shorter history old line new finding.OutOfSteps is at h t shown = absurd cc
shown_shorter history old line new finding.Unknown is at h t shown = absurd cc

pub stands_shorter : (history : List Entry) (old : Work) (line : ℕ) (new : Shortened) (found renamed : Found) → IsShortened history old line new → line_in found ≡ Some line → renamed ≡ with_line found new.line → StandsFor history old found (record { work = new.work; found = renamed })
stands_shorter history old line new found renamed is at same = record {
  grows = grew_shorter history old line new is;
  shown = λ h t before. subst (IsShownBy new.work h t) (sym same) (shown_shorter history old line new found is at h t before);
}

-- its lines are legal from the first on, and their rules over the history
pub legal_begun : (history : List Entry) (begun work : Work) → begun.log ≡ [] → WorkGrows history begun work → LogGrows work.bank history [] work.log
legal_begun history begun work none grows = subst (λ (log : List Line). LogGrows work.bank history log work.log) none grows.log

pub over_begun : (history : List Entry) (begun work : Work) → begun.log ≡ [] → WorkGrows history begun work → RulesAreOver IsVariable work.bank history 0 work.log
over_begun history begun work none grows = subst (λ (log : List Line). RulesAreOver IsVariable work.bank history (length log) work.log) none grows.rules

-- ---- what is found is so

-- what a line shows is derivable
shown_derivable : (work : Work) (history : List Entry) (t : Term) (line : ℕ) → WorkHolds history work → IsTerm (symbols_of (events_at work.bank history)) t
    → has_only (clause_at work.bank work.log line) (t ∷ []) ≡ true → Derivable (events_at work.bank history) (holds t)
shown_derivable work history t line lines over only = only_holds (events_at work.bank history) (clause_at work.bank work.log line) (t ∷ []) (lines line) (over, tt) only

pub found_is : (work : Work) (history : List Entry) (t : Term) (found : Found) → WorkHolds history work → IsTerm (symbols_of (events_at work.bank history)) t
    → IsShownBy work (events_at work.bank history) t found → IsFoundBy work.counter.limit (events_at work.bank history) t found
found_is work history t (Fragment line way) lines over shown = (shown.1, shown_derivable work history t line lines over shown.0)
found_is work history t (Moves line) lines over shown = (shown.1, shown_derivable work history t line lines over shown.0)
found_is work history t finding.OutOfSteps lines over shown = shown
found_is work history t finding.Unknown lines over shown = shown

shown_line : (work : Work) (h : History) (t : Term) (found : Found) (line : ℕ) → line_in found ≡ Some line → IsShownBy work h t found → has_only (clause_at work.bank work.log line) (t ∷ []) ≡ true
shown_line work h t (Fragment n way) line is shown = let same : n ≡ line = cc in subst (λ (k : ℕ). has_only (clause_at work.bank work.log k) (t ∷ []) ≡ true) same shown.0
shown_line work h t (Moves n) line is shown = let same : n ≡ line = cc in subst (λ (k : ℕ). has_only (clause_at work.bank work.log k) (t ∷ []) ≡ true) same shown.0
shown_line work h t finding.OutOfSteps line is shown = absurd cc
shown_line work h t finding.Unknown line is shown = absurd cc

-- a line that shows the lemma closes its block
pub can_show : (work : Work) (history : List Entry) (name : Sym) (goal : TermId) (found : Found) (line : ℕ) → line_in found ≡ Some line
    → IsSpelledFormula (events_at work.bank history) (text_at work.bank name) (term_at work.bank goal)
    → IsFree (events_at work.bank history) (text_at work.bank name) → IsShownBy work (events_at work.bank history) (term_at work.bank goal) found
    → CanClose work.bank history work.log (closing.Lemma name goal line)
can_show work history name goal found line is spelled free shown =
    record { free = free; claimable = spelled.claimable; only = shown_line work (events_at work.bank history) (term_at work.bank goal) found line is shown }

-- ---- a bank that has grown

module _ (bank begun later : Content) (history : List Entry) (name : Sym) (goal : TermId) (stands : HistoryStands bank history) (named : IsNamed bank name) (there : Stands bank goal)
    (same : begun ≡ bank) (grows : Grows begun later) where
  pub grew : Grows bank later
  grew = subst (λ (b : Content). Grows b later) same grows

  events_kept : events_at later history ≡ events_at bank history
  events_kept = events_at-grown bank later grew history stands.entries

  name_kept : text_at later name ≡ text_at bank name
  name_kept = text_at-grown bank later name grew named

  goal_kept : term_at later goal ≡ term_at bank goal
  goal_kept = term_at-grown bank later goal grew there

  pub goal_begun : term_at later goal ≡ term_at begun goal
  goal_begun = goal_kept ∙ ap (λ (b : Content). term_at b goal) (sym same)

  pub symbols_kept : HasSymbols (events_at bank history) → HasSymbols (events_at later history)
  symbols_kept symbols = subst HasSymbols (sym events_kept) symbols

  pub spelled_kept : IsSpelledFormula (events_at bank history) (text_at bank name) (term_at bank goal) → IsSpelledFormula (events_at later history) (text_at later name) (term_at later goal)
  spelled_kept spelled =
      subst (λ (h : History). IsSpelledFormula h (text_at later name) (term_at later goal)) (sym events_kept)
      (subst (λ (n : Name). IsSpelledFormula (events_at bank history) n (term_at later goal)) (sym name_kept)
      (subst (λ (t : Term). IsSpelledFormula (events_at bank history) (text_at bank name) t) (sym goal_kept) spelled))

  pub free_kept : IsFree (events_at bank history) (text_at bank name) → IsFree (events_at later history) (text_at later name)
  free_kept free = subst (λ (h : History). IsFree h (text_at later name)) (sym events_kept) (subst (IsFree (events_at bank history)) (sym name_kept) free)

  pub name_named : IsNamed later name
  name_named = IsNamed-grown bank later name grew named

  pub goal_stands : Stands later goal
  goal_stands = Stands-grown bank later goal grew there

  -- what the verdict says of the bank as it was when the work began, shown by work that stands in the place of that work
  pub shown_kept : (work : Work) (verdict : Verdict) (found : Found) (shown : Shown) → found ≡ found_of verdict → StandsFor history work found shown → SpendsAll work (events_at begun history) → IsTold work (term_at begun goal) verdict
      → IsFirstPass (events_at begun history) (term_at begun goal) verdict → IsShownBy shown.work (events_at later history) (term_at later goal) shown.found
  shown_kept work verdict found shown is other spends told first =
      let own : IsShownBy work (events_at begun history) (term_at begun goal) (found_of verdict) = shown_is work (events_at begun history) (term_at begun goal) verdict spends told first in
      let here : IsShownBy shown.work (events_at begun history) (term_at begun goal) shown.found = other.shown (events_at begun history) (term_at begun goal) (subst (IsShownBy work (events_at begun history) (term_at begun goal)) (sym is) own) in
      let events : events_at begun history ≡ events_at later history = ap (λ (b : Content). events_at b history) same ∙ sym events_kept in
      subst (λ (h : History). IsShownBy shown.work h (term_at later goal) shown.found) events
      (subst (λ (t : Term). IsShownBy shown.work (events_at begun history) t shown.found) (sym goal_begun) here)

  pub found_before : (limit : ℕ) (result : Found) → IsFoundBy limit (events_at later history) (term_at later goal) result → IsFoundBy limit (events_at bank history) (term_at bank goal) result
  found_before limit result is =
      subst (λ (h : History). IsFoundBy limit h (term_at bank goal) result) events_kept (subst (λ (t : Term). IsFoundBy limit (events_at later history) t result) goal_kept is)

  pub written_before : (result : Found) (block : List ℕ) → AreBlocks (events_at later history) (found_claims (text_at later name) (term_at later goal) result) block
      → AreBlocks (events_at bank history) (found_claims (text_at bank name) (term_at bank goal) result) block
  written_before result block written =
      subst (λ (h : History). AreBlocks h (found_claims (text_at bank name) (term_at bank goal) result) block) events_kept
      (subst (λ (n : Name). AreBlocks (events_at later history) (found_claims n (term_at bank goal) result) block) name_kept
      (subst (λ (t : Term). AreBlocks (events_at later history) (found_claims (text_at later name) t result) block) goal_kept written))

  pub can_give_back : (mark : Mark) → IsMarkOf bank mark → CanRelease later mark
  can_give_back mark is = is.can later grew

  pub given_back_is : (mark : Mark) → IsMarkOf bank mark → released later mark ≡ bank
  given_back_is mark is = is.returns later grew
