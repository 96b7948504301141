-- Work of which only some lines are kept.
use Rattle.std.proofs.Common.{◌≡◌, ◌∙◌, ℕ, zero, suc, Option, Some, None, List, [], length, refl, sym, ap, subst, arith}
use Rattle.std.specs.Prelude.{All, slice_get}
use Rattle.std.specs.Option.{option_map}
use Rattle.std.proofs.lemmas.List.{take_all}
use Rattle.std.proofs.lemmas.Option.{slice_get_within}
use Rattle.nq_bank.specs.Content.{Content, Grows, terms_at}
use Rattle.nq_steps.specs.NewNames.{AddsSymbols}
use Rattle.nq_history.specs.declared.entry.Entry.{Entry}
use Rattle.nq_history.specs.Events.{HistoryStands}
use Rattle.nq_kernel.specs.declared.rule.Rule.{Rule}
use Rattle.nq_kernel.specs.declared.rule.Line.{Line}
use Rattle.nq_kernel.specs.declared.work.Work.{Work}
use Rattle.nq_kernel.specs.Lines.{ids_at, rule_if, rule_of}
use Rattle.nq_kernel.specs.Meaning.{IsOver, RuleStands}
use Rattle.nq_kernel.specs.Over.{IsVariable, RuleIsIn, RulesAreOver}
use Rattle.nq_kernel.specs.Growing.{LogGrows, PrescriptionStands, WorkGrows, WorkStands}
use Rattle.nq_kernel.proofs.GrowingLemmas.{fits, stands_without_line}
use Rattle.nq_kernel.proofs.LogGrowth.{LogGrows-refl, LogGrows-trans}
use Rattle.nq_kernel.proofs.OverLemmas.{RuleIsOver-grown, RulesAreOver-trans, none_over}
use Rattle.nq_kernel.proofs.RuleGrowth.{RuleStands-grown, clause_at-grown}
use Rattle.nq_needed.specs.Keeping.{IsShortened, RulesStandIn}

-- ---- the rules of a log

some_same : {X : Type 0} (a b : X) → Some a ≡ Some b → a ≡ b
some_same a b e = cc

record HasRule (log : List Line) (rule : Rule) : Type 0 where
  place : ℕ
  line : Line
  at : slice_get log place ≡ Some line
  rule_is : line.rule ≡ rule

line_of : (log : List Line) (n : ℕ) (rule : Rule) → rule_of log n ≡ Some rule → HasRule log rule
line_of log zero rule e = absurd cc
line_of log (suc k) rule e = by_line (slice_get log k) refl e
  where
    by_line : (o : Option Line) → slice_get log k ≡ o → rule_if o ≡ Some rule → HasRule log rule
    by_line None at h = absurd cc
    by_line (Some line) at h = record { place = k; line = line; at = at; rule_is = some_same line.rule rule h }

module _ (bank : Content) (history : List Entry) (log : List Line) (legal : LogGrows bank history [] log) (over : RulesAreOver IsVariable bank history 0 log) where
  has_stands : (rule : Rule) → HasRule log rule → RuleStands bank rule
  has_stands rule has =
      let here = legal.legal has.place (omega arith) (slice_get_within log has.place has.line has.at) in
      let same : here.line ≡ has.line = some_same here.line has.line (sym here.at ∙ has.at) in
      subst (RuleStands bank) (ap (λ (l : Line). l.rule) same ∙ has.rule_is) here.rule

  has_over : (rule : Rule) → HasRule log rule → RuleIsIn bank history rule
  has_over rule has = subst (RuleIsIn bank history) has.rule_is (over.each has.place has.line (omega arith) has.at)

  rules_stand : RulesStandIn bank history log
  rules_stand = record {
    stand = λ n rule e. has_stands rule (line_of log n rule e);
    over = λ n rule e. has_over rule (line_of log n rule e);
  }

pub rules_grown : (before after : Content) (history : List Entry) (log : List Line) → HistoryStands before history → Grows before after → RulesStandIn before history log → RulesStandIn after history log
rules_grown before after history log stands grows rules = record {
  stand = λ n rule e. RuleStands-grown before after grows rule (rules.stand n rule e);
  over = λ n rule e. RuleIsOver-grown IsVariable before after history grows stands rule (rules.stand n rule e) (rules.over n rule e);
}

-- ---- what is left of work

no_line_over : (bank : Content) (log : List Line) → log ≡ [] → IsOver bank log
no_line_over bank log none = subst (IsOver bank) (sym none) (record { stand = λ i d below. absurd (omega (arith, below)) })

-- work with no line yet
pub begun_stands : (history : List Entry) (bank : Content) (begun : Work) → HistoryStands bank history → begun.bank ≡ bank → begun.log ≡ [] → begun.known.items ≡ [] → WorkStands history begun
begun_stands history bank begun stands same none unknown =
    record {
      log = no_line_over begun.bank begun.log none;
      history = subst (λ (b : Content). HistoryStands b history) (sym same) stands;
      known = subst (All (PrescriptionStands begun.bank begun.log)) (sym unknown) (λ i d below. absurd (omega (arith, below)));
    }

pub begun_rules : (history : List Entry) (old begun : Work) → begun.bank ≡ old.bank → LogGrows old.bank history [] old.log → RulesAreOver IsVariable old.bank history 0 old.log → RulesStandIn begun.bank history old.log
begun_rules history old begun same legal over = subst (λ (b : Content). RulesStandIn b history old.log) (sym same) (rules_stand old.bank history old.log legal over)

module _ (history : List Entry) (old begun kept : Work) (stands : WorkStands history old) (same_bank : begun.bank ≡ old.bank) (no_line : begun.log ≡ []) (grows : WorkGrows history begun kept) where
  grew : Grows old.bank kept.bank
  grew = subst (λ (b : Content). Grows b kept.bank) same_bank grows.bank

  named : AddsSymbols old.bank kept.bank
  named = subst (λ (b : Content). AddsSymbols b kept.bank) same_bank grows.names

  -- the kept lines, where the line has its clause among them
  pub lines_kept : (line n : ℕ) → ids_at kept.log n ≡ ids_at old.log line → IsShortened history old line (record { work = record { bank = kept.bank; log = kept.log; counter = old.counter; known = kept.known }; line = n })
  lines_kept line n same = record {
    bank = grew;
    names = named;
    log = subst (λ (log : List Line). LogGrows kept.bank history log kept.log) no_line grows.log;
    rules = subst (λ (log : List Line). RulesAreOver IsVariable kept.bank history (length log) kept.log) no_line grows.rules;
    counter = refl;
    stands = record { log = grows.stands.log; history = grows.stands.history; known = grows.stands.known };
    clause = ap (option_map (terms_at kept.bank)) same ∙ clause_at-grown old.bank kept.bank grew old.log line stands.log;
  }

  -- the log as it was
  pub log_kept : LogGrows old.bank history [] old.log → RulesAreOver IsVariable old.bank history 0 old.log → (line : ℕ) → IsShortened history old line (record { work = record { bank = kept.bank; log = old.log; counter = old.counter; known = old.known }; line = line })
  log_kept legal over line = record {
    bank = grew;
    names = named;
    log = LogGrows-trans old.bank kept.bank history [] old.log old.log grew (fits history old stands) legal (LogGrows-refl kept.bank history old.log);
    rules = RulesAreOver-trans IsVariable old.bank kept.bank history grew stands.history [] old.log old.log legal (take_all (length old.log) old.log (omega arith)) over (none_over IsVariable kept.bank history old.log old.log refl);
    counter = refl;
    stands = stands_without_line history old kept.bank old.log old.counter stands grew refl;
    clause = clause_at-grown old.bank kept.bank grew old.log line stands.log;
  }
