-- Names that are enabled, by what entries disabled or enabled.
use Rattle.std.proofs.Common.{◌≡◌, ◌<◌, ◌≤◌, ◌+◌, ℕ, suc, Bool, true, false, ◌&&◌, ◌||◌, List, [], ◌∷◌, ◌++◌, map, length, get_or, drop, drop-cons, add-one, arith, zero, refl, sym, ap, ◌∙◌}
use Rattle.std.proofs.lemmas.List.{drop_all}
use Rattle.std.proofs.lemmas.Option.{slice_get_past}
use Rattle.std.specs.Prelude.{nat_eq, not, if◌then◌else◌, All, Option, None, Some, bytes_eq, slice_get}
use Rattle.nq_logic.specs.Names as naming
use Rattle.nq_logic.specs.Names.{has_name}
use Rattle.nq_bank.specs.declared.node.Sym.{Sym}
use Rattle.nq_bank.specs.Content.{Content, IsNamed, text_at}
use Rattle.nq_bank.specs.Shells.{texts_at}
use Rattle.nq_bank.specs.Soundness.{IsSound}
use Rattle.nq_bank.proofs.NodesLemmas.{All-head, All-tail}
use Rattle.nq_bank.proofs.SoundLemmas.{eqb-symbols}
use Rattle.nq_history.specs.declared.entry.EntryKind.{EntryKind}
use Rattle.nq_history.specs.declared.entry.EntryKind.TheVariants as kind
use Rattle.nq_history.specs.declared.entry.Entry.{Entry}
use Rattle.nq_history.specs.declared.hints.Hints.{Hints}
use Rattle.nq_history.specs.Events.{events_at, HistoryStands}
use Rattle.nq_history.specs.Hints.{HintsStand}
use Rattle.nq_history.specs.Lookups.{kind_enabled, enabled_in}
use Rattle.nq_history.proofs.LookupLemmas.{enabled_is}
use Rattle.nq_rule_table.specs.declared.rule.RuleRef.{RuleRef}
use Rattle.nq_rule_table.specs.declared.rule.Toggled.{Toggled}
use Rattle.nq_rule_table.specs.Rules.{kind_toggles, entry_toggles}
use Rattle.nq_rule_table.specs.declared.table.Rules.{Rules}
use Rattle.nq_rule_table.specs.Tables.{toggles_from, WasTaught}
use Rattle.nq_rule_table.specs.Enabled.{is_among, enabled_by, enabled_past, is_enabled_with, is_enabled_after, if_enabled}

pub enabled_by-append : (name : Sym) (before : Bool) (xs ys : List Toggled) → enabled_by name before (xs ++ ys) ≡ enabled_by name (enabled_by name before xs) ys
enabled_by-append name before [] ys = refl
enabled_by-append name before (x ∷ xs) ys = enabled_by-append name (enabled_past name before x) xs ys

kind_by : (name : Sym) (before : Bool) (place : ℕ) (k : EntryKind) → enabled_by name before (kind_toggles place k) ≡ kind_enabled name before k
kind_by name before place (kind.Shell shell) = refl
kind_by name before place (kind.Dcl n) = refl
kind_by name before place (kind.Defn formals body measure) = refl
kind_by name before place (kind.Axiom classes t) = refl
kind_by name before place (kind.Lemma classes t) = refl
kind_by name before place (kind.Toggle old disabled) = refl

-- the names that entries disabled or enabled tell as the entries do
pub enabled_from : (name : Sym) (before : Bool) (place : ℕ) (es : List Entry) → enabled_by name before (toggles_from place es) ≡ enabled_in name before es
enabled_from name before place [] = refl
enabled_from name before place (e ∷ es) =
    enabled_by-append name before (entry_toggles place e) (toggles_from (suc place) es)
    ∙ ap (λ b. enabled_by name b (toggles_from (suc place) es)) (kind_by name before place e.kind)
    ∙ enabled_from name (kind_enabled name before e.kind) (suc place) es

among_texts : (bank : Content) (name : Sym) (names : List Sym) → IsSound bank → IsNamed bank name → All (IsNamed bank) names → is_among name names ≡ has_name (text_at bank name) (texts_at bank names)
among_texts bank name [] sound named stand = refl
among_texts bank name (s ∷ names) sound named stand =
    ap (λ b. b || is_among name names) (eqb-symbols bank name s sound named (All-head (IsNamed bank) s names stand))
    ∙ ap (λ b. bytes_eq (text_at bank name) (text_at bank s) || b) (among_texts bank name names sound named (All-tail (IsNamed bank) s names stand))

-- over a bank it is as the logic says of texts
pub enabled_texts : (bank : Content) (hints : Hints) (name : Sym) (entries : List Entry) → IsSound bank → HistoryStands bank entries → HintsStand bank hints → IsNamed bank name →
    is_enabled_after hints name entries ≡ naming.is_enabled_for (texts_at bank hints.enable.items) (texts_at bank hints.disable.items) (text_at bank name) (events_at bank entries)
enabled_texts bank hints name entries sound stands hinted named =
    ap (λ b. not b && (is_among name hints.enable.items || enabled_in name true entries)) (among_texts bank name hints.disable.items sound named hinted.disable)
    ∙ ap (λ b. not (has_name (text_at bank name) (texts_at bank hints.disable.items)) && (b || enabled_in name true entries)) (among_texts bank name hints.enable.items sound named hinted.enable)
    ∙ ap (λ b. not (has_name (text_at bank name) (texts_at bank hints.disable.items)) && (has_name (text_at bank name) (texts_at bank hints.enable.items) || b)) (enabled_is bank name entries sound named stands)

pub enabled_told : (hints : Hints) (name : Sym) (entries : List Entry) (d e b : Bool) → d ≡ is_among name hints.disable.items → e ≡ is_among name hints.enable.items → b ≡ enabled_in name true entries →
    (not d && (e || b)) ≡ is_enabled_after hints name entries
enabled_told hints name entries d e b disabled enabled before =
    ap (λ x. not x && (e || b)) disabled ∙ ap (λ x. not (is_among name hints.disable.items) && (x || b)) enabled ∙ ap (λ x. not (is_among name hints.disable.items) && (is_among name hints.enable.items || x)) before

-- the names so far, and one more
pub past_more : (name : Sym) (ts : List Toggled) (i : ℕ) (d : Toggled) (before after : Bool) → i < length ts → after ≡ enabled_past name before (get_or ts i d) → enabled_by name after (drop (i + 1) ts) ≡ enabled_by name before (drop i ts)
past_more name ts i d before after low told =
    ap (λ b. enabled_by name b (drop (i + 1) ts)) told ∙ ap (λ n. enabled_by name (enabled_past name before (get_or ts i d)) (drop n ts)) (add-one i)
    ∙ sym (ap (enabled_by name before) (drop-cons ts i d low))

pub past_all : (name : Sym) (ts : List Toggled) (i : ℕ) (now : Bool) → length ts ≤ i → enabled_by name now (drop i ts) ≡ enabled_by name true ts → now ≡ enabled_by name true ts
past_all name ts i now past so_far = sym (ap (enabled_by name now) (drop_all i ts past)) ∙ so_far

-- the rule at an index: one whose event is enabled, one whose event is not, and none
module _ (hints : Hints) (entries : List Entry) (rs : List RuleRef) (at : ℕ) where
  found : (r : RuleRef) → at < length rs → r ≡ get_or rs at r → slice_get rs at ≡ Some r
  found r low is = here rs at low is
    where
      here : (xs : List RuleRef) (i : ℕ) → i < length xs → r ≡ get_or xs i r → slice_get xs i ≡ Some r
      here [] i h k = absurd (omega (arith, h))
      here (x ∷ xs) zero h k = sym (ap Some k)
      here (x ∷ xs) (suc i) h k = here xs i (omega (arith, h)) k

  pub enabled_rule : (r : RuleRef) (answer : Bool) → at < length rs → r ≡ get_or rs at r → answer ≡ is_enabled_after hints r.event entries → answer ≡ true → Some r ≡ if_enabled hints entries (slice_get rs at)
  enabled_rule r answer low is told so = sym (ap (if_enabled hints entries) (found r low is) ∙ ap (λ b. if b then Some r else None) (sym told ∙ so))

  pub disabled_rule : (r : RuleRef) (answer : Bool) → at < length rs → r ≡ get_or rs at r → answer ≡ is_enabled_after hints r.event entries → answer ≡ false → None ≡ if_enabled hints entries (slice_get rs at)
  disabled_rule r answer low is told so = sym (ap (if_enabled hints entries) (found r low is) ∙ ap (λ b. if b then Some r else None) (sym told ∙ so))

  pub no_rule : length rs ≤ at → None ≡ if_enabled hints entries (slice_get rs at)
  no_rule past = sym (ap (if_enabled hints entries) (slice_get_past rs at past))

-- what a table that was taught entries tells of names
pub taught_enabled : (table : Rules) (entries : List Entry) (name : Sym) → WasTaught table entries → enabled_by name true table.toggles.items ≡ enabled_in name true entries
taught_enabled table entries name taught = ap (enabled_by name true) (taught.holds.toggles ∙ ap (toggles_from 0) taught.are) ∙ enabled_from name true 0 entries
