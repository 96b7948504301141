-- What a table has learnt: nothing of the ground history, one more entry, and the first ones.
use Rattle.std.proofs.Common.{◌≡◌, ◌<◌, ◌≤◌, ◌+◌, ◌-◌, ℕ, suc, Bool, true, false, ◌&&◌, List, [], ◌∷◌, ◌++◌, length, take, get_or, refl, sym, ap, ◌∙◌, subst, arith}
use Rattle.std.specs.Prelude.{All}
use Rattle.std.specs.List.{filter}
use Rattle.std.proofs.lemmas.List.{get_or_past, take-map, take_all, take_more, map_push, length-map, length-take-le}
use Rattle.std.proofs.lemmas.List.Elements.{All-take, All-map, All-get_or}
use Rattle.std.proofs.lemmas.Bool.{and_parts}
use Rattle.nq_logic.specs.Histories.{Event, AddShell, Declaration, Defines, Axiom, Lemma, Toggle}
use Rattle.nq_logic.specs.Ground.{ground_history}
use Rattle.nq_bank.specs.declared.node.Sym.{Sym}
use Rattle.nq_bank.specs.Content.{Content}
use Rattle.nq_bank.proofs.Standing.{All-push}
use Rattle.nq_bank.proofs.Growth.{prefix_within}
use Rattle.nq_history.specs.declared.entry.EntryKind.{EntryKind}
use Rattle.nq_history.specs.declared.entry.EntryKind.TheVariants as kind
use Rattle.nq_history.specs.declared.entry.Entry.{Entry}
use Rattle.nq_history.specs.Events.{event_of, event_at, all_events_at, ground_length, EntryStands, HistoryStands}
use Rattle.nq_rule_table.specs.declared.rule.RuleRef.{RuleRef}
use Rattle.nq_rule_table.specs.declared.rule.Toggled.{Toggled}
use Rattle.nq_rule_table.specs.declared.table.Rules.{Rules}
use Rattle.nq_rule_table.specs.Rules.{kind_rules, entry_rules, kind_toggles, entry_toggles}
use Rattle.nq_rule_table.specs.Tables.{Learnt, HasStood, read_at, read_over, entry_of, entries_of, rules_about, toggles_from, rewrites_of, list_at, is_early, is_early_toggle, all_but_last, IsTableOf, HasLearnt, WasTaught}
use Rattle.nq_rule_table.proofs.RuleLemmas.{rules_about-push, toggles_from-push, rules_first, toggles_first}

-- an event that has no rules and toggles nothing
abbrev is_plain : Event → Bool
is_plain (AddShell s) = true
is_plain (Declaration f n) = true
is_plain (Defines d) = true
is_plain (Axiom n classes t) = false
is_plain (Lemma n classes t) = false
is_plain (Toggle n old disabled) = false

abbrev are_plain : List Event → Bool
are_plain [] = true
are_plain (e ∷ events) = is_plain e && are_plain events

plain_rules : (bank : Content) (f name : Sym) (place : ℕ) (k : EntryKind) → is_plain (event_of bank name k) ≡ true → kind_rules bank f name place k ≡ []
plain_rules bank f name place (kind.Shell shell) h = refl
plain_rules bank f name place (kind.Dcl n) h = refl
plain_rules bank f name place (kind.Defn formals body measure) h = refl
plain_rules bank f name place (kind.Axiom classes t) h = cc
plain_rules bank f name place (kind.Lemma classes t) h = cc
plain_rules bank f name place (kind.Toggle old disabled) h = cc

plain_toggles : (bank : Content) (name : Sym) (place : ℕ) (k : EntryKind) → is_plain (event_of bank name k) ≡ true → kind_toggles place k ≡ []
plain_toggles bank name place (kind.Shell shell) h = refl
plain_toggles bank name place (kind.Dcl n) h = refl
plain_toggles bank name place (kind.Defn formals body measure) h = refl
plain_toggles bank name place (kind.Axiom classes t) h = refl
plain_toggles bank name place (kind.Lemma classes t) h = refl
plain_toggles bank name place (kind.Toggle old disabled) h = cc

no_rules : (bank : Content) (f : Sym) (place : ℕ) (es : List Entry) → are_plain (all_events_at bank es) ≡ true → rules_about f place (read_over bank es) ≡ []
no_rules bank f place [] h = refl
no_rules bank f place (e ∷ es) h =
    let parts = and_parts (is_plain (event_at bank e)) (are_plain (all_events_at bank es)) h in
    ap (λ rs. rs ++ rules_about f (suc place) (read_over bank es)) (plain_rules bank f e.name place e.kind parts.0) ∙ no_rules bank f (suc place) es parts.1

no_toggles : (bank : Content) (place : ℕ) (es : List Entry) → are_plain (all_events_at bank es) ≡ true → toggles_from place es ≡ []
no_toggles bank place [] h = refl
no_toggles bank place (e ∷ es) h =
    let parts = and_parts (is_plain (event_at bank e)) (are_plain (all_events_at bank es)) h in
    ap (λ ts. ts ++ toggles_from (suc place) es) (plain_toggles bank e.name place e.kind parts.0) ∙ no_toggles bank (suc place) es parts.1

-- the entries that were read over a bank
pub read_back : (bank : Content) (es : List Entry) → entries_of (read_over bank es) ≡ es
read_back bank [] = refl
read_back bank (e ∷ es) = ap (λ l. e ∷ l) (read_back bank es)

abbrev no_lists : List (List RuleRef)
no_lists = []

pub ground_learnt : (bank : Content) (entries : List Entry) (table : Rules) → HistoryStands bank entries → table.lists.items ≡ [] → table.toggles.items ≡ [] → HasLearnt bank table (take ground_length entries)
ground_learnt bank entries table stands none nothing =
    let plain : are_plain (all_events_at bank (take ground_length entries)) ≡ true = ap are_plain (sym (take-map (event_at bank) ground_length entries) ∙ stands.ground) in
    record {
      rules = λ f. ap (λ ls. list_at ls f) none ∙ no_list f ∙ sym (no_rules bank f 0 (take ground_length entries) plain);
      toggles = nothing ∙ sym (ap (toggles_from 0) (read_back bank (take ground_length entries)) ∙ no_toggles bank 0 (take ground_length entries) plain);
    }
  where
    no_list : (f : Sym) → list_at [] f ≡ []
    no_list f = get_or_past no_lists f.0 [] (omega arith)

-- what was learnt over a bank was taught
pub was_taught : (bank : Content) (table : Rules) (entries : List Entry) → All (EntryStands bank) entries → HasLearnt bank table entries → WasTaught table entries
was_taught bank table entries stand learnt = record { learnt = read_over bank entries; are = read_back bank entries; stood = each entries stand; holds = learnt }
  where
    each : (es : List Entry) → All (EntryStands bank) es → All HasStood (read_over bank es)
    each es h = All-map HasStood (read_at bank) es h

-- one more entry
module _ (old new : Rules) (ls : List Learnt) (l : Learnt) (place : ℕ) (at : place ≡ length ls) where
  pub one_more : ((f : Sym) → rewrites_of new f ≡ rewrites_of old f ++ entry_rules l.bank f place l.entry) → new.toggles.items ≡ old.toggles.items ++ entry_toggles place l.entry → IsTableOf old ls → IsTableOf new (ls ++ l ∷ [])
  one_more rules toggles table =
      record {
        rules = λ f.
            rules f ∙ ap (λ rs. rs ++ entry_rules l.bank f place l.entry) (table.rules f) ∙ ap (λ n. rules_about f 0 ls ++ entry_rules l.bank f n l.entry) (at ∙ plain (length ls))
            ∙ sym (rules_about-push f 0 ls l);
        toggles =
            toggles ∙ ap (λ ts. ts ++ entry_toggles place l.entry) table.toggles ∙ ap (λ n. toggles_from 0 (entries_of ls) ++ entry_toggles n l.entry) (at ∙ sym (length-map ls entry_of) ∙ plain (length (entries_of ls)))
            ∙ sym (ap (toggles_from 0) (map_push entry_of ls l) ∙ toggles_from-push 0 (entries_of ls) l.entry);
      }
    where
      plain : (n : ℕ) → n ≡ 0 + n
      plain n = omega arith

-- the first entries
pub first_ones : (old new : Rules) (ls : List Learnt) (kept : ℕ) → ((f : Sym) → rewrites_of new f ≡ filter (is_early kept) (rewrites_of old f)) → new.toggles.items ≡ filter (is_early_toggle kept) old.toggles.items → IsTableOf old ls → IsTableOf new (take kept ls)
first_ones old new ls kept rules toggles table =
    record {
      rules = λ f. rules f ∙ ap (filter (is_early kept)) (table.rules f) ∙ rules_first kept f ls;
      toggles = toggles ∙ ap (filter (is_early_toggle kept)) table.toggles ∙ toggles_first kept (entries_of ls) ∙ ap (toggles_from 0) (take-map entry_of kept ls);
    }

-- a table with the same rules and the same names has learnt the same
pub same_table : (old new : Rules) (ls : List Learnt) → ((f : Sym) → rewrites_of new f ≡ rewrites_of old f) → new.toggles.items ≡ old.toggles.items → IsTableOf old ls → IsTableOf new ls
same_table old new ls rules toggles table = record { rules = λ f. rules f ∙ table.rules f; toggles = toggles ∙ table.toggles }

-- what was put for an entry at this place, and taken away again
pub taken_back : (old : Rules) (entries : List Entry) (place : ℕ) (mid new : Sym → List RuleRef) → WasTaught old entries → length entries ≡ place → ((f : Sym) → filter (is_early place) (mid f) ≡ filter (is_early place) (rewrites_of old f)) → ((f : Sym) → new f ≡ filter (is_early place) (mid f)) → (f : Sym) → new f ≡ rewrites_of old f
taken_back old entries place mid new taught long same kept f =
    let so_long : length taught.learnt ≡ place = sym (length-map taught.learnt entry_of) ∙ ap length taught.are ∙ long in
    kept f ∙ same f ∙ ap (filter (is_early place)) (taught.holds.rules f) ∙ rules_first place f taught.learnt
    ∙ ap (rules_about f 0) (take_all place taught.learnt (omega (arith, so_long))) ∙ sym (taught.holds.rules f)

toggles_back : (old : Rules) (entries : List Entry) (place : ℕ) → WasTaught old entries → length entries ≡ place → filter (is_early_toggle place) old.toggles.items ≡ old.toggles.items
toggles_back old entries place taught long =
    let so_long : length (entries_of taught.learnt) ≡ place = ap length taught.are ∙ long in
    ap (filter (is_early_toggle place)) taught.holds.toggles ∙ toggles_first place (entries_of taught.learnt)
    ∙ ap (toggles_from 0) (take_all place (entries_of taught.learnt) (omega (arith, so_long))) ∙ sym taught.holds.toggles

-- the last entry of a history
pub whole : (entries : List Entry) (d : Entry) → 0 < length entries → all_but_last entries ++ get_or entries (length entries - 1) d ∷ [] ≡ entries
whole entries d h =
    sym (take_more entries (length entries - 1) d (omega (arith, h))) ∙ take_all (length entries - 1 + 1) entries (omega (arith, h))

pub not_empty : (bank : Content) (entries : List Entry) → HistoryStands bank entries → 0 < length entries
not_empty bank entries stands =
    let within = prefix_within ground_history (all_events_at bank entries) stands.ground in
    let size = length-map entries (event_at bank) in
    omega (arith, within, size)

pub without_last : (entries : List Entry) → 0 < length entries → length (all_but_last entries) ≡ length entries - 1
without_last entries h = length-take-le (length entries - 1) entries (omega arith)

-- the last entry stands
pub last_within : (bank : Content) (entries : List Entry) (place : ℕ) → HistoryStands bank entries → place ≡ length entries - 1 → place < length entries
last_within bank entries place stands at = let some = not_empty bank entries stands in omega (arith, some, at)

pub last_stands : (bank : Content) (entries : List Entry) (place : ℕ) (e : Entry) → HistoryStands bank entries → place ≡ length entries - 1 → e ≡ get_or entries place e → EntryStands bank e
last_stands bank entries place e stands at is = subst (EntryStands bank) (sym is) (All-get_or (EntryStands bank) entries place e (last_within bank entries place stands at) stands.entries)

-- a history whose last entry is learnt
module _ (bank : Content) (old new : Rules) (entries : List Entry) (place : ℕ) (e : Entry) (stands : HistoryStands bank entries) (at : place ≡ length entries - 1) (is : e ≡ get_or entries place e)
    (rules : (f : Sym) → rewrites_of new f ≡ rewrites_of old f ++ entry_rules bank f place e) (toggles : new.toggles.items ≡ old.toggles.items ++ entry_toggles place e) where
  abbrev last : Learnt
  last = read_at bank e

  all : all_but_last entries ++ e ∷ [] ≡ entries
  all = ap (λ x. all_but_last entries ++ x ∷ []) (is ∙ ap (λ n. get_or entries n e) at) ∙ whole entries e (not_empty bank entries stands)

  before : place ≡ length (all_but_last entries)
  before = at ∙ sym (without_last entries (not_empty bank entries stands))

  pub last_learnt : HasLearnt bank old (all_but_last entries) → HasLearnt bank new entries
  last_learnt learnt =
      let IsSo : List Learnt → Type 0 = IsTableOf new in
      let long = before ∙ sym (length-map (all_but_last entries) (read_at bank)) in
      subst IsSo (sym (map_push (read_at bank) (all_but_last entries) e) ∙ ap (read_over bank) all)
      (one_more old new (read_over bank (all_but_last entries)) last place long rules toggles learnt)

  pub last_taught : WasTaught old (all_but_last entries) → WasTaught new entries
  last_taught taught =
      let long = before ∙ ap length (sym taught.are) ∙ length-map taught.learnt entry_of in
      record {
        learnt = taught.learnt ++ last ∷ [];
        are = map_push entry_of taught.learnt last ∙ ap (λ es. es ++ e ∷ []) taught.are ∙ all;
        stood = All-push HasStood taught.learnt last taught.stood (last_stands bank entries place e stands at is);
        holds = one_more old new taught.learnt last place long rules toggles taught.holds;
      }

-- a history whose last entry is not learnt, after some of its rules were put and taken away again
pub none_learnt : (bank : Content) (old new : Rules) (entries : List Entry) (place : ℕ) (mid : Sym → List RuleRef) → HistoryStands bank entries → place ≡ length entries - 1 → WasTaught old (all_but_last entries) →
    ((f : Sym) → filter (is_early place) (mid f) ≡ filter (is_early place) (rewrites_of old f)) → ((f : Sym) → rewrites_of new f ≡ filter (is_early place) (mid f)) → (names : List Toggled) → filter (is_early_toggle place) names ≡ filter (is_early_toggle place) old.toggles.items → new.toggles.items ≡ filter (is_early_toggle place) names → (ls : List Learnt) → IsTableOf old ls → IsTableOf new ls
none_learnt bank old new entries place mid stands at taught same kept names same_names kept_names ls table =
    let long = without_last entries (not_empty bank entries stands) ∙ sym at in
    same_table old new ls (taken_back old (all_but_last entries) place mid (rewrites_of new) taught long same kept) (kept_names ∙ same_names ∙ toggles_back old (all_but_last entries) place taught long) table

-- the first entries, over a bank, and as they were taught
pub first_learnt : (bank : Content) (old new : Rules) (entries : List Entry) (kept : ℕ) → ((ls : List Learnt) → IsTableOf old ls → IsTableOf new (take kept ls)) → HasLearnt bank old entries → HasLearnt bank new (take kept entries)
first_learnt bank old new entries kept first learnt =
    let IsSo : List Learnt → Type 0 = IsTableOf new in
    subst IsSo (take-map (read_at bank) kept entries) (first (read_over bank entries) learnt)

pub first_taught : (old new : Rules) (entries : List Entry) (kept : ℕ) → ((ls : List Learnt) → IsTableOf old ls → IsTableOf new (take kept ls)) → WasTaught old entries → WasTaught new (take kept entries)
first_taught old new entries kept first taught =
    record {
      learnt = take kept taught.learnt;
      are = sym (take-map entry_of kept taught.learnt) ∙ ap (take kept) taught.are;
      stood = All-take HasStood kept taught.learnt taught.stood;
      holds = first taught.learnt taught.holds;
    }

-- what is the same was taught as before
pub same_taught : (old new : Rules) (entries : List Entry) → ((ls : List Learnt) → IsTableOf old ls → IsTableOf new ls) → WasTaught old entries → WasTaught new entries
same_taught old new entries same taught = record { learnt = taught.learnt; are = taught.are; stood = taught.stood; holds = same taught.learnt taught.holds }

-- one entry more of a history that is learnt from its first on
module _ (bank : Content) (entries : List Entry) (place : ℕ) (e : Entry) (low : place < length entries) (is : e ≡ get_or entries place e) where
  next : take place entries ++ e ∷ [] ≡ take (place + 1) entries
  next = ap (λ x. take place entries ++ x ∷ []) is ∙ sym (take_more entries place e low)

  pub rules_more : (f : Sym) (old new : List RuleRef) → old ≡ rules_about f 0 (read_over bank (take place entries)) → new ≡ old ++ entry_rules bank f place e → new ≡ rules_about f 0 (read_over bank (take (place + 1) entries))
  rules_more f old new so_far more =
      let size = length-map (take place entries) (read_at bank) in
      let count = length-take-le place entries (omega (arith, low)) in
      let at : place ≡ 0 + length (read_over bank (take place entries)) = omega (arith, size, count) in
      more ∙ ap (λ rs. rs ++ entry_rules bank f place e) so_far
      ∙ ap (λ n. rules_about f 0 (read_over bank (take place entries)) ++ entry_rules bank f n e) at
      ∙ sym (rules_about-push f 0 (read_over bank (take place entries)) (read_at bank e))
      ∙ ap (rules_about f 0) (sym (map_push (read_at bank) (take place entries) e) ∙ ap (read_over bank) next)

  pub toggles_more : (old new : List Toggled) → old ≡ toggles_from 0 (take place entries) → new ≡ old ++ entry_toggles place e → new ≡ toggles_from 0 (take (place + 1) entries)
  toggles_more old new so_far more =
      let count = length-take-le place entries (omega (arith, low)) in
      let at : place ≡ 0 + length (take place entries) = omega (arith, count) in
      more ∙ ap (λ ts. ts ++ entry_toggles place e) so_far
      ∙ ap (λ n. toggles_from 0 (take place entries) ++ entry_toggles n e) at
      ∙ sym (toggles_from-push 0 (take place entries) e) ∙ ap (toggles_from 0) next

pub whole_learnt : (bank : Content) (entries : List Entry) (place : ℕ) (table : Rules) → length entries ≤ place → ((f : Sym) → rewrites_of table f ≡ rules_about f 0 (read_over bank (take place entries))) → table.toggles.items ≡ toggles_from 0 (take place entries) → HasLearnt bank table entries
whole_learnt bank entries place table past rules toggles =
    let all = take_all place entries past in
    record {
      rules = λ f. rules f ∙ ap (λ es. rules_about f 0 (read_over bank es)) all;
      toggles = toggles ∙ ap (toggles_from 0) (all ∙ sym (read_back bank entries));
    }
