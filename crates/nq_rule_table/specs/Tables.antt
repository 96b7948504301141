-- What a table has learnt.
use Rattle.std.specs.Prelude.{◌≡◌, ℕ, suc, ◌-◌, nat_lt, Bool, List, [], ◌∷◌, ◌++◌, length, map, take, slice_index_or, All, Vec}
use Rattle.nq_bank.specs.declared.node.Sym.{Sym}
use Rattle.nq_bank.specs.Content.{Content}
use Rattle.nq_history.specs.declared.entry.Entry.{Entry}
use Rattle.nq_history.specs.Events.{EntryStands}
use Rattle.std.specs.declared.alloc.Global.{Global}
use Rattle.nq_rule_table.specs.declared.rule.RuleRef.{RuleRef}
use Rattle.nq_rule_table.specs.declared.rule.Toggled.{Toggled}
use Rattle.nq_rule_table.specs.declared.table.Rules.{Rules}
use Rattle.nq_rule_table.specs.Rules.{entry_rules, entry_toggles}

-- an entry, with the bank over which it is read
pub record Learnt : Type 0 where
  pub bank : Content
  pub entry : Entry

-- an entry, read over this bank
abbrev pub read_at : Content → Entry → Learnt
read_at bank e = record { bank = bank; entry = e }

-- these entries, each read over this bank
abbrev pub read_over : Content → List Entry → List Learnt
read_over bank entries = map (read_at bank) entries

abbrev pub entry_of : Learnt → Entry
entry_of l = l.entry

abbrev pub entries_of : List Learnt → List Entry
entries_of learnt = map entry_of learnt

-- the entry stood in the bank
abbrev pub HasStood : Learnt → Type 0
HasStood l = EntryStands l.bank l.entry

-- the rules about f of entries, the first of which stands at this place: those of the oldest first
abbrev pub rules_about : Sym → ℕ → List Learnt → List RuleRef
rules_about f place [] = []
rules_about f place (l ∷ learnt) = entry_rules l.bank f place l.entry ++ rules_about f (suc place) learnt

-- the names that entries disable or enable, the first of which stands at this place
abbrev pub toggles_from : ℕ → List Entry → List Toggled
toggles_from place [] = []
toggles_from place (e ∷ entries) = entry_toggles place e ++ toggles_from (suc place) entries

-- the list of a function
abbrev pub list_at : List (Vec RuleRef Global) → Sym → List RuleRef
list_at lists f = slice_index_or (map (λ rules. rules.items) lists) f.0 []

-- the rules about f that a table has
abbrev pub rewrites_of : Rules → Sym → List RuleRef
rewrites_of table f = list_at table.lists.items f

-- the table has just the rules of these entries, each read over its bank, and the names that they disable or enable
pub record IsTableOf (table : Rules) (learnt : List Learnt) : Type 0 where
  pub rules : (f : Sym) → rewrites_of table f ≡ rules_about f 0 learnt
  pub toggles : table.toggles.items ≡ toggles_from 0 (entries_of learnt)

-- the table has learnt just these entries, over this bank
abbrev pub HasLearnt : Content → Rules → List Entry → Type 0
HasLearnt bank table entries = IsTableOf table (read_over bank entries)

-- the table has learnt just these entries, each over a bank in which it stood
pub record WasTaught (table : Rules) (entries : List Entry) : Type 0 where
  pub learnt : List Learnt
  pub are : entries_of learnt ≡ entries
  pub stood : All HasStood learnt
  pub holds : IsTableOf table learnt

-- all entries but the last
abbrev pub all_but_last : List Entry → List Entry
all_but_last entries = take (length entries - 1) entries

-- whether a rule is of one of the first entries, so many of them
abbrev pub is_early : ℕ → RuleRef → Bool
is_early count r = nat_lt r.place count

abbrev pub is_early_toggle : ℕ → Toggled → Bool
is_early_toggle count t = nat_lt t.place count
