-- What is looked for among the open occurrences of a term.
use Rattle.std.specs.Prelude.{◌≡◌, ℕ, nat_eq, Bool, List, Some}
use Rattle.std.specs.List.{list_any}
use Rattle.std.specs.declared.hash.FoldHasher.{FoldHasher}
use Rattle.std.specs.declared.hash.BuildHasherDefault.{BuildHasherDefault}
use Rattle.std.specs.HashMap.{get, HashMap}
use Rattle.nq_logic.specs.Terms.{Term}
use Rattle.nq_bank.specs.declared.node.TermId.{TermId}
use Rattle.nq_bank.specs.Content.{Content, Stands, term_at}
use Rattle.nq_history.specs.Events.{events_at, HistoryStands}
use Rattle.nq_history.specs.Hints.{HintsStand}
use Rattle.nq_history.specs.declared.entry.Entry.{Entry}
use Rattle.nq_history.specs.declared.hints.Hints.{Hints}
use Rattle.nq_goals.specs.Occurrences.{open_terms}
use Rattle.nq_goals.specs.Matching.{is_instance}
use Rattle.nq_normal.specs.declared.sought.Sought.{Sought}
use Rattle.nq_normal.specs.declared.sought.Sought.TheVariants.{Barred, Instance}
use Rattle.nq_normal.specs.Definitions.{hints_at}
use Rattle.nq_normal.specs.Barred.{is_barred}

-- whether a term is what is looked for
abbrev pub seeks : Content → Sought → Term → Bool
seeks bank (Barred history hints) t = is_barred (events_at bank history.now) (hints_at bank hints.now) t
seeks bank (Instance left) t = is_instance (term_at bank left) t

pub record UnderStands (bank : Content) (history : List Entry) (hints : Hints) : Type 0 where
  pub history_stands : HistoryStands bank history
  pub hints_stand : HintsStand bank hints

abbrev pub SoughtStands : Content → Sought → Type 0
SoughtStands bank (Barred history hints) = UnderStands bank history.now hints.now
SoughtStands bank (Instance left) = Stands bank left

-- whether some open occurrence of the term passes the test
unfoldable pub has_open : (Term → Bool) → Term → Bool
has_open test t = list_any test (open_terms t)

-- answers by the places of terms
abbrev pub Answers : Type 0
Answers = HashMap ℕ Bool (BuildHasherDefault FoldHasher)

-- each answer says whether the term has such an occurrence
pub record HasAnswers (bank : Content) (test : Term → Bool) (known : Answers) : Type 0 where
  pub right : (t : TermId) (answer : Bool) → get nat_eq known t.0 ≡ Some answer → answer ≡ has_open test (term_at bank t)
