-- Calls in terms that suggest an induction, and what is known of terms that were walked.
use Rattle.std.specs.Prelude.{◌≡◌, ℕ, suc, Bool, nat_eq, Some}
use Rattle.std.specs.HashMap.{get}
use Rattle.std.specs.List.{list_any}
use Rattle.nq_logic.specs.Terms.{Term}
use Rattle.nq_logic.specs.Words.{numeral}
use Rattle.nq_logic.specs.Histories.{History}
use Rattle.nq_bank.specs.declared.node.TermId.{TermId}
use Rattle.nq_bank.specs.Content.{Content, term_at}
use Rattle.nq_events.specs.Inductions.{suggests_induction}
use Rattle.nq_goals.specs.Replacing.{parts_in}
use Rattle.nq_normal.specs.Sought.{Answers}
use Rattle.nq_normal.specs.declared.numerals.Numerals.{Numerals}

-- Some term that stands in the term, perhaps itself, suggests an induction.
unfoldable pub has_suggesting : History → Term → Bool
has_suggesting h t = list_any (suggests_induction h) (parts_in t)

-- whether 0 holds a call that suggests an induction, and whether the other numerals do
pub record NumeralsSuggest (h : History) (numerals : Numerals) : Type 0 where
  pub none : numerals.zero ≡ has_suggesting h (numeral 0)
  pub some : (n : ℕ) → numerals.others ≡ has_suggesting h (numeral (suc n))

-- each answer says whether such a term stands in the term
pub record HasSuggestions (bank : Content) (h : History) (known : Answers) : Type 0 where
  pub right : (t : TermId) (answer : Bool) → get nat_eq known t.0 ≡ Some answer → answer ≡ has_suggesting h (term_at bank t)
