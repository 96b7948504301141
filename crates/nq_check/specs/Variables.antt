-- What is known of the variables of terms that were walked.
use Rattle.std.specs.Prelude.{◌≡◌, ℕ, nat_eq, Bool, Some, List}
use Rattle.std.specs.declared.hash.FoldHasher.{FoldHasher}
use Rattle.std.specs.declared.hash.BuildHasherDefault.{BuildHasherDefault}
use Rattle.std.specs.HashMap.{get, HashMap}
use Rattle.nq_logic.specs.Terms.{Name}
use Rattle.nq_logic.specs.Admissible.{has_variables}
use Rattle.nq_bank.specs.declared.node.TermId.{TermId}
use Rattle.nq_bank.specs.Content.{Content, term_at}

-- answers by the places of terms
abbrev pub Answers : Type 0
Answers = HashMap ℕ Bool (BuildHasherDefault FoldHasher)

-- each answer says whether the term's variables are among the names
pub record HasAnswers (bank : Content) (xs : List Name) (known : Answers) : Type 0 where
  pub right : (t : TermId) (answer : Bool) → get nat_eq known t.0 ≡ Some answer → answer ≡ has_variables xs (term_at bank t)
