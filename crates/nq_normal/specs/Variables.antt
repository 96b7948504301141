-- The variables that terms may have, and what is known of terms that were walked.
use Rattle.std.specs.Prelude.{◌≡◌, ℕ, Bool, nat_eq, List, [], Option, None, Some}
use Rattle.std.specs.HashMap.{get}
use Rattle.nq_logic.specs.Terms.{Name}
use Rattle.nq_logic.specs.Admissible.{has_variables}
use Rattle.nq_logic.specs.RuleShapes.{variables_of}
use Rattle.nq_bank.specs.declared.node.TermId.{TermId}
use Rattle.nq_bank.specs.Content.{Content, term_at}
use Rattle.nq_normal.specs.Sought.{Answers}

-- the owner's variables; without an owner there is none
abbrev pub owned : Content → Option TermId → List Name
owned bank None = []
owned bank (Some t) = variables_of (term_at bank t)

-- each answer says whether the variables of the term are all among the names
pub record HasOwn (bank : Content) (names : List (List ℕ)) (known : Answers) : Type 0 where
  pub right : (t : TermId) (answer : Bool) → get nat_eq known t.0 ≡ Some answer → answer ≡ has_variables names (term_at bank t)
