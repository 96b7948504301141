-- Terms without variables, and what is known of terms that were walked.
use Rattle.std.specs.Prelude.{◌≡◌, ◌&&◌, ℕ, nat_eq, Bool, true, false, Some}
use Rattle.std.specs.declared.hash.FoldHasher.{FoldHasher}
use Rattle.std.specs.declared.hash.BuildHasherDefault.{BuildHasherDefault}
use Rattle.std.specs.HashMap.{get, HashMap}
use Rattle.nq_logic.specs.Terms.{Term, Variable, Function, Applied}
use Rattle.nq_bank.specs.declared.node.TermId.{TermId}
use Rattle.nq_bank.specs.Content.{Content, term_at}

-- whether the term has no variable
abbrev pub is_ground : Term → Bool
is_ground (Variable x) = false
is_ground (Function f) = true
is_ground (Applied t u) = is_ground t && is_ground u

-- answers by the places of terms
abbrev pub Answers : Type 0
Answers = HashMap ℕ Bool (BuildHasherDefault FoldHasher)

-- each answer says whether the term is ground
pub record HasAnswers (bank : Content) (known : Answers) : Type 0 where
  pub right : (t : TermId) (answer : Bool) → get nat_eq known t.0 ≡ Some answer → answer ≡ is_ground (term_at bank t)
