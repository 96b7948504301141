-- What is known of terms that were met.
use Rattle.std.specs.Prelude.{◌≡◌, ℕ, nat_eq, Bool, Some}
use Rattle.std.specs.declared.hash.FoldHasher.{FoldHasher}
use Rattle.std.specs.declared.hash.BuildHasherDefault.{BuildHasherDefault}
use Rattle.std.specs.HashMap.{get, HashMap}
use Rattle.nq_bank.specs.declared.node.TermId.{TermId}
use Rattle.nq_bank.specs.Content.{Content, term_at}
use Rattle.nq_print.specs.Pieces.{is_object}

-- answers by the places of terms
abbrev pub Answers : Type 0
Answers = HashMap ℕ Bool (BuildHasherDefault FoldHasher)

-- each answer says whether the term is an object
pub record HasAnswers (bank : Content) (known : Answers) : Type 0 where
  pub right : (t : TermId) (answer : Bool) → get nat_eq known t.0 ≡ Some answer → answer ≡ is_object (term_at bank t)
