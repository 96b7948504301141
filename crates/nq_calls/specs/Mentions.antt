-- Where a function stands, and what is known of it while terms are walked.
use Rattle.std.specs.Prelude.{◌≡◌, ℕ, nat_eq, Bool, false, ◌||◌, Some, List, [], ◌∷◌, bytes_eq, codes}
use Rattle.std.specs.declared.hash.FoldHasher.{FoldHasher}
use Rattle.std.specs.declared.hash.BuildHasherDefault.{BuildHasherDefault}
use Rattle.std.specs.HashMap.{get, HashMap}
use Rattle.nq_logic.specs.Terms.{Name, Term}
use Rattle.nq_logic.specs.Admissible.{mentions}
use Rattle.nq_bank.specs.declared.node.TermId.{TermId}
use Rattle.nq_bank.specs.Content.{Content, term_at}

-- whether the function stands in one of the terms
abbrev pub is_mentioned : Name → List Term → Bool
is_mentioned f [] = false
is_mentioned f (t ∷ ts) = mentions f t || is_mentioned f ts

-- answers by the places of terms
abbrev pub Answers : Type 0
Answers = HashMap ℕ Bool (BuildHasherDefault FoldHasher)

-- each answer says whether the function stands in the term
pub record HasMentions (bank : Content) (f : List ℕ) (known : Answers) : Type 0 where
  pub right : (t : TermId) (answer : Bool) → get nat_eq known t.0 ≡ Some answer → answer ≡ mentions f (term_at bank t)

-- The name is none of those that stand in numerals and in denials. A name that is not in use is apart from them.
pub record IsApart (f : Name) : Type 0 where
  pub zero_apart : bytes_eq f (codes "ZERO") ≡ false
  pub add1_apart : bytes_eq f (codes "ADD1") ≡ false
  pub not_apart : bytes_eq f (codes "NOT") ≡ false
