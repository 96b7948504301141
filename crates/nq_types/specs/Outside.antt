-- What a term is not, as one literal.
use Rattle.std.specs.Prelude.{◌≡◌, ◌<◌, ℕ, List, [], ◌∷◌, Some, drop, slice_get}
use Rattle.nq_bank.specs.declared.node.TermId.{TermId}
use Rattle.nq_bank.specs.Content.{Content, term_at}
use Rattle.nq_logic.specs.Terms.{Name, Term}
use Rattle.nq_logic.specs.Words.{and_term, not_term}
use Rattle.nq_logic.specs.Histories.{History}
use Rattle.nq_types.specs.declared.outside.Both.{Both}
use Rattle.nq_types.specs.TypeSets.{all_of, is_in, outsiders, recognized_by, recognizers}

-- the term is the AND of these, the second of which stands before it
pub record HasBoth (bank : Content) (t : TermId) (both : Both) : Type 0 where
  pub whole : term_at bank t ≡ and_term (term_at bank both.first) (term_at bank both.rest)
  pub first : both.first.0 < t.0
  pub rest : both.rest.0 < t.0

-- the recognizer at a bit has this name
abbrev pub IsNameAt : History → ℕ → Name → Type 0
IsNameAt h place f = slice_get (recognizers h) place ≡ Some f

-- u is the recognizer at a bit, of t
pub record IsRecognizerAt (h : History) (place : ℕ) (t u : Term) : Type 0 where
  pub name : Name
  pub at : slice_get (recognizers h) place ≡ Some name
  pub is : u ≡ recognized_by name t

-- these are one term, which is so
pub record IsOneRecognizer (h : History) (place : ℕ) (t : Term) (these : List Term) : Type 0 where
  pub one : Term
  pub only : these ≡ one ∷ []
  pub recognizes : IsRecognizerAt h place t one

-- u is the NOT of that
pub record IsOutsiderAt (h : History) (place : ℕ) (t u : Term) : Type 0 where
  pub name : Name
  pub at : slice_get (recognizers h) place ≡ Some name
  pub is : u ≡ not_term (recognized_by name t)

-- u is the right nest of AND of these, of which there is one
pub record IsNest (these : List Term) (u : Term) : Type 0 where
  pub first : Term
  pub more : List Term
  pub some : these ≡ first ∷ more
  pub is : u ≡ all_of these

-- u says that t is none of the recognizers outside the set from a bit on, and there is one
abbrev pub IsRest : History → ℕ → ℕ → Term → Term → Type 0
IsRest h set from t u = IsNest (outsiders (is_in set) from (drop from (recognizers h)) t) u
