-- Types that lines show.
use Rattle.std.specs.Prelude.{◌≡◌, ◌<◌, ℕ, true, length, get_or, List, [], ◌∷◌, ◌++◌, slice_get, Some, nat_eq}
use Rattle.std.specs.List.{list_any}
use Rattle.nq_bank.specs.declared.node.TermId.{TermId}
use Rattle.nq_bank.specs.Content.{Content, term_at}
use Rattle.nq_logic.specs.Terms.{Term, Name, IsAmong}
use Rattle.nq_logic.specs.Histories.{History}
use Rattle.nq_kernel.specs.declared.work.Work.{Work}
use Rattle.nq_lines.specs.Lines.{LineHasOnly}
use Rattle.nq_types.specs.declared.sets.TypeSet.{TypeSet}
use Rattle.nq_types.specs.TypeSets.{IsOneBit, is_in, members, recognizers, recognized_by, facts, denials}
use Rattle.nq_types.specs.Kinds.{IsOfKind}

-- line n has only that the recognizer at a bit holds of t
abbrev pub IsRecognized : History → Work → Term → ℕ → ℕ → Type 0
IsRecognized h work t bit n = (r : Name) → slice_get (recognizers h) bit ≡ Some r → LineHasOnly work n (recognized_by r t ∷ [])

-- the line has only the fact of the set and denials of what is assumed
abbrev pub IsShown : History → Work → List Term → Term → TypeSet × ℕ → Type 0
IsShown h work assumed t r = LineHasOnly work r.1 (facts h r.0.0 t ++ denials assumed)

-- of a term that is T, F, a base or a call of a constructor the set is the one bit of its recognizer
abbrev pub IsExact : History → Term → TypeSet × ℕ → Type 0
IsExact h t r = (k : ℕ) → IsOfKind h t k → IsOneBit r.0.0 k

-- the set is the one bit of the term's kind, with the line that shows it
pub record IsKnown (h : History) (work : Work) (t : Term) (r : TypeSet × ℕ) : Type 0 where
  pub bit : ℕ
  pub kind : IsOfKind h t bit
  pub set : IsOneBit r.0.0 bit
  pub line : IsRecognized h work t bit r.1

-- the ids are one, which is among others
pub record IsOneAmong (found ids : List TermId) : Type 0 where
  pub one : TermId
  pub is : found ≡ one ∷ []
  pub there : list_any (λ u. nat_eq u.0 one.0) ids ≡ true

-- the recognizer has a bit, which is in the set
pub record IsRecognizerIn (h : History) (set : ℕ) (r : Name) : Type 0 where
  pub place : ℕ
  pub at : slice_get (recognizers h) place ≡ Some r
  pub has : is_in set place ≡ true

-- the literals that a line of a set without other objects may have
abbrev pub allowed_literals : History → ℕ → List Term → Term → List Term
allowed_literals h set assumed t = members (is_in set) 0 (recognizers h) t ++ denials assumed

-- the term is one of these literals
pub record IsAllowed (bank : Content) (literals : List Term) (t : TermId) : Type 0 where
  pub there : IsAmong (term_at bank t) literals

-- each of the ids is one
abbrev pub AreAllowed : Content → List Term → List TermId → Type 0
AreAllowed bank literals ids = (k : ℕ) (d : TermId) → k < length ids → IsAllowed bank literals (get_or ids k d)
