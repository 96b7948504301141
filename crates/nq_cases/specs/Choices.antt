-- IFs that are found in terms of a bank, and the terms with one of their branches in their place.
use Rattle.std.specs.Prelude.{◌≡◌, ◌≤◌, ◌<◌, ◌+◌, ◌==◌, ◌&&◌, ◌||◌, ◌⊎◌, ℕ, Bool, true, false, List, [], ◌∷◌, Some, None, length, bytes_eq, codes}
use Rattle.nq_logic.specs.Terms.{Name, Term, call}
use Rattle.nq_logic.specs.Words.{if_term}
use Rattle.nq_logic.specs.Numerals.{number_of}
use Rattle.nq_logic.specs.Sizes.{depth_of, depth_limit}
use Rattle.nq_bank.specs.declared.node.TermId.{TermId}
use Rattle.nq_bank.specs.Content.{Content, Stands, term_at}
use Rattle.nq_bank.specs.Parts.{parts_of}
use Rattle.nq_proof.specs.Clauses.{literal_at}
use Rattle.nq_proof.specs.Paths.{IfParts}
use Rattle.nq_rule.specs.declared.branching.Branches.{Branches}
use Rattle.nq_rule.specs.Branches.{BranchesStand}
use Rattle.nq_rule.specs.Places.{part_at}
use Rattle.nq_rule.specs.Results.{with_part}
use Rattle.nq_cases.specs.Paths.{paths_of, has_if, IsIfFree}
use Rattle.nq_cases.specs.Splits.{IsChoice}
use Rattle.nq_cases.specs.declared.finding.Inside.{Inside}
use Rattle.nq_cases.specs.declared.finding.Next.{Next}
use Rattle.nq_cases.specs.declared.finding.Next.TheVariants.{Free, Here, Within}
use Rattle.nq_cases.specs.declared.choosing.Choice.{Choice}

-- whether one of the terms has an IF
abbrev pub any_if : List Term → Bool
any_if [] = false
any_if (t ∷ ts) = has_if t || any_if ts

-- an argument of t with an IF
pub record IsInside (bank : Content) (t : TermId) (next : Inside) : Type 0 where
  pub stands : Stands bank next.argument
  pub earlier : next.argument.0 < t.0
  pub at : literal_at next.place (parts_of (term_at bank t)) ≡ Some (term_at bank next.argument)
  pub has : has_if (term_at bank next.argument) ≡ true

-- the term t is a call, and the argument is the test of an IF or an argument of another call
pub record IsOpen (t : Term) (place : ℕ) : Type 0 where
  pub head : Name
  pub is : t ≡ call head (parts_of t)
  pub plain : number_of t ≡ None
  pub place_is : (place ≡ 1) ⊎ ((bytes_eq head (codes "IF") && (length (parts_of t) == 3)) ≡ false)

-- t is an IF of these parts, and its test has none
pub record IsHere (bank : Content) (t : Term) (b : Branches) : Type 0 where
  pub stand : BranchesStand bank b
  pub is : t ≡ if_term (term_at bank b.test) (term_at bank b.first) (term_at bank b.second)
  pub free : IsIfFree (term_at bank b.test)

-- t, a call of these three arguments, whose first has no IF
pub record IsFreeTest (bank : Content) (t : Term) (b : Branches) : Type 0 where
  pub stand : BranchesStand bank b
  pub are : parts_of t ≡ term_at bank b.test ∷ term_at bank b.first ∷ term_at bank b.second ∷ []
  pub free : IsIfFree (term_at bank b.test)

-- where to look in t, which is an IF
abbrev pub IsNextOfIf : Content → TermId → Next → Type 0
IsNextOfIf bank t Free = ⊥
IsNextOfIf bank t (Here b) = IsFreeTest bank (term_at bank t) b
IsNextOfIf bank t (Within next) = IsInside bank t next × (next.place ≡ 1)

-- where to look in t, which is another call
abbrev pub IsNextOfCall : Content → TermId → Next → Type 0
IsNextOfCall bank t Free = any_if (parts_of (term_at bank t)) ≡ false
IsNextOfCall bank t (Here b) = ⊥
IsNextOfCall bank t (Within next) = IsInside bank t next

-- where to look for an IF in t
abbrev pub IsNext : Content → TermId → Next → Type 0
IsNext bank t Free = IsIfFree (term_at bank t)
IsNext bank t (Here b) = IsHere bank (term_at bank t) b
IsNext bank t (Within next) = IsInside bank t next × IsOpen (term_at bank t) next.place

-- An IF of these parts stands at the path in t, and its test has none. With a branch in its place the term has no more paths
-- and is no deeper; the test is less deep than t.
pub record IsFound (path : List ℕ) (parts : IfParts) (t : Term) : Type 0 where
  pub at : part_at path t ≡ Some (if_term parts.test parts.first parts.second)
  pub free : IsIfFree parts.test
  pub no_more : paths_of (with_part path parts.first t) + paths_of (with_part path parts.second t) ≤ paths_of t
  pub first_depth : depth_of (with_part path parts.first t) ≤ depth_of t
  pub second_depth : depth_of (with_part path parts.second t) ≤ depth_of t
  pub test_depth : depth_of parts.test < depth_of t

-- the parts of a choice
abbrev pub parts_at : Content → Choice → IfParts
parts_at bank c = record { test = term_at bank c.test; first = term_at bank c.first_branch; second = term_at bank c.second_branch }

-- the choice is an IF that was found in t
pub record ChoiceIn (bank : Content) (t : Term) (c : Choice) : Type 0 where
  pub whole : Stands bank c.whole
  pub test : Stands bank c.test
  pub first_branch : Stands bank c.first_branch
  pub second_branch : Stands bank c.second_branch
  pub first : Stands bank c.first
  pub second : Stands bank c.second
  pub denotes : term_at bank c.whole ≡ if_term (term_at bank c.test) (term_at bank c.first_branch) (term_at bank c.second_branch)
  pub found : IsFound c.path.items (parts_at bank c) t
  pub first_is : term_at bank c.first ≡ with_part c.path.items (term_at bank c.first_branch) t
  pub second_is : term_at bank c.second ≡ with_part c.path.items (term_at bank c.second_branch) t

-- the choice is one of t, over the bank
pub record ChoiceOf (bank : Content) (t : Term) (c : Choice) : Type 0 where
  pub whole : Stands bank c.whole
  pub test : Stands bank c.test
  pub first_branch : Stands bank c.first_branch
  pub second_branch : Stands bank c.second_branch
  pub first : Stands bank c.first
  pub second : Stands bank c.second
  pub denotes : term_at bank c.whole ≡ if_term (term_at bank c.test) (term_at bank c.first_branch) (term_at bank c.second_branch)
  pub choice : IsChoice t c.path.items (parts_at bank c) (term_at bank c.first) (term_at bank c.second)
  pub test_depth : depth_of (term_at bank c.test) < depth_limit
