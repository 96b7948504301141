-- The fragments in their order.
use Rattle.nq_logic.specs.Terms.{Term}
use Rattle.nq_logic.specs.Histories.{History}
use Rattle.nq_fragments.specs.Tautologies.{IsSmallTautology}
use Rattle.nq_fragments.specs.Evaluation.{HasTrueValue}
use Rattle.nq_fragments.specs.Instances.{IsEarlierInstance}

-- The second fragment holds the term, and the first does not: it is ground, and has a value other than F.
pub record IsFirstByEvaluation (h : History) (t : Term) : Type 0 where
  pub no_tautology : IsSmallTautology t → ⊥
  pub value : HasTrueValue h t

-- The third fragment holds the term, and the other two do not.
pub record IsFirstByInstance (h : History) (t : Term) : Type 0 where
  pub no_tautology : IsSmallTautology t → ⊥
  pub no_value : HasTrueValue h t → ⊥
  pub instance : IsEarlierInstance h t

-- none of the three fragments holds the term
pub record IsInNoFragment (h : History) (t : Term) : Type 0 where
  pub no_tautology : IsSmallTautology t → ⊥
  pub no_value : HasTrueValue h t → ⊥
  pub no_instance : IsEarlierInstance h t → ⊥
