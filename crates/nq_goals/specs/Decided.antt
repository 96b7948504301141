-- Lemmas that get an answer whatever the step limit.
use Rattle.std.specs.Prelude.{◌≡◌, ◌≤◌, ℕ, Bool, false, List, [], length, None}
use Rattle.nq_logic.specs.Terms.{Term, Variable, Each}
use Rattle.nq_logic.specs.Histories.{History}
use Rattle.nq_logic.specs.Shells.{either_of}
use Rattle.nq_proof.specs.Clauses.{distinct}
use Rattle.nq_fragments.specs.Tautologies.{IsSmallTautology, node_limit, other_limit}
use Rattle.nq_fragments.specs.Propositions.{proposition_of, nodes_in, others_in, truth_of}
use Rattle.nq_fragments.specs.Fragments.{IsInNoFragment}
use Rattle.nq_events.specs.Events.{Hints}
use Rattle.nq_goals.specs.declared.kinds.Cause.{Cause}
use Rattle.nq_goals.specs.Hints.{first_goal}
use Rattle.nq_goals.specs.Spent.{IsSpent}

-- A lemma in no fragment is hinted where the right nest of OR of the literals of its first goal is a small tautology.
pub record IsHinted (h : History) (hints : Hints) (lemma : Term) : Type 0 where
  pub outside : IsInNoFragment h lemma
  pub tautology : IsSmallTautology (either_of (first_goal h hints lemma))

-- no hint other than TIME
pub record HasNoHint (hints : Hints) : Type 0 where
  pub instances : hints.instances ≡ []
  pub enable : hints.enable ≡ []
  pub disable : hints.disable ≡ []
  pub expand : hints.expand ≡ []
  pub induct : hints.induct ≡ None
  pub hands_off : hints.hands_off ≡ []
  pub no_induct : hints.no_induct ≡ false
  pub no_generalize : hints.no_generalize ≡ false
  pub no_arith : hints.no_arith ≡ false

-- the term is a variable
pub record IsVariable (t : Term) : Type 0 where
  pub name : List ℕ
  pub is : t ≡ Variable name

-- The term is built as a small tautology is, its other terms all being variables, but is false for some truth of them.
pub record IsSmallFalsehood (t : Term) : Type 0 where
  pub few_nodes : nodes_in (proposition_of t) ≤ node_limit
  pub few_others : length (distinct (others_in (proposition_of t))) ≤ other_limit
  pub variables : Each IsVariable (others_in (proposition_of t))
  pub values : Term → Bool
  pub is_false : truth_of values (proposition_of t) ≡ false

-- how a lemma in no fragment is decided
pub data IsDecidedBy (h : History) (hints : Hints) (lemma : Term) : Type 0 where
  hinted : IsHinted h hints lemma → IsDecidedBy h hints lemma
  spent : (cause : Cause) → IsSpent h hints [] (first_goal h hints lemma) cause → IsDecidedBy h hints lemma
  false_proposition : HasNoHint hints → IsSmallFalsehood lemma → IsDecidedBy h hints lemma

-- A lemma in no fragment that is Proved or Failed whatever the step limit.
pub record IsDecided (h : History) (hints : Hints) (lemma : Term) : Type 0 where
  pub outside : IsInNoFragment h lemma
  pub by : IsDecidedBy h hints lemma
