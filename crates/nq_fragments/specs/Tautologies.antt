-- The terms that the first pass proves by TAUT.
use Rattle.std.specs.Prelude.{◌≡◌, ◌≤◌, ℕ, Bool, true, length}
use Rattle.nq_logic.specs.Terms.{Term}
use Rattle.nq_proof.specs.Clauses.{distinct}
use Rattle.nq_fragments.specs.Propositions.{proposition_of, nodes_in, others_in, truth_of}

-- the most nodes of IF, NOT, AND, OR, IMPLIES, IFF, T and F, and the most other terms
abbrev pub node_limit : ℕ
node_limit = 200

abbrev pub other_limit : ℕ
other_limit = 8

-- The term is built of IF, NOT, AND, OR, IMPLIES, IFF, T and F over few other terms, with few nodes of these, and is true
-- whatever the truth of the other terms is.
pub record IsSmallTautology (t : Term) : Type 0 where
  pub few_nodes : nodes_in (proposition_of t) ≤ node_limit
  pub few_others : length (distinct (others_in (proposition_of t))) ≤ other_limit
  pub always_true : (values : Term → Bool) → truth_of values (proposition_of t) ≡ true
