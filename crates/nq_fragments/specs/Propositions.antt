-- Terms as propositions: built by IF, NOT, AND, OR, IMPLIES, IFF, T and F over other terms.
use Rattle.std.specs.Prelude.{ℕ, ◌+◌, Bool, true, false, List, [], ◌∷◌, ◌++◌, Option, Some, None, bytes_eq, codes, if◌then◌else◌}
use Rattle.nq_logic.specs.Terms.{Term, Variable, Function, Applied}
use Rattle.nq_logic.specs.Shapes.{chosen}
use Rattle.nq_fragments.specs.declared.connective.Connective.{Connective}
use Rattle.nq_fragments.specs.declared.connective.Connective.TheVariants.{And, Or, Implies, Iff}

-- how a term is built over other terms
pub data Proposition : Type 0 where
  Other : (term : Term) → Proposition
  Truth : Proposition
  Falsity : Proposition
  Choice : (test first second : Proposition) → Proposition
  Denial : (denied : Proposition) → Proposition
  Joined : (connective : Connective) (left right : Proposition) → Proposition

-- the connective of this name
abbrev pub connective_of : List ℕ → Option Connective
connective_of f =
    if bytes_eq f (codes "AND") then Some And
    else if bytes_eq f (codes "OR") then Some Or
    else if bytes_eq f (codes "IMPLIES") then Some Implies
    else if bytes_eq f (codes "IFF") then Some Iff
    else None

-- a function without arguments
abbrev pub constant_of : List ℕ → Proposition
constant_of f =
    if bytes_eq f (codes "TRUE") then Truth
    else if bytes_eq f (codes "FALSE") then Falsity
    else Other (Function f)

abbrev pub joined_by : Option Connective → Term → Proposition → Proposition → Proposition
joined_by None whole p q = Other whole
joined_by (Some connective) whole p q = Joined connective p q

-- the proposition that a term is
unfoldable pub proposition_of : Term → Proposition
proposition_of (Variable x) = Other (Variable x)
proposition_of (Function f) = constant_of f
proposition_of (Applied (Variable z) p) = Other (Applied (Variable z) p)
proposition_of (Applied (Function f) p) = if bytes_eq f (codes "NOT") then Denial (proposition_of p) else Other (Applied (Function f) p)
proposition_of (Applied (Applied (Variable z) p) q) = Other (Applied (Applied (Variable z) p) q)
proposition_of (Applied (Applied (Function f) p) q) =
    joined_by (connective_of f) (Applied (Applied (Function f) p) q) (proposition_of p) (proposition_of q)
proposition_of (Applied (Applied (Applied (Function f) p) q) r) =
    if bytes_eq f (codes "IF") then Choice (proposition_of p) (proposition_of q) (proposition_of r)
    else Other (Applied (Applied (Applied (Function f) p) q) r)
proposition_of (Applied (Applied (Applied (Variable z) p) q) r) = Other (Applied (Applied (Applied (Variable z) p) q) r)
proposition_of (Applied (Applied (Applied (Applied t o) p) q) r) = Other (Applied (Applied (Applied (Applied t o) p) q) r)

-- how many nodes are IF, NOT, AND, OR, IMPLIES, IFF, T or F
abbrev pub nodes_in : Proposition → ℕ
nodes_in (Other t) = 0
nodes_in Truth = 1
nodes_in Falsity = 1
nodes_in (Choice p x y) = 1 + nodes_in p + nodes_in x + nodes_in y
nodes_in (Denial p) = 1 + nodes_in p
nodes_in (Joined connective p q) = 1 + nodes_in p + nodes_in q

-- the other terms, each as often as it stands there
abbrev pub others_in : Proposition → List Term
others_in (Other t) = t ∷ []
others_in Truth = []
others_in Falsity = []
others_in (Choice p x y) = others_in p ++ (others_in x ++ others_in y)
others_in (Denial p) = others_in p
others_in (Joined connective p q) = others_in p ++ others_in q

-- the truth of two propositions joined
abbrev pub joined_truth : Connective → Bool → Bool → Bool
joined_truth And p q = chosen p q false
joined_truth Or p q = chosen p true q
joined_truth Implies p q = chosen p q true
joined_truth Iff p q = chosen p q (chosen q false true)

-- whether the proposition is true where the other terms are as the values say
abbrev pub truth_of : (Term → Bool) → Proposition → Bool
truth_of values (Other t) = values t
truth_of values Truth = true
truth_of values Falsity = false
truth_of values (Choice p x y) = chosen (truth_of values p) (truth_of values x) (truth_of values y)
truth_of values (Denial p) = chosen (truth_of values p) false true
truth_of values (Joined connective p q) = joined_truth connective (truth_of values p) (truth_of values q)
