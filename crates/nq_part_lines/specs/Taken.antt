-- Laws of what an accessor takes from an object just made, at terms.
use Rattle.std.specs.Prelude.{List, [], ◌∷◌}
use Rattle.nq_logic.specs.Terms.{Term}
use Rattle.nq_logic.specs.Words.{call1, call2, not_term, equal_term, if_term, zero_term, add1_term}
use Rattle.nq_arith.specs.Nests.{is_smaller}

-- a is smaller than b, where y holds, a is x, and the size of b is one more than z, of which the size of x where y holds, and
-- else 0, is a summand
abbrev pub allowed_literals : Term → Term → Term → Term → Term → List Term
allowed_literals a b x y z =
    not_term y
    ∷ is_smaller a b
    ∷ not_term (call2 "LESSP" (if_term y (call1 "COUNT" x) zero_term) (add1_term z))
    ∷ not_term (equal_term (call1 "COUNT" b) (add1_term z))
    ∷ not_term (equal_term a x)
    ∷ []

-- a is smaller than b, where a is x, the size of x is 0, and the size of b is one more than z
abbrev pub base_literals : Term → Term → Term → Term → List Term
base_literals a b x z =
    is_smaller a b ∷ not_term (equal_term (call1 "COUNT" x) zero_term) ∷ not_term (equal_term (call1 "COUNT" b) (add1_term z)) ∷ not_term (equal_term a x) ∷ []
