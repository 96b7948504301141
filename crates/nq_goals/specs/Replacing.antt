-- Where a term stands in another one, and terms in its place.
use Rattle.std.specs.Prelude.{◌≡◌, ◌⊎◌, Bool, true, false, ◌||◌, List, [], ◌∷◌, ◌++◌, ⊤}
use Rattle.nq_logic.specs.Terms.{Term, Variable, Function, Applied}
use Rattle.nq_logic.specs.RuleShapes.{inner_terms}
use Rattle.nq_proof.specs.Clauses.{Clause, same_term}

-- a term, and the terms that stand in it
abbrev pub parts_in : Term → List Term
parts_in t = t ∷ inner_terms t

-- all terms that stand in the literals, each as often as it stands there
abbrev pub parts_in_all : Clause → List Term
parts_in_all [] = []
parts_in_all (t ∷ c) = parts_in t ++ parts_in_all c

-- whether a stands within the arguments of t
abbrev pub stands_within : Term → Term → Bool
stands_within a (Variable x) = false
stands_within a (Function f) = false
stands_within a (Applied t u) = stands_within a t || (same_term a u || stands_within a u)

-- whether a is t or stands in it
abbrev pub stands_in : Term → Term → Bool
stands_in a t = same_term a t || stands_within a t

abbrev pub stands_in_one : Term → Clause → Bool
stands_in_one a [] = false
stands_in_one a (t ∷ c) = stands_in a t || stands_in_one a c

-- a term is u, or it is a and u is b
abbrev pub Swapped : Term → Term → Term → Term → Type 0
Swapped a b t u = (t ≡ a) × (u ≡ b)

-- u is t with b in the place of a, at some places within its arguments, or at none
abbrev pub IsReplacedWithin : Term → Term → Term → Term → Type 0
IsReplacedWithin a b (Variable x) u = Variable x ≡ u
IsReplacedWithin a b (Function f) u = Function f ≡ u
IsReplacedWithin a b (Applied t s) (Variable x) = ⊥
IsReplacedWithin a b (Applied t s) (Function f) = ⊥
IsReplacedWithin a b (Applied t s) (Applied v w) = IsReplacedWithin a b t v × (Swapped a b s w ⊎ IsReplacedWithin a b s w)

-- u is t with b in the place of a, at some places or at none
abbrev pub IsReplaced : Term → Term → Term → Term → Type 0
IsReplaced a b t u = Swapped a b t u ⊎ IsReplacedWithin a b t u

-- the same, at one place within its arguments at least
abbrev pub IsReplacedOnceWithin : Term → Term → Term → Term → Type 0
IsReplacedOnceWithin a b (Variable x) u = ⊥
IsReplacedOnceWithin a b (Function f) u = ⊥
IsReplacedOnceWithin a b (Applied t s) (Variable x) = ⊥
IsReplacedOnceWithin a b (Applied t s) (Function f) = ⊥
IsReplacedOnceWithin a b (Applied t s) (Applied v w) =
    (IsReplacedOnceWithin a b t v × IsReplaced a b s w) ⊎ (IsReplacedWithin a b t v × (Swapped a b s w ⊎ IsReplacedOnceWithin a b s w))

-- the same, at one place at least
abbrev pub IsReplacedOnce : Term → Term → Term → Term → Type 0
IsReplacedOnce a b t u = Swapped a b t u ⊎ IsReplacedOnceWithin a b t u

-- each term of the second list is that of the first with b in the place of a, at some places or at none
abbrev pub AreReplaced : Term → Term → List Term → List Term → Type 0
AreReplaced a b [] [] = ⊤
AreReplaced a b [] (u ∷ d) = ⊥
AreReplaced a b (t ∷ c) [] = ⊥
AreReplaced a b (t ∷ c) (u ∷ d) = IsReplaced a b t u × AreReplaced a b c d

-- the same, at one place in one of them at least
abbrev pub AreReplacedOnce : Term → Term → List Term → List Term → Type 0
AreReplacedOnce a b [] d = ⊥
AreReplacedOnce a b (t ∷ c) [] = ⊥
AreReplacedOnce a b (t ∷ c) (u ∷ d) = (IsReplacedOnce a b t u × AreReplaced a b c d) ⊎ (IsReplaced a b t u × AreReplacedOnce a b c d)

-- terms and what stands in their places
abbrev pub Exchange : Type 0
Exchange = List (Term × Term)

-- what stands in the place of a term, if it is exchanged, or else what the term becomes
abbrev pub exchanged_for : Exchange → Term → Term → Term
exchanged_for [] t other = other
exchanged_for (e ∷ es) t other = elim (same_term e.0 t) as (λ b. Term) [ true ↦ e.1 | false ↦ exchanged_for es t other ]

-- the term with its arguments exchanged, from the outside in
abbrev pub exchanged_within : Exchange → Term → Term
exchanged_within es (Variable x) = Variable x
exchanged_within es (Function f) = Function f
exchanged_within es (Applied t u) = Applied (exchanged_within es t) (exchanged_for es u (exchanged_within es u))

-- the term with terms in the places of others everywhere, of which those count that stand in no other such place
abbrev pub exchanged : Exchange → Term → Term
exchanged es t = exchanged_for es t (exchanged_within es t)
