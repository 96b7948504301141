-- What the rules make of the clauses that they cite.
use Rattle.std.specs.Prelude.{ℕ, List, [], ◌∷◌, ◌++◌, map, Option, Some, None}
use Rattle.nq_logic.specs.Terms.{Term, Substitution, substituted}
use Rattle.nq_logic.specs.Words.{not_term, if_term}
use Rattle.nq_proof.specs.Clauses.{Clause, without, distinct, literal_at, in_place}
use Rattle.nq_proof.specs.Paths.{in_argument, replaced_at, if_parts, under_two_nots}
use Rattle.nq_proof.specs.Rules.{Side, used_equation, given}

-- the clause, and then the terms
abbrev pub weaker_of : List Term → Clause → Clause
weaker_of ts c = distinct (c ++ ts)

-- the first without t, and then the second without the NOT of t
abbrev pub cut_of : Term → Clause → Clause → Clause
cut_of t c1 c2 = distinct (without t c1 ++ without (not_term t) c2)

-- the clause with terms in place of its variables
abbrev pub instance_of : Substitution → Clause → Clause
instance_of s c = distinct (map (substituted s) c)

-- the first without the NOT of p and x, the second without p and y, and then (IF p x y)
abbrev pub join_of : Term → Term → Term → Clause → Clause → Clause
join_of p x y c1 c2 = distinct (without (not_term p) (without x c1) ++ (without p (without y c2) ++ (if_term p x y ∷ [])))

-- the clause with these in the place of literal k, counted from 1
abbrev pub placed_of : ℕ → List Term → Clause → Clause
placed_of k these c = distinct (in_place k these c)

-- the term after a change, where there is one
abbrev pub second_or : Term → Option (Term × Term) → Term
second_or other None = other
second_or other (Some change) = change.1

-- the call with v as its argument at a place, counted from 1
abbrev pub with_argument : ℕ → Term → Term → Term
with_argument place v whole = second_or whole (in_argument place (λ u. Some (u, v)) whole)

-- the term with t at a path of argument places; where the path leads nowhere, the term itself
abbrev pub with_part : List ℕ → Term → Term → Term
with_part path t whole = second_or whole (replaced_at path t whole)

-- literal k with t at a path, and then the equation of what stood there and t, as a hypothesis; none where there is no
-- such place
abbrev pub replacement_of : ℕ → List ℕ → Term → Side → Clause → Option Clause
replacement_of k path t side c =
    given (literal_at k c) (λ a. given (replaced_at path t a) (λ change. Some (distinct (in_place k (change.1 ∷ []) c ++ (used_equation side change.0 t ∷ [])))))

-- literal k, an IF, replaced by the NOT of its test and its first branch
abbrev pub first_split_of : ℕ → Clause → Option Clause
first_split_of k c = given (literal_at k c) (λ a. given (if_parts a) (λ parts. Some (placed_of k (not_term parts.test ∷ parts.first ∷ []) c)))

-- literal k, an IF, replaced by its test and its second branch
abbrev pub second_split_of : ℕ → Clause → Option Clause
second_split_of k c = given (literal_at k c) (λ a. given (if_parts a) (λ parts. Some (placed_of k (parts.test ∷ parts.second ∷ []) c)))

-- literal k without its two NOTs
abbrev pub not_not_of : ℕ → Clause → Option Clause
not_not_of k c = given (literal_at k c) (λ a. given (under_two_nots a) (λ t. Some (placed_of k (t ∷ []) c)))
