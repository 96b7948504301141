-- Parts of terms, and the arguments of calls.
use Rattle.std.proofs.Common.{◌⊎◌, ℕ, zero, suc, List, [], ◌∷◌, ◌++◌, sym, subst, inl, inr}
use Rattle.nq_logic.specs.Terms.{Term, Variable, Function, Applied, Symbol, Takes, IsTerm, IsAmong, Each}
use Rattle.nq_logic.specs.RuleShapes.{inner_terms}
use Rattle.nq_logic.proofs.Lists.{among_left, among_right}
use Rattle.nq_events.specs.Inductions.{arguments_before, arguments_of}
use Rattle.nq_goals.specs.Replacing.{parts_in}

split_among : {X : Type 0} (P : Type 0) (x : X) (xs ys : List X) → (IsAmong x xs → P) → (IsAmong x ys → P) → IsAmong x (xs ++ ys) → P
split_among P x [] ys f g m = g m
split_among P x (z ∷ xs) ys f g (inl e) = f (inl e)
split_among P x (z ∷ xs) ys f g (inr m) = split_among P x xs ys (λ i. f (inr i)) g m

-- an argument stands in the call
in_arguments : (t : Term) (more : List Term) (a : Term) → IsAmong a (arguments_before t more) → IsAmong a (inner_terms t) ⊎ IsAmong a more
in_arguments (Variable x) more a m = inr m
in_arguments (Function f) more a m = inr m
in_arguments (Applied t u) more a m = by_place (in_arguments t (u ∷ more) a m)
  where
    by_place : IsAmong a (inner_terms t) ⊎ IsAmong a (u ∷ more) → IsAmong a (inner_terms t ++ (u ∷ inner_terms u)) ⊎ IsAmong a more
    by_place (inl i) = inl (among_left a (inner_terms t) (u ∷ inner_terms u) i)
    by_place (inr (inl e)) = inl (among_right a (inner_terms t) (u ∷ inner_terms u) (inl e))
    by_place (inr (inr i)) = inr i

pub argument_inside : (t a : Term) → IsAmong a (arguments_of t) → IsAmong a (inner_terms t)
argument_inside t a m = by_place (in_arguments t [] a m)
  where
    by_place : IsAmong a (inner_terms t) ⊎ IsAmong a [] → IsAmong a (inner_terms t)
    by_place (inl i) = i
    by_place (inr i) = absurd i

-- a part of a part
pub inside_inside : (t a u : Term) → IsAmong a (inner_terms t) → IsAmong u (inner_terms a) → IsAmong u (inner_terms t)
inside_inside (Variable x) a u m n = absurd m
inside_inside (Function f) a u m n = absurd m
inside_inside (Applied t v) a u m n =
    split_among (IsAmong u (inner_terms t ++ (v ∷ inner_terms v))) a (inner_terms t) (v ∷ inner_terms v)
    (λ i. among_left u (inner_terms t) (v ∷ inner_terms v) (inside_inside t a u i n)) (right (λ i. inside_inside v a u i n)) m
  where
    right : (IsAmong a (inner_terms v) → IsAmong u (inner_terms v)) → IsAmong a (v ∷ inner_terms v) → IsAmong u (inner_terms t ++ (v ∷ inner_terms v))
    right deeper (inl e) = among_right u (inner_terms t) (v ∷ inner_terms v) (inr (subst (λ (z : Term). IsAmong u (inner_terms z)) e n))
    right deeper (inr i) = among_right u (inner_terms t) (v ∷ inner_terms v) (inr (deeper i))

pub part_of_argument : (t a u : Term) → IsAmong a (arguments_of t) → IsAmong u (parts_in a) → IsAmong u (parts_in t)
part_of_argument t a u m (inl e) = inr (subst (λ (z : Term). IsAmong z (inner_terms t)) (sym e) (argument_inside t a m))
part_of_argument t a u m (inr i) = inr (inside_inside t a u (argument_inside t a m) i)

-- ---- symbols

module _ (symbols : List Symbol) where
  inner_over : (t u : Term) (n : ℕ) → Takes symbols t n → IsAmong u (inner_terms t) → IsTerm symbols u
  inner_over (Variable x) u n o m = absurd m
  inner_over (Function f) u n o m = absurd m
  inner_over (Applied t v) u n o m = split_among (IsTerm symbols u) u (inner_terms t) (v ∷ inner_terms v) (λ i. inner_over t u (suc n) o.0 i) (right (λ i. inner_over v u zero o.1 i)) m
    where
      right : (IsAmong u (inner_terms v) → IsTerm symbols u) → IsAmong u (v ∷ inner_terms v) → IsTerm symbols u
      right deeper (inl e) = subst (IsTerm symbols) (sym e) o.1
      right deeper (inr i) = deeper i

  pub part_over : (t u : Term) → IsTerm symbols t → IsAmong u (parts_in t) → IsTerm symbols u
  part_over t u o (inl e) = subst (IsTerm symbols) (sym e) o
  part_over t u o (inr i) = inner_over t u zero o i

  before_over : (t : Term) (n : ℕ) (more : List Term) → Takes symbols t n → Each (IsTerm symbols) more → Each (IsTerm symbols) (arguments_before t more)
  before_over (Variable x) n more o e = e
  before_over (Function f) n more o e = e
  before_over (Applied t u) n more o e = before_over t (suc n) (u ∷ more) o.0 (o.1, e)

  pub arguments_over : (t : Term) → IsTerm symbols t → Each (IsTerm symbols) (arguments_of t)
  arguments_over t o = before_over t zero [] o tt
