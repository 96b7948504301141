-- What is among two lists.
use Rattle.std.proofs.Common.{List, [], ◌∷◌, ◌++◌, inl, inr}
use Rattle.std.specs.Prelude.{◌⊎◌}
use Rattle.nq_logic.specs.Terms.{IsAmong}

pub among_either : {X : Type 0} (p : X) (xs ys : List X) → IsAmong p (xs ++ ys) → IsAmong p xs ⊎ IsAmong p ys
among_either p [] ys m = inr m
among_either p (x ∷ xs) ys (inl e) = inl (inl e)
among_either p (x ∷ xs) ys (inr m) = elim (among_either p xs ys m) [ inl here ↦ inl (inr here) | inr there ↦ inr there ]

pub among_first : {X : Type 0} (p : X) (xs ys : List X) → IsAmong p xs → IsAmong p (xs ++ ys)
among_first p [] ys m = absurd m
among_first p (x ∷ xs) ys (inl e) = inl e
among_first p (x ∷ xs) ys (inr m) = inr (among_first p xs ys m)

pub among_second : {X : Type 0} (p : X) (xs ys : List X) → IsAmong p ys → IsAmong p (xs ++ ys)
among_second p [] ys m = m
among_second p (x ∷ xs) ys m = inr (among_second p xs ys m)
