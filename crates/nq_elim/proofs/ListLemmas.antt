-- What holds of each of a list, and terms of ids.
use Rattle.std.proofs.Common.{◌≡◌, ◌<◌, ◌+◌, ℕ, zero, suc, List, [], ◌∷◌, ◌++◌, length, get_or, refl, inl, inr, arith}
use Rattle.std.specs.Prelude.{All}
use Rattle.nq_logic.specs.Terms.{IsAmong}
use Rattle.nq_bank.specs.declared.node.TermId.{TermId}
use Rattle.nq_bank.specs.Content.{Content, term_at, terms_at}
use Rattle.nq_bank.proofs.NodesLemmas.{All-head, All-tail}

module _ {X : Type 0} (P : X → Type 0) where
  pub all_none : All P []
  all_none = λ k d below. absurd (omega (arith, below))

  pub all_cons : (x : X) (xs : List X) → P x → All P xs → All P (x ∷ xs)
  all_cons x xs h k zero d below = h
  all_cons x xs h k (suc i) d below = k i d (omega (arith, below))

  pub all_append : (xs ys : List X) → All P xs → All P ys → All P (xs ++ ys)
  all_append [] ys h k = k
  all_append (x ∷ xs) ys h k = all_cons x (xs ++ ys) (All-head P x xs h) (all_append xs ys (All-tail P x xs h) k)

-- the term of an id is among those of the ids
pub member_among : (bank : Content) (ids : List TermId) (i : ℕ) (d : TermId) → i < length ids → IsAmong (term_at bank (get_or ids i d)) (terms_at bank ids)
member_among bank [] i d h = absurd (omega arith)
member_among bank (x ∷ ids) zero d h = inl refl
member_among bank (x ∷ ids) (suc i) d h = inr (member_among bank ids i d (omega arith))

-- what holds up to a place, one further
pub up_to_more : {X : Type 0} (P : X → Type 0) (xs : List X) (i : ℕ) (e : X) → i < length xs → ((k : ℕ) (d : X) → k < i → P (get_or xs k d)) → P (get_or xs i e) → (k : ℕ) (d : X) → k < i + 1 → P (get_or xs k d)
up_to_more P [] i e below h here k d past = absurd (omega (arith, below))
up_to_more P (x ∷ xs) zero e below h here zero d past = here
up_to_more P (x ∷ xs) zero e below h here (suc k) d past = absurd (omega (arith, past))
up_to_more P (x ∷ xs) (suc i) e below h here zero d past = h zero d (omega arith)
up_to_more P (x ∷ xs) (suc i) e below h here (suc k) d past = up_to_more P xs i e (omega (arith, below)) (λ j c less. h (suc j) c (omega (arith, less))) here k d (omega (arith, past))
