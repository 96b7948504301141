-- Numbers of terms: each names its term in the block, also after more terms.
use Rattle.std.proofs.Common.{◌≡◌, ℕ, zero, suc, Bool, true, false, cond, ◌+◌, ◌^◌, ◌≤◌, ◌<◌, Option, Some, None, List, [], ◌∷◌, ◌++◌, length, map, refl, sym, subst, inl, inr, add-one, arith}
use Rattle.std.specs.Prelude.{nat_eq, slice_get, IsSome, unwrap_or, All}
use Rattle.std.specs.HashMap.{get, Updates}
use Rattle.std.proofs.lemmas.Option.{slice_get_within}
use Rattle.nq_logic.specs.Terms.{Term, Each}
use Rattle.nq_bank.specs.declared.node.TermId.{TermId}
use Rattle.nq_bank.specs.Content.{Content, terms_at}
use Rattle.nq_bank.proofs.NodesLemmas.{All-head, All-tail}
use Rattle.nq_clause.proofs.Lookups.{kept_or_stood}
use Rattle.nq_log.specs.States.{CaseLine, numbered, terms_at as block_terms_at}
use Rattle.nq_block.specs.Writing.{Numbers, Frame, block_of, AreNumbers, term_of, number_in}

at_end : {X : Type 0} (xs : List X) (x : X) → slice_get (xs ++ x ∷ []) (length xs) ≡ Some x
at_end [] x = refl
at_end (y ∷ xs) x = at_end xs x

pub numbered_last : {X : Type 0} (xs : List X) (x : X) → numbered (xs ++ x ∷ []) (length xs + 1) ≡ Some x
numbered_last xs x = rw (add-one (length xs)) (at_end xs x)

kept_at : {X : Type 0} (xs ys : List X) (k : ℕ) (x : X) → slice_get xs k ≡ Some x → slice_get (xs ++ ys) k ≡ Some x
kept_at [] ys k x e = absurd cc
kept_at (y ∷ xs) ys zero x e = e
kept_at (y ∷ xs) ys (suc k) x e = kept_at xs ys k x e

pub numbered_kept : {X : Type 0} (xs ys : List X) (n : ℕ) (x : X) → numbered xs n ≡ Some x → numbered (xs ++ ys) n ≡ Some x
numbered_kept xs ys zero x e = absurd cc
numbered_kept xs ys (suc n) x e = kept_at xs ys n x e

pub numbered_within : {X : Type 0} (xs : List X) (n : ℕ) (x : X) → numbered xs n ≡ Some x → n ≤ length xs
numbered_within xs zero x e = absurd cc
numbered_within xs (suc n) x e = let within : n < length xs = slice_get_within xs n x e in omega (arith, within)

pub numbers_kept : (meaning : ℕ → Term) (terms more : List Term) (known : Numbers) → AreNumbers meaning terms known → AreNumbers meaning (terms ++ more) known
numbers_kept meaning terms more known w = record { right = λ k n found. numbered_kept terms more n (meaning k) (w.right k n found) }

pub number_added : (meaning : ℕ → Term) (terms : List Term) (old new : Numbers) (k n : ℕ) → AreNumbers meaning terms old → Updates nat_eq old new k (Some n) → numbered terms n ≡ Some (meaning k) → AreNumbers meaning terms new
number_added meaning terms old new k n w updates here =
    record {
      right = λ q m found.
          elim (kept_or_stood old new k q n m updates found) [
            | inl same ↦ subst (λ r. numbered terms m ≡ Some (meaning r)) same.0 (subst (λ r. numbered terms r ≡ Some (meaning k)) same.1 here)
            | inr stood ↦ w.right q m stood
          ];
    }

some_is : {X : Type 0} (o : Option X) (x : X) → o ≡ Some x → IsSome o
some_is None x e = absurd cc
some_is (Some y) x e = refl

pub written_added : (old new : Numbers) (k n : ℕ) → Updates nat_eq old new k (Some n) → IsSome (get nat_eq new k)
written_added old new k n updates = some_is (get nat_eq new k) n updates.1

-- what has a number has one after an update
pub written_kept : (old new : Numbers) (k n q : ℕ) → Updates nat_eq old new k (Some n) → IsSome (get nat_eq old q) → IsSome (get nat_eq new q)
written_kept old new k n q updates written = subst IsSome (sym (updates.0 q)) (either (nat_eq k q))
  where
    either : (b : Bool) → IsSome (cond b (Some n) (get nat_eq old q))
    either true = refl
    either false = written

pub number_is : (known : Numbers) (k : ℕ) → IsSome (get nat_eq known k) → get nat_eq known k ≡ Some (number_in known k)
number_is known k written = by_found (get nat_eq known k) written
  where
    by_found : (o : Option ℕ) → IsSome o → o ≡ Some (unwrap_or o 0)
    by_found None w = absurd cc
    by_found (Some n) w = refl

pub number_found : (meaning : ℕ → Term) (terms : List Term) (known : Numbers) (k : ℕ) → AreNumbers meaning terms known → IsSome (get nat_eq known k) → numbered terms (number_in known k) ≡ Some (meaning k)
number_found meaning terms known k w written = w.right k (number_in known k) (number_is known k written)

pub number_within : (meaning : ℕ → Term) (terms : List Term) (known : Numbers) (k : ℕ) → AreNumbers meaning terms known → IsSome (get nat_eq known k) → number_in known k ≤ length terms
number_within meaning terms known k w written = numbered_within terms (number_in known k) (meaning k) (number_found meaning terms known k w written)

-- the terms with these ids have numbers
abbrev pub AreWritten : Numbers → List TermId → Type 0
AreWritten known ids = All (λ t. IsSome (get nat_eq known t.0)) ids

abbrev pub numbers_in : Numbers → List TermId → List ℕ
numbers_in known ids = map (λ t. number_in known t.0) ids

pub terms_found : (bank : Content) (frame : Frame) (waiting : List CaseLine) (terms : List Term) (known : Numbers) (ids : List TermId) → AreNumbers (term_of bank) terms known → AreWritten known ids →
    block_terms_at (block_of frame waiting terms) (numbers_in known ids) ≡ Some (terms_at bank ids)
terms_found bank frame waiting terms known [] w written = refl
terms_found bank frame waiting terms known (t ∷ ids) w written =
    let first = number_found (term_of bank) terms known t.0 w (All-head (λ t. IsSome (get nat_eq known t.0)) t ids written) in
    let rest = terms_found bank frame waiting terms known ids w (All-tail (λ t. IsSome (get nat_eq known t.0)) t ids written) in
    rw (first, rest) refl

pub numbers_fit : (meaning : ℕ → Term) (terms : List Term) (known : Numbers) (ids : List TermId) → AreNumbers meaning terms known → length terms < 2 ^ 64 → AreWritten known ids → Each (λ n. n < 2 ^ 64) (numbers_in known ids)
numbers_fit meaning terms known [] w fits written = tt
numbers_fit meaning terms known (t ∷ ids) w fits written =
    let first = number_within meaning terms known t.0 w (All-head (λ t. IsSome (get nat_eq known t.0)) t ids written) in (
      omega (arith, first, fits),
      numbers_fit meaning terms known ids w fits (All-tail (λ t. IsSome (get nat_eq known t.0)) t ids written),
    )
