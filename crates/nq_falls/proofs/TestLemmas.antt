-- Terms in place of formals, and the clause of all tests of a call.
use Rattle.std.proofs.Common.{Bool, true, false, ℕ, zero, suc, List, [], ◌∷◌, ◌++◌, map, refl, inl, inr}
use Rattle.std.specs.Prelude.{if◌then◌else◌, bytes_eq}
use Rattle.nq_logic.specs.Terms.{Name, Term, Variable, Function, Applied, Symbol, Takes, IsTerm, IsAmong, Each, value_at, substituted}
use Rattle.nq_logic.specs.Words.{not_term}
use Rattle.nq_logic.specs.Histories.{History}
use Rattle.nq_logic.specs.Ground.{symbols_of}
use Rattle.nq_logic.specs.Admissible.{matched}
use Rattle.nq_logic.specs.Laws.{IsClause}
use Rattle.nq_logic.proofs.Lists.{each_mono}
use Rattle.nq_logic.proofs.Symbols.{not_symbol}

-- ---- terms in place of the formals

module _ (symbols : List Symbol) where
  pub value_over : (s : List (Name × Term)) → Each (λ (pair : Name × Term). IsTerm symbols pair.1) s → (x : Name) → IsTerm symbols (value_at s x)
  value_over [] over x = tt
  value_over (b ∷ s) over x = by_name (bytes_eq x b.0) (value_over s over.1 x)
    where
      by_name : (same : Bool) → IsTerm symbols (value_at s x) → IsTerm symbols (if same then b.1 else value_at s x)
      by_name true rest = over.0
      by_name false rest = rest

  pub instance_over : (s : List (Name × Term)) → Each (λ (pair : Name × Term). IsTerm symbols pair.1) s → (t : Term) (n : ℕ) → Takes symbols t n → Takes symbols (substituted s t) n
  instance_over s over (Variable x) zero o = value_over s over x
  instance_over s over (Variable x) (suc n) o = absurd o
  instance_over s over (Function f) n o = o
  instance_over s over (Applied t u) n o = (instance_over s over t (suc n) o.0, instance_over s over u zero o.1)

  pub matched_over : (xs : List Name) (ts : List Term) → Each (IsTerm symbols) ts → Each (λ (pair : Name × Term). IsTerm symbols pair.1) (matched xs ts)
  matched_over [] ts over = tt
  matched_over (x ∷ xs) [] over = tt
  matched_over (x ∷ xs) (t ∷ ts) over = (over.0, matched_over xs ts over.1)

-- ---- the clause of all tests

-- the NOTs of terms over the history, and more
pub denied_over : (h : History) (tests rest : List Term) → Each (IsTerm (symbols_of h)) tests → IsClause h rest → IsClause h (map not_term tests ++ rest)
denied_over h [] rest over o = o
denied_over h (t ∷ tests) rest over o = ((not_symbol h, over.0), denied_over h tests rest over.1 o)

-- each test stands denied among them
pub each_denied : (tests rest : List Term) → Each (λ t. IsAmong (not_term t) (map not_term tests ++ rest)) tests
each_denied [] rest = tt
each_denied (t ∷ tests) rest =
    (inl refl, each_mono (λ u. IsAmong (not_term u) (map not_term tests ++ rest)) (λ u. IsAmong (not_term u) (not_term t ∷ (map not_term tests ++ rest))) (λ u i. inr i) tests (each_denied tests rest))
