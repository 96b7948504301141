-- What the tests on symbols tell, and instances of terms.
use Rattle.std.proofs.Common.{◌≡◌, Bool, true, false, ℕ, zero, suc, ◌==◌, List, [], ◌∷◌, ◌++◌, ◌&&◌, if◌then◌else◌, inl, inr, refl, subst}
use Rattle.std.proofs.lemmas.Bool.Decides.{Decides-eqb}
use Rattle.std.specs.Prelude.{bytes_eq}
use Rattle.nq_logic.specs.Terms.{Name, Term, Variable, Function, Applied, Symbol, Takes, IsTerm, IsAmong, Each, Substitution, value_at, substituted}
use Rattle.nq_logic.specs.Histories.{History}
use Rattle.nq_logic.specs.Ground.{symbols_of}
use Rattle.nq_proof.specs.Rules.{pair_terms}
use Rattle.nq_proof.specs.Logs.{has_symbol, takes, are_terms}
use Rattle.nq_proof.proofs.Tests.{names_same, and_left, and_right}

pub each_left : {X : Type 0} (P : X → Type 0) (xs ys : List X) → Each P (xs ++ ys) → Each P xs
each_left P [] ys ps = tt
each_left P (x ∷ xs) ys ps = (ps.0, each_left P xs ys ps.1)

pub each_right : {X : Type 0} (P : X → Type 0) (xs ys : List X) → Each P (xs ++ ys) → Each P ys
each_right P [] ys ps = ps
each_right P (x ∷ xs) ys ps = each_right P xs ys ps.1

same_symbol : (f : List ℕ) (n : ℕ) (s : Symbol) → f ≡ s.0 → n ≡ s.1 → ◌≡◌ {A = Symbol} (f, n) s
same_symbol f n s name arity = subst (λ a. ◌≡◌ {A = Symbol} (f, n) (a, s.1)) name (subst (λ b. ◌≡◌ {A = Symbol} (f, n) (f, b)) arity refl)

pub symbol_found : (f : List ℕ) (n : ℕ) (symbols : List Symbol) → has_symbol f n symbols ≡ true → IsAmong (f, n) symbols
symbol_found f n [] e = absurd cc
symbol_found f n (s ∷ symbols) e = by_test (bytes_eq f s.0 && (n == s.1)) refl (λ r. symbol_found f n symbols r) e
  where
    by_test : (b : Bool) → bytes_eq f s.0 && (n == s.1) ≡ b → (has_symbol f n symbols ≡ true → IsAmong (f, n) symbols) → elim b as (λ b. Bool) [ true ↦ true | false ↦ has_symbol f n symbols ] ≡ true → IsAmong (f, n) (s ∷ symbols)
    by_test true e again g =
        let name : f ≡ s.0 = names_same f s.0 (and_left (bytes_eq f s.0) (n == s.1) e) in
        let arity : n ≡ s.1 = (Decides-eqb n s.1).0 (and_right (bytes_eq f s.0) (n == s.1) e) in
        inl (same_symbol f n s name arity)
    by_test false e again g = inr (again g)

pub takes_is : (symbols : List Symbol) (t : Term) (n : ℕ) → takes symbols t n ≡ true → Takes symbols t n
takes_is symbols (Variable x) zero e = tt
takes_is symbols (Variable x) (suc n) e = let z : suc n ≡ 0 = (Decides-eqb (suc n) 0).0 e in cc
takes_is symbols (Function f) n e = symbol_found f n symbols e
takes_is symbols (Applied t u) n e =
    (takes_is symbols t (suc n) (and_left (takes symbols t (suc n)) (takes symbols u 0) e), takes_is symbols u zero (and_right (takes symbols t (suc n)) (takes symbols u 0) e))

pub are_terms_is : (symbols : List Symbol) (ts : List Term) → are_terms symbols ts ≡ true → Each (IsTerm symbols) ts
are_terms_is symbols [] e = tt
are_terms_is symbols (t ∷ ts) e = (takes_is symbols t 0 (and_left (takes symbols t 0) (are_terms symbols ts) e), are_terms_is symbols ts (and_right (takes symbols t 0) (are_terms symbols ts) e))

module _ (h : History) where
  -- instances of terms are terms
  value_over : (s : Substitution) → Each (IsTerm (symbols_of h)) (pair_terms s) → (x : Name) → IsTerm (symbols_of h) (value_at s x)
  value_over [] over x = tt
  value_over (b ∷ s) over x = by_name (bytes_eq x b.0) (value_over s over.1 x)
    where
      by_name : (same : Bool) → IsTerm (symbols_of h) (value_at s x) → IsTerm (symbols_of h) (if same then b.1 else value_at s x)
      by_name true rest = over.0
      by_name false rest = rest

  pub substituted_over : (s : Substitution) → Each (IsTerm (symbols_of h)) (pair_terms s) → (t : Term) (n : ℕ) → Takes (symbols_of h) t n → Takes (symbols_of h) (substituted s t) n
  substituted_over s over (Variable x) zero o = value_over s over x
  substituted_over s over (Variable x) (suc n) o = absurd o
  substituted_over s over (Function f) n o = o
  substituted_over s over (Applied t u) n o = (substituted_over s over t (suc n) o.0, substituted_over s over u zero o.1)
