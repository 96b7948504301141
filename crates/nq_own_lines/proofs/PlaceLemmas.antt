-- The variables of terms at places.
use Rattle.std.proofs.Common.{◌≡◌, true, false, ℕ, suc, List, [], ◌∷◌, ◌⊎◌, ◌==◌, Bool, inl, inr, ap, subst}
use Rattle.std.specs.Prelude.{Option, Some, None, bytes_eq, if◌then◌else◌}
use Rattle.nq_logic.specs.Terms.{Name, Term, Variable, Function, Applied, Each, Substitution, value_at, substituted}
use Rattle.nq_logic.specs.Numerals.{is_numeral}
use Rattle.nq_proof.specs.Paths.{argument_count, around, in_argument, replaced_at}
use Rattle.nq_proof.specs.Rules.{pair_terms}
use Rattle.nq_proof.proofs.Tests.{chosen_some, none_is_not_some, some_same}
use Rattle.nq_kernel.specs.Over.{VariablesAre}

module _ (P : Name → Type 0) where
  abbrev Right : Term → Type 0
  Right = VariablesAre P

  -- what stood at a place, and the whole after the change
  abbrev IsChange : Term → Term → Term → Type 0
  IsChange a u b = Right a → Right u × Right b

  -- what a change around a place tells of the change there
  around_some : (wrap : Term → Term) (o : Option (Term × Term)) (u b : Term) → around wrap o ≡ Some (u, b) → (v : Term) × (o ≡ Some (u, v)) × (wrap v ≡ b)
  around_some wrap None u b e = absurd cc
  around_some wrap (Some change) u b e =
      let both = some_same (change.0, wrap change.1) (u, b) e in
      (change.1, ap (λ w. Some (w, change.1)) (ap (λ pair. pair.0) both), ap (λ pair. pair.1) both)

  in_argument_is : (place : ℕ) (change : Term → Option (Term × Term)) → ((a u b : Term) → change a ≡ Some (u, b) → IsChange a u b) → (a u b : Term) → in_argument place change a ≡ Some (u, b) → IsChange a u b
  in_argument_is place change f (Variable x) u b e = absurd cc
  in_argument_is place change f (Function g) u b e = absurd cc
  in_argument_is place change f (Applied g v) u b e =
      by_place (λ u b e. in_argument_is place change f g u b e)
      (chosen_some (suc (argument_count g) == place) (around (λ w. Applied g w) (change v)) (around (λ w. Applied w v) (in_argument place change g)) (u, b) e)
    where
      by_place : ((u b : Term) → in_argument place change g ≡ Some (u, b) → IsChange g u b) → ((suc (argument_count g) == place ≡ true) × (around (λ w. Applied g w) (change v) ≡ Some (u, b))) ⊎ (around (λ w. Applied w v) (in_argument place change g) ≡ Some (u, b)) → IsChange (Applied g v) u b
      by_place again (inl p) =
          let inner = around_some (λ w. Applied g w) (change v) u b p.1 in
          λ all. let rest = f v u inner.0 inner.1 all.1 in (rest.0, subst Right inner.2 (all.0, rest.1))
      by_place again (inr p) =
          let inner = around_some (λ w. Applied w v) (in_argument place change g) u b p in
          λ all. let rest = again u inner.0 inner.1 all.0 in (rest.0, subst Right inner.2 (rest.1, all.1))

  pub replaced_is : (t : Term) → Right t → (path : List ℕ) (a u b : Term) → replaced_at path t a ≡ Some (u, b) → IsChange a u b
  replaced_is t new [] a u b e =
      let both = some_same (a, t) (u, b) e in
      λ all. (subst Right (ap (λ pair. pair.0) both) all, subst Right (ap (λ pair. pair.1) both) new)
  replaced_is t new (place ∷ path) a u b e = by_test (λ a u b e. replaced_is t new path a u b e) (chosen_some (is_numeral a) None (in_argument place (replaced_at path t) a) (u, b) e)
    where
      by_test : ((a u b : Term) → replaced_at path t a ≡ Some (u, b) → IsChange a u b) → ((is_numeral a ≡ true) × ◌≡◌ {A = Option (Term × Term)} None (Some (u, b))) ⊎ (in_argument place (replaced_at path t) a ≡ Some (u, b)) → IsChange a u b
      by_test again (inl p) = absurd (none_is_not_some (u, b) p.1)
      by_test again (inr p) = in_argument_is place (replaced_at path t) again a u b p

  value_is : (s : Substitution) → Each Right (pair_terms s) → (x : Name) → P x → Right (value_at s x)
  value_is [] all x h = h
  value_is (b ∷ s) all x h = by_name (bytes_eq x b.0) (value_is s all.1 x h)
    where
      by_name : (same : Bool) → Right (value_at s x) → Right (if same then b.1 else value_at s x)
      by_name true rest = all.0
      by_name false rest = rest

  -- terms put in the place of variables
  pub substituted_is : (s : Substitution) → Each Right (pair_terms s) → (t : Term) → Right t → Right (substituted s t)
  substituted_is s all (Variable x) h = value_is s all x h
  substituted_is s all (Function f) h = tt
  substituted_is s all (Applied t u) h = (substituted_is s all t h.0, substituted_is s all u h.1)
