-- Nests of a shell's accessors, where the accessors are no ADD1.
use Rattle.std.proofs.Common.{◌≡◌, true, false, List, [], ◌∷◌, sym, ap, ◌∙◌, subst}
use Rattle.std.specs.Prelude.{bytes_eq, codes}
use Rattle.nq_logic.specs.Terms.{Name, Term, Function, Applied, IsAmong, Each}
use Rattle.nq_logic.specs.Histories.{Part, Shell}
use Rattle.nq_logic.proofs.Lists.{each_at}
use Rattle.nq_bank.proofs.Texts.{eq-bytes_eq}
use Rattle.nq_proof.specs.Clauses.{same_term}
use Rattle.nq_rule.proofs.LiteralLemmas.{true_same}
use Rattle.nq_arith.specs.Nests.{nest, IsGuarded, AreGuarded}
use Rattle.nq_decrease.specs.Guards.{IsNoCall}
use Rattle.nq_decrease.specs.Nests.{IsNestOf}
use Rattle.nq_decrease.specs.OwnLevels.{HasNoOwnLevel}

same_name : (f g : Name) (t u : Term) → Applied (Function f) t ≡ Applied (Function g) u → f ≡ g
same_name f g t u e = cc

same_argument : (f g : Name) (t u : Term) → Applied (Function f) t ≡ Applied (Function g) u → t ≡ u
same_argument f g t u e = cc

module _ (s : Shell) (tests : List Term) (x t : Term) where
  abbrev Here : Type 0
  Here = IsNestOf s tests x t

  -- what is no call is no nest
  pub no_call_own : Each (λ part. bytes_eq part.accessor (codes "ADD1") ≡ false) s.parts → IsNoCall t → Here → ⊥
  no_call_own other none n =
      let not_more : bytes_eq n.first.accessor (codes "ADD1") ≡ false = each_at (λ part. bytes_eq part.accessor (codes "ADD1") ≡ false) n.first s.parts other n.parts.0 in
      let more : bytes_eq n.first.accessor (codes "ADD1") ≡ true = eq-bytes_eq n.first.accessor (codes "ADD1") (none n.first.accessor (nest x n.rest) n.is) in
      absurd cc

  module _ (f : Name) (y : Term) (call : t ≡ Applied (Function f) y) where
    both : (n : Here) → Applied (Function f) y ≡ Applied (Function n.first.accessor) (nest x n.rest)
    both n = sym call ∙ n.is

    -- nor is a call without a level
    pub no_level_own : HasNoOwnLevel s f y tests → Here → ⊥
    no_level_own none n =
        none n.first n.parts.0 (same_name f n.first.accessor y (nest x n.rest) (both n)) (subst (IsGuarded tests s) (sym (same_argument f n.first.accessor y (nest x n.rest) (both n))) n.guarded.0)

    -- nor a call of what is neither the term nor a nest
    pub no_rest_own : same_term y x ≡ false → (IsNestOf s tests x y → ⊥) → Here → ⊥
    no_rest_own other none n = by_rest n.rest n.parts n.is n.guarded
      where
        by_rest : (ps : List Part) → Each (λ part. IsAmong part s.parts) (n.first ∷ ps) → t ≡ nest x (n.first ∷ ps) → AreGuarded tests s x (n.first ∷ ps) → ⊥
        by_rest [] all e g =
            let same : y ≡ x = same_argument f n.first.accessor y x (sym call ∙ e) in
            let equal : same_term y x ≡ true = true_same y x same in
            absurd cc
        by_rest (q ∷ ps) all e g = none (record { first = q; rest = ps; parts = all.1; is = same_argument f n.first.accessor y (nest x (q ∷ ps)) (sym call ∙ e); guarded = g.1 })

    module _ (part : Part) (among : IsAmong part s.parts) (accessor : f ≡ part.accessor) (guarded : IsGuarded tests s y) where
      whole_is : (z : Term) → y ≡ z → t ≡ Applied (Function part.accessor) z
      whole_is z e = call ∙ ap (λ g. Applied (Function g) y) accessor ∙ ap (λ u. Applied (Function part.accessor) u) e

      -- the accessor's call of the term is a nest
      pub last_own : y ≡ x → Here
      last_own e = record { first = part; rest = []; parts = (among, tt); is = whole_is x e; guarded = (subst (IsGuarded tests s) e guarded, tt) }

      -- so is that of a nest
      pub more_own : IsNestOf s tests x y → Here
      more_own n = record { first = part; rest = n.first ∷ n.rest; parts = (among, n.parts); is = whole_is (nest x (n.first ∷ n.rest)) n.is; guarded = (subst (IsGuarded tests s) n.is guarded, n.guarded) }
