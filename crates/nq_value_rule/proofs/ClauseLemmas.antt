-- The clause of one equation, over a bank.
use Rattle.std.proofs.Common.{◌≡◌, ◌<◌, Some, List, [], ◌∷◌, refl, sym, ap, ◌∙◌, inl, subst}
use Rattle.nq_logic.specs.Terms.{Term}
use Rattle.nq_logic.specs.Words.{equal_term}
use Rattle.nq_logic.specs.Sizes.{depth_of, depth_limit}
use Rattle.nq_bank.specs.declared.node.TermId.{TermId}
use Rattle.nq_bank.specs.Content.{Content}
use Rattle.nq_proof.specs.Values.{value_of}
use Rattle.nq_proof.specs.Rules.{given}
use Rattle.nq_rule.specs.Conclusions.{Concludes, IsDeep}
use Rattle.nq_value_rule.specs.Equations.{value_equation}

module _ (t v : Term) (is : value_of t ≡ Some v) where
  pub equation_is : value_equation t ≡ Some (equal_term t v ∷ [])
  equation_is = ap (λ o. given o (λ v. Some (equal_term t v ∷ []))) is

  pub concluded : (bank : Content) (ids : List TermId) (u w literal : Term) → u ≡ t → w ≡ v → literal ≡ equal_term u w → Concludes bank ids (Some (literal ∷ [])) → Concludes bank ids (value_equation t)
  concluded bank ids u w literal left right same h =
      record {
        stand = h.stand;
        concluded = equation_is ∙ ap (λ a. Some (equal_term a v ∷ [])) (sym left) ∙ ap (λ b. Some (equal_term u b ∷ [])) (sym right) ∙ ap (λ a. Some (a ∷ [])) (sym same) ∙ h.concluded;
      }

  pub too_deep : (u w : Term) → u ≡ t → w ≡ v → depth_limit < depth_of (equal_term u w) → IsDeep (value_equation t)
  too_deep u w left right deep =
      record {
        terms = equal_term t v ∷ [];
        concluded = equation_is;
        deep = record {
          term = equal_term t v;
          among = inl refl;
          deep = subst (λ a. depth_limit < depth_of (equal_term a v)) left (subst (λ b. depth_limit < depth_of (equal_term u b)) right deep);
        };
      }
