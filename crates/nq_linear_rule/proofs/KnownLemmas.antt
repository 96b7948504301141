-- What a table of forms has after one is kept.
use Rattle.std.proofs.Common.{◌≡◌, Bool, true, false, eqb, cond, Option, Some, refl, sym, ◌∙◌, inl, inr, subst}
use Rattle.std.specs.Prelude.{nat_eq, ◌⊎◌}
use Rattle.std.proofs.lemmas.Bool.{eqb-true}
use Rattle.std.specs.HashMap.{get, Updates}
use Rattle.nq_bank.specs.declared.node.TermId.{TermId}
use Rattle.nq_bank.specs.Content.{Content}
use Rattle.nq_linear_rule.specs.declared.form.LinearForm.{LinearForm}
use Rattle.nq_linear_rule.specs.Known.{Forms, IsFormOf, HasForms}

either_value : {V : Type 0} (b : Bool) (w o : Option V) (v : V) → cond b w o ≡ Some v → ((b ≡ true) × (w ≡ Some v)) ⊎ (o ≡ Some v)
either_value true w o v h = inl (refl, h)
either_value false w o v h = inr h

same_value : {V : Type 0} (v w : V) → Some v ≡ Some w → v ≡ w
same_value v w h = cc

-- a form that is kept is right
pub forms_kept : (bank : Content) (old new : Forms) (t : TermId) (kept : Option LinearForm) → HasForms bank old → Updates nat_eq old new t.0 (Some kept) → IsFormOf bank t kept → HasForms bank new
forms_kept bank old new t kept h updates is =
    record {
      right = λ q a found.
          elim (either_value (eqb t.0 q.0) (Some kept) (get nat_eq old q.0) a (sym (updates.0 q.0) ∙ found)) [
            | inl here ↦ subst (λ k. IsFormOf bank (record { 0 = k }) a) (eqb-true t.0 q.0 here.0) (subst (IsFormOf bank t) (same_value kept a here.1) is)
            | inr there ↦ h.right q a there
          ];
    }
