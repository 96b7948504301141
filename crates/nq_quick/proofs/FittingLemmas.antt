-- Terms of other functions are no instances.
use Rattle.std.proofs.Common.{◌≡◌, ℕ, ◌<◌, List, length, get_or, map, sym, ap, ◌∙◌}
use Rattle.nq_logic.specs.Terms.{Variable, call, substituted}
use Rattle.nq_logic.specs.Words.{numeral}
use Rattle.nq_bank.specs.declared.node.TermId.{TermId}
use Rattle.nq_bank.specs.Parts.{parts_of}
use Rattle.nq_bank.specs.Content.{Content, IsOnly, Stands, term_at, terms_at}
use Rattle.nq_clause.proofs.SubstitutionLemmas.{substituted-call, substituted-numeral}
use Rattle.nq_clause.proofs.InstanceLemmas.{are_like, argument_same_at, call_parts, no_variable}
use Rattle.nq_quick.specs.Fitting.{FitsNone}

-- a numeral fits only itself
pub other_numeral : (bank : Content) (p t : TermId) (n : ℕ) → term_at bank p ≡ numeral n → IsOnly bank p → Stands bank t → (p.0 ≡ t.0 → ⊥) → FitsNone bank p t
other_numeral bank p t n is only stands other =
    record {
      none = λ s e.
          let same : term_at bank t ≡ term_at bank p = sym e ∙ ap (substituted s) is ∙ substituted-numeral s n ∙ sym is in
          other (sym (only.only t stands same));
    }

-- a call fits no variable
pub other_variable : (bank : Content) (p t : TermId) (f x : List ℕ) → term_at bank p ≡ call f (parts_of (term_at bank p)) → term_at bank t ≡ Variable x → FitsNone bank p t
other_variable bank p t f x is variable = record { none = λ s e. no_variable s f x (term_at bank p) (term_at bank t) is variable e }

-- nor a call of another function
pub other_function : (bank : Content) (p t : TermId) (f g : List ℕ) → term_at bank p ≡ call f (parts_of (term_at bank p)) → term_at bank t ≡ call g (parts_of (term_at bank t)) → (f ≡ g → ⊥) → FitsNone bank p t
other_function bank p t f g is other apart =
    record {
      none = λ s e.
          let whole : substituted s (term_at bank p) ≡ call f (map (substituted s) (parts_of (term_at bank p))) = ap (substituted s) is ∙ substituted-call s f (parts_of (term_at bank p)) in
          apart (call_parts f g (map (substituted s) (parts_of (term_at bank p))) (parts_of (term_at bank t)) (sym whole ∙ e ∙ other)).0;
    }

-- it fits a call of its function with as many arguments, each of which fits
module _ (bank : Content) (p t : TermId) (f g : List ℕ) (ids others : List TermId) (is : term_at bank p ≡ call f (parts_of (term_at bank p))) (other : term_at bank t ≡ call g (parts_of (term_at bank t))) (tells : terms_at bank ids ≡ parts_of (term_at bank p)) (told : terms_at bank others ≡ parts_of (term_at bank t)) where
  pub other_count : (length ids ≡ length others → ⊥) → FitsNone bank p t
  other_count apart = record { none = λ s e. apart (are_like s bank f g (term_at bank p) (term_at bank t) ids others is other tells told e).1 }

  pub other_argument : (i : ℕ) (d : TermId) → i < length ids → i < length others → FitsNone bank (get_or ids i d) (get_or others i d) → FitsNone bank p t
  other_argument i d below above apart = record { none = λ s e. apart.none s (argument_same_at s bank f g (term_at bank p) (term_at bank t) ids others is other tells told i d below above e) }
