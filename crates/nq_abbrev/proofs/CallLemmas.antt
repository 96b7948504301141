-- A call that isn't refused, by the meaning of its name, and its term.
use Rattle.std.proofs.Common.{◌≡◌, ℕ, ◌≤◌, List, [], ◌∷◌, length, get_or, drop, refl, ap, sym, ◌∙◌, arith}
use Rattle.std.specs.Prelude.{Option, None, Some}
use Rattle.nq_logic.specs.Terms.{Name, Substitution, call}
use Rattle.nq_form.specs.Form.{Form, Forms, symbol, listed, end, next}
use Rattle.nq_language.specs.Abbreviations.{Word, Listing, Conditional, Choice, Binding, Quotation, Nesting, Path, Outside, Plain, word_in}
use Rattle.nq_language.specs.Objects.{nil_term}
use Rattle.nq_language.specs.Translation.{list_term, nested_term, path_call, quoted_term}
use Rattle.nq_language.specs.Refusals.{first, own_met, parts_met, all_met}
use Rattle.nq_language.specs.Scopes.{translated_in, all_translated_in, conditional_term_in, choice_term_in, binding_term_in}
use Rattle.nq_sexp.specs.declared.Sexp.{Sexp}
use Rattle.nq_sexp.specs.Tree.{tree, trees}
use Rattle.nq_abbrev.specs.Pairs.{symbol_name}
use Rattle.nq_abbrev.specs.InScope.{parts_refused, called_term_in, conditional_met, chosen_met, let_met}
use Rattle.nq_abbrev.specs.Nests.{applied_term}
use Rattle.nq_abbrev.proofs.RefusalLemmas.{symbol_is}

module _ (arity : Name → Option ℕ) (s : Substitution) (f : Name) (fs : Forms) where
  pub parts_listing : parts_met arity Listing fs ≡ all_met arity fs
  unfolding parts_met
  parts_listing = refl

  pub parts_nesting : parts_met arity Nesting fs ≡ all_met arity fs
  unfolding parts_met
  parts_nesting = refl

  pub parts_path : (letters : List ℕ) → parts_met arity (Path letters) fs ≡ all_met arity fs
  unfolding parts_met
  parts_path letters = refl

  pub parts_plain : parts_met arity Plain fs ≡ all_met arity fs
  unfolding parts_met
  parts_plain = refl

  -- in a call whose arguments are terms none of them is refused
  pub arguments_met : (w v : Word) → w ≡ v → parts_met arity v fs ≡ all_met arity fs → parts_refused arity w f fs ≡ None → first (own_met w (arity f) f fs) (all_met arity fs) ≡ None
  arguments_met w v e all h = ap (λ z. first (own_met w (arity f) f fs) z) (sym (ap (λ z. parts_met arity z fs) e ∙ all)) ∙ h

  pub applied_by : (w v : Word) → w ≡ v → applied_term v f (all_translated_in arity s fs) ≡ called_term_in arity s v f fs → applied_term w f (all_translated_in arity s fs) ≡ called_term_in arity s w f fs
  applied_by w v e at = ap (λ z. applied_term z f (all_translated_in arity s fs)) e ∙ at ∙ sym (ap (λ z. called_term_in arity s z f fs) e)

  conditional_refused : parts_refused arity Conditional f fs ≡ conditional_met arity fs
  unfolding parts_met
  conditional_refused = refl

  pub conditional_unmet : (w : Word) → w ≡ Conditional → parts_refused arity w f fs ≡ None → conditional_met arity fs ≡ None
  conditional_unmet w e h = sym (ap (λ z. parts_refused arity z f fs) e ∙ conditional_refused) ∙ h

  choice_refused : parts_refused arity Choice f fs ≡ chosen_met arity fs
  unfolding parts_met
  choice_refused = refl

  pub choice_unmet : (w : Word) → w ≡ Choice → parts_refused arity w f fs ≡ None → chosen_met arity fs ≡ None
  choice_unmet w e h = sym (ap (λ z. parts_refused arity z f fs) e ∙ choice_refused) ∙ h

  binding_refused : parts_refused arity Binding f fs ≡ let_met arity fs
  unfolding parts_met
  binding_refused = refl

  pub binding_unmet : (w : Word) → w ≡ Binding → parts_refused arity w f fs ≡ None → let_met arity fs ≡ None
  binding_unmet w e h = sym (ap (λ z. parts_refused arity z f fs) e ∙ binding_refused) ∙ h

  by_meaning : (w : Word) → (elim w [
    | Listing ↦ list_term (all_translated_in arity s fs)
    | Conditional ↦ conditional_term_in arity s fs
    | Choice ↦ choice_term_in arity s fs
    | Binding ↦ binding_term_in arity s fs
    | Quotation ↦ quoted_term fs
    | Nesting ↦ nested_term f (all_translated_in arity s fs)
    | Path letters ↦ path_call letters (all_translated_in arity s fs)
    | Outside ↦ nil_term
    | Plain ↦ call f (all_translated_in arity s fs)
  ]) ≡ called_term_in arity s w f fs
  by_meaning Listing = refl
  by_meaning Conditional = refl
  by_meaning Choice = refl
  by_meaning Binding = refl
  by_meaning Quotation = refl
  by_meaning Nesting = refl
  by_meaning (Path letters) = refl
  by_meaning Outside = refl
  by_meaning Plain = refl

  called_is : translated_in arity s (listed (next (symbol f) fs)) ≡ called_term_in arity s (word_in arity f) f fs
  unfolding translated_in
  called_is = by_meaning (word_in arity f)

pub term_called : (arity : Name → Option ℕ) (s : Substitution) (items : List Sexp) (head : Sexp) (f : Name) → 1 ≤ length items → head ≡ get_or items 0 head → Some f ≡ symbol_name (tree head)
    → translated_in arity s (listed (trees items end)) ≡ called_term_in arity s (word_in arity f) f (trees (drop 1 items) end)
term_called arity s [] head f lt is named = absurd (omega arith)
term_called arity s (i ∷ items) head f lt is named =
    ap (λ (z : Form). translated_in arity s (listed (next z (trees items end)))) (ap tree (sym is) ∙ symbol_is (tree head) f named) ∙ called_is arity s f (trees items end)
