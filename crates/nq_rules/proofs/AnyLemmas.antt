-- Whether one of the terms of a list passes a test, as a loop goes over their ids.
use Rattle.std.proofs.Common.{◌≡◌, ◌+◌, ◌<◌, ◌≤◌, ℕ, suc, Bool, true, false, ◌||◌, List, length, get_or, drop, sym, ap, ◌∙◌, add-one, drop-cons}
use Rattle.std.proofs.lemmas.List.{at_drop_all}
use Rattle.std.specs.List.{list_any}
use Rattle.nq_logic.specs.Terms.{Term}
use Rattle.nq_bank.specs.declared.node.TermId.{TermId}
use Rattle.nq_bank.specs.Content.{Content, term_at, terms_at}

module _ (test : Term → Bool) (bank : Content) (ids : List TermId) where
  abbrev any_from : List TermId → Bool
  any_from l = list_any test (terms_at bank l)

  -- the term at hand passes
  pub any_here : (i : ℕ) (d : TermId) → i < length ids → test (term_at bank (get_or ids i d)) ≡ true → list_any test (terms_at bank (drop i ids)) ≡ list_any test (terms_at bank ids) → true ≡ list_any test (terms_at bank ids)
  any_here i d below here so_far = sym (ap (λ b. b || any_from (drop (suc i) ids)) here) ∙ sym (ap any_from (drop-cons ids i d below)) ∙ so_far

  -- it does not
  pub any_further : (i : ℕ) (d : TermId) → i < length ids → test (term_at bank (get_or ids i d)) ≡ false → list_any test (terms_at bank (drop i ids)) ≡ list_any test (terms_at bank ids) → list_any test (terms_at bank (drop (i + 1) ids)) ≡ list_any test (terms_at bank ids)
  any_further i d below here so_far = rw add-one (sym (ap (λ b. b || any_from (drop (suc i) ids)) here) ∙ sym (ap any_from (drop-cons ids i d below)) ∙ so_far)

  -- none does
  pub none_passes : (i : ℕ) → length ids ≤ i → list_any test (terms_at bank (drop i ids)) ≡ list_any test (terms_at bank ids) → false ≡ list_any test (terms_at bank ids)
  none_passes i past so_far = sym (at_drop_all any_from ids i past) ∙ so_far
