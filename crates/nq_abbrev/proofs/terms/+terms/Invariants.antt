-- What is made so far, in a bank that only grows.
use Rattle.std.proofs.Common.{◌≡◌, ℕ, ◌<◌, ◌≤◌, ◌++◌, length, drop}
use Rattle.std.specs.Prelude.{Option, None, true, All}
use Rattle.nq_logic.specs.Terms.{Name}
use Rattle.nq_form.specs.Form.{end}
use Rattle.nq_language.specs.Refusals.{first, own_met, all_met, are_bindings, bound_met}
use Rattle.nq_language.specs.Scopes.{all_translated_in, bound_in}
use Rattle.nq_bank.specs.Content.{Stands, IsIdOf, Grows, terms_at}
use Rattle.nq_sexp.specs.Tree.{trees}
use Rattle.nq_abbrev.specs.Nests.{Agrees}
use Rattle.nq_abbrev.specs.Words.{word_at}
use Rattle.nq_abbrev.specs.InScope.{conditional_met, keyed_refused, test_term_in, value_term_in, key_term, IsLike}
use Rattle.nq_abbrev.specs.Scope.{scope_at, bound_term, BindingStands}
use Rattle.nq_abbrev.proofs.ClauseLemmas.{branches}
use Rattle.nq_abbrev.proofs.terms.+terms.Given as goal

abbrev pub invariant-arguments_in-loop-place : goal.invariant-arguments_in-loop-place
invariant-arguments_in-loop-place l =
    record {
      stand : All (Stands l.bank) l.terms.items;
      grows : Grows l.fn.bank l.bank;
      right : (arity : Name → Option ℕ) → Agrees l.nests arity → first (own_met (word_at l.word) (arity l.f) l.f (trees (drop 1 l.items) end)) (all_met arity (trees (drop 1 l.items) end)) ≡ None
          → terms_at l.bank l.terms.items ++ all_translated_in arity (scope_at l.fn.bank l.scope) (trees (drop l.place l.items) end) ≡ all_translated_in arity (scope_at l.fn.bank l.scope) (trees (drop 1 l.items) end);
    }

abbrev pub decreases-conditional_in-loop-place : goal.decreases-conditional_in-loop-place
decreases-conditional_in-loop-place l = l.place

abbrev pub invariant-conditional_in-loop-place : goal.invariant-conditional_in-loop-place
invariant-conditional_in-loop-place l =
    record {
      low : 1 ≤ l.place;
      high : l.place < length l.items;
      stands : Stands l.bank l.rest;
      grows : Grows l.fn.bank l.bank;
      right : (arity : Name → Option ℕ) → Agrees l.nests arity → conditional_met arity (trees (drop 1 l.items) end) ≡ None → IsIdOf l.bank l.rest (branches (test_term_in arity (scope_at l.fn.bank l.scope)) (value_term_in arity (scope_at l.fn.bank l.scope)) (drop l.place l.items));
    }

abbrev pub decreases-keyed_in-loop-place : goal.decreases-keyed_in-loop-place
decreases-keyed_in-loop-place l = l.place

abbrev pub invariant-keyed_in-loop-place : goal.invariant-keyed_in-loop-place
invariant-keyed_in-loop-place l =
    record {
      low : 2 ≤ l.place;
      high : l.place < length l.items;
      stands : Stands l.bank l.rest;
      grows : Grows l.fn.bank l.bank;
      right : (arity : Name → Option ℕ) → Agrees l.nests arity → keyed_refused arity (trees (drop 2 l.items) end) ≡ None → IsIdOf l.bank l.rest (branches (key_term (bound_term l.fn.bank l.fn.selector)) (value_term_in arity (scope_at l.fn.bank l.scope)) (drop l.place l.items));
    }

abbrev pub invariant-bound_in-loop-binding : goal.invariant-bound_in-loop-binding
invariant-bound_in-loop-binding l =
    record {
      stand : All (BindingStands l.bank) l.inner.items;
      grows : Grows l.fn.bank l.bank;
      right : (arity : Name → Option ℕ) → Agrees l.nests arity → are_bindings (trees l.bindings end) ≡ true → bound_met arity (trees l.bindings end) ≡ None
          → IsLike (scope_at l.bank l.inner.items ++ bound_in arity (scope_at l.fn.bank l.scope) (trees (drop l.binding-index l.bindings) end)) (bound_in arity (scope_at l.fn.bank l.scope) (trees l.bindings end));
    }
