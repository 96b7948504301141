-- The terms of bound variables.
use Rattle.std.proofs.Common.{◌≡◌, ℕ, zero, suc, ◌<◌, true, List, length, get_or, drop, drop-cons, refl, ap, sym, ◌∙◌, subst, arith, cond}
use Rattle.std.specs.Prelude.{None, bytes_eq}
use Rattle.nq_logic.specs.Terms.{Name, Term, value_at}
use Rattle.nq_logic.specs.Numerals.{number_of}
use Rattle.nq_logic.specs.Sizes.{depth_of, depth_limit, tree_depth}
use Rattle.nq_bank.specs.Content.{Content}
use Rattle.nq_abbrev.specs.declared.scope.Binding.{Binding}
use Rattle.nq_abbrev.specs.Scope.{nest, deep_term, bound_term, scope_at}

depth_nest : (n : ℕ) → depth_of (nest n) ≡ suc n
unfolding nest number_of tree_depth
depth_nest zero = refl
depth_nest (suc n) = omega (arith, depth_nest n)

pub deep_is_deep : depth_limit < depth_of deep_term
deep_is_deep = let d = depth_nest 4000 in omega (arith, d)

-- what stands for a variable that the binding at a place binds
bound_at : (bank : Content) (scope : List Binding) (k : ℕ) (d : Binding) (name : Name) → k < length scope → bytes_eq name (get_or scope k d).name.now ≡ true → value_at (scope_at bank (drop k scope)) name ≡ bound_term bank (get_or scope k d).term
bound_at bank scope k d name lt same =
    ap (λ (z : List Binding). value_at (scope_at bank z) name) (drop-cons scope k d lt)
    ∙ ap (λ b. cond b (bound_term bank (get_or scope k d).term) (value_at (scope_at bank (drop (suc k) scope)) name)) same

pub deep_bound : (bank : Content) (scope : List Binding) (k : ℕ) (d : Binding) (name : Name) → k < length scope → bytes_eq name (get_or scope k d).name.now ≡ true → (get_or scope k d).term ≡ None
    → depth_limit < depth_of (value_at (scope_at bank (drop k scope)) name)
deep_bound bank scope k d name lt same none =
    subst (λ (t : Term). depth_limit < depth_of t) (sym (bound_at bank scope k d name lt same ∙ ap (bound_term bank) none)) deep_is_deep
