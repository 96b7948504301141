-- The literals of the goals of a path, goal by goal.
use Rattle.std.proofs.Common.{◌≡◌, ◌<◌, ◌≤◌, ◌+◌, ℕ, List, [], ◌∷◌, ◌++◌, length, take, get_or, refl, sym, ap, ◌∙◌}
use Rattle.std.specs.Prelude.{Vec}
use Rattle.std.specs.declared.alloc.Global.{Global}
use Rattle.std.proofs.lemmas.List.{append-nil, take_all, take_more}
use Rattle.nq_bank.specs.declared.node.TermId.{TermId}
use Rattle.nq_eliminate.specs.Literals.{joined}

pub ids_assoc : (xs ys zs : List TermId) → (xs ++ ys) ++ zs ≡ xs ++ (ys ++ zs)
ids_assoc [] ys zs = refl
ids_assoc (x ∷ xs) ys zs = ap (λ r. x ∷ r) (ids_assoc xs ys zs)

joined-push : (path : List (Vec TermId Global)) (g : Vec TermId Global) → joined (path ++ g ∷ []) ≡ joined path ++ g.items
joined-push [] g = append-nil g.items
joined-push (v ∷ path) g = ap (λ r. v.items ++ r) (joined-push path g) ∙ sym (ids_assoc v.items (joined path) g.items)

-- one more goal
pub joined-more : (path : List (Vec TermId Global)) (i : ℕ) (d g : Vec TermId Global) (old new : List TermId) → i < length path → g ≡ get_or path i d → old ≡ joined (take i path) → new ≡ old ++ g.items → new ≡ joined (take (i + 1) path)
joined-more path i d g old new below at was told =
    told
    ∙ (ap (λ xs. xs ++ g.items) was
    ∙ (ap (λ (v : Vec TermId Global). joined (take i path) ++ v.items) at
    ∙ sym (ap joined (take_more path i d below) ∙ joined-push (take i path) (get_or path i d))))

pub joined-all : (path : List (Vec TermId Global)) (goal old new : List TermId) (i : ℕ) → length path ≤ i → old ≡ joined (take i path) → new ≡ old ++ goal → new ≡ joined path ++ goal
joined-all path goal old new i all was told = told ∙ ap (λ xs. xs ++ goal) (was ∙ ap joined (take_all i path all))
