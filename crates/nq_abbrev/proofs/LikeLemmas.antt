-- Substitutions whose terms are the same or both too deep, and what they do to a term.
use Rattle.std.proofs.Common.{◌≡◌, ℕ, zero, suc, ◌<◌, max, Bool, true, false, List, [], ◌∷◌, ◌++◌, get_or, refl, ap, sym, ◌∙◌, subst, inl, inr, arith, append_assoc, append-nil, Bor}
use Rattle.std.specs.Prelude.{bytes_eq, if◌then◌else◌, Option, None, Some, Result, Ok, Err, IfOk, IfSome, All}
use Rattle.nq_logic.specs.Terms.{Name, Term, Variable, Function, Applied, Substitution, value_at, substituted}
use Rattle.nq_logic.specs.Numerals.{number_of, is_numeral}
use Rattle.nq_logic.specs.Sizes.{depth_of, depth_limit, tree_depth}
use Rattle.nq_form.specs.Form.{Form}
use Rattle.nq_language.specs.Translation.{translated}
use Rattle.nq_language.specs.Scopes.{translated_in}
use Rattle.nq_language.proofs.DepthLemmas.{parts_are_shallower}
use Rattle.nq_language.proofs.ScopeLemmas.{scopes_agree}
use Rattle.nq_bank.specs.declared.node.TermId.{TermId}
use Rattle.nq_bank.specs.declared.node.BankFault.{BankFault}
use Rattle.nq_bank.specs.Content.{Content, Grows, Stands, IsIdOf, term_at}
use Rattle.nq_bank.specs.Soundness.{IsSound}
use Rattle.nq_bank.proofs.Growth.{Stands-grown, term_at-grown}
use Rattle.nq_bank.proofs.NodesLemmas.{All-head, All-tail}
use Rattle.nq_bank.proofs.Standing.{All-push}
use Rattle.nq_abbrev.specs.declared.scope.Binding.{Binding}
use Rattle.nq_abbrev.specs.Scope.{bound_term, binding_of, scope_at, BindingStands, Makes}
use Rattle.nq_abbrev.specs.InScope.{IsSameOrDeep, IsLike}

deep_right : (t u : Term) → depth_limit < depth_of u → depth_limit < depth_of (Applied t u)
deep_right t u h = let more = parts_are_shallower t u (omega (arith, h)) in omega (arith, more, h)

past_one : (b : Bool) (d : ℕ) → depth_limit < (if b then 1 else d) → depth_limit < d
past_one true d h = absurd (omega (arith, h))
past_one false d h = h

deep_tree : (t : Term) → depth_limit < depth_of t → depth_limit < tree_depth t
deep_tree t h = past_one (is_numeral t) (tree_depth t) h

over : (d e : ℕ) → depth_limit < d → depth_limit < max d e
over d e h = omega (arith, h)

deep_left : (t u : Term) → depth_limit < depth_of t → depth_limit < depth_of (Applied t u)
unfolding number_of tree_depth
deep_left (Variable x) u h = let k : 4000 < 1 = deep_tree (Variable x) h in absurd (omega (arith, k))
deep_left (Function f) u h = let k : 4000 < 1 = deep_tree (Function f) h in absurd (omega (arith, k))
deep_left (Applied t v) u h = over _ _ (deep_tree (Applied t v) h)

-- a call whose parts are the same or both too deep
pub congruent : (t t' u u' : Term) → IsSameOrDeep t t' → IsSameOrDeep u u' → IsSameOrDeep (Applied t u) (Applied t' u')
congruent t t' u u' (inl e) (inl k) = inl (ap (λ (z : Term). Applied z u) e ∙ ap (λ (z : Term). Applied t' z) k)
congruent t t' u u' (inl e) (inr d) = inr (deep_right t u d.0, deep_right t' u' d.1)
congruent t t' u u' (inr d) k = inr (deep_left t u d.0, deep_left t' u' d.1)

by_test : (b : Bool) (t t' u u' : Term) → IsSameOrDeep t t' → IsSameOrDeep u u' → IsSameOrDeep (if b then t else u) (if b then t' else u')
by_test true t t' u u' h k = h
by_test false t t' u u' h k = k

value_like : (s s' : Substitution) (x : Name) → IsLike s s' → IsSameOrDeep (value_at s x) (value_at s' x)
value_like [] [] x h = inl refl
value_like [] (q ∷ qs) x h = absurd h
value_like (p ∷ ps) [] x h = absurd h
value_like (p ∷ ps) (q ∷ qs) x h =
    subst (λ (n : Name). IsSameOrDeep (if bytes_eq x p.0 then p.1 else value_at ps x) (if bytes_eq x n then q.1 else value_at qs x)) h.0 (by_test (bytes_eq x p.0) p.1 q.1 (value_at ps x) (value_at qs x) h.1 (value_like ps qs x h.2))

substituted_like : (s s' : Substitution) (t : Term) → IsLike s s' → IsSameOrDeep (substituted s t) (substituted s' t)
substituted_like s s' (Variable x) h = value_like s s' x h
substituted_like s s' (Function f) h = inl refl
substituted_like s s' (Applied t u) h = congruent (substituted s t) (substituted s' t) (substituted s u) (substituted s' u) (substituted_like s s' t h) (substituted_like s s' u h)

-- the terms of a form in scopes that are like each other
pub translated_like : (arity : Name → Option ℕ) (s s' : Substitution) (f : Form) → IsLike s s' → IsSameOrDeep (translated_in arity s f) (translated_in arity s' f)
translated_like arity s s' f h =
    subst (λ (t : Term). IsSameOrDeep t (translated_in arity s' f)) (sym (scopes_agree arity s f))
    (subst (λ (t : Term). IsSameOrDeep (substituted s (translated arity f)) t) (sym (scopes_agree arity s' f)) (substituted_like s s' (translated arity f) h))

shallow_id : (bank : Content) (r : TermId) (t : Term) → IsSound bank → IsIdOf bank r t → depth_limit < depth_of t → ⊥
shallow_id bank r t sound is deep =
    let at = sound.shallow r.0 (Function []) is.stands in
    let same : depth_of (term_at bank r) ≡ depth_of t = ap (λ (z : Term). depth_of z) is.denotes in
    omega (arith, at, same, deep)

no_deep_id : (bank : Content) (result : Result TermId BankFault) (t u : Term) → IsSound bank → depth_limit < depth_of t → IfOk result (λ r. IsIdOf bank r t) → IfOk result (λ r. IsIdOf bank r u)
no_deep_id bank (Ok r) t u sound deep is = absurd (shallow_id bank r t sound is deep)
no_deep_id bank (Err e) t u sound deep is = tt

-- what makes a term makes one like it
pub makes_like : (bank : Content) (result : Result TermId BankFault) (t u : Term) → IsSound bank → IsSameOrDeep t u → Makes bank result t → Makes bank result u
makes_like bank result t u sound (inl e) h = subst (λ (z : Term). Makes bank result z) e h
makes_like bank result t u sound (inr d) h = record { ok = no_deep_id bank result t u sound d.0 h.ok; deep = λ e. d.1 }

pub like_refl : (s : Substitution) → IsLike s s
like_refl [] = tt
like_refl (p ∷ s) = (refl, inl refl, like_refl s)

same_trans : (t u v : Term) → IsSameOrDeep t u → IsSameOrDeep u v → IsSameOrDeep t v
same_trans t u v (inl e) (inl k) = inl (e ∙ k)
same_trans t u v (inl e) (inr d) = inr (subst (λ (z : Term). depth_limit < depth_of z) (sym e) d.0, d.1)
same_trans t u v (inr d) (inl k) = inr (d.0, subst (λ (z : Term). depth_limit < depth_of z) k d.1)
same_trans t u v (inr d) (inr c) = inr (d.0, c.1)

like_trans : (a b c : Substitution) → IsLike a b → IsLike b c → IsLike a c
like_trans [] [] [] h k = tt
like_trans [] [] (r ∷ c) h k = absurd k
like_trans [] (q ∷ b) c h k = absurd h
like_trans (p ∷ a) [] c h k = absurd h
like_trans (p ∷ a) (q ∷ b) [] h k = absurd k
like_trans (p ∷ a) (q ∷ b) (r ∷ c) h k = (h.0 ∙ k.0, same_trans p.1 q.1 r.1 h.1 k.1, like_trans a b c h.2 k.2)

like_middle : (a : Substitution) (p q : Name × Term) (b : Substitution) → p.0 ≡ q.0 → IsSameOrDeep p.1 q.1 → IsLike (a ++ p ∷ b) (a ++ q ∷ b)
like_middle [] p q b e h = (e, h, like_refl b)
like_middle (r ∷ a) p q b e h = (refl, inl refl, like_middle a p q b e h)

-- one more binding, whose term is like the one that is wanted
pub like_more : (a : Substitution) (p q : Name × Term) (b c : Substitution) → p.0 ≡ q.0 → IsSameOrDeep p.1 q.1 → IsLike (a ++ q ∷ b) c → IsLike ((a ++ p ∷ []) ++ b) c
like_more a p q b c e h k =
    let same : (a ++ p ∷ []) ++ b ≡ a ++ (p ∷ b) = append_assoc a (p ∷ []) b in
    subst (λ (z : Substitution). IsLike z c) (sym same) (like_trans (a ++ p ∷ b) (a ++ q ∷ b) c (like_middle a p q b e h) k)

pub like_append : (a b c : Substitution) → IsLike a b → IsLike (a ++ c) (b ++ c)
like_append [] [] c h = like_refl c
like_append [] (q ∷ b) c h = absurd h
like_append (p ∷ a) [] c h = absurd h
like_append (p ∷ a) (q ∷ b) c h = (h.0, h.1, like_append a b c h.2)

pub scope_append : (bank : Content) (xs ys : List Binding) → scope_at bank (xs ++ ys) ≡ scope_at bank xs ++ scope_at bank ys
scope_append bank [] ys = refl
scope_append bank (x ∷ xs) ys = ap (λ (z : Substitution). (x.name.now, bound_term bank x.term) ∷ z) (scope_append bank xs ys)

pub bound_grown : (old new : Content) (o : Option TermId) → Grows old new → IfSome o (Stands old) → bound_term new o ≡ bound_term old o
bound_grown old new None h stands = refl
bound_grown old new (Some t) h stands = term_at-grown old new t h stands

-- a scope in a bank that grew
pub scope_grown : (old new : Content) (scope : List Binding) → Grows old new → All (BindingStands old) scope → scope_at new scope ≡ scope_at old scope
scope_grown old new [] h stand = refl
scope_grown old new (b ∷ scope) h stand =
    ap (λ (z : Term). (b.name.now, z) ∷ scope_at new scope) (bound_grown old new b.term h (All-head (BindingStands old) b scope stand))
    ∙ ap (λ (z : Substitution). (b.name.now, bound_term old b.term) ∷ z) (scope_grown old new scope h (All-tail (BindingStands old) b scope stand))

pub some_grown : (old new : Content) (o : Option TermId) → Grows old new → IfSome o (Stands old) → IfSome o (Stands new)
some_grown old new None h stands = tt
some_grown old new (Some t) h stands = Stands-grown old new t h stands

pub bindings_grown : (old new : Content) (scope : List Binding) → Grows old new → All (BindingStands old) scope → All (BindingStands new) scope
bindings_grown old new scope h stand = λ k d below. some_grown old new (get_or scope k d).term h (stand k d below)

-- one more binding
pub stand_more : (bank : Content) (xs : List Binding) (name : Option (Bor (List ℕ))) (o : Option TermId) → All (BindingStands bank) xs → IfSome o (Stands bank) → All (BindingStands bank) (xs ++ binding_of name o)
stand_more bank xs None o stand h = subst (λ (z : List Binding). All (BindingStands bank) z) (sym (append-nil xs)) stand
stand_more bank xs (Some name) o stand h = All-push (BindingStands bank) xs (record { name = name; term = o }) stand h

pub all_append : (bank : Content) (xs ys : List Binding) → All (BindingStands bank) xs → All (BindingStands bank) ys → All (BindingStands bank) (xs ++ ys)
all_append bank [] ys h k = k
all_append bank (x ∷ xs) ys h k = all_more bank x (xs ++ ys) (All-head (BindingStands bank) x xs h) (all_append bank xs ys (All-tail (BindingStands bank) x xs h) k) where
  all_more : (bank : Content) (x : Binding) (xs : List Binding) → BindingStands bank x → All (BindingStands bank) xs → All (BindingStands bank) (x ∷ xs)
  all_more bank x xs h k zero d below = h
  all_more bank x xs h k (suc i) d below = k i d (omega arith)
