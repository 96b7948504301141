-- Room for the variables of terms: distinct names that are among others are no more than these.
use Rattle.std.proofs.Common.{◌≡◌, ℕ, zero, suc, ◌<◌, ◌≤◌, ◌⊎◌, List, [], ◌∷◌, length, get_or, take, map, refl, sym, ap, ◌∙◌, subst, inl, inr, arith}
use Rattle.std.specs.Prelude.{All, IsTrue}
use Rattle.std.proofs.lemmas.Bool.{or_cases}
use Rattle.std.proofs.lemmas.List.{length-map, take-map}
use Rattle.nq_logic.specs.Terms.{Name, Term, Variable, Function, Applied, applied, call, IsAmong, Each}
use Rattle.nq_logic.specs.Admissible.{HasVariables, AreDistinct}
use Rattle.nq_bank.specs.declared.node.TermId.{TermId}
use Rattle.nq_bank.specs.Parts.{occurs, parts_of, UsesOnly}
use Rattle.nq_bank.specs.Soundness.{IsSound}
use Rattle.nq_bank.proofs.NodesLemmas.{All-head, All-tail}
use Rattle.nq_bank.specs.Content.{Content, Stands, term_at, terms_at, term_from, text_at}
use Rattle.nq_bank.proofs.Texts.{bytes_eq-true}
use Rattle.nq_clause.specs.declared.binding.Binding.{Binding}
use Rattle.nq_clause.specs.Binding.{bound_at, bindings_at, variables_of, BindsOnce, Matches}
use Rattle.nq_clause.specs.Subsumption.{HasRoom, HasRoomWith}
use Rattle.nq_clause.proofs.InstanceLemmas.{false_true}
use Rattle.nq_clause.proofs.BindingLemmas.{among_or, bindings_at-append}

-- a variable of the term is one of its names
occurs_named : (names : List Name) (t : Term) (x : Name) → HasVariables names t → IsTrue (occurs x t) → IsAmong x names
unfolding occurs
occurs_named names (Variable y) x h o = subst (λ z. IsAmong z names) (sym (bytes_eq-true x y o)) h
occurs_named names (Function f) x h o = absurd (false_true o)
occurs_named names (Applied t u) x h o =
    elim (or_cases (occurs x t) (occurs x u) o) [
      | inl in_t ↦ occurs_named names t x h.0 in_t
      | inr in_u ↦ occurs_named names u x h.1 in_u
    ]

-- the others, without one x
others : (x : Name) (ys : List Name) → IsAmong x ys → List Name
others x [] m = absurd m
others x (y ∷ ys) (inl e) = ys
others x (y ∷ ys) (inr m) = y ∷ others x ys m

length-others : (x : Name) (ys : List Name) (m : IsAmong x ys) → suc (length (others x ys m)) ≡ length ys
unfolding others
length-others x [] m = absurd m
length-others x (y ∷ ys) (inl e) = refl
length-others x (y ∷ ys) (inr m) = ap suc (length-others x ys m)

among_others : (x z : Name) (ys : List Name) (m : IsAmong x ys) → (x ≡ z → ⊥) → IsAmong z ys → IsAmong z (others x ys m)
unfolding others
among_others x z [] m differ h = absurd h
among_others x z (y ∷ ys) (inl e) differ (inl d) = absurd (differ (e ∙ sym d))
among_others x z (y ∷ ys) (inl e) differ (inr h) = h
among_others x z (y ∷ ys) (inr m) differ (inl d) = inl d
among_others x z (y ∷ ys) (inr m) differ (inr h) = inr (among_others x z ys m differ h)

-- distinct names among others are no more than these
distinct_fit : (xs ys : List Name) → AreDistinct xs → ((x : Name) → IsAmong x xs → IsAmong x ys) → length xs ≤ length ys
distinct_fit [] ys h f = omega arith
distinct_fit (x ∷ xs) ys h f =
    let m : IsAmong x ys = f x (inl refl) in
    let fit : length xs ≤ length (others x ys m) = distinct_fit xs (others x ys m) h.1 (λ z among. among_others x z ys m (λ e. h.0 (subst (λ w. IsAmong w xs) (sym e) among)) (f z (inr among))) in
    omega (arith, length-others x ys m, fit)

-- there is room for a variable that is not bound
pub room_left : (bank : Content) (x : Name) (old : List Binding) (room : ℕ) → HasRoomWith room (bindings_at bank old) (Variable x ∷ []) → BindsOnce (bindings_at bank old) → (IsAmong x (variables_of (bindings_at bank old)) → ⊥) → length old < room
room_left bank x old room h once none =
    let fit : length (x ∷ variables_of (bindings_at bank old)) ≤ length h.names = distinct_fit (x ∷ variables_of (bindings_at bank old)) h.names (none, once) within in
    let count : length (variables_of (bindings_at bank old)) ≡ length old = length-map (bindings_at bank old) (λ b. b.0) ∙ length-map old (λ b. (text_at bank b.variable, bound_at bank b.bound)) in
    omega (arith, fit, count, h.enough)
  where
    within : (z : Name) → IsAmong z (x ∷ variables_of (bindings_at bank old)) → IsAmong z h.names
    within z (inl e) = subst (λ w. IsAmong w h.names) (sym e) h.all.0
    within z (inr m) = h.bound z m

-- after a match there is still room
pub room_after : (bank : Content) (p t : Term) (ps qs : List Term) (old new : List Binding) (room left : ℕ) (h : HasRoomWith room (bindings_at bank old) ps) → HasVariables h.names p → Each (HasVariables h.names) qs → Matches bank p t old new → left ≡ room → HasRoomWith left (bindings_at bank new) qs
room_after bank p t ps qs old new room left h in_p in_qs m same =
    record {
      names = h.names;
      bound = λ x among. named x (among_or x (bindings_at bank old) (bindings_at bank m.more) (subst (λ r. IsAmong x (variables_of r)) (ap (bindings_at bank) m.whole ∙ bindings_at-append bank old m.more) among));
      all = in_qs;
      enough = omega (arith, h.enough, same);
    }
  where
    named : (x : Name) → IsAmong x (variables_of (bindings_at bank old)) ⊎ IsAmong x (variables_of (bindings_at bank m.more)) → IsAmong x h.names
    named x (inl stood) = h.bound x stood
    named x (inr added) = occurs_named h.names p x in_p (m.only.in_term x added)

each_take : (P : Term → Type 0) (ts : List Term) (i : ℕ) → Each P ts → Each P (take i ts)
each_take P ts zero h = tt
each_take P [] (suc i) h = tt
each_take P (t ∷ ts) (suc i) h = (h.0, each_take P ts i h.1)

each_get : (P : Term → Type 0) (g : TermId → Term) (ids : List TermId) (i : ℕ) (d : TermId) → i < length ids → Each P (map g ids) → P (g (get_or ids i d))
each_get P g [] i d below h = absurd (omega (arith, below))
each_get P g (a ∷ ids) zero d below h = h.0
each_get P g (a ∷ ids) (suc i) d below h = each_get P g ids i d (omega (arith, below)) h.1

has-applied : (names : List Name) (t : Term) (us : List Term) → HasVariables names t → Each (HasVariables names) us → HasVariables names (applied t us)
has-applied names t [] h k = h
has-applied names t (u ∷ us) h k = has-applied names (Applied t u) us (h, k.0) k.1

applied-has : (names : List Name) (t : Term) (us : List Term) → HasVariables names (applied t us) → HasVariables names t × Each (HasVariables names) us
applied-has names t [] h = (h, tt)
applied-has names t (u ∷ us) h =
    let rest = applied-has names (Applied t u) us h in
    (rest.0.0, (rest.0.1, rest.1))

-- there is room for the next argument after those that are matched
pub room_next : (bank : Content) (f : Name) (p t : Term) (ids : List TermId) (i : ℕ) (d : TermId) (old mid : List Binding) (room left : ℕ) → HasRoomWith room (bindings_at bank old) (p ∷ []) → p ≡ call f (parts_of p) → terms_at bank ids ≡ parts_of p → i < length ids → Matches bank (call f (terms_at bank (take i ids))) t old mid → left ≡ room → HasRoomWith left (bindings_at bank mid) (term_at bank (get_or ids i d) ∷ [])
room_next bank f p t ids i d old mid room left h is tells below m same =
    let whole : p ≡ call f (terms_at bank ids) = is ∙ ap (call f) (sym tells) in
    let each : Each (HasVariables h.names) (terms_at bank ids) = (applied-has h.names (Function f) (terms_at bank ids) (subst (HasVariables h.names) whole h.all.0)).1 in
    let so_far : HasVariables h.names (call f (terms_at bank (take i ids))) =
    has-applied h.names (Function f) (terms_at bank (take i ids)) tt (subst (Each (HasVariables h.names)) (take-map (term_from bank.terms) i ids) (each_take (HasVariables h.names) (terms_at bank ids) i each)) in
    room_after bank (call f (terms_at bank (take i ids))) t (p ∷ []) (term_at bank (get_or ids i d) ∷ []) old mid room left h so_far (each_get (HasVariables h.names) (term_from bank.terms) ids i d below each, tt) m same

uses_variables : (names : List Name) (t : Term) → UsesOnly names t → HasVariables names t
unfolding UsesOnly
uses_variables names (Variable x) h = h
uses_variables names (Function f) h = tt
uses_variables names (Applied t u) h = (uses_variables names t h.0, uses_variables names u h.1)

each_stands : (bank : Content) (ids : List TermId) → IsSound bank → All (Stands bank) ids → Each (HasVariables bank.names) (terms_at bank ids)
each_stands bank [] sound h = tt
each_stands bank (t ∷ ids) sound h = (
  uses_variables bank.names (term_at bank t) (sound.used t.0 (Function []) (All-head (Stands bank) t ids h)),
  each_stands bank ids sound (All-tail (Stands bank) t ids h),
)

-- room for the names of a bank is room for its terms
pub room_of_names : (bank : Content) (room : ℕ) (ids : List TermId) → IsSound bank → length bank.names ≤ room → All (Stands bank) ids → HasRoom room (terms_at bank ids)
room_of_names bank room ids sound enough stand =
    record { names = bank.names; all = each_stands bank ids sound stand; enough = enough }
