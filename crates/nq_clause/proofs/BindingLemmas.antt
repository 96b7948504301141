-- What bindings give, and what stays when there are more.
use Rattle.std.proofs.Common.{◌≡◌, ℕ, ◌+◌, ◌<◌, ◌⊎◌, false, cond, List, [], ◌∷◌, ◌++◌, length, get_or, drop, refl, sym, ap, ◌∙◌, subst, inl, inr}
use Rattle.std.specs.Prelude.{IsTrue, bytes_eq}
use Rattle.std.proofs.lemmas.Bool.{cases_Bool, or_cases, or_left, or_right, cond-true, cond-false}
use Rattle.std.proofs.lemmas.List.{map-append, drop_more, at_drop_more}
use Rattle.nq_logic.specs.Terms.{Name, Term, Variable, Function, Applied, IsAmong, Substitution, value_at, substituted}
use Rattle.nq_logic.specs.Admissible.{AreDistinct}
use Rattle.nq_bank.specs.Parts.{occurs}
use Rattle.nq_bank.specs.Content.{Content, text_at}
use Rattle.nq_bank.proofs.Texts.{bytes_eq-true, eq-bytes_eq}
use Rattle.nq_clause.specs.declared.binding.Binding.{Binding}
use Rattle.nq_clause.proofs.InstanceLemmas.{false_true}
use Rattle.nq_clause.specs.Binding.{bound_at, bindings_at, variables_of, Extends, BindsAll}

pub first : {t u p q : Term} → Applied t p ≡ Applied u q → t ≡ u
first e = cc

pub second : {t u p q : Term} → Applied t p ≡ Applied u q → p ≡ q
second e = cc

-- two substitutions that give one term give each variable of it the same
pub same_where_occurs : (s r : Substitution) (t : Term) → substituted s t ≡ substituted r t → (x : Name) → IsTrue (occurs x t) → value_at s x ≡ value_at r x
unfolding occurs
same_where_occurs s r (Variable y) e x h =
    subst (λ z. value_at s z ≡ value_at r z) (sym (bytes_eq-true x y h)) e
same_where_occurs s r (Function f) e x h = absurd (false_true h)
same_where_occurs s r (Applied t u) e x h =
    elim (or_cases (occurs x t) (occurs x u) h) [
      | inl in_t ↦ same_where_occurs s r t (first e) x in_t
      | inr in_u ↦ same_where_occurs s r u (second e) x in_u
    ]

-- and where they give each variable of it the same, they give one term
pub substituted_same : (s r : Substitution) (t : Term) → ((x : Name) → IsTrue (occurs x t) → value_at s x ≡ value_at r x) → substituted s t ≡ substituted r t
unfolding occurs
substituted_same s r (Variable y) h = h y (eq-bytes_eq y y refl)
substituted_same s r (Function f) h = refl
substituted_same s r (Applied t u) h =
    let left : substituted s t ≡ substituted r t = substituted_same s r t (λ x o. h x (or_left (occurs x t) (occurs x u) o)) in
    let right : substituted s u ≡ substituted r u = substituted_same s r u (λ x o. h x (or_right (occurs x t) (occurs x u) o)) in
    cc

pub extended_same : (s r : Substitution) (t : Term) → Extends s r → BindsAll r t → substituted s t ≡ substituted r t
extended_same s r t h all = substituted_same s r t (λ x o. h.same x (all.bound x o))

-- what is bound already is what more bindings give
pub value_at-bound : (r more : Substitution) (x : Name) → IsAmong x (variables_of r) → value_at (r ++ more) x ≡ value_at r x
value_at-bound [] more x h = absurd h
value_at-bound (b ∷ r) more x h =
    elim (cases_Bool (bytes_eq x b.0)) [
      | inl here ↦ cond-true (bytes_eq x b.0) b.1 (value_at (r ++ more) x) here ∙ sym (cond-true (bytes_eq x b.0) b.1 (value_at r x) here)
      | inr other ↦ cond-false (bytes_eq x b.0) b.1 (value_at (r ++ more) x) other ∙ value_at-bound r more x (later other h) ∙ sym (cond-false (bytes_eq x b.0) b.1 (value_at r x) other)
    ]
  where
    later : bytes_eq x b.0 ≡ false → (x ≡ b.0) ⊎ IsAmong x (variables_of r) → IsAmong x (variables_of r)
    later other (inl e) = absurd (false_true (sym other ∙ eq-bytes_eq x b.0 e))
    later other (inr m) = m

-- what is not bound yet is what more bindings give it
pub value_at-new : (r more : Substitution) (x : Name) → (IsAmong x (variables_of r) → ⊥) → value_at (r ++ more) x ≡ value_at more x
value_at-new [] more x h = refl
value_at-new (b ∷ r) more x h =
    elim (cases_Bool (bytes_eq x b.0)) [
      | inl here ↦ absurd (h (inl (bytes_eq-true x b.0 here)))
      | inr other ↦ cond-false (bytes_eq x b.0) b.1 (value_at (r ++ more) x) other ∙ value_at-new r more x (λ m. h (inr m))
    ]

pub value_at-first : (x : Name) (t : Term) (r : Substitution) → value_at ((x, t) ∷ r) x ≡ t
value_at-first x t r = cond-true (bytes_eq x x) t (value_at r x) (eq-bytes_eq x x refl)

pub among_or : (x : Name) (r more : Substitution) → IsAmong x (variables_of (r ++ more)) → IsAmong x (variables_of r) ⊎ IsAmong x (variables_of more)
among_or x [] more h = inr h
among_or x (b ∷ r) more (inl e) = inl (inl e)
among_or x (b ∷ r) more (inr h) =
    elim (among_or x r more h) [ inl m ↦ inl (inr m) | inr m ↦ inr m ]

pub among_before : (x : Name) (r more : Substitution) → IsAmong x (variables_of r) → IsAmong x (variables_of (r ++ more))
among_before x [] more h = absurd h
among_before x (b ∷ r) more (inl e) = inl e
among_before x (b ∷ r) more (inr h) = inr (among_before x r more h)

pub among_after : (x : Name) (r more : Substitution) → IsAmong x (variables_of more) → IsAmong x (variables_of (r ++ more))
among_after x [] more h = h
among_after x (b ∷ r) more h = inr (among_after x r more h)

-- one more variable
pub distinct_push : (r : Substitution) (x : Name) (t : Term) → AreDistinct (variables_of r) → (IsAmong x (variables_of r) → ⊥) → AreDistinct (variables_of (r ++ (x, t) ∷ []))
distinct_push [] x t h none = (λ m. m, tt)
distinct_push (b ∷ r) x t h none =
    (λ m. not_here (among_or b.0 r ((x, t) ∷ []) m), distinct_push r x t h.1 (λ m. none (inr m)))
  where
    not_here : IsAmong b.0 (variables_of r) ⊎ IsAmong b.0 (x ∷ []) → ⊥
    not_here (inl m) = h.0 m
    not_here (inr (inl e)) = none (inl (sym e))
    not_here (inr (inr m)) = m

pub bindings_at-append : (bank : Content) (old more : List Binding) → bindings_at bank (old ++ more) ≡ bindings_at bank old ++ bindings_at bank more
bindings_at-append bank old more = map-append (λ b. (text_at bank b.variable, bound_at bank b.bound)) old more

-- more bindings give what those that stood give
pub more_extends : (bank : Content) (old more new : List Binding) → new ≡ old ++ more → Extends (bindings_at bank new) (bindings_at bank old)
more_extends bank old more new whole =
    record { same = λ x m. ap (λ r. value_at r x) (ap (bindings_at bank) whole ∙ bindings_at-append bank old more) ∙ value_at-bound (bindings_at bank old) (bindings_at bank more) x m }

pub among_kept : (bank : Content) (x : Name) (old more new : List Binding) → new ≡ old ++ more → IsAmong x (variables_of (bindings_at bank old)) → IsAmong x (variables_of (bindings_at bank new))
among_kept bank x old more new whole m =
    subst (λ r. IsAmong x (variables_of r)) (sym (ap (bindings_at bank) whole ∙ bindings_at-append bank old more)) (among_before x (bindings_at bank old) (bindings_at bank more) m)

pub binds_more : (bank : Content) (t : Term) (old more new : List Binding) → new ≡ old ++ more → BindsAll (bindings_at bank old) t → BindsAll (bindings_at bank new) t
binds_more bank t old more new whole h =
    record { bound = λ x o. among_kept bank x old more new whole (h.bound x o) }

pub Extends-refl : (s : Substitution) → Extends s s
Extends-refl s = record { same = λ x m. refl }

module _ (bank : Content) (x : Name) (bs : List Binding) (i : ℕ) (d : Binding) (below : i < length bs) where
  left_first : drop i bs ≡ get_or bs i d ∷ drop (i + 1) bs
  left_first = drop_more bs i d below

  -- the variable of the next binding is bound
  pub among_next : IsTrue (bytes_eq x (text_at bank (get_or bs i d).variable)) → IsAmong x (variables_of (bindings_at bank (drop i bs)))
  among_next h =
      subst (λ rest. IsAmong x (variables_of (bindings_at bank rest))) (sym left_first) (inl (bytes_eq-true x (text_at bank (get_or bs i d).variable) h))

  -- what the later ones bind is bound
  pub among_later : IsAmong x (variables_of (bindings_at bank (drop (i + 1) bs))) → IsAmong x (variables_of (bindings_at bank (drop i bs)))
  among_later h = subst (λ rest. IsAmong x (variables_of (bindings_at bank rest))) (sym left_first) (inr h)

  -- another variable is bound by the later ones
  pub among_other : bytes_eq x (text_at bank (get_or bs i d).variable) ≡ false → IsAmong x (variables_of (bindings_at bank (drop i bs))) → IsAmong x (variables_of (bindings_at bank (drop (i + 1) bs)))
  among_other h m = of_later (subst (λ rest. IsAmong x (variables_of (bindings_at bank rest))) left_first m)
    where
      of_later : (x ≡ text_at bank (get_or bs i d).variable) ⊎ IsAmong x (variables_of (bindings_at bank (drop (i + 1) bs))) → IsAmong x (variables_of (bindings_at bank (drop (i + 1) bs)))
      of_later (inl e) = absurd (false_true (sym h ∙ eq-bytes_eq x (text_at bank (get_or bs i d).variable) e))
      of_later (inr there) = there

  pub value_next : value_at (bindings_at bank (drop i bs)) x ≡ cond (bytes_eq x (text_at bank (get_or bs i d).variable)) (bound_at bank (get_or bs i d).bound) (value_at (bindings_at bank (drop (i + 1) bs)) x)
  value_next = at_drop_more (λ rest. value_at (bindings_at bank rest) x) bs i d below

  pub value_here : IsTrue (bytes_eq x (text_at bank (get_or bs i d).variable)) → value_at (bindings_at bank (drop i bs)) x ≡ bound_at bank (get_or bs i d).bound
  value_here h = value_next ∙ cond-true (bytes_eq x (text_at bank (get_or bs i d).variable)) (bound_at bank (get_or bs i d).bound) (value_at (bindings_at bank (drop (i + 1) bs)) x) h

  pub value_later : bytes_eq x (text_at bank (get_or bs i d).variable) ≡ false → value_at (bindings_at bank (drop i bs)) x ≡ value_at (bindings_at bank (drop (i + 1) bs)) x
  value_later h = value_next ∙ cond-false (bytes_eq x (text_at bank (get_or bs i d).variable)) (bound_at bank (get_or bs i d).bound) (value_at (bindings_at bank (drop (i + 1) bs)) x) h
