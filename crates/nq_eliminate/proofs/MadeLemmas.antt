-- What an elimination by the rule of a shell puts in the places of the destructor calls and of the variable.
use Rattle.std.proofs.Common.{◌≡◌, ℕ, Bool, true, false, ◌&&◌, if◌then◌else◌, List, [], ◌∷◌, map, refl, sym, ap, ◌∙◌, inl, inr}
use Rattle.std.specs.Prelude.{Option, Some, None, bytes_eq, codes}
use Rattle.nq_logic.specs.Terms.{Name, Term, Variable, Function, Applied, applied, call, substituted, IsAmong, Substitution}
use Rattle.nq_logic.specs.Histories.{Shell, Part}
use Rattle.nq_logic.specs.Shells.{whole, remade, recognizes, accessed}
use Rattle.nq_logic.specs.RuleShapes.{inner_terms, is_destructor_call}
use Rattle.nq_bank.proofs.Texts.{eq-bytes_eq}
use Rattle.nq_proof.specs.Clauses.{Clause, distinct, same_term, without}
use Rattle.nq_goals.specs.Eliminating.{destructors, destructors_of, has_parts, hypotheses_of, no_base, renaming_of, whole_of}
use Rattle.nq_goals.specs.Generalizing.{chosen_from}
use Rattle.nq_goals.specs.Replacing.{parts_in_all}
use Rattle.nq_stuck.proofs.CallLemmas.{inner_applied}
use Rattle.nq_stuck.proofs.EliminationLemmas.{whole_not_distinct}
use Rattle.nq_eliminate.specs.Shells.{eliminating_by, rule_of}
use Rattle.nq_eliminate.specs.Made.{base_denied, hypotheses_on}

-- the destructor calls of the rule are the accessors' calls on X
chosen_calls : (parts : List Part) → chosen_from (is_destructor_call (codes "X")) (parts_in_all (accessed whole parts)) ≡ accessed whole parts
chosen_calls [] = refl
chosen_calls (part ∷ parts) = ap (λ r. Applied (Function part.accessor) whole ∷ r) (chosen_calls parts)

not_first : (t : Term) (ts : List Term) → is_destructor_call (codes "X") t ≡ false → chosen_from (is_destructor_call (codes "X")) (t ∷ ts) ≡ chosen_from (is_destructor_call (codes "X")) ts
not_first t ts e = ap (λ b. elim b as (λ b. List Term) [ true ↦ t ∷ chosen_from (is_destructor_call (codes "X")) ts | false ↦ chosen_from (is_destructor_call (codes "X")) ts ]) e

and_false : (a b : Bool) → a ≡ false → (a && b) ≡ false
and_false true b e = absurd (cc)
and_false false b e = refl

pub destructors_are : (s : Shell) → has_parts (map (λ part. part.accessor) s.parts) ≡ true → destructors (rule_of s) ≡ distinct (accessed whole s.parts)
destructors_are s some =
    let none : is_destructor_call (codes "X") (remade s) ≡ false = and_false _ _ (whole_not_distinct s s.parts some) in
    ap distinct
    (not_first (remade s) (inner_terms (remade s)) none
    ∙ (ap (chosen_from (is_destructor_call (codes "X"))) (inner_applied (Function s.constructor) (accessed whole s.parts))
    ∙ chosen_calls s.parts))

-- the rule's terms with a variable for X
module _ (s : Shell) (x : Name) where
  abbrev r : Substitution
  r = renaming_of (eliminating_by s x)

  applied_made : (t u : Term) (parts : List Part) → substituted r t ≡ u → substituted r (applied t (accessed whole parts)) ≡ applied u (accessed (Variable x) parts)
  applied_made t u [] e = e
  applied_made t u (part ∷ parts) e = applied_made (Applied t (Applied (Function part.accessor) whole)) (Applied u (Applied (Function part.accessor) (Variable x))) parts (ap (λ v. Applied v (Applied (Function part.accessor) (Variable x))) e)

  pub whole_made : whole_of (eliminating_by s x) ≡ call s.constructor (accessed (Variable x) s.parts)
  whole_made = applied_made (Function s.constructor) (Function s.constructor) s.parts refl

  base_made : (b : Option Name) → map (substituted r) (no_base b) ≡ base_denied (Variable x) b
  base_made None = refl
  base_made (Some b) = refl

  pub hypotheses_made : hypotheses_of (eliminating_by s x) ≡ hypotheses_on (Variable x) s
  hypotheses_made = ap (λ hs. recognizes s (Variable x) ∷ hs) (base_made s.base)

  -- copies are copies
  same_calls : (f g : Name) → same_term (Applied (Function f) whole) (Applied (Function g) whole) ≡ same_term (Applied (Function f) (Variable x)) (Applied (Function g) (Variable x))
  same_calls f g = ap (λ b. elim (bytes_eq f g) as (λ c. Bool) [ true ↦ b | false ↦ false ]) (sym (eq-bytes_eq x x refl))

  calls_made : (parts : List Part) → map (substituted r) (accessed whole parts) ≡ accessed (Variable x) parts
  calls_made [] = refl
  calls_made (part ∷ parts) = ap (λ c. Applied (Function part.accessor) (Variable x) ∷ c) (calls_made parts)

-- a map that tells terms apart as they are, on clauses without copies
abbrev pub Faithful : (Term → Term) → Clause → Type 0
Faithful f c = (t u : Term) → IsAmong t c → IsAmong u c → same_term t u ≡ same_term (f t) (f u)

without_mapped : (f : Term → Term) (t : Term) (c : Clause) → ((u : Term) → IsAmong u c → same_term t u ≡ same_term (f t) (f u)) → map f (without t c) ≡ without (f t) (map f c)
without_mapped f t [] each = refl
without_mapped f t (u ∷ c) each = by_test (without_mapped f t c (λ v m. each v (inr m))) (same_term t u) refl
  where
    by_test : map f (without t c) ≡ without (f t) (map f c) → (b : Bool) → same_term t u ≡ b → map f (if b then without t c else u ∷ without t c) ≡ (if same_term (f t) (f u) then without (f t) (map f c) else f u ∷ without (f t) (map f c))
    by_test rest true e = rest ∙ sym (ap (λ b. if b then without (f t) (map f c) else f u ∷ without (f t) (map f c)) (sym (each u (inl refl)) ∙ e))
    by_test rest false e = ap (λ d. f u ∷ d) rest ∙ sym (ap (λ b. if b then without (f t) (map f c) else f u ∷ without (f t) (map f c)) (sym (each u (inl refl)) ∙ e))

fewer : (u t : Term) (c : Clause) → IsAmong u (without t c) → IsAmong u c
fewer u t [] m = absurd m
fewer u t (v ∷ c) m = by_test (λ n. fewer u t c n) (same_term t v) m
  where
    by_test : (IsAmong u (without t c) → IsAmong u c) → (b : Bool) → IsAmong u (if b then without t c else v ∷ without t c) → IsAmong u (v ∷ c)
    by_test later true n = inr (later n)
    by_test later false (inl is) = inl is
    by_test later false (inr n) = inr (later n)

within_distinct : (u : Term) (c : Clause) → IsAmong u (distinct c) → IsAmong u c
within_distinct u [] m = absurd m
within_distinct u (t ∷ c) (inl is) = inl is
within_distinct u (t ∷ c) (inr m) = inr (within_distinct u c (fewer u t (distinct c) m))

distinct_mapped : (f : Term → Term) (c : Clause) → Faithful f c → map f (distinct c) ≡ distinct (map f c)
distinct_mapped f [] each = refl
distinct_mapped f (t ∷ c) each =
    ap (λ d. f t ∷ d)
    (without_mapped f t (distinct c) (λ u m. each t u (inl refl) (inr (within_distinct u c m)))
    ∙ ap (without (f t)) (distinct_mapped f c (λ a b m n. each a b (inr m) (inr n))))

-- an accessor's call on X
record OnX (t : Term) : Type 0 where
  pub function : List ℕ
  pub is : t ≡ Applied (Function function) whole

on_x : (parts : List Part) (t : Term) → IsAmong t (accessed whole parts) → OnX t
on_x [] t m = absurd m
on_x (part ∷ parts) t (inl is) = record { function = part.accessor; is = is }
on_x (part ∷ parts) t (inr m) = on_x parts t m

faithful : (s : Shell) (x : Name) (t u : Term) → OnX t → OnX u → same_term t u ≡ same_term (substituted (renaming_of (eliminating_by s x)) t) (substituted (renaming_of (eliminating_by s x)) u)
faithful s x t u left right =
    let f = substituted (renaming_of (eliminating_by s x)) in
    ap (λ v. same_term v u) left.is
    ∙ (ap (same_term (Applied (Function left.function) whole)) right.is
    ∙ (same_calls s x left.function right.function
    ∙ (ap (λ v. same_term v (Applied (Function right.function) (Variable x))) (sym (ap f left.is)) ∙ ap (same_term (f t)) (sym (ap f right.is)))))

pub destructors_made : (s : Shell) (x : Name) → has_parts (map (λ part. part.accessor) s.parts) ≡ true → destructors_of (eliminating_by s x) ≡ distinct (accessed (Variable x) s.parts)
destructors_made s x some =
    let f = substituted (renaming_of (eliminating_by s x)) in
    ap (map f) (destructors_are s some)
    ∙ (distinct_mapped f (accessed whole s.parts) (λ t u m n. faithful s x t u (on_x s.parts t m) (on_x s.parts u n))
    ∙ ap distinct (calls_made s x s.parts))
