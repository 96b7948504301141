-- What the rule of a shell names is over the history's functions.
use Rattle.std.proofs.Common.{◌≡◌, ℕ, zero, suc, Bool, true, false, ◌||◌, Option, Some, None, List, [], ◌∷◌, refl, sym, ap, subst, inl, inr}
use Rattle.std.specs.Prelude.{codes}
use Rattle.nq_logic.specs.Terms.{Name, Symbol, Term, Variable, Function, Applied, applied, substituted, Each, IsAmong, Substitution, Takes}
use Rattle.nq_logic.specs.Histories.{History, Shell, Part}
use Rattle.nq_logic.specs.Ground.{symbols_of}
use Rattle.nq_logic.specs.Shells.{accessed, is_base, recognizes, remade, whole}
use Rattle.nq_logic.specs.Words.{equal_term, not_term}
use Rattle.nq_logic.proofs.Lists.{among_left, among_right, each_at}
use Rattle.nq_proof.specs.Clauses.{Clause, same_term}
use Rattle.nq_proof.specs.Rows.{axiom_clause}
use Rattle.nq_proof.proofs.Tests.{same_true}
use Rattle.nq_kernel.specs.Over.{IsTermOf, IsVariable, VariablesAre}
use Rattle.nq_lines.specs.OwnTerms.{HasOwnTerms, IsOver}
use Rattle.nq_lines.proofs.FactLemmas.{substituted_over}
use Rattle.nq_goals.specs.Replacing.{stands_in, stands_in_one, stands_within}
use Rattle.nq_eliminate.specs.Made.{IsShellOver, made_on, made_row}

-- the arguments of a term that is over some functions
record Down (symbols : List Symbol) (t : Term) (ts : List Term) : Type 0 where
  arity : ℕ
  takes : Takes symbols t arity
  are : VariablesAre IsVariable t
  each : Each (IsTermOf IsVariable symbols) ts

down : (symbols : List Symbol) (t : Term) (ts : List Term) (n : ℕ) → Takes symbols (applied t ts) n → VariablesAre IsVariable (applied t ts) → Down symbols t ts
down symbols t [] n h k = record { arity = n; takes = h; are = k; each = tt }
down symbols t (u ∷ ts) n h k =
    let d = down symbols (Applied t u) ts n h k in
    record { arity = suc d.arity; takes = d.takes.0; are = d.are.0; each = (record { over = d.takes.1; variables = d.are.1 }, d.each) }

module _ (h : History) (own : HasOwnTerms h) (s : Shell) (row : axiom_clause h s.constructor 5 0 ≡ Some (made_row s)) (x : Name) (plain : IsVariable x) where
  abbrev put : Substitution
  put = (codes "X", Variable x) ∷ []

  each_over : Each (IsOver h) (made_row s)
  each_over = own.rows s.constructor 5 0 (made_row s) row

  put_over : (t : Term) → IsOver h t → IsOver h (substituted put t)
  put_over t over = substituted_over IsVariable (symbols_of h) put t (record { over = tt; variables = plain }, tt) over

  parts_put : (t : Term) (parts : List Part) → substituted put (applied t (accessed whole parts)) ≡ applied (substituted put t) (accessed (Variable x) parts)
  parts_put t [] = refl
  parts_put t (part ∷ parts) = parts_put (Applied t (Applied (Function part.accessor) whole)) parts

  equation_over : IsOver h (equal_term (remade s) whole)
  equation_over = each_at (IsOver h) (equal_term (remade s) whole) (made_row s) each_over (inr (among_right (equal_term (remade s) whole) (is_base s.base) (equal_term (remade s) whole ∷ []) (inl refl)))

  whole_over : IsOver h (made_on (Variable x) s)
  whole_over =
      let k = equation_over in
      subst (IsOver h) (parts_put (Function s.constructor) s.parts) (put_over (remade s) (record { over = k.over.0.1; variables = k.variables.0.1 }))

  base_among : (o : Option Name) (b : Name) → o ≡ Some b → IsAmong (equal_term whole (Function b)) (is_base o)
  base_among None b e = absurd (cc)
  base_among (Some c) b e = let same : c ≡ b = cc in inl (ap (λ f. equal_term whole (Function f)) (sym same))

  pub shell_over : IsShellOver h s (Variable x)
  shell_over =
      record {
        made = whole_over;
        calls = (down (symbols_of h) (Function s.constructor) (accessed (Variable x) s.parts) zero whole_over.over whole_over.variables).each;
        recognized =
            let k = put_over (not_term (recognizes s whole)) each_over.0 in
            record { over = k.over.1; variables = k.variables.1 };
        base = λ b e.
            let k = each_at (IsOver h) (equal_term whole (Function b)) (made_row s) each_over (inr (among_left (equal_term whole (Function b)) (is_base s.base) (equal_term (remade s) whole ∷ []) (base_among s.base b e))) in
            record { over = k.over.1; variables = k.variables.1 };
      }

-- ---- a variable that stands in a goal

or_either : (a b : Bool) (P : Type 0) → (a ≡ true → P) → (b ≡ true → P) → (a || b) ≡ true → P
or_either true b P f g e = f refl
or_either false b P f g e = g e

module _ (P : Name → Type 0) where
  within_are : (a t : Term) → stands_within a t ≡ true → VariablesAre P t → VariablesAre P a
  within_are a (Variable y) e k = absurd (cc)
  within_are a (Function f) e k = absurd (cc)
  within_are a (Applied t u) e k =
      or_either (stands_within a t) (same_term a u || stands_within a u) (VariablesAre P a) (λ h. within_are a t h k.0)
      (λ h. or_either (same_term a u) (stands_within a u) (VariablesAre P a) (λ same. subst (VariablesAre P) (sym (same_true a u same)) k.1) (λ inner. within_are a u inner k.1) h) e

  part_are : (a t : Term) → stands_in a t ≡ true → VariablesAre P t → VariablesAre P a
  part_are a t e k = or_either (same_term a t) (stands_within a t) (VariablesAre P a) (λ same. subst (VariablesAre P) (sym (same_true a t same)) k) (λ inner. within_are a t inner k) e

  pub one_are : (a : Term) (c : Clause) → ((t : Term) → IsAmong t c → VariablesAre P t) → stands_in_one a c ≡ true → VariablesAre P a
  one_are a [] each e = absurd (cc)
  one_are a (t ∷ c) each e = or_either (stands_in a t) (stands_in_one a c) (VariablesAre P a) (λ h. part_are a t h (each t (inl refl))) (λ h. one_are a c (λ u m. each u (inr m)) h) e
