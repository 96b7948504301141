-- What the kind that is found says of a call.
use Rattle.std.proofs.Common.{◌≡◌, ◌≢◌, ◌∙◌, ℕ, zero, suc, Bool, true, false, Option, Some, None, List, [], ◌∷◌, length, refl, sym, ap, subst, arith}
use Rattle.std.specs.Prelude.{slice_get, codes, bytes_eq, ◌==◌, ◌&&◌, if◌then◌else◌}
use Rattle.std.proofs.lemmas.Bool.{eqb-true}
use Rattle.nq_logic.specs.Terms.{Name, Term, Variable, Function, call}
use Rattle.nq_logic.specs.Words.{numeral}
use Rattle.nq_logic.specs.Histories.{History}
use Rattle.nq_logic.specs.Ground.{numbers}
use Rattle.nq_logic.specs.ShellPrinciple.{shells_of, is_base}
use Rattle.nq_proof.proofs.Tests.{and_left, and_right, names_same}
use Rattle.nq_types.specs.declared.kinds.Kind.{Kind}
use Rattle.nq_types.specs.declared.kinds.Kind.TheVariants.{Truth, Falsity, Other}
use Rattle.nq_types.specs.Kinds.{HasKind, IsBaseAt, IsMadeAt, IsOfKind, of_truth, of_falsity, of_base, of_made}
use Rattle.nq_types.specs.Finding.{first_from, has_base, makes, kind_made, kind_based, kind_of_none, kind_of_call}
use Rattle.nq_types.proofs.CallLemmas.{same_arguments, same_function, no_variable, no_arguments}
use Rattle.nq_types.proofs.FindingLemmas.{Found, found, found_none}

name_itself : (xs : List ℕ) → bytes_eq xs xs ≡ true
name_itself [] = refl
name_itself (x ∷ xs) = grind (arith, name_itself xs)

base_told : (f : Name) (o : Option Name) → is_base f o ≡ true → o ≡ Some f
base_told f None e = absurd cc
base_told f (Some b) e = ap Some (sym (names_same f b e))

base_holds : (f : Name) (o : Option Name) → o ≡ Some f → is_base f o ≡ true
base_holds f o e = subst (λ o. is_base f o ≡ true) (sym e) (name_itself f)

both_true : (a b : Bool) → a ≡ true → b ≡ true → (a && b) ≡ true
both_true true true h k = refl
both_true true false h k = k
both_true false b h k = h

number_itself : (n : ℕ) → (n == n) ≡ true
number_itself n = grind arith

no_kind : (b : Bool) → b ≡ true → b ≡ false → ⊥
no_kind true h k = cc
no_kind false h k = cc

-- a variable has no kind
pub variable_kind : (h : History) (t : Term) (x : Name) → t ≡ Variable x → HasKind h t Other
variable_kind h t x is k (of_truth e) = no_variable x (codes "TRUE") [] (sym is ∙ e)
variable_kind h t x is k (of_falsity e) = no_variable x (codes "FALSE") [] (sym is ∙ e)
variable_kind h t x is k (of_base j b) = no_variable x b.base [] (sym is ∙ b.is)
variable_kind h t x is k (of_made j m) = no_variable x m.shell.constructor m.arguments (sym is ∙ m.is)

module _ (h : History) (t : Term) (f : Name) (ts : List Term) (is : t ≡ call f ts) where
  -- no shell has the constructor with so many parts
  made_none : first_from (makes f (length ts)) 0 (shells_of h) ≡ None → (k : ℕ) → IsMadeAt h t k → ⊥
  made_none e k m =
      let same : call f ts ≡ call m.shell.constructor m.arguments = sym is ∙ m.is in
      let name : bytes_eq f m.shell.constructor ≡ true = subst (λ g. bytes_eq f g ≡ true) (same_function f m.shell.constructor ts m.arguments same) (name_itself f) in
      let count : length m.shell.parts ≡ length ts = sym m.count ∙ ap length (sym (same_arguments f m.shell.constructor ts m.arguments same)) in
      no_kind (makes f (length ts) m.shell) (both_true (bytes_eq f m.shell.constructor) (length m.shell.parts == length ts) name (subst (λ n. (length m.shell.parts == n) ≡ true) count (number_itself (length m.shell.parts)))) (found_none (makes f (length ts)) 0 (shells_of h) e k m.shell m.at)

  made_some : (p : ℕ) → first_from (makes f (length ts)) 0 (shells_of h) ≡ Some p → IsMadeAt h t p
  made_some p e =
      let q : Found (makes f (length ts)) 0 p (shells_of h) = found (makes f (length ts)) 0 (shells_of h) p e in
      let place : q.offset ≡ p = omega (arith, q.is) in
      let name : f ≡ q.shell.constructor = names_same f q.shell.constructor (and_left (bytes_eq f q.shell.constructor) (length q.shell.parts == length ts) q.holds) in
      let count : length q.shell.parts ≡ length ts = eqb-true (length q.shell.parts) (length ts) (and_right (bytes_eq f q.shell.constructor) (length q.shell.parts == length ts) q.holds) in
      record {
        shell = q.shell;
        at = subst (λ n. slice_get (shells_of h) n ≡ Some q.shell) place q.at;
        arguments = ts;
        count = sym count;
        is = is ∙ ap (λ g. call g ts) name;
      }

  -- a call that is neither T, F nor a base is made by a constructor or has no kind
  made_kind_holds : ((k : ℕ) → IsOfKind h t k → ((j : ℕ) → IsMadeAt h t j → ⊥) → ⊥) → (o : Option ℕ) → first_from (makes f (length ts)) 0 (shells_of h) ≡ o → HasKind h t (kind_made o)
  made_kind_holds others None e = λ k w. others k w (made_none e)
  made_kind_holds others (Some p) e = made_some p e

  module _ (none : length ts ≡ 0) where
    constant : t ≡ Function f
    constant = is ∙ ap (λ us. call f us) (no_arguments ts none)

    based_holds : (o : Option ℕ) (kind : Kind) → first_from (has_base f) 0 (shells_of h) ≡ o → (((k : ℕ) → IsBaseAt h t k → ⊥) → HasKind h t kind) → HasKind h t (kind_based o kind)
    based_holds None kind e rest =
        rest (λ k b.
        let name : b.base ≡ f = same_function b.base f [] [] (sym b.is ∙ constant) in
        no_kind (has_base f b.shell) (base_holds f b.shell.base (b.has ∙ ap Some name)) (found_none (has_base f) 0 (shells_of h) e k b.shell b.at))
    based_holds (Some p) kind e rest =
        let q : Found (has_base f) 0 p (shells_of h) = found (has_base f) 0 (shells_of h) p e in
        let place : q.offset ≡ p = omega (arith, q.is) in
        record { shell = q.shell; at = subst (λ n. slice_get (shells_of h) n ≡ Some q.shell) place q.at; base = f; has = base_told f q.shell.base q.holds; is = constant }

    others_none : (f ≡ codes "TRUE" → ⊥) → (f ≡ codes "FALSE" → ⊥) → ((k : ℕ) → IsBaseAt h t k → ⊥) → (k : ℕ) → IsOfKind h t k → ((j : ℕ) → IsMadeAt h t j → ⊥) → ⊥
    others_none truth falsity base k (of_truth e) made = truth (same_function f (codes "TRUE") [] [] (sym constant ∙ e))
    others_none truth falsity base k (of_falsity e) made = falsity (same_function f (codes "FALSE") [] [] (sym constant ∙ e))
    others_none truth falsity base k (of_base j b) made = base j b
    others_none truth falsity base k (of_made j m) made = made j m

    no_name : (g : Name) → bytes_eq f g ≡ false → f ≡ g → ⊥
    no_name g e same = no_kind (bytes_eq f g) (subst (λ x. bytes_eq f x ≡ true) same (name_itself f)) e

    none_holds : (a b : Bool) → bytes_eq f (codes "TRUE") ≡ a → bytes_eq f (codes "FALSE") ≡ b → HasKind h t (if a then Truth else if b then Falsity else kind_based (first_from (has_base f) 0 (shells_of h)) (kind_made (first_from (makes f 0) 0 (shells_of h))))
    none_holds true b e g = constant ∙ ap Function (names_same f (codes "TRUE") e)
    none_holds false true e g = constant ∙ ap Function (names_same f (codes "FALSE") g)
    none_holds false false e g =
        based_holds (first_from (has_base f) 0 (shells_of h)) (kind_made (first_from (makes f 0) 0 (shells_of h))) refl (λ base.
        subst (λ n. HasKind h t (kind_made (first_from (makes f n) 0 (shells_of h)))) none
        (made_kind_holds (others_none (no_name (codes "TRUE") e) (no_name (codes "FALSE") g) base) (first_from (makes f (length ts)) 0 (shells_of h)) refl))

  more_none : (length ts ≡ 0 → ⊥) → (k : ℕ) → IsOfKind h t k → ((j : ℕ) → IsMadeAt h t j → ⊥) → ⊥
  more_none more k (of_truth e) made = more (ap length (same_arguments f (codes "TRUE") ts [] (sym is ∙ e)))
  more_none more k (of_falsity e) made = more (ap length (same_arguments f (codes "FALSE") ts [] (sym is ∙ e)))
  more_none more k (of_base j b) made = more (ap length (same_arguments f b.base ts [] (sym is ∙ b.is)))
  more_none more k (of_made j m) made = made j m

  by_count : (b : Bool) → (length ts == 0) ≡ b → HasKind h t (if b then kind_of_none f (shells_of h) else kind_made (first_from (makes f (length ts)) 0 (shells_of h)))
  by_count true e = none_holds (eqb-true (length ts) 0 e) (bytes_eq f (codes "TRUE")) (bytes_eq f (codes "FALSE")) refl refl
  by_count false e = made_kind_holds (more_none (λ same. no_kind (length ts == 0) (subst (λ n. (n == 0) ≡ true) (sym same) refl) e)) (first_from (makes f (length ts)) 0 (shells_of h)) refl

  pub call_kind_holds : (n : ℕ) → n ≡ length ts → HasKind h t (kind_of_call f n (shells_of h))
  call_kind_holds n e = subst (λ m. HasKind h t (kind_of_call f m (shells_of h))) (sym e) (by_count (length ts == 0) refl)

-- zero is the base of the first shell, and its constructor makes the other numbers
pub zero_kind : (h : History) (n : ℕ) → n ≡ 0 → IsBaseAt h (numeral n) 0
unfolding numeral
zero_kind h zero e = record { shell = numbers; at = refl; base = codes "ZERO"; has = refl; is = refl }
zero_kind h (suc n) e = absurd (omega (arith, e))

pub more_kind : (h : History) (n : ℕ) → n ≢ 0 → IsMadeAt h (numeral n) 0
unfolding numeral
more_kind h zero e = absurd (e refl)
more_kind h (suc n) e = record { shell = numbers; at = refl; arguments = numeral n ∷ []; count = refl; is = refl }
