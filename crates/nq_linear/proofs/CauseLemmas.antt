-- The numbers of which it is told that they leave the bounds do so, and a numeral of which it is told stands in the term.
use Rattle.std.proofs.Common.{◌≡◌, ◌⊎◌, ℕ, Bool, true, false, ◌&&◌, cond, Option, Some, None, List, [], ◌∷◌, refl, subst, inl, inr}
use Rattle.std.specs.Prelude.{ℤ, pos, neg_ℤ, ◌+ℤ◌, ◌*ℤ◌, IfSome}
use Rattle.nq_logic.specs.Terms.{Term, Variable, Function, Applied, IsAmong}
use Rattle.nq_logic.specs.Numerals.{is_numeral}
use Rattle.nq_proof.specs.Paths.{is_function}
use Rattle.nq_proof.specs.Clauses.{same_term}
use Rattle.nq_proof.specs.Values.{number_or_zero}
use Rattle.nq_proof.specs.Linear.{Form, and_then, bounded, with_atom, scaled, constant_form, form_of, difference_form}
use Rattle.nq_proof.proofs.Tests.{and_right}
use Rattle.nq_linear_rule.specs.declared.faults.Fault.{Fault}
use Rattle.nq_linear_rule.specs.declared.faults.Fault.TheVariants.{Passes, Wide}
use Rattle.nq_linear_rule.specs.Faults.{unless, first_of, sum_passes, product_passes, is_wide, atom_fault, atoms_fault, added_fault, multiples_fault, scaled_fault, sum_fault, times_fault, form_fault, difference_fault, literal_fault, literals_fault}
use Rattle.nq_linear.specs.Causes.{IsNumeralOf, HoldsNumeral, LeaveBounds, ArePassing, IsTooWide}

-- the two leave the bounds, or the numeral does and stands in the term
abbrev IsCauseIn : Term → Fault → Type 0
IsCauseIn t (Passes x y) = LeaveBounds x y
IsCauseIn t (Wide n) = (bounded (pos n) ≡ None) × HoldsNumeral n t

abbrev IsCaused : Term → Option Fault → Type 0
IsCaused t o = IfSome o (IsCauseIn t)

-- each numeral of the first stands in the second
abbrev IsPartOf : Term → Term → Type 0
IsPartOf t u = (n : ℕ) → HoldsNumeral n t → HoldsNumeral n u

here : (n : ℕ) (t : Term) → IsNumeralOf n t → HoldsNumeral n t
here n (Variable x) h = h
here n (Function f) h = h
here n (Applied t u) h = inl h

first_caused : (t : Term) (a b : Option Fault) → IsCaused t a → IsCaused t b → IsCaused t (first_of a b)
first_caused t (Some fault) b h k = h
first_caused t None b h k = k

unless_caused : (t : Term) (o : Option ℤ) (fault : Fault) → (o ≡ None → IsCauseIn t fault) → IsCaused t (unless o fault)
unless_caused t None fault h = h refl
unless_caused t (Some n) fault h = tt

part_cause : (t u : Term) (fault : Fault) → IsPartOf t u → IsCauseIn t fault → IsCauseIn u fault
part_cause t u (Passes x y) part h = h
part_cause t u (Wide n) part h = (h.0, part n h.1)

part_caused : (t u : Term) (o : Option Fault) → IsPartOf t u → IsCaused t o → IsCaused u o
part_caused t u None part h = tt
part_caused t u (Some fault) part h = part_cause t u fault part h

then_caused : {X : Type 0} (t : Term) (o : Option X) (next : X → Option Fault) → ((x : X) → IsCaused t (next x)) → IsCaused t (and_then o next)
then_caused t None next h = tt
then_caused t (Some x) next h = h x

if_caused : (t : Term) (b : Bool) (x y : Option Fault) → IsCaused t x → IsCaused t y → IsCaused t (cond b x y)
if_caused t true x y h k = h
if_caused t false x y h k = k

chosen_caused : (t : Term) (b : Bool) (x y : Option Fault) → (b ≡ true → IsCaused t x) → IsCaused t y → IsCaused t (elim b as (λ b. Option Fault) [ true ↦ x | false ↦ y ])
chosen_caused t true x y h k = h refl
chosen_caused t false x y h k = k

module _ (t : Term) where
  sum_caused : (x y : ℤ) → IsCaused t (sum_passes x y)
  sum_caused x y = unless_caused t (bounded (x +ℤ y)) (Passes x y) (λ e. inl e)

  product_caused : (x y : ℤ) → IsCaused t (product_passes x y)
  product_caused x y = unless_caused t (bounded (x *ℤ y)) (Passes x y) (λ e. inr e)

  wide_caused : (n : ℕ) → HoldsNumeral n t → IsCaused t (is_wide n)
  wide_caused n h = unless_caused t (bounded (pos n)) (Wide n) (λ e. (e, h))

  atom_caused : (u : Term) (z : ℤ) (atoms : List (Term × ℤ)) → IsCaused t (atom_fault u z atoms)
  atom_caused u z [] = tt
  atom_caused u z (a ∷ atoms) = if_caused t (same_term u a.0) (sum_passes a.1 z) (atom_fault u z atoms) (sum_caused a.1 z) (atom_caused u z atoms)

  atoms_caused : (atoms more : List (Term × ℤ)) → IsCaused t (atoms_fault atoms more)
  atoms_caused atoms [] = tt
  atoms_caused atoms (a ∷ more) =
      first_caused t (atom_fault a.0 a.1 atoms) (and_then (with_atom a.0 a.1 atoms) (λ sum. atoms_fault sum more)) (atom_caused a.0 a.1 atoms)
      (then_caused t (with_atom a.0 a.1 atoms) (λ sum. atoms_fault sum more) (λ sum. atoms_caused sum more))

  added_caused : (a b : Form) → IsCaused t (added_fault a b)
  added_caused a b = first_caused t (sum_passes a.constant b.constant) (atoms_fault a.atoms b.atoms) (sum_caused a.constant b.constant) (atoms_caused a.atoms b.atoms)

  multiples_caused : (z : ℤ) (atoms : List (Term × ℤ)) → IsCaused t (multiples_fault z atoms)
  multiples_caused z [] = tt
  multiples_caused z (a ∷ atoms) = first_caused t (product_passes z a.1) (multiples_fault z atoms) (product_caused z a.1) (multiples_caused z atoms)

  scaled_caused : (z : ℤ) (a : Form) → IsCaused t (scaled_fault z a)
  scaled_caused z a = first_caused t (product_passes z a.constant) (multiples_fault z a.atoms) (product_caused z a.constant) (multiples_caused z a.atoms)

  both_caused : (a b : Option Form) → IsCaused t (sum_fault a b)
  both_caused a b = then_caused t a (λ x. and_then b (λ y. added_fault x y)) (λ x. then_caused t b (λ y. added_fault x y) (λ y. added_caused x y))

  times_caused : (n : ℕ) (a : Option Form) → HoldsNumeral n t → IsCaused t (times_fault n a)
  times_caused n a h = first_caused t (is_wide n) (and_then a (λ y. scaled_fault (pos n) y)) (wide_caused n h) (then_caused t a (λ y. scaled_fault (pos n) y) (λ y. scaled_caused (pos n) y))

numeral_here : (t : Term) → is_numeral t ≡ true → HoldsNumeral (number_or_zero t) t
numeral_here t e = here (number_or_zero t) t (record { numeral = e; number = refl })

-- the arguments of a call of one and of two are parts of it
argument_part : (f t : Term) → IsPartOf t (Applied f t)
argument_part f t = λ n h. inr (inr h)

first_part : (f a b : Term) → IsPartOf a (Applied (Applied f a) b)
first_part f a b = λ n h. inr (inl (inr (inr h)))

form_caused : (t : Term) → IsCaused t (form_fault t)
form_caused (Variable x) = tt
form_caused (Function f) = tt
form_caused (Applied (Variable x) t) = tt
form_caused (Applied (Function f) t) =
    let whole = Applied (Function f) t in
    let more = first_of (form_fault t) (sum_fault (form_of t) (constant_form (pos 1))) in
    chosen_caused whole (is_numeral whole) (is_wide (number_or_zero whole)) (elim (is_function "ADD1" (Function f)) as (λ b. Option Fault) [ true ↦ more | false ↦ None ])
    (λ e. wide_caused whole (number_or_zero whole) (numeral_here whole e))
    (chosen_caused whole (is_function "ADD1" (Function f)) more None
    (λ e. first_caused whole (form_fault t) (sum_fault (form_of t) (constant_form (pos 1))) (part_caused t whole (form_fault t) (argument_part (Function f) t) (form_caused t)) (both_caused whole (form_of t) (constant_form (pos 1))))
    tt)
form_caused (Applied (Applied f a) b) =
    let whole = Applied (Applied f a) b in
    let left = part_caused a whole (form_fault a) (first_part f a b) (form_caused a) in
    let right = part_caused b whole (form_fault b) (argument_part (Applied f a) b) (form_caused b) in
    let on_left = is_function "TIMES" f && is_numeral a in
    let on_right = is_function "TIMES" f && is_numeral b in
    let plus = first_of (form_fault a) (first_of (form_fault b) (sum_fault (form_of a) (form_of b))) in
    let by_left = first_of (form_fault b) (times_fault (number_or_zero a) (form_of b)) in
    let by_right = first_of (form_fault a) (times_fault (number_or_zero b) (form_of a)) in
    chosen_caused whole (is_function "PLUS" f) plus (elim on_left as (λ b. Option Fault) [ true ↦ by_left | false ↦ elim on_right as (λ b. Option Fault) [ true ↦ by_right | false ↦ None ] ])
    (λ e. first_caused whole (form_fault a) (first_of (form_fault b) (sum_fault (form_of a) (form_of b))) left (first_caused whole (form_fault b) (sum_fault (form_of a) (form_of b)) right (both_caused whole (form_of a) (form_of b))))
    (chosen_caused whole on_left by_left (elim on_right as (λ b. Option Fault) [ true ↦ by_right | false ↦ None ])
    (λ e.
    let n = number_or_zero a in
    let holds = first_part f a b n (numeral_here a (and_right (is_function "TIMES" f) (is_numeral a) e)) in
    first_caused whole (form_fault b) (times_fault n (form_of b)) right (times_caused whole n (form_of b) holds))
    (chosen_caused whole on_right by_right None
    (λ e.
    let n = number_or_zero b in
    let holds = argument_part (Applied f a) b n (numeral_here b (and_right (is_function "TIMES" f) (is_numeral b) e)) in
    first_caused whole (form_fault a) (times_fault n (form_of a)) left (times_caused whole n (form_of a) holds))
    tt))

difference_caused : (t a b : Term) → IsPartOf a t → IsPartOf b t → IsCaused t (difference_fault a b)
difference_caused t a b left right =
    let rest = sum_fault (form_of a) (and_then (form_of b) (λ y. scaled (neg_ℤ (pos 1)) y)) in
    first_caused t (form_fault a) (first_of (form_fault b) rest) (part_caused a t (form_fault a) left (form_caused a))
    (first_caused t (form_fault b) rest (part_caused b t (form_fault b) right (form_caused b)) (both_caused t (form_of a) (and_then (form_of b) (λ y. scaled (neg_ℤ (pos 1)) y))))

denied_caused : (n g a b : Term) →
    IsCaused (Applied n (Applied (Applied g a) b))
    (elim (is_function "NOT" n && is_function "LESSP" g) as (λ b. Option Fault) [
      | true ↦ first_of (difference_fault b a) (sum_fault (difference_form b a) (constant_form (neg_ℤ (pos 1))))
      | false ↦ elim (is_function "NOT" n && is_function "EQUAL" g) as (λ b. Option Fault) [ true ↦ difference_fault a b | false ↦ None ]
    ])
denied_caused n g a b =
    let whole = Applied n (Applied (Applied g a) b) in
    let left : IsPartOf a whole = λ m h. inr (inr (first_part g a b m h)) in
    let right : IsPartOf b whole = λ m h. inr (inr (argument_part (Applied g a) b m h)) in
    let less = first_of (difference_fault b a) (sum_fault (difference_form b a) (constant_form (neg_ℤ (pos 1)))) in
    chosen_caused whole (is_function "NOT" n && is_function "LESSP" g) less (elim (is_function "NOT" n && is_function "EQUAL" g) as (λ b. Option Fault) [ true ↦ difference_fault a b | false ↦ None ])
    (λ e. first_caused whole (difference_fault b a) (sum_fault (difference_form b a) (constant_form (neg_ℤ (pos 1)))) (difference_caused whole b a right left) (both_caused whole (difference_form b a) (constant_form (neg_ℤ (pos 1)))))
    (chosen_caused whole (is_function "NOT" n && is_function "EQUAL" g) (difference_fault a b) None (λ e. difference_caused whole a b left right) tt)

literal_caused : (t : Term) → IsCaused t (literal_fault t)
literal_caused (Variable x) = tt
literal_caused (Function f) = tt
literal_caused (Applied (Variable x) (Variable y)) = tt
literal_caused (Applied (Function f) (Variable y)) = tt
literal_caused (Applied (Variable x) (Function g)) = tt
literal_caused (Applied (Function f) (Function g)) = tt
literal_caused (Applied (Variable x) (Applied (Variable g) b)) = tt
literal_caused (Applied (Function f) (Applied (Variable g) b)) = tt
literal_caused (Applied (Variable x) (Applied (Function g) b)) = tt
literal_caused (Applied (Function f) (Applied (Function g) b)) = tt
literal_caused (Applied (Variable x) (Applied (Applied g a) b)) = denied_caused (Variable x) g a b
literal_caused (Applied (Function f) (Applied (Applied g a) b)) = denied_caused (Function f) g a b
literal_caused (Applied (Applied f a) b) =
    let whole = Applied (Applied f a) b in
    chosen_caused whole (is_function "LESSP" f) (difference_fault a b) None (λ e. difference_caused whole a b (first_part f a b) (argument_part (Applied f a) b)) tt

-- one of the literals has the cause
record HasCause (ts : List Term) (fault : Fault) : Type 0 where
  literal : Term
  among : IsAmong literal ts
  cause : IsCauseIn literal fault

some_is : (x y : Fault) → Some x ≡ Some y → x ≡ y
some_is x y e = cc

by_first : (t : Term) (ts : List Term) (fault : Fault) (o : Option Fault) → IsCaused t o → (literals_fault ts ≡ Some fault → HasCause ts fault) → first_of o (literals_fault ts) ≡ Some fault → HasCause (t ∷ ts) fault
by_first t ts fault (Some f) h rest e = record { literal = t; among = inl refl; cause = subst (IsCauseIn t) (some_is f fault e) h }
by_first t ts fault None h rest e = let r = rest e in record { literal = r.literal; among = inr r.among; cause = r.cause }

cause_of : (ts : List Term) (fault : Fault) → literals_fault ts ≡ Some fault → HasCause ts fault
cause_of [] fault e = absurd cc
cause_of (t ∷ ts) fault e = by_first t ts fault (literal_fault t) (literal_caused t) (cause_of ts fault) e

pub passing : (ts : List Term) (x y : ℤ) → literals_fault ts ≡ Some (Passes x y) → ArePassing ts x y
passing ts x y e = record { met = e; leave = (cause_of ts (Passes x y) e).cause }

pub too_wide : (ts : List Term) (n : ℕ) → literals_fault ts ≡ Some (Wide n) → IsTooWide ts n
too_wide ts n e = let c = cause_of ts (Wide n) e in record { met = e; leaves = c.cause.0; literal = c.literal; among = c.among; holds = c.cause.1 }
