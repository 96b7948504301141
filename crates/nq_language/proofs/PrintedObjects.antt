-- The object of a value has that value.
use Prim.Native.String.{String as Text}
use Rattle.std.proofs.Common.{◌≡◌, ℕ, zero, suc, ◌+◌, ◌<◌, ◌≤◌, Bool, true, false, List, [], ◌∷◌, length, inl, inr, refl, ap, sym, ◌∙◌, subst, arith, cond, ltb}
use Rattle.std.specs.Prelude.{◌⊎◌, Option, None, Some, ◌&&◌, not, nat_le, bytes_eq, codes, if◌then◌else◌}
use Rattle.std.specs.List.{list_all}
use Rattle.std.proofs.lemmas.Slice.Eq.{bytes_eq-Decides}
use Rattle.std.proofs.lemmas.Grind.{common_steps}
use Rattle.nq_logic.specs.Terms.{Name, Term, Variable, Function, Applied}
use Rattle.nq_logic.specs.Words.{numeral, numerals}
use Rattle.nq_form.specs.Form.{Form, Forms, symbol, numeral as number, text, quoted, listed, end, dotted, next}
use Rattle.nq_form.specs.Token.{begins_symbol}
use Rattle.nq_form.specs.Spelling.{IsPlain, AllPlain, is_capital}
use Rattle.nq_language.specs.Abbreviations.{is_word}
use Rattle.nq_language.specs.Objects.{cons_term, nil_term, atom_term, value}
use Rattle.nq_logic.specs.Numerals.{next_number, number_after, number_of, numeral_limit}
use Rattle.nq_language.specs.Limits.{is_function}
use Rattle.nq_language.specs.Refusals.{Met, OutOfScope, first, is_escape, object_met}
use Rattle.nq_language.specs.Quotations.{codes_of, with_code, is_atom_name, atom_object, number_object, negative_object, single_object, onto, pair_object, object_of}

-- a chosen value that is there
pub chosen : {X : Type 0} (b : Bool) (o p : Option X) (x : X) → (if b then o else p) ≡ Some x → ((b ≡ true) × (o ≡ Some x)) ⊎ ((b ≡ false) × (p ≡ Some x))
chosen true o p x h = inl (refl, h)
chosen false o p x h = inr (refl, h)

pub only_chosen : {X : Type 0} (b : Bool) (o : Option X) (x : X) → (if b then o else None) ≡ Some x → (b ≡ true) × (o ≡ Some x)
only_chosen true o x h = (refl, h)
only_chosen false o x h = absurd (cc)

pub same_name : (f g : Name) → bytes_eq f g ≡ true → f ≡ g
same_name f g h = (bytes_eq-Decides f g).0 h

pub same_function : (w : Text) (t : Term) → is_function w t ≡ true → t ≡ Function (codes w)
same_function w (Variable x) h = absurd (cc)
same_function w (Function f) h = ap Function (same_name f (codes w) h)
same_function w (Applied t u) h = absurd (cc)

next_below : (m n limit : ℕ) → (if ltb (m + 1) limit then Some (m + 1) else None) ≡ Some n → (n ≡ suc m) × (n < limit)
next_below m n limit h = grind (arith, common_steps)

next_is : (o : Option ℕ) (n : ℕ) → next_number o ≡ Some n → (m : ℕ) × (o ≡ Some m) × (n ≡ suc m) × (n < numeral_limit)
next_is None n h = absurd (cc)
next_is (Some m) n h = let below = next_below m n numeral_limit h in (m, refl, below.0, below.1)

-- a function after which a number comes is ADD1
after_is : (t : Term) (o : Option ℕ) (n : ℕ) → number_after t o ≡ Some n → (t ≡ Function (codes "ADD1")) × (next_number o ≡ Some n)
after_is (Variable x) o n h = absurd (cc)
after_is (Function f) o n h = let c = only_chosen (bytes_eq f (codes "ADD1")) (next_number o) n h in (ap Function (same_name f (codes "ADD1") c.0), c.1)
after_is (Applied t u) o n h = absurd (cc)

after_add1 : (t : Term) (o : Option ℕ) → is_function "ADD1" t ≡ true → number_after t o ≡ next_number o
after_add1 (Variable x) o h = absurd (cc)
after_add1 (Function f) o h = ap (λ b. cond b (next_number o) None) h
after_add1 (Applied t u) o h = absurd (cc)

next_numeral : (t u : Term) (n m : ℕ) → t ≡ Function (codes "ADD1") → u ≡ numeral m → n ≡ suc m → Applied t u ≡ numeral n
unfolding numeral
next_numeral t u n m at below more = rw (at, below, more) refl

-- a term with a number is its numeral
pub numeral_is : (t : Term) (n : ℕ) → number_of t ≡ Some n → (t ≡ numeral n) × (n < numeral_limit)
unfolding number_of numeral
numeral_is (Variable x) n h = absurd (cc)
numeral_is (Function f) n h =
    let c = only_chosen (bytes_eq f (codes "ZERO")) (Some 0) n h in
    let at : f ≡ codes "ZERO" = same_name f (codes "ZERO") c.0 in
    let is : n ≡ 0 = cc in
    rw (at, is) (refl, omega arith)
numeral_is (Applied t u) n h =
    let c = after_is t (number_of u) n h in
    let m = next_is (number_of u) n c.1 in
    let below : u ≡ numeral m.0 = (numeral_is u m.0 m.1).0 in
    (next_numeral t u n m.0 c.0 below m.2, m.3)

with_code_is : (o : Option ℕ) (p : Option (List ℕ)) (ns : List ℕ) → with_code o p ≡ Some ns → (n : ℕ) × (ms : List ℕ) × (o ≡ Some n) × (p ≡ Some ms) × (ns ≡ n ∷ ms)
with_code_is None p ns h = absurd (cc)
with_code_is (Some n) None ns h = absurd (cc)
with_code_is (Some n) (Some ms) ns h = (n, ms, refl, refl, cc)

more_numerals : (f a b : Term) (n : ℕ) (ms ns : List ℕ) → f ≡ Function (codes "CONS") → a ≡ numeral n → b ≡ numerals ms → ns ≡ n ∷ ms → Applied (Applied f a) b ≡ numerals ns
more_numerals f a b n ms ns at front behind whole = rw (at, front, behind, whole) refl

codes_are : (t : Term) (ns : List ℕ) → codes_of t ≡ Some ns → t ≡ numerals ns
unfolding codes_of
codes_are (Variable x) ns h = absurd (cc)
codes_are (Function f) ns h =
    let c = only_chosen (bytes_eq f (codes "ZERO")) (Some []) ns h in
    let at : f ≡ codes "ZERO" = same_name f (codes "ZERO") c.0 in
    let is : ns ≡ [] = cc in
    rw (at, is) refl
codes_are (Applied (Variable x) b) ns h = absurd (cc)
codes_are (Applied (Function f) b) ns h = absurd (cc)
codes_are (Applied (Applied f a) b) ns h =
    let c = only_chosen (is_function "CONS" f) (with_code (number_of a) (codes_of b)) ns h in
    let w = with_code_is (number_of a) (codes_of b) ns c.1 in
    let at : f ≡ Function (codes "CONS") = same_function "CONS" f c.0 in
    let front : a ≡ numeral w.0 = (numeral_is a w.0 w.2).0 in
    let behind : b ≡ numerals w.1 = codes_are b w.1 w.3 in
    more_numerals f a b w.0 w.1 ns at front behind w.4

-- the form is an object with this value, which nothing is refused in
pub record IsObject (t : Term) (f : Form) : Type 0 where
  pub valued : value f ≡ t
  pub met : object_met f ≡ None
  pub plain : IsPlain f

both_none : (r s : Met) → r ≡ None → s ≡ None → first r s ≡ None
both_none r s h k = rw (h, k) refl

all_plain : (fs : Forms) → IsPlain (listed fs) → AllPlain fs
all_plain end h = h
all_plain (dotted f) h = absurd h
all_plain (next f fs) h = h

before_tail : (s t : Term) (a b : Form) → IsObject s a → IsObject t b → IsObject (cons_term s t) (listed (next a (dotted b)))
unfolding value
before_tail s t a b h k = record { valued = rw (h.valued, k.valued) refl; met = both_none _ _ h.met k.met; plain = (h.plain, k.plain) }

before_name : (c : Bool) (s t : Term) (a : Form) (x : Name) → is_word "NIL" x ≡ c → IsObject s a → IsObject t (symbol x)
    → IsObject (cons_term s t) (if c then listed (next a end) else listed (next a (dotted (symbol x))))
unfolding value
before_name true s t a x e h k =
    let at : x ≡ codes "NIL" = same_name x (codes "NIL") e in
    let tail : nil_term ≡ t = subst (λ (z : Name). atom_term z ≡ t) at k.valued in
    record { valued = rw (h.valued, tail) refl; met = both_none _ _ h.met refl; plain = (h.plain, tt) }
before_name false s t a x e h k = before_tail s t a (symbol x) h k

onto_is : (s t : Term) (a b : Form) → IsObject s a → IsObject t b → IsObject (cons_term s t) (onto a b)
unfolding value
onto_is s t a (symbol x) h k = before_name (is_word "NIL" x) s t a x refl h k
onto_is s t a (number negative n) h k = before_tail s t a (number negative n) h k
onto_is s t a (text bytes) h k = before_tail s t a (text bytes) h k
onto_is s t a (quoted f) h k = before_tail s t a (quoted f) h k
onto_is s t a (listed fs) h k = record { valued = rw (h.valued, k.valued) refl; met = both_none _ _ h.met k.met; plain = (h.plain, all_plain fs k.plain) }

pair_is : (o p : Option Form) (f : Form) → pair_object o p ≡ Some f → (a : Form) × (b : Form) × (o ≡ Some a) × (p ≡ Some b) × (f ≡ onto a b)
pair_is None p f h = absurd (cc)
pair_is (Some a) None f h = absurd (cc)
pair_is (Some a) (Some b) f h = (a, b, refl, refl, cc)

number_is : (t : Term) (n : ℕ) → t ≡ numeral n → n < numeral_limit → IsObject t (number false n)
unfolding value
number_is t n e h = record { valued = sym e; met = refl; plain = h }

number_object_is : (o : Option ℕ) (f : Form) → number_object o ≡ Some f → (n : ℕ) × (o ≡ Some n) × (f ≡ number false n)
number_object_is None f h = absurd (cc)
number_object_is (Some n) f h = (n, refl, cc)

negative_object_is : (o : Option ℕ) (f : Form) → negative_object o ≡ Some f → (n : ℕ) × (o ≡ Some (suc n)) × (f ≡ number true (suc n))
negative_object_is None f h = absurd (cc)
negative_object_is (Some zero) f h = absurd (cc)
negative_object_is (Some (suc n)) f h = (n, refl, cc)

atom_object_is : (o : Option Name) (f : Form) → atom_object o ≡ Some f → (x : Name) × (o ≡ Some x) × (is_atom_name x ≡ true) × (f ≡ symbol x)
atom_object_is None f h = absurd (cc)
atom_object_is (Some x) f h = let c = only_chosen (is_atom_name x) (Some (symbol x)) f h in (x, refl, c.0, cc)

and_left : (a b : Bool) → (a && b) ≡ true → a ≡ true
and_left true b h = refl
and_left false b h = h

and_right : (a b : Bool) → (a && b) ≡ true → b ≡ true
and_right true b h = h
and_right false b h = absurd (cc)

not_false : (b : Bool) → not b ≡ true → b ≡ false
not_false true h = sym h
not_false false h = refl

short_name : (n m : ℕ) → nat_le n m ≡ true → n ≤ m
short_name n m h = grind (arith, common_steps)

atom_is : (t a : Term) (x : Name) → t ≡ Function (codes "PACK") → a ≡ numerals x → is_atom_name x ≡ true → IsObject (Applied t a) (symbol x)
unfolding value
atom_is t a x at is h =
    let more = and_right (list_all is_capital x) _ h in
    let last = and_right (begins_symbol x) _ more in
    record {
      valued = rw (at, is) refl;
      met = ap (λ b. cond b (Some (OutOfScope x)) None) (not_false (is_escape x) (and_right (nat_le (length x) 256) _ last));
      plain = record { capitals = and_left (list_all is_capital x) _ h; front = and_left (begins_symbol x) _ more; short = short_name (length x) 256 (and_left (nat_le (length x) 256) _ last) };
    }

negative_is : (t a : Term) (n : ℕ) → t ≡ Function (codes "MINUS") → a ≡ numeral (suc n) → suc n < numeral_limit → IsObject (Applied t a) (number true (suc n))
unfolding value
negative_is t a n at is h = record { valued = rw (at, is) refl; met = refl; plain = (omega arith, h) }

object_as : (t : Term) (f g : Form) → f ≡ g → IsObject t g → IsObject t f
object_as t f g e h = subst (λ (z : Form). IsObject t z) (sym e) h

as_number : (t : Term) (o : Option ℕ) (f : Form) → number_object o ≡ Some f → ((n : ℕ) → o ≡ Some n → (t ≡ numeral n) × (n < numeral_limit)) → IsObject t f
as_number t o f h k = let n = number_object_is o f h in let is = k n.0 n.1 in object_as t f _ n.2 (number_is t n.0 is.0 is.1)

as_negative : (t a : Term) (f : Form) → t ≡ Function (codes "MINUS") → negative_object (number_of a) ≡ Some f → IsObject (Applied t a) f
as_negative t a f at h = let n = negative_object_is (number_of a) f h in let is = numeral_is a (suc n.0) n.1 in object_as _ f _ n.2 (negative_is t a n.0 at is.0 is.1)

as_atom : (t a : Term) (f : Form) → t ≡ Function (codes "PACK") → atom_object (codes_of a) ≡ Some f → IsObject (Applied t a) f
as_atom t a f at h = let x = atom_object_is (codes_of a) f h in object_as _ f _ x.3 (atom_is t a x.0 at (codes_are a x.0 x.1) x.2)

single_is : (t a : Term) (f : Form) → single_object t a ≡ Some f → IsObject (Applied t a) f
unfolding number_of
single_is t a f h = elim (chosen (is_function "ADD1" t) (number_object (next_number (number_of a))) _ f h) [
  | inl k ↦ as_number (Applied t a) (next_number (number_of a)) f k.1 (λ n e. numeral_is (Applied t a) n (after_add1 t (number_of a) k.0 ∙ e))
  | inr k ↦ elim (chosen (is_function "MINUS" t) (negative_object (number_of a)) _ f k.1) [
    | inl m ↦ as_negative t a f (same_function "MINUS" t m.0) m.1
    | inr m ↦ let p = only_chosen (is_function "PACK" t) (atom_object (codes_of a)) f m.1 in as_atom t a f (same_function "PACK" t p.0) p.1
  ]
]

zero_object : (f : Name) (o : Form) → f ≡ codes "ZERO" → o ≡ number false 0 → IsObject (Function f) o
unfolding numeral
zero_object f o at is = object_as (Function f) o (number false 0) is (number_is (Function f) 0 (ap Function at) (omega arith))

as_pair : (t a b : Term) (x y f : Form) → t ≡ Function (codes "CONS") → IsObject a x → IsObject b y → f ≡ onto x y → IsObject (Applied (Applied t a) b) f
as_pair t a b x y f at h k is =
    object_as _ f (onto x y) is (subst (λ (z : Term). IsObject (Applied (Applied z a) b) (onto x y)) (sym at) (onto_is a b x y h k))

-- the object of a value has that value
pub object_is : (t : Term) (f : Form) → object_of t ≡ Some f → IsObject t f
unfolding object_of
object_is (Variable x) f h = absurd (cc)
object_is (Function g) f h =
    let c = only_chosen (bytes_eq g (codes "ZERO")) (Some (number false 0)) f h in
    zero_object g f (same_name g (codes "ZERO") c.0) (cc)
object_is (Applied (Variable x) a) f h = single_is (Variable x) a f h
object_is (Applied (Function g) a) f h = single_is (Function g) a f h
object_is (Applied (Applied t a) b) f h =
    let c = only_chosen (is_function "CONS" t) (pair_object (object_of a) (object_of b)) f h in
    let p = pair_is (object_of a) (object_of b) f c.1 in
    as_pair t a b p.0 p.1 f (same_function "CONS" t c.0) (object_is a p.0 p.2) (object_is b p.1 p.3) p.4
