-- The texts of objects, piece by piece.
use Rattle.std.proofs.Common.{◌≡◌, ℕ, zero, suc, Bool, true, false, List, [], ◌∷◌, ◌++◌, refl, sym, ap, ◌∙◌, cond, append_assoc, append-nil}
use Rattle.std.specs.Prelude.{Result, Ok, Err, OnOk, Option, None, Some, not, is_some, bytes_eq, codes, decimal, Vec, if◌then◌else◌}
use Rattle.std.specs.declared.alloc.Global.{Global}
use Rattle.nq_logic.specs.Terms.{Name, Term, Function, Applied}
use Rattle.nq_logic.specs.Numerals.{number_of, next_number}
use Rattle.nq_form.specs.Form.{Form, symbol, numeral as number, text, quoted, listed, end, dotted, next}
use Rattle.nq_form.specs.Spelling.{spelled, spelled_rest}
use Rattle.nq_language.specs.Abbreviations.{is_word}
use Rattle.nq_language.specs.Quotations.{number_object, negative_object, is_atom_name, atom_object, codes_of, single_object, onto, pair_object}
use Rattle.nq_print.specs.Pieces.{object_text, tail_of, tail_text, is_nil_form, is_quoted, shown_text}
use Rattle.nq_print.specs.Atoms.{name_form}

pub text-number : (n : ℕ) → object_text (Some (number false n)) ≡ decimal n
unfolding spelled
text-number n = refl

pub text-negative : (n : ℕ) → is_some (negative_object (Some n)) ≡ true → object_text (negative_object (Some n)) ≡ 45 ∷ decimal n
unfolding spelled
text-negative zero h = absurd (cc)
text-negative (suc n) h = refl

pub text-atom : (name : Vec ℕ Global) → object_text (name_form (Some name)) ≡ name.items
unfolding spelled
text-atom name = refl

pub onto-tail : (a b : Form) → onto a b ≡ listed (next a (tail_of b))
onto-tail a (symbol x) = by_nil (is_word "NIL" x) where
  by_nil : (c : Bool) → (if c then listed (next a end) else listed (next a (dotted (symbol x)))) ≡ listed (next a (if c then end else dotted (symbol x)))
  by_nil true = refl
  by_nil false = refl
onto-tail a (number negative n) = refl
onto-tail a (text bytes) = refl
onto-tail a (quoted f) = refl
onto-tail a (listed fs) = refl

pub text-pair : (o p : Option Form) → is_some o ≡ true → is_some p ≡ true → object_text (pair_object o p) ≡ 40 ∷ (object_text o ++ tail_text p) ++ 41 ∷ []
unfolding spelled
text-pair None p h k = absurd (cc)
text-pair (Some a) None h k = absurd (cc)
text-pair (Some a) (Some b) h k = ap spelled (onto-tail a b)

pub tail-pair : (o p : Option Form) → is_some o ≡ true → is_some p ≡ true → tail_text (pair_object o p) ≡ 32 ∷ (object_text o ++ tail_text p)
unfolding spelled
tail-pair None p h k = absurd (cc)
tail-pair (Some a) None h k = absurd (cc)
tail-pair (Some a) (Some b) h k = ap (λ f. spelled_rest (tail_of f)) (onto-tail a b)

pub tail-number : (n : ℕ) → tail_text (Some (number false n)) ≡ 32 ∷ 46 ∷ 32 ∷ decimal n
unfolding spelled
tail-number n = refl

-- an object of a call of one argument is no list
abbrev is_listed : Option Form → Bool
is_listed (Some (listed fs)) = true
is_listed _ = false

number_unlisted : (o : Option ℕ) → is_listed (number_object o) ≡ false
number_unlisted None = refl
number_unlisted (Some n) = refl

negative_unlisted : (o : Option ℕ) → is_listed (negative_object o) ≡ false
negative_unlisted None = refl
negative_unlisted (Some zero) = refl
negative_unlisted (Some (suc n)) = refl

atom_unlisted : (o : Option Name) → is_listed (atom_object o) ≡ false
atom_unlisted None = refl
atom_unlisted (Some x) = by_name (is_atom_name x) where
  by_name : (c : Bool) → is_listed (if c then Some (symbol x) else None) ≡ false
  by_name true = refl
  by_name false = refl

one_unlisted : (c d e : Bool) (o p q : Option Form) → is_listed o ≡ false → is_listed p ≡ false → is_listed q ≡ false → is_listed (if c then o else (if d then p else (if e then q else None))) ≡ false
one_unlisted true d e o p q h k l = h
one_unlisted false true e o p q h k l = k
one_unlisted false false true o p q h k l = l
one_unlisted false false false o p q h k l = refl

single_unlisted : (f : Name) (a : Term) → is_listed (single_object (Function f) a) ≡ false
single_unlisted f a =
    one_unlisted (bytes_eq f (codes "ADD1")) (bytes_eq f (codes "MINUS")) (bytes_eq f (codes "PACK")) _ _ _ (number_unlisted (next_number (number_of a))) (negative_unlisted (number_of a)) (atom_unlisted (codes_of a))

tail_by : (o : Option Form) → is_listed o ≡ false → is_some o ≡ true → is_nil_form o ≡ false → tail_text o ≡ 32 ∷ 46 ∷ 32 ∷ object_text o
unfolding spelled
tail_by None h k l = absurd (cc)
tail_by (Some (symbol x)) h k l = ap (λ c. spelled_rest (cond c end (dotted (symbol x)))) l
tail_by (Some (number negative n)) h k l = refl
tail_by (Some (text bytes)) h k l = refl
tail_by (Some (quoted f)) h k l = refl
tail_by (Some (listed fs)) h k l = absurd (cc)

-- a tail that is no list and isn't NIL stands behind a dot
pub tail-single : (f : Name) (a : Term) → is_some (single_object (Function f) a) ≡ true → is_nil_form (single_object (Function f) a) ≡ false
    → tail_text (single_object (Function f) a) ≡ 32 ∷ 46 ∷ 32 ∷ object_text (single_object (Function f) a)
tail-single f a h k = tail_by (single_object (Function f) a) (single_unlisted f a) h k

pub tail-nil : (o : Option Form) → is_nil_form o ≡ true → tail_text o ≡ []
unfolding spelled
tail-nil None h = absurd (cc)
tail-nil (Some (symbol x)) h = ap (λ c. spelled_rest (cond c end (dotted (symbol x)))) h
tail-nil (Some (number negative n)) h = absurd (cc)
tail-nil (Some (text bytes)) h = absurd (cc)
tail-nil (Some (quoted f)) h = absurd (cc)
tail-nil (Some (listed fs)) h = absurd (cc)

-- with the quote mark
pub shown-quoted : (o : Option Form) → is_quoted o ≡ true → shown_text o ≡ 39 ∷ object_text o
unfolding spelled
shown-quoted None h = absurd (cc)
shown-quoted (Some (symbol x)) h = by_nil (is_word "NIL" x) h where
  by_nil : (c : Bool) → not c ≡ true → spelled (if c then symbol x else quoted (symbol x)) ≡ 39 ∷ x
  by_nil true e = absurd (cc)
  by_nil false e = refl
shown-quoted (Some (number negative n)) h = absurd (cc)
shown-quoted (Some (text bytes)) h = refl
shown-quoted (Some (quoted f)) h = refl
shown-quoted (Some (listed fs)) h = refl

pub shown-plain : (o : Option Form) → is_quoted o ≡ false → shown_text o ≡ object_text o
unfolding spelled
shown-plain None h = refl
shown-plain (Some (symbol x)) h = by_nil (is_word "NIL" x) h where
  by_nil : (c : Bool) → not c ≡ false → spelled (if c then symbol x else quoted (symbol x)) ≡ x
  by_nil true e = refl
  by_nil false e = absurd (cc)
shown-plain (Some (number negative n)) h = refl
shown-plain (Some (text bytes)) h = absurd (cc)
shown-plain (Some (quoted f)) h = absurd (cc)
shown-plain (Some (listed fs)) h = absurd (cc)

-- a call of one argument that isn't of ADD1 and MINUS is the atom of its codes
by_atom : (c d e : Bool) (n : Option ℕ) (p q : Option Form) → cond c n None ≡ None → d ≡ false → is_some (if c then number_object n else (if d then p else (if e then q else None))) ≡ true
    → (if c then number_object n else (if d then p else (if e then q else None))) ≡ q
by_atom true d e n p q h k l = absurd (cc (ap (λ z. is_some (number_object z)) h))
by_atom false true e n p q h k l = absurd (cc)
by_atom false false true n p q h k l = refl
by_atom false false false n p q h k l = absurd (cc)

pub single-atom : (f : Name) (a : Term) → number_of (Applied (Function f) a) ≡ None → bytes_eq f (codes "MINUS") ≡ false → is_some (single_object (Function f) a) ≡ true
    → single_object (Function f) a ≡ atom_object (codes_of a)
unfolding number_of
single-atom f a h k l = by_atom (bytes_eq f (codes "ADD1")) (bytes_eq f (codes "MINUS")) (bytes_eq f (codes "PACK")) (next_number (number_of a)) (negative_object (number_of a)) (atom_object (codes_of a)) h k l

pub text_of-atom : (f : Name) (a : Term) (o : Option (Vec ℕ Global)) → number_of (Applied (Function f) a) ≡ None → bytes_eq f (codes "MINUS") ≡ false → is_some (single_object (Function f) a) ≡ true
    → name_form o ≡ atom_object (codes_of a) → object_text (single_object (Function f) a) ≡ object_text (name_form o)
text_of-atom f a o h k l e = ap object_text (single-atom f a h k l ∙ sym e)

-- what was written, one piece after the other
pub written_pair : (old one two three four a b w : List ℕ) → one ≡ old ++ 40 ∷ [] → two ≡ one ++ a → three ≡ two ++ b → four ≡ three ++ 41 ∷ [] → w ≡ 40 ∷ (a ++ b) ++ 41 ∷ [] → four ≡ old ++ w
written_pair old one two three four a b w h i j k l = rw (k, j, i, h, l) (simp append_assoc)

pub written_more : (old one two three a b w : List ℕ) → one ≡ old ++ 32 ∷ [] → two ≡ one ++ a → three ≡ two ++ b → w ≡ 32 ∷ (a ++ b) → three ≡ old ++ w
written_more old one two three a b w h i j l = rw (j, i, h, l) (simp append_assoc)

pub then_piece : {A E : Type 0} (r : Result A E) (old mid new front behind w : List ℕ) → mid ≡ old ++ front → w ≡ front ++ behind → OnOk r (new ≡ mid ++ behind) → OnOk r (new ≡ old ++ w)
then_piece (Ok x) old mid new front behind w h k l = rw (l, h, k) (append_assoc old front behind)
then_piece (Err e) old mid new front behind w h k l = tt

pub same_piece : {A E : Type 0} (r : Result A E) (old new v w : List ℕ) → w ≡ v → OnOk r (new ≡ old ++ v) → OnOk r (new ≡ old ++ w)
same_piece (Ok x) old new v w h k = rw h k
same_piece (Err e) old new v w h k = tt

pub third_piece : {A E : Type 0} (r : Result A E) (old one two three a b w : List ℕ) → one ≡ old ++ 32 ∷ [] → two ≡ one ++ a → w ≡ 32 ∷ (a ++ b) → OnOk r (three ≡ two ++ b) → OnOk r (three ≡ old ++ w)
third_piece (Ok x) old one two three a b w h i k l = written_more old one two three a b w h i l k
third_piece (Err e) old one two three a b w h i k l = tt

pub no_piece : (old w : List ℕ) → w ≡ [] → old ≡ old ++ w
no_piece old w h = rw h (sym (append-nil old))

-- an atom other than NIL is quoted
quoted_name : (c : Bool) (x : Name) → is_some (if c then Some (symbol x) else None) ≡ true → not (is_nil_form (if c then Some (symbol x) else None)) ≡ is_quoted (if c then Some (symbol x) else None)
quoted_name true x h = refl
quoted_name false x h = absurd (cc)

quoted_atom : (o : Option Name) → is_some (atom_object o) ≡ true → not (is_nil_form (atom_object o)) ≡ is_quoted (atom_object o)
quoted_atom None h = absurd (cc)
quoted_atom (Some x) h = quoted_name (is_atom_name x) x h

pub quoted-single : (f : Name) (a : Term) (nil : Bool) → number_of (Applied (Function f) a) ≡ None → bytes_eq f (codes "MINUS") ≡ false → is_some (single_object (Function f) a) ≡ true
    → nil ≡ is_nil_form (single_object (Function f) a) → not nil ≡ is_quoted (single_object (Function f) a)
quoted-single f a nil h k l e =
    let same : single_object (Function f) a ≡ atom_object (codes_of a) = single-atom f a h k l in
    ap (λ b. not b) (e ∙ ap is_nil_form same) ∙ quoted_atom (codes_of a) (sym (ap is_some same) ∙ l) ∙ sym (ap is_quoted same)
