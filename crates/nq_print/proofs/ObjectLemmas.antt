-- Which terms are objects.
use Rattle.std.proofs.Common.{◌≡◌, ℕ, zero, suc, ◌<◌, Bool, true, false, List, [], ◌∷◌, refl, sym, ap, ◌∙◌, cond, eqb, inl, inr}
use Rattle.std.specs.Prelude.{Result, Ok, Err, IfOk, Option, None, Some, ◌&&◌, ◌⊎◌, is_some, nat_eq, bytes_eq, codes, slice_index_or, if◌then◌else◌}
use Rattle.std.specs.declared.alloc.AllocError.{AllocError}
use Rattle.std.specs.HashMap.{get, Updates}
use Rattle.std.proofs.lemmas.Bool.{eqb-true}
use Rattle.nq_logic.specs.Terms.{Name, Term, Variable, Function, Applied, applied}
use Rattle.nq_logic.specs.Words.{numeral}
use Rattle.nq_logic.specs.Numerals.{number_of, next_number, numeral_limit}
use Rattle.nq_bank.specs.declared.node.TermId.{TermId}
use Rattle.nq_bank.specs.Content.{Content, term_at}
use Rattle.nq_bank.proofs.Numerals.{number_of-numeral}
use Rattle.nq_form.specs.Form.{Form, numeral as number}
use Rattle.nq_language.specs.Quotations.{number_object, negative_object, atom_object, codes_of, single_object, pair_object, object_of}
use Rattle.nq_print.specs.Pieces.{is_object}
use Rattle.nq_print.specs.Known.{Answers, HasAnswers}

-- a numeral is the object of its number
pub object-numeral : (n : ℕ) → n < numeral_limit → object_of (numeral n) ≡ Some (number false n)
unfolding object_of numeral number_of
object-numeral zero h = refl
object-numeral (suc n) h = ap number_object (number_of-numeral (suc n) h)

pub object-variable : (x : Name) → object_of (Variable x) ≡ None
unfolding object_of
object-variable x = refl

constant_none : (b : Bool) (zero_number : Option ℕ) (o : Option Form) → zero_number ≡ Some 0 → cond b zero_number None ≡ None → (if b then o else None) ≡ None
constant_none true z o e h = absurd (cc)
constant_none false z o e h = refl

pub object-constant : (f : Name) → number_of (Function f) ≡ None → object_of (Function f) ≡ None
unfolding object_of number_of
object-constant f h = constant_none (bytes_eq f (codes "ZERO")) (Some 0) (Some (number false 0)) refl h

pub object-longer : (s t u v : Term) (ts : List Term) → object_of (applied (Applied (Applied (Applied s t) u) v) ts) ≡ None
unfolding object_of
object-longer s t u v [] = refl
object-longer s t u v (w ∷ ts) = object-longer (Applied s t) u v w ts

pub object-single : (f : Name) (a : Term) → object_of (Applied (Function f) a) ≡ single_object (Function f) a
unfolding object_of
object-single f a = refl

pub object-pair : (f : Name) (a b : Term) → bytes_eq f (codes "CONS") ≡ true → object_of (Applied (Applied (Function f) a) b) ≡ pair_object (object_of a) (object_of b)
unfolding object_of
object-pair f a b h = ap (λ z. cond z (pair_object (object_of a) (object_of b)) None) h

pub object-other : (f : Name) (a b : Term) → bytes_eq f (codes "CONS") ≡ false → object_of (Applied (Applied (Function f) a) b) ≡ None
unfolding object_of
object-other f a b h = ap (λ z. cond z (pair_object (object_of a) (object_of b)) None) h

pub both_objects : (o p : Option Form) → is_some (pair_object o p) ≡ (is_some o && is_some p)
both_objects None p = refl
both_objects (Some a) None = refl
both_objects (Some a) (Some b) = refl

-- a call of one argument that is no numeral, of another function than MINUS and PACK
by_other : (c d e : Bool) (n : Option ℕ) (p q : Option Form) → cond c n None ≡ None → d ≡ false → e ≡ false
    → is_some (if c then number_object n else (if d then p else (if e then q else None))) ≡ false
by_other true d e n p q h k l = ap (λ z. is_some (number_object z)) h
by_other false d e n p q h k l = rw (k, l) refl

pub single-other : (f : Name) (a : Term) → number_of (Applied (Function f) a) ≡ None → bytes_eq f (codes "MINUS") ≡ false → bytes_eq f (codes "PACK") ≡ false
    → is_some (single_object (Function f) a) ≡ false
unfolding number_of
single-other f a h k l =
    by_other (bytes_eq f (codes "ADD1")) (bytes_eq f (codes "MINUS")) (bytes_eq f (codes "PACK")) (next_number (number_of a)) (negative_object (number_of a)) (atom_object (codes_of a)) h k l

pub is_object-at : (t u : Term) (o : Option Form) → t ≡ u → object_of u ≡ o → is_some o ≡ is_object t
is_object-at t u o h k = sym (ap is_object h ∙ ap is_some k)

pub pair-at : (t a b : Term) (f : Name) (c d : Bool) → t ≡ Applied (Applied (Function f) a) b → bytes_eq f (codes "CONS") ≡ true → c ≡ is_object a → d ≡ is_object b → (c && d) ≡ is_object t
pair-at t a b f c d is h k l =
    rw (k, l) (sym (both_objects (object_of a) (object_of b)) ∙ is_object-at t (Applied (Applied (Function f) a) b) (pair_object (object_of a) (object_of b)) is (object-pair f a b h))

pub single-at : (t a : Term) (f : Name) (r : Result Bool AllocError) → t ≡ Applied (Function f) a → IfOk r (λ answer. answer ≡ is_some (single_object (Function f) a)) → IfOk r (λ answer. answer ≡ is_object t)
single-at t a f (Ok answer) is h = h ∙ is_object-at t (Applied (Function f) a) (single_object (Function f) a) is (object-single f a)
single-at t a f (Err e) is h = tt

either_value : (b : Bool) (w o : Option Bool) (v : Bool) → cond b w o ≡ Some v → ((b ≡ true) × (w ≡ Some v)) ⊎ (o ≡ Some v)
either_value true w o v h = inl (refl, h)
either_value false w o v h = inr h

same_value : (v w : Bool) → Some v ≡ Some w → v ≡ w
same_value v w h = cc

kept : (t u : TermId) (bank : Content) (a b : Bool) → t.0 ≡ u.0 → a ≡ b → a ≡ is_object (term_at bank t) → b ≡ is_object (term_at bank u)
kept t u bank a b place same h = sym same ∙ h ∙ ap (λ (n : ℕ). is_object (slice_index_or bank.terms n (Function []))) place

-- an answer that is right may be kept
pub answers_kept : (bank : Content) (old new : Answers) (t : TermId) (answer : Bool) → HasAnswers bank old → Updates nat_eq old new t.0 (Some answer) → answer ≡ is_object (term_at bank t) → HasAnswers bank new
answers_kept bank old new t answer h u is =
    record {
      right = λ s v e. elim (either_value (eqb t.0 s.0) (Some answer) (get nat_eq old s.0) v (sym (u.0 s.0) ∙ e)) [
        | inl here ↦ kept t s bank answer v (eqb-true t.0 s.0 here.0) (same_value answer v here.1) is
        | inr there ↦ h.right s v there
      ];
    }

-- a call of two arguments that is an object
by_cons : (c : Bool) (o p : Option Form) → is_some (if c then pair_object o p else None) ≡ true → (is_some o ≡ true) × (is_some p ≡ true) × ((if c then pair_object o p else None) ≡ pair_object o p)
by_cons true None p h = absurd (cc)
by_cons true (Some a) None h = absurd (cc)
by_cons true (Some a) (Some b) h = (refl, refl, refl)
by_cons false o p h = absurd (cc)

pub object-parts : (t a b : Term) (f : Name) → t ≡ Applied (Applied (Function f) a) b → is_object t ≡ true
    → (is_object a ≡ true) × (is_object b ≡ true) × (object_of t ≡ pair_object (object_of a) (object_of b))
unfolding object_of
object-parts t a b f is h =
    let parts = by_cons (bytes_eq f (codes "CONS")) (object_of a) (object_of b) (sym (ap is_object is) ∙ h) in
    (parts.0, parts.1, ap object_of is ∙ parts.2)

pub object-argument : (t a : Term) (f : Name) → t ≡ Applied (Function f) a → is_object t ≡ true → number_of t ≡ None
    → (number_of (Applied (Function f) a) ≡ None) × (is_some (single_object (Function f) a) ≡ true) × (object_of t ≡ single_object (Function f) a)
object-argument t a f is h k =
    let same : object_of t ≡ single_object (Function f) a = ap object_of is ∙ object-single f a in
    (sym (ap number_of is) ∙ k, sym (ap is_some same) ∙ h, same)

pub no_object : (t u : Term) → t ≡ u → object_of u ≡ None → is_object t ≡ true → ⊥
no_object t u is h k = cc (ap is_object is ∙ ap is_some h)
