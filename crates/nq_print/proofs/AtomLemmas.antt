-- Lists of codes.
use Rattle.std.proofs.Common.{◌≡◌, ℕ, zero, suc, ◌<◌, ◌≤◌, Bool, true, false, List, [], ◌∷◌, ◌++◌, length, refl, ap, ◌∙◌, arith, append_assoc, cond}
use Rattle.std.specs.Prelude.{Option, None, Some, ◌&&◌, nat_le, bytes_eq, codes, if◌then◌else◌}
use Rattle.std.specs.List.{list_all}
use Rattle.std.proofs.lemmas.Grind.{common_steps}
use Rattle.nq_logic.specs.Terms.{Name, Term, Variable, Function, Applied, applied}
use Rattle.nq_logic.specs.Words.{numeral}
use Rattle.nq_logic.specs.Numerals.{number_of}
use Rattle.nq_form.specs.Form.{symbol}
use Rattle.nq_form.specs.Spelling.{is_capital}
use Rattle.nq_language.specs.Quotations.{with_code, codes_of, is_atom_name, atom_object}
use Rattle.nq_print.specs.Atoms.{prefixed, NamesNone}

-- codes that are no name name nothing
no_name : (x : Name) → is_atom_name x ≡ false → atom_object (Some x) ≡ None
no_name x h = ap (λ b. cond b (Some (symbol x)) None) h

names_none : (o : Option (List ℕ)) → o ≡ None → NamesNone o
names_none o h = λ front. ap (λ z. atom_object (prefixed front z)) h

pub names_same : (t u : Term) → t ≡ u → NamesNone (codes_of u) → NamesNone (codes_of t)
names_same t u e h = λ front. ap (λ z. atom_object (prefixed front (codes_of z))) e ∙ h front

pub number_of-variable : (x : Name) → number_of (Variable x) ≡ None
unfolding number_of
number_of-variable x = refl

pub codes-end : (n : ℕ) → n ≡ 0 → codes_of (numeral n) ≡ Some []
unfolding codes_of numeral
codes-end n h = rw h refl

pub codes-number : (n : ℕ) → 0 < n → NamesNone (codes_of (numeral n))
unfolding codes_of numeral
codes-number zero h = absurd (omega arith)
codes-number (suc n) h = λ front. refl

pub codes-variable : (x : Name) → NamesNone (codes_of (Variable x))
unfolding codes_of
codes-variable x = λ front. refl

constant_none : (b : Bool) (zero_number : Option ℕ) → zero_number ≡ Some 0 → cond b zero_number None ≡ None → NamesNone (if b then Some [] else None)
constant_none true o e h = absurd (cc)
constant_none false o e h = λ front. refl

pub codes-constant : (f : Name) → number_of (Function f) ≡ None → NamesNone (codes_of (Function f))
unfolding codes_of number_of
codes-constant f h = constant_none (bytes_eq f (codes "ZERO")) (Some 0) refl h

pub codes-single : (f : Name) (a : Term) → NamesNone (codes_of (Applied (Function f) a))
unfolding codes_of
codes-single f a = λ front. refl

longer_none : (s t u v : Term) (ts : List Term) → codes_of (applied (Applied (Applied (Applied s t) u) v) ts) ≡ None
unfolding codes_of
longer_none s t u v [] = refl
longer_none s t u v (w ∷ ts) = longer_none (Applied s t) u v w ts

pub codes-longer : (s t u v : Term) (ts : List Term) → NamesNone (codes_of (applied (Applied (Applied (Applied s t) u) v) ts))
codes-longer s t u v ts = names_none _ (longer_none s t u v ts)

pub codes-pair : (f : Name) (a b : Term) → bytes_eq f (codes "CONS") ≡ true → codes_of (Applied (Applied (Function f) a) b) ≡ with_code (number_of a) (codes_of b)
unfolding codes_of
codes-pair f a b h = ap (λ z. cond z (with_code (number_of a) (codes_of b)) None) h

pub codes-other : (f : Name) (a b : Term) → bytes_eq f (codes "CONS") ≡ false → NamesNone (codes_of (Applied (Applied (Function f) a) b))
unfolding codes_of
codes-other f a b h = names_none _ (ap (λ z. cond z (with_code (number_of a) (codes_of b)) None) h)

pub codes-numberless : (f : Name) (a b : Term) → bytes_eq f (codes "CONS") ≡ true → number_of a ≡ None → NamesNone (codes_of (Applied (Applied (Function f) a) b))
codes-numberless f a b h k = names_none _ (codes-pair f a b h ∙ ap (λ z. with_code z (codes_of b)) k)

wide_code : (n : ℕ) → 256 ≤ n → is_capital n ≡ false
wide_code n h = grind (arith, common_steps)

wide_name : (front : Name) (n : ℕ) (more : Name) → is_capital n ≡ false → list_all is_capital (front ++ n ∷ more) ≡ false
wide_name [] n more h = rw h refl
wide_name (b ∷ front) n more h = rw (wide_name front n more h) (and_false (is_capital b)) where
  and_false : (a : Bool) → (a && false) ≡ false
  and_false true = refl
  and_false false = refl

and_first : (a b : Bool) → a ≡ false → (a && b) ≡ false
and_first a b h = rw h refl

wide_none : (front : Name) (n : ℕ) (o : Option Name) → 256 ≤ n → atom_object (prefixed front (with_code (Some n) o)) ≡ None
wide_none front n None h = refl
wide_none front n (Some more) h = no_name (front ++ n ∷ more) (and_first (list_all is_capital (front ++ n ∷ more)) _ (wide_name front n more (wide_code n h)))

pub codes-wide : (f : Name) (a b : Term) (n : ℕ) → bytes_eq f (codes "CONS") ≡ true → number_of a ≡ Some n → 256 ≤ n → NamesNone (codes_of (Applied (Applied (Function f) a) b))
codes-wide f a b n h k wide =
    let is : codes_of (Applied (Applied (Function f) a) b) ≡ with_code (Some n) (codes_of b) = codes-pair f a b h ∙ ap (λ z. with_code z (codes_of b)) k in
    λ front. ap (λ z. atom_object (prefixed front z)) is ∙ wide_none front n (codes_of b) wide

-- one code more
pub prefixed-next : (front : Name) (n : ℕ) (o : Option Name) → prefixed (front ++ n ∷ []) o ≡ prefixed front (with_code (Some n) o)
prefixed-next front n None = refl
prefixed-next front n (Some more) = ap Some (append_assoc front (n ∷ []) more)

pub prefixed-none : (o : Option Name) → prefixed [] o ≡ o
prefixed-none None = refl
prefixed-none (Some x) = refl

too_long : (front : Name) (n : ℕ) (more : Name) → 256 ≤ length front → nat_le (length (front ++ n ∷ more)) 256 ≡ false
too_long front n more h = grind (arith, common_steps)

and_last : (a b d e : Bool) → d ≡ false → (a && (b && (d && e))) ≡ false
and_last true true d e h = rw h refl
and_last true false d e h = refl
and_last false b d e h = refl

-- a name of more codes than a symbol has
pub prefixed-long : (front : Name) (n : ℕ) (o : Option Name) → 256 ≤ length front → atom_object (prefixed front (with_code (Some n) o)) ≡ None
prefixed-long front n None h = refl
prefixed-long front n (Some more) h = no_name (front ++ n ∷ more) (and_last _ _ (nat_le (length (front ++ n ∷ more)) 256) _ (too_long front n more h))
