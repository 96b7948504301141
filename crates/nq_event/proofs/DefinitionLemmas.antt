-- Definitions of entries, and the heads and arguments of terms.
use Rattle.std.proofs.Common.{◌≡◌, ℕ, zero, suc, ◌+◌, ◌-◌, ◌<◌, ◌≤◌, Bool, true, false, ◌||◌, ◌&&◌, not, List, [], ◌∷◌, ◌++◌, length, get_or, drop, map, refl, sym, ap, ◌∙◌, subst, arith, inl, inr, drop-cons, add-one, append_assoc}
use Rattle.std.specs.Prelude.{All, Option, None, Some, bytes_eq, ◌≢◌, is_some, if◌then◌else◌, codes, min}
use Rattle.std.proofs.lemmas.Bool.{cases_lt}
use Rattle.std.proofs.lemmas.List.{drop_all, append-nil, map-append}
use Rattle.nq_logic.specs.Terms.{Name, Term, Variable, Function, Applied, call, applied}
use Rattle.nq_logic.specs.Words.{numeral}
use Rattle.nq_logic.specs.Numerals.{number_of}
use Rattle.nq_logic.specs.Admissible.{matched}
use Rattle.nq_logic.specs.Names.{has_name, are_distinct}
use Rattle.nq_logic.specs.RuleShapes.{variables_of}
use Rattle.nq_bank.specs.declared.node.Sym.{Sym}
use Rattle.nq_bank.specs.declared.node.TermId.{TermId}
use Rattle.nq_bank.specs.Parts as parts
use Rattle.nq_bank.specs.Parts.{parts_of, occurs}
use Rattle.nq_bank.specs.Content.{Content, Stands, text_at, term_at}
use Rattle.nq_bank.specs.Shells.{texts_at}
use Rattle.nq_bank.proofs.Standing.{All-push}
use Rattle.nq_events.specs.Inductions.{head_of, arguments_before, arguments_of, measured, names_of, name_before, are_distinct_names}
use Rattle.nq_event.specs.Definitions.{is_variable, has_variable}

-- the head of a call, and of a numeral
head_applied : (t : Term) (ts : List Term) → head_of (applied t ts) ≡ head_of t
head_applied t [] = refl
head_applied t (u ∷ ts) = head_applied (Applied t u) ts

pub head_call : (f : Name) (ts : List Term) → head_of (call f ts) ≡ Some f
head_call f ts = head_applied (Function f) ts

pub head_zero : (n : ℕ) → n ≡ 0 → head_of (numeral n) ≡ Some (codes "ZERO")
unfolding numeral
head_zero zero e = refl
head_zero (suc n) e = absurd (cc)

pub head_more : (n : ℕ) → n ≢ 0 → head_of (numeral n) ≡ Some (codes "ADD1")
unfolding numeral
head_more zero e = absurd (e refl)
head_more (suc n) e = refl

-- the arguments of a call, and of a numeral
arguments_same : (t : Term) (more : List Term) → arguments_before t more ≡ parts.arguments_before t more
arguments_same (Variable x) more = refl
arguments_same (Function f) more = refl
arguments_same (Applied t u) more = arguments_same t (u ∷ more)

pub arguments_call : (t : Term) → number_of t ≡ None → arguments_of t ≡ parts_of t
arguments_call t h = arguments_same t [] ∙ ap (λ o. if is_some o then [] else parts.arguments_before t []) (sym h)

pub arguments_zero : (n : ℕ) → n ≡ 0 → arguments_of (numeral n) ≡ []
unfolding numeral
arguments_zero zero e = refl
arguments_zero (suc n) e = absurd (cc)

pub arguments_more : (n : ℕ) → n ≢ 0 → arguments_of (numeral n) ≡ numeral (n - 1) ∷ []
unfolding numeral
arguments_more zero e = absurd (e refl)
arguments_more (suc n) e = let less : n ≡ suc n - 1 = omega arith in ap (λ k. numeral k ∷ []) less

-- a numeral is no variable
pub numeral_no_variable : (x : Name) (n : ℕ) → is_variable x (numeral n) ≡ false
unfolding numeral
numeral_no_variable x zero = refl
numeral_no_variable x (suc n) = refl

-- a variable is among the variables of a term where it stands in the term
or_same : (a b c d : Bool) → a ≡ c → b ≡ d → (a || b) ≡ (c || d)
or_same a b c d h k = ap (λ z. z || b) h ∙ ap (λ z. c || z) k

pub or_false : (a : Bool) → (a || false) ≡ a
or_false true = refl
or_false false = refl

pub or_assoc : (a b c : Bool) → ((a || b) || c) ≡ (a || (b || c))
or_assoc true b c = refl
or_assoc false b c = refl

has_both : (x : Name) (xs ys : List Name) → has_name x (xs ++ ys) ≡ (has_name x xs || has_name x ys)
has_both x [] ys = refl
has_both x (y ∷ xs) ys = ap (λ z. bytes_eq x y || z) (has_both x xs ys) ∙ sym (or_assoc (bytes_eq x y) (has_name x xs) (has_name x ys))

pub occurs_is : (x : Name) (t : Term) → occurs x t ≡ has_name x (variables_of t)
unfolding occurs
occurs_is x (Variable y) = sym (or_false (bytes_eq x y))
occurs_is x (Function f) = refl
occurs_is x (Applied t u) = or_same (occurs x t) (occurs x u) (has_name x (variables_of t)) (has_name x (variables_of u)) (occurs_is x t) (occurs_is x u) ∙ sym (has_both x (variables_of t) (variables_of u))

-- the measured arguments from a place on
module _ (vs : List Name) (bank : Content) (formals : List Sym) (arguments : List TermId) (i : ℕ) where
  abbrev from_place : ℕ → List Term
  from_place n = measured vs (matched (texts_at bank (drop n formals)) (map (term_at bank) (drop n arguments)))

  at_place : (s : Sym) (t : TermId) → i < length formals → i < length arguments → from_place i ≡ (if has_name (text_at bank (get_or formals i s)) vs then term_at bank (get_or arguments i t) ∷ from_place (suc i) else from_place (suc i))
  at_place s t lt below =
      ap (λ xs. measured vs (matched (texts_at bank xs) (map (term_at bank) (drop i arguments)))) (drop-cons formals i s lt) ∙
      ap (λ ts. measured vs (matched (texts_at bank (get_or formals i s ∷ drop (suc i) formals)) (map (term_at bank) ts))) (drop-cons arguments i t below)

  step : (b : Bool) (t : TermId) → (if b then term_at bank t ∷ from_place (suc i) else from_place (suc i)) ≡ map (term_at bank) (if b then t ∷ [] else []) ++ from_place (i + 1)
  step true t = ap (λ n. term_at bank t ∷ from_place n) (sym (add-one i))
  step false t = ap from_place (sym (add-one i))

  pub measured_here : (s : Sym) (t : TermId) (b : Bool) → i < length formals → i < length arguments → has_name (text_at bank (get_or formals i s)) vs ≡ b → from_place i ≡ map (term_at bank) (if b then get_or arguments i t ∷ [] else []) ++ from_place (i + 1)
  measured_here s t b lt below h =
      at_place s t lt below ∙ ap (λ z. if z then term_at bank (get_or arguments i t) ∷ from_place (suc i) else from_place (suc i)) h ∙ step b (get_or arguments i t)

  matched_none : (xs : List Name) → matched xs [] ≡ []
  matched_none [] = refl
  matched_none (x ∷ xs) = refl

  pub no_more_formals : length formals ≤ i → from_place i ≡ []
  no_more_formals h = ap (λ xs. measured vs (matched (texts_at bank xs) (map (term_at bank) (drop i arguments)))) (drop_all i formals h)

  pub no_more_arguments : length arguments ≤ i → from_place i ≡ []
  no_more_arguments h =
      ap (λ ts. measured vs (matched (texts_at bank (drop i formals)) (map (term_at bank) ts))) (drop_all i arguments h) ∙ ap (measured vs) (matched_none (texts_at bank (drop i formals)))

  pub no_more : (count : ℕ) → count ≡ min (length formals) (length arguments) → count ≤ i → from_place i ≡ []
  no_more count is past = elim (cases_lt i (length formals)) [
    | inl lt ↦ no_more_arguments (omega (arith, is, past, lt))
    | inr over ↦ no_more_formals over
  ]

-- variables that stand twice
before_is : (t : Term) (o : Option (List Name)) (xs : List Name) → name_before t o ≡ Some xs → (x : Name) (ts : List Term) → ((ys : List Name) → o ≡ Some ys → has_variable x ts ≡ has_name x ys) → (is_variable x t || has_variable x ts) ≡ has_name x xs
before_is (Variable y) None xs h x ts k = absurd (cc)
before_is (Variable y) (Some ys) xs h x ts k = ap (λ b. bytes_eq x y || b) (k ys refl) ∙ ap (λ o. has_name x (names_if o)) h where
  names_if : Option (List Name) → List Name
  names_if None = []
  names_if (Some zs) = zs
before_is (Function f) o xs h x ts k = absurd (cc)
before_is (Applied t u) o xs h x ts k = absurd (cc)

variable_named : (x : Name) (ts : List Term) (xs : List Name) → names_of ts ≡ Some xs → has_variable x ts ≡ has_name x xs
variable_named x [] xs h = ap (λ o. has_name x (names_if o)) h where
  names_if : Option (List Name) → List Name
  names_if None = []
  names_if (Some zs) = zs
variable_named x (t ∷ ts) xs h = before_is t (names_of ts) xs h x ts (λ ys e. variable_named x ts ys e)

pub distinct_rest : (x : Name) (ts : List Term) → has_variable x ts ≡ false → are_distinct_names (names_of (Variable x ∷ ts)) ≡ are_distinct_names (names_of ts)
distinct_rest x ts h = by_rest (names_of ts) (λ ys e. variable_named x ts ys e) where
  by_rest : (o : Option (List Name)) → ((ys : List Name) → o ≡ Some ys → has_variable x ts ≡ has_name x ys) → are_distinct_names (name_before (Variable x) o) ≡ are_distinct_names o
  by_rest None k = refl
  by_rest (Some ys) k = ap (λ b. not b && are_distinct ys) (sym (k ys refl) ∙ h)

pub twice_not_distinct : (x : Name) (ts : List Term) → has_variable x ts ≡ true → are_distinct_names (names_of (Variable x ∷ ts)) ≡ false
twice_not_distinct x ts h = by_rest (names_of ts) (λ ys e. variable_named x ts ys e) where
  by_rest : (o : Option (List Name)) → ((ys : List Name) → o ≡ Some ys → has_variable x ts ≡ has_name x ys) → are_distinct_names (name_before (Variable x) o) ≡ false
  by_rest None k = refl
  by_rest (Some ys) k = ap (λ b. not b && are_distinct ys) (sym (k ys refl) ∙ h)

pub apart_variable : (x : Name) (ts : List Term) (b : Bool) → b ≡ has_variable x ts → are_distinct_names (names_of (Variable x ∷ ts)) ≡ (not b && are_distinct_names (names_of ts))
apart_variable x ts true e = twice_not_distinct x ts (sym e)
apart_variable x ts false e = distinct_rest x ts (sym e)

-- a call has no name of a variable
pub numeral_no_name : (n : ℕ) (o : Option (List Name)) → name_before (numeral n) o ≡ None
unfolding numeral
numeral_no_name zero o = refl
numeral_no_name (suc n) o = refl

applied_no_name : (t u : Term) (ts : List Term) (o : Option (List Name)) → name_before (applied (Applied t u) ts) o ≡ None
applied_no_name t u [] o = refl
applied_no_name t u (v ∷ ts) o = applied_no_name (Applied t u) v ts o

pub call_no_name : (f : Name) (ts : List Term) (o : Option (List Name)) → name_before (call f ts) o ≡ None
call_no_name f [] o = refl
call_no_name f (t ∷ ts) o = applied_no_name (Function f) t ts o

-- the measured arguments so far, and one more
pub measured_more : (vs : List Name) (bank : Content) (formals : List Sym) (arguments : List TermId) (i : ℕ) (ids pushed : List TermId) (s : Sym) (t : TermId) (b : Bool) → i < length formals → i < length arguments → has_name (text_at bank (get_or formals i s)) vs ≡ b
    → pushed ≡ ids ++ (if b then get_or arguments i t ∷ [] else []) → (whole : List Term) → whole ≡ map (term_at bank) ids ++ from_place vs bank formals arguments i i → whole ≡ map (term_at bank) pushed ++ from_place vs bank formals arguments i (i + 1)
measured_more vs bank formals arguments i ids pushed s t b lt below h push whole is =
    let more = if b then get_or arguments i t ∷ [] else [] in
    let rest = from_place vs bank formals arguments i (i + 1) in
    is ∙ ap (λ ts. map (term_at bank) ids ++ ts) (measured_here vs bank formals arguments i s t b lt below h) ∙ sym (append_assoc (map (term_at bank) ids) (map (term_at bank) more) rest) ∙
    ap (λ ts. ts ++ rest) (sym (map-append (term_at bank) ids more) ∙ ap (map (term_at bank)) (sym push))

pub all_measured : (whole ts rest : List Term) → whole ≡ ts ++ rest → rest ≡ [] → ts ≡ whole
all_measured whole ts rest is none = sym (is ∙ ap (λ xs. ts ++ xs) none ∙ append-nil ts)

-- the arguments of a call stand
pub arguments_stand : (bank : Content) (t : TermId) (ids : List TermId) → Stands bank t → All (λ a. a.0 < t.0) ids → All (Stands bank) ids
arguments_stand bank t ids h k = λ i d below. let lt = k i d below in omega (arith, lt, h)

pub one_if : (bank : Content) (ids : List TermId) (b : Bool) (t : TermId) → All (Stands bank) ids → Stands bank t → All (Stands bank) (ids ++ (if b then t ∷ [] else []))
one_if bank ids true t h k = All-push (Stands bank) ids t h k
one_if bank ids false t h k = subst (All (Stands bank)) (sym (append-nil ids)) h
