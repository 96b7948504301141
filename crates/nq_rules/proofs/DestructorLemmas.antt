-- Destructor calls within terms.
use Rattle.std.proofs.Common.{◌≡◌, ℕ, zero, suc, Bool, true, false, ◌&&◌, ◌||◌, List, [], ◌∷◌, ◌++◌, refl, sym, ap, ap₂, ◌∙◌}
use Rattle.std.specs.Prelude.{bytes_eq, not}
use Rattle.std.specs.List.{list_any}
use Rattle.nq_logic.specs.Terms.{Name, Term, Variable, Function, Applied, applied, call}
use Rattle.nq_logic.specs.Words.{numeral, equal_term}
use Rattle.nq_logic.specs.Names.{has_name}
use Rattle.nq_logic.specs.RuleShapes.{inner_terms, has_distinct_variables, has_argument, is_destructor_call, has_destructor_call, stands_apart_within, is_elim_conclusion, is_elimination}
use Rattle.nq_bank.specs.declared.node.TermId.{TermId}
use Rattle.nq_bank.specs.Parts.{parts_of}
use Rattle.nq_bank.specs.Content.{Content, terms_at}
use Rattle.nq_rules.specs.Variables.{is_variable, has_variable, is_apart, are_distinct_variables}

or_false : (b : Bool) → (b || false) ≡ b
or_false true = refl
or_false false = refl

or_assoc : (a b d : Bool) → ((a || b) || d) ≡ (a || (b || d))
or_assoc true b d = refl
or_assoc false b d = refl

or_turned : (a b d : Bool) → (a || (b || d)) ≡ ((b || a) || d)
or_turned true true d = refl
or_turned true false d = refl
or_turned false true d = refl
or_turned false false d = refl

-- ---- variables

call_no_variable : (x : Name) (t : Term) (us : List Term) → is_variable x t ≡ false → is_variable x (applied t us) ≡ false
call_no_variable x t [] e = e
call_no_variable x t (u ∷ us) e = call_no_variable x (Applied t u) us refl

-- a call is is_none variable
pub call_none : (x f : Name) (us : List Term) → is_variable x (call f us) ≡ false
call_none x f us = call_no_variable x (Function f) us refl

pub numeral_none : (x : Name) (n : ℕ) → is_variable x (numeral n) ≡ false
unfolding numeral
numeral_none x zero = refl
numeral_none x (suc n) = refl

apart_applied : (t : Term) (us ts : List Term) → is_apart t ts ≡ false → is_apart (applied t us) ts ≡ false
apart_applied t [] ts e = e
apart_applied t (u ∷ us) ts e = apart_applied (Applied t u) us ts refl

pub call_not_apart : (f : Name) (us ts : List Term) → is_apart (call f us) ts ≡ false
call_not_apart f us ts = apart_applied (Function f) us ts refl

pub numeral_not_apart : (n : ℕ) (ts : List Term) → is_apart (numeral n) ts ≡ false
unfolding numeral
numeral_not_apart zero ts = refl
numeral_not_apart (suc n) ts = refl

-- ---- the arguments of a destructor call

-- the names of those that are variables
names_in : List Term → List Name → List Name
names_in [] seen = seen
names_in (Variable x ∷ ts) seen = x ∷ names_in ts seen
names_in (Function f ∷ ts) seen = names_in ts seen
names_in (Applied t u ∷ ts) seen = names_in ts seen

has_name_in : (x : Name) (ts : List Term) (seen : List Name) → has_name x (names_in ts seen) ≡ (has_variable x ts || has_name x seen)
unfolding names_in
has_name_in x [] seen = refl
has_name_in x (Variable y ∷ ts) seen = ap (λ b. bytes_eq x y || b) (has_name_in x ts seen) ∙ sym (or_assoc (bytes_eq x y) (has_variable x ts) (has_name x seen))
has_name_in x (Function f ∷ ts) seen = has_name_in x ts seen
has_name_in x (Applied t u ∷ ts) seen = has_name_in x ts seen

-- none of the terms is a variable of these names
none_seen : List Name → List Term → Bool
none_seen seen [] = true
none_seen seen (Variable x ∷ ts) = not (has_name x seen) && none_seen seen ts
none_seen seen (Function f ∷ ts) = none_seen seen ts
none_seen seen (Applied t u ∷ ts) = none_seen seen ts

none_seen_yet : (ts : List Term) → none_seen [] ts ≡ true
unfolding none_seen
none_seen_yet [] = refl
none_seen_yet (Variable x ∷ ts) = none_seen_yet ts
none_seen_yet (Function f ∷ ts) = none_seen_yet ts
none_seen_yet (Applied t u ∷ ts) = none_seen_yet ts

-- a variable is taken out: those after it are looked at first, and then it is
taken_out : (a n v s h : Bool) → (a && (n && (not (v || s) && h))) ≡ ((not v && a) && ((not s && n) && h))
taken_out true true true s h = refl
taken_out true true false true h = refl
taken_out true true false false h = refl
taken_out true false true s h = refl
taken_out true false false true h = refl
taken_out true false false false h = refl
taken_out false n true s h = refl
taken_out false n false s h = refl

none_out : (a n : Bool) → (a && (n && false)) ≡ false
none_out true true = refl
none_out true false = refl
none_out false n = refl

distinct_applied : (seen : List Name) (t : Term) (us : List Term) → has_distinct_variables seen (applied t us) ≡ (are_distinct_variables us && (none_seen seen us && has_distinct_variables (names_in us seen) t))
unfolding names_in none_seen
distinct_applied seen t [] = refl
distinct_applied seen t (Variable x ∷ us) =
    distinct_applied seen (Applied t (Variable x)) us ∙
    ap (λ b. are_distinct_variables us && (none_seen seen us && (not b && has_distinct_variables (x ∷ names_in us seen) t))) (has_name_in x us seen) ∙
    taken_out (are_distinct_variables us) (none_seen seen us) (has_variable x us) (has_name x seen) (has_distinct_variables (x ∷ names_in us seen) t)
distinct_applied seen t (Function f ∷ us) = distinct_applied seen (Applied t (Function f)) us ∙ none_out (are_distinct_variables us) (none_seen seen us)
distinct_applied seen t (Applied u v ∷ us) = distinct_applied seen (Applied t (Applied u v)) us ∙ none_out (are_distinct_variables us) (none_seen seen us)

and_true : (b : Bool) → (b && true) ≡ b
and_true true = refl
and_true false = refl

distinct_call : (f : Name) (us : List Term) → has_distinct_variables [] (call f us) ≡ are_distinct_variables us
distinct_call f us =
    distinct_applied [] (Function f) us ∙ ap (λ b. are_distinct_variables us && (b && true)) (none_seen_yet us) ∙ and_true (are_distinct_variables us)

argument_applied : (x : Name) (t : Term) (us : List Term) → has_argument x (applied t us) ≡ (has_variable x us || has_argument x t)
argument_applied x t [] = refl
argument_applied x t (Variable y ∷ us) = argument_applied x (Applied t (Variable y)) us ∙ or_turned (has_variable x us) (bytes_eq x y) (has_argument x t)
argument_applied x t (Function f ∷ us) = argument_applied x (Applied t (Function f)) us
argument_applied x t (Applied u v ∷ us) = argument_applied x (Applied t (Applied u v)) us

argument_call : (x f : Name) (us : List Term) → has_argument x (call f us) ≡ has_variable x us
argument_call x f us = argument_applied x (Function f) us ∙ or_false (has_variable x us)

-- the call of these arguments is a destructor call where they are distinct variables, and the variable is among them
pub destructor_call : (x f : Name) (us : List Term) → (are_distinct_variables us && has_variable x us) ≡ is_destructor_call x (call f us)
destructor_call x f us = sym (ap₂ (λ a b. a && b) (distinct_call f us) (argument_call x f us))

-- ---- destructor calls within a term

-- whether the term holds a destructor call of the variable
abbrev pub holds : Name → Term → Bool
holds x t = has_destructor_call x (t ∷ inner_terms t)

holds_append : (x : Name) (ts us : List Term) → has_destructor_call x (ts ++ us) ≡ (has_destructor_call x ts || has_destructor_call x us)
holds_append x [] us = refl
holds_append x (t ∷ ts) us = ap (λ b. is_destructor_call x t || b) (holds_append x ts us) ∙ sym (or_assoc (is_destructor_call x t) (has_destructor_call x ts) (has_destructor_call x us))

holds_applied : (x : Name) (t : Term) (us : List Term) → has_destructor_call x (inner_terms (applied t us)) ≡ (has_destructor_call x (inner_terms t) || list_any (holds x) us)
holds_applied x t [] = sym (or_false (has_destructor_call x (inner_terms t)))
holds_applied x t (u ∷ us) =
    holds_applied x (Applied t u) us ∙ ap (λ b. b || list_any (holds x) us) (holds_append x (inner_terms t) (u ∷ inner_terms u)) ∙
    or_assoc (has_destructor_call x (inner_terms t)) (holds x u) (list_any (holds x) us)

not_distinct : (n : ℕ) → has_distinct_variables [] (numeral (suc n)) ≡ false
unfolding numeral
not_distinct zero = refl
not_distinct (suc n) = refl

no_destructor : (x : Name) (n : ℕ) → is_destructor_call x (numeral n) ≡ false
unfolding numeral
no_destructor x zero = refl
no_destructor x (suc n) = ap (λ b. b && has_argument x (numeral (suc n))) (not_distinct n)

pub holds_numeral : (x : Name) (n : ℕ) → holds x (numeral n) ≡ false
unfolding numeral
holds_numeral x zero = refl
holds_numeral x (suc n) = ap₂ (λ a b. a || b) (no_destructor x (suc n)) (holds_numeral x n)

module _ (bank : Content) (x f : Name) (t : Term) (ids : List TermId) (is : t ≡ call f (parts_of t)) (tells : terms_at bank ids ≡ parts_of t) where
  destructor_told : (b : Bool) → ((g : Name) → b ≡ is_destructor_call x (call g (terms_at bank ids))) → b ≡ is_destructor_call x t
  destructor_told b told = told f ∙ ap (λ us. is_destructor_call x (call f us)) tells ∙ sym (ap (is_destructor_call x) is)

  holds_told : (b : Bool) → ((g : Name) → b ≡ is_destructor_call x (call g (terms_at bank ids))) → holds x t ≡ (b || list_any (holds x) (terms_at bank ids))
  holds_told b told =
      ap₂ (λ a d. a || d) (sym (destructor_told b told)) (ap (λ u. has_destructor_call x (inner_terms u)) is ∙ holds_applied x (Function f) (parts_of t)) ∙
      ap (λ us. b || list_any (holds x) us) (sym tells)

  -- the call itself
  pub holds_here : (b : Bool) → ((g : Name) → b ≡ is_destructor_call x (call g (terms_at bank ids))) → b ≡ true → true ≡ holds x t
  holds_here b told is_one = sym (holds_told b told ∙ ap (λ a. a || list_any (holds x) (terms_at bank ids)) is_one)

  -- what the arguments say
  pub holds_within : (b answer : Bool) → ((g : Name) → b ≡ is_destructor_call x (call g (terms_at bank ids))) → b ≡ false → answer ≡ list_any (holds x) (terms_at bank ids) → answer ≡ holds x t
  holds_within b answer told is_none so = so ∙ sym (holds_told b told ∙ ap (λ a. a || list_any (holds x) (terms_at bank ids)) is_none)

-- ---- variables that stand apart

-- whether the variable stands in the term other than in destructor calls of it
abbrev pub apart : Name → Term → Bool
apart x t = not (is_destructor_call x t) && stands_apart_within x t

apart_applied_to : (x : Name) (t : Term) (us : List Term) → stands_apart_within x (applied t us) ≡ (stands_apart_within x t || list_any (apart x) us)
apart_applied_to x t [] = sym (or_false (stands_apart_within x t))
apart_applied_to x t (u ∷ us) = apart_applied_to x (Applied t u) us ∙ or_assoc (stands_apart_within x t) (apart x u) (list_any (apart x) us)

within_numeral : (x : Name) (n : ℕ) → stands_apart_within x (numeral n) ≡ false
unfolding numeral
within_numeral x zero = refl
within_numeral x (suc n) = ap (λ b. not (is_destructor_call x (numeral n)) && b) (within_numeral x n) ∙ and_none (not (is_destructor_call x (numeral n)))
  where
    and_none : (b : Bool) → (b && false) ≡ false
    and_none true = refl
    and_none false = refl

pub apart_numeral : (x : Name) (n : ℕ) → apart x (numeral n) ≡ false
apart_numeral x n = ap (λ b. not (is_destructor_call x (numeral n)) && b) (within_numeral x n) ∙ and_none (not (is_destructor_call x (numeral n)))
  where
    and_none : (b : Bool) → (b && false) ≡ false
    and_none true = refl
    and_none false = refl

module _ (bank : Content) (x f : Name) (t : Term) (ids : List TermId) (is : t ≡ call f (parts_of t)) (tells : terms_at bank ids ≡ parts_of t) where
  apart_told : (b : Bool) → ((g : Name) → b ≡ is_destructor_call x (call g (terms_at bank ids))) → apart x t ≡ (not b && list_any (apart x) (terms_at bank ids))
  apart_told b told =
      ap₂ (λ a d. not a && d) (sym (destructor_told bank x f t ids is tells b told)) (ap (stands_apart_within x) is ∙ apart_applied_to x (Function f) (parts_of t)) ∙
      ap (λ us. not b && list_any (apart x) us) (sym tells)

  -- a destructor call
  pub apart_nowhere : (b : Bool) → ((g : Name) → b ≡ is_destructor_call x (call g (terms_at bank ids))) → b ≡ true → false ≡ apart x t
  apart_nowhere b told is_one = sym (apart_told b told ∙ ap (λ a. not a && list_any (apart x) (terms_at bank ids)) is_one)

  -- what the arguments say
  pub apart_within : (b answer : Bool) → ((g : Name) → b ≡ is_destructor_call x (call g (terms_at bank ids))) → b ≡ false → answer ≡ list_any (apart x) (terms_at bank ids) → answer ≡ apart x t
  apart_within b answer told is_none so = so ∙ sym (apart_told b told ∙ ap (λ a. not a && list_any (apart x) (terms_at bank ids)) is_none)

-- ---- conclusions

-- the right side is is_none variable
elim_applied : (l t : Term) (us : List Term) → is_elim_conclusion (equal_term l t) ≡ false → ((u : Term) → is_elim_conclusion (equal_term l (Applied t u)) ≡ false) → is_elim_conclusion (equal_term l (applied t us)) ≡ false
elim_applied l t [] e f = e
elim_applied l t (u ∷ us) e f = elim_applied l (Applied t u) us refl (λ v. refl)

pub elim_call : (l : Term) (f : Name) (us : List Term) → false ≡ is_elim_conclusion (equal_term l (call f us))
elim_call l f us = sym (elim_applied l (Function f) us refl (λ v. refl))

pub elim_numeral : (l : Term) (n : ℕ) → false ≡ is_elim_conclusion (equal_term l (numeral n))
unfolding numeral
elim_numeral l zero = refl
elim_numeral l (suc n) = refl

pub elim_variable : (l : Term) (x : Name) (b : Bool) → b ≡ is_elimination l x → b ≡ is_elim_conclusion (equal_term l (Variable x))
elim_variable l x b e = e
