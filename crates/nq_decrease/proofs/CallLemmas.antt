-- Calls of one argument, equations, and zero.
use Rattle.std.proofs.Common.{◌≡◌, ◌<◌, ◌≤◌, ℕ, zero, suc, Bool, true, false, ◌&&◌, None, List, [], ◌∷◌, length, get_or, refl, sym, ap, ap₂, ◌∙◌, arith}
use Rattle.std.proofs.lemmas.Bool.{eqb-true}
use Rattle.std.specs.Prelude.{bytes_eq, codes, All, not, nat_eq, nat_lt}
use Rattle.nq_logic.specs.Terms.{Name, Term, Variable, Function, Applied, applied, call}
use Rattle.nq_logic.specs.Words.{equal_term, zero_term, numeral}
use Rattle.nq_logic.specs.Numerals.{number_of}
use Rattle.nq_bank.specs.declared.node.Sym.{Sym}
use Rattle.nq_bank.specs.declared.node.TermId.{TermId}
use Rattle.nq_bank.specs.Content.{Content, Stands, text_at, term_at, terms_at}
use Rattle.nq_bank.specs.Soundness.{ground_text}
use Rattle.nq_bank.proofs.Texts.{bytes_eq-true, eq-bytes_eq, same_test}
use Rattle.nq_proof.specs.Clauses.{same_term}
use Rattle.nq_proof.proofs.Tests.{same_true, and_right}
use Rattle.nq_decrease.specs.declared.calls.OneCall.{OneCall}
use Rattle.nq_decrease.specs.Guards.{IsNoCall, IsOneCall, IsNoEquation, IsEquationOf, is_test_name, call_of}

-- whether the term is a function of one argument
abbrev is_one : Term → Bool
is_one (Variable x) = false
is_one (Function f) = false
is_one (Applied (Variable x) u) = false
is_one (Applied (Function f) u) = true
is_one (Applied (Applied t v) u) = false

more_than_one : (t u v : Term) (ts : List Term) → is_one (applied (Applied (Applied t u) v) ts) ≡ false
more_than_one t u v [] = refl
more_than_one t u v (w ∷ ts) = more_than_one (Applied t u) v w ts

pub long_no_call : (bank : Content) (t : Term) (f : Name) (ids : List TermId) → t ≡ call f (terms_at bank ids) → 2 ≤ length ids → IsNoCall t
long_no_call bank t f [] e least = absurd (omega arith)
long_no_call bank t f (a ∷ []) e least = absurd (omega arith)
long_no_call bank t f (a ∷ (b ∷ ids)) e least = λ g u same.
    let first : is_one t ≡ false = ap is_one e ∙ more_than_one (Function f) (term_at bank a) (term_at bank b) (terms_at bank ids) in
    let second : is_one t ≡ true = ap is_one same in
    absurd cc

pub numeral_no_call : (n : ℕ) (t : Term) → t ≡ numeral n → IsNoCall t
unfolding numeral
numeral_no_call zero t e = λ f u same. let both : zero_term ≡ Applied (Function f) u = sym e ∙ same in absurd cc
numeral_no_call (suc n) t e = λ f u same.
    let both : Applied (Function (codes "ADD1")) (numeral n) ≡ Applied (Function f) u = sym e ∙ same in
    let named : codes "ADD1" ≡ f = cc in
    sym named

-- the function at the head of a term
abbrev head_of : Term → Name
head_of (Variable x) = []
head_of (Function f) = f
head_of (Applied t u) = head_of t

head_applied : (t : Term) (ts : List Term) → head_of (applied t ts) ≡ head_of t
head_applied t [] = refl
head_applied t (u ∷ ts) = head_applied (Applied t u) ts

pub other_no_equation : (bank : Content) (t : Term) (f : Name) (ids : List TermId) → t ≡ call f (terms_at bank ids) → bytes_eq f (codes "EQUAL") ≡ false → IsNoEquation t
other_no_equation bank t f ids e other = λ a b same.
    let named : f ≡ codes "EQUAL" = sym (ap head_of e ∙ head_applied (Function f) (terms_at bank ids)) ∙ ap head_of same in
    let second : bytes_eq f (codes "EQUAL") ≡ true = eq-bytes_eq f (codes "EQUAL") named in
    absurd cc

-- whether the term is a function of two arguments
abbrev is_two : Term → Bool
is_two (Variable x) = false
is_two (Function f) = false
is_two (Applied t u) = is_one t

more_than_two : (t u v w : Term) (ts : List Term) → is_two (applied (Applied (Applied (Applied t u) v) w) ts) ≡ false
more_than_two t u v w [] = refl
more_than_two t u v w (x ∷ ts) = more_than_two (Applied t u) v w x ts

no_equation : (t : Term) → is_two t ≡ false → IsNoEquation t
no_equation t other = λ a b same. let second : is_two t ≡ true = ap is_two same in absurd cc

pub short_no_equation : (bank : Content) (t : Term) (f : Name) (ids : List TermId) → t ≡ call f (terms_at bank ids) → length ids < 2 → IsNoEquation t
short_no_equation bank t f [] e few = no_equation t (ap is_two e)
short_no_equation bank t f (a ∷ []) e few = no_equation t (ap is_two e)
short_no_equation bank t f (a ∷ (b ∷ ids)) e few = absurd (omega arith)

pub long_no_equation : (bank : Content) (t : Term) (f : Name) (ids : List TermId) → t ≡ call f (terms_at bank ids) → 3 ≤ length ids → IsNoEquation t
long_no_equation bank t f [] e least = absurd (omega arith)
long_no_equation bank t f (a ∷ []) e least = absurd (omega arith)
long_no_equation bank t f (a ∷ (b ∷ [])) e least = absurd (omega arith)
long_no_equation bank t f (a ∷ (b ∷ (d ∷ ids))) e least = no_equation t (ap is_two e ∙ more_than_two (Function f) (term_at bank a) (term_at bank b) (term_at bank d) (terms_at bank ids))

pub numeral_no_equation : (n : ℕ) (t : Term) → t ≡ numeral n → IsNoEquation t
unfolding numeral
numeral_no_equation zero t e = no_equation t (ap is_two e)
numeral_no_equation (suc n) t e = no_equation t (ap is_two e)

pub two_equated : (bank : Content) (f : Name) (t : TermId) (ids : List TermId) (d : TermId) → term_at bank t ≡ call f (terms_at bank ids) → bytes_eq f (codes "EQUAL") ≡ true → 2 ≤ length ids → length ids < 3 → Stands bank t → All (λ a. a.0 < t.0) ids → IsEquationOf bank t (record { left = get_or ids 0 d; right = get_or ids 1 d })
two_equated bank f t ids d is same least most stands before = by_ids ids refl
  where
    by_ids : (xs : List TermId) → ids ≡ xs → IsEquationOf bank t (record { left = get_or ids 0 d; right = get_or ids 1 d })
    by_ids [] e = let short : length ids ≡ 0 = ap length e in absurd (omega arith)
    by_ids (a ∷ []) e = let short : length ids ≡ 1 = ap length e in absurd (omega arith)
    by_ids (a ∷ b ∷ []) e =
        let left = before 0 d (omega arith) in
        let right = before 1 d (omega arith) in
        record {
          left = omega (arith, left, stands);
          right = omega (arith, right, stands);
          whole = is ∙ ap (λ g. call g (terms_at bank ids)) (bytes_eq-true f (codes "EQUAL") same) ∙ ap (λ xs. call (codes "EQUAL") (terms_at bank xs)) e ∙ ap (λ xs. equal_term (term_at bank (get_or xs 0 d)) (term_at bank (get_or xs 1 d))) (sym e);
        }
    by_ids (a ∷ b ∷ (c ∷ xs)) e = let long : length ids ≡ suc (suc (suc (length xs))) = ap length e in absurd (omega arith)

pub zero_of : (n : ℕ) (t : Term) → t ≡ numeral n → nat_eq n 0 ≡ same_term zero_term t
unfolding numeral
zero_of zero t e = ap (same_term zero_term) (sym e)
zero_of (suc n) t e = by_test (nat_eq (suc n) 0) refl ∙ ap (same_term zero_term) (sym e)
  where
    by_test : (b : Bool) → nat_eq (suc n) 0 ≡ b → b ≡ false
    by_test true h = let same : suc n ≡ 0 = eqb-true (suc n) 0 h in absurd (omega arith)
    by_test false h = refl

pub not_zero : (t : Term) → number_of t ≡ None → false ≡ same_term zero_term t
unfolding number_of
not_zero t other = by_test (same_term zero_term t) refl
  where
    by_test : (b : Bool) → same_term zero_term t ≡ b → false ≡ b
    by_test false e = refl
    by_test true e = let same : zero_term ≡ t = same_true zero_term t e in let none : number_of zero_term ≡ None = ap number_of same ∙ other in absurd cc

and_chosen : (a b : Bool) → (a && b) ≡ elim a as (λ c. Bool) [ true ↦ b | false ↦ false ]
and_chosen true b = refl
and_chosen false b = refl

names_turned : (f g : Name) → bytes_eq f g ≡ bytes_eq g f
names_turned f g = same_test (bytes_eq f g) (bytes_eq g f) (λ e. eq-bytes_eq g f (sym (bytes_eq-true f g e))) (λ e. eq-bytes_eq f g (sym (bytes_eq-true g f e)))

pub called : (bank : Content) (f : Sym) (y : Term) (u : TermId) (c : OneCall) (a b r : Bool) → IsOneCall bank u c → a ≡ bytes_eq (text_at bank c.function) (ground_text f) → b ≡ same_term y (term_at bank c.argument) → r ≡ (a && b) → r ≡ same_term (call_of f y) (term_at bank u)
called bank f y u c a b r is name same both =
    let F : Bool → Bool → Bool = λ x z. elim x as (λ c. Bool) [ true ↦ z | false ↦ false ] in
    both ∙ and_chosen a b ∙ ap₂ F (name ∙ names_turned (text_at bank c.function) (ground_text f)) same ∙ ap (same_term (call_of f y)) (sym is.whole)

not_true : (b : Bool) → not b ≡ true → b ≡ true → ⊥
not_true true h e = absurd cc
not_true false h e = absurd cc

pub not_called : (f : Sym) (y u : Term) → IsNoCall u → is_test_name f ≡ true → false ≡ same_term (call_of f y) u
not_called f y u none test = by_test (same_term (call_of f y) u) refl
  where
    by_test : (b : Bool) → same_term (call_of f y) u ≡ b → false ≡ b
    by_test false e = refl
    by_test true e =
        let same : u ≡ call_of f y = sym (same_true (call_of f y) u e) in
        let name : ground_text f ≡ codes "ADD1" = none (ground_text f) y same in
        absurd (not_true (bytes_eq (ground_text f) (codes "ADD1")) (and_right (nat_lt f.0 48) (not (bytes_eq (ground_text f) (codes "ADD1"))) test) (eq-bytes_eq (ground_text f) (codes "ADD1") name))

-- the same of a function by its name
pub called_by : (bank : Content) (g : Name) (y : Term) (u : TermId) (c : OneCall) (a b r : Bool) → IsOneCall bank u c → a ≡ bytes_eq (text_at bank c.function) g → b ≡ same_term y (term_at bank c.argument) → r ≡ (a && b) → r ≡ same_term (Applied (Function g) y) (term_at bank u)
called_by bank g y u c a b r is name same both =
    let F : Bool → Bool → Bool = λ x z. elim x as (λ c. Bool) [ true ↦ z | false ↦ false ] in
    both ∙ and_chosen a b ∙ ap₂ F (name ∙ names_turned (text_at bank c.function) g) same ∙ ap (same_term (Applied (Function g) y)) (sym is.whole)

pub not_called_by : (g : Name) (y u : Term) → IsNoCall u → bytes_eq g (codes "ADD1") ≡ false → false ≡ same_term (Applied (Function g) y) u
not_called_by g y u none other = by_test (same_term (Applied (Function g) y) u) refl
  where
    by_test : (b : Bool) → same_term (Applied (Function g) y) u ≡ b → false ≡ b
    by_test false e = refl
    by_test true e =
        let same : u ≡ Applied (Function g) y = sym (same_true (Applied (Function g) y) u e) in
        let is : bytes_eq g (codes "ADD1") ≡ true = eq-bytes_eq g (codes "ADD1") (none g y same) in
        absurd cc

-- a call of arguments is no constant
no_constant_call : (b : Name) (t u : Term) (ts : List Term) → same_term (Function b) (applied (Applied t u) ts) ≡ false
no_constant_call b t u [] = refl
no_constant_call b t u (v ∷ ts) = no_constant_call b (Applied t u) v ts

pub long_no_constant : (bank : Content) (b f : Name) (t : Term) (ids : List TermId) → t ≡ call f (terms_at bank ids) → 1 ≤ length ids → false ≡ same_term (Function b) t
long_no_constant bank b f t [] e least = absurd (omega arith)
long_no_constant bank b f t (a ∷ ids) e least = sym (ap (same_term (Function b)) e ∙ no_constant_call b (Function f) (term_at bank a) (terms_at bank ids))

pub short_constant : (bank : Content) (b f : Name) (t : Term) (ids : List TermId) (r : Bool) → t ≡ call f (terms_at bank ids) → length ids < 1 → r ≡ bytes_eq b f → r ≡ same_term (Function b) t
short_constant bank b f t [] r e few same = same ∙ ap (same_term (Function b)) (sym e)
short_constant bank b f t (a ∷ ids) r e few same = absurd (omega arith)

pub numeral_no_constant : (n : ℕ) (b : Name) (t : Term) → t ≡ numeral n → bytes_eq b (codes "ZERO") ≡ false → false ≡ same_term (Function b) t
unfolding numeral
numeral_no_constant zero b t e other = sym (ap (same_term (Function b)) e ∙ other)
numeral_no_constant (suc n) b t e other = sym (ap (same_term (Function b)) e)
