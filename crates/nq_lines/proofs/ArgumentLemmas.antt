-- Calls with other arguments.
use Rattle.std.proofs.Common.{◌≡◌, ◌<◌, ◌-◌, ℕ, zero, suc, Bool, true, false, Option, Some, None, List, [], ◌∷◌, refl, sym, ap, ◌∙◌, subst, length, get_or, arith}
use Rattle.std.specs.Prelude.{◌==◌, slice_get, IsSome, if◌then◌else◌}
use Rattle.nq_logic.specs.Terms.{Name, Symbol, Term, Variable, Function, Applied, Takes, IsTerm, Each}
use Rattle.nq_logic.specs.Numerals.{number_of, is_numeral}
use Rattle.nq_logic.specs.Words.{equal_term}
use Rattle.nq_bank.specs.Parts.{parts_of, arguments_before}
use Rattle.nq_proof.specs.Clauses.{literal_at}
use Rattle.nq_proof.specs.Linear.{and_then}
use Rattle.nq_proof.specs.Paths.{argument_count, around, in_argument, replaced_at}
use Rattle.nq_rule.specs.Results.{second_or, with_argument}
use Rattle.nq_rule.proofs.PathLemmas.{replaced_at-part}
use Rattle.nq_rule.proofs.PlacingLemmas.{literal_first, literal_last}
use Rattle.std.specs.Option.{option_map}
use Rattle.std.proofs.lemmas.Option.{slice_get-map, slice_get-get_or}
use Rattle.nq_bank.specs.declared.node.TermId.{TermId}
use Rattle.nq_bank.specs.Content.{Content, term_at, terms_at}
use Rattle.nq_kernel.specs.Over.{VariablesAre, IsTermOf, IsVariable}

-- what a replacement at one place makes
pub argument_replaced : (place : ℕ) (u t a : Term) → literal_at place (parts_of t) ≡ Some a → replaced_at (place ∷ []) u t ≡ Some (a, with_argument place u t)
argument_replaced place u t a h =
    let r = replaced_at-part (place ∷ []) u t a (ap (λ o. and_then o (λ x. Some x)) h) in
    r.1 ∙ ap (λ b. Some (a, b)) (by_test (is_numeral t) r.0 r.1)
  where
    by_test : (n : Bool) (b : Term) → elim n as (λ b. Option (Term × Term)) [ true ↦ None | false ↦ in_argument place (replaced_at [] u) t ] ≡ Some (a, b) → b ≡ with_argument place u t
    by_test true b k = absurd cc
    by_test false b k = sym (ap (second_or t) k)

-- the same within the second side of an equation
pub second_replaced : (place : ℕ) (u t a : Term) → literal_at place (parts_of t) ≡ Some a → replaced_at (2 ∷ place ∷ []) u (equal_term t t) ≡ Some (a, equal_term t (with_argument place u t))
unfolding number_of
second_replaced place u t a h = ap (around (λ v. equal_term t v)) (argument_replaced place u t a h)

module _ (symbols : List Symbol) where
  -- the term after a change in an argument takes as many arguments
  taken : (place : ℕ) (u : Term) (n : ℕ) (t : Term) → IsTerm symbols u → Takes symbols t n → Takes symbols (with_argument place u t) n
  taken place u n (Variable x) over h = h
  taken place u n (Function f) over h = h
  taken place u n (Applied t v) over h = by_place (suc (argument_count t) == place) (in_argument place (λ w. Some (w, u)) t) (taken place u (suc n) t over h.0)
    where
      by_change : (o : Option (Term × Term)) → Takes symbols (second_or t o) (suc n) → Takes symbols (second_or (Applied t v) (around (λ w. Applied w v) o)) n
      by_change None k = h
      by_change (Some change) k = (k, h.1)

      by_place : (b : Bool) (o : Option (Term × Term)) → Takes symbols (second_or t o) (suc n) → Takes symbols (second_or (Applied t v) (elim b as (λ b. Option (Term × Term)) [ true ↦ Some (v, Applied t u) | false ↦ around (λ w. Applied w v) o ])) n
      by_place true o k = (h.0, over)
      by_place false o k = by_change o k

  variables_changed : (P : Name → Type 0) (place : ℕ) (u t : Term) → VariablesAre P u → VariablesAre P t → VariablesAre P (with_argument place u t)
  variables_changed P place u (Variable x) over h = h
  variables_changed P place u (Function f) over h = h
  variables_changed P place u (Applied t v) over h = by_place (suc (argument_count t) == place) (in_argument place (λ w. Some (w, u)) t) (variables_changed P place u t over h.0)
    where
      by_change : (o : Option (Term × Term)) → VariablesAre P (second_or t o) → VariablesAre P (second_or (Applied t v) (around (λ w. Applied w v) o))
      by_change None k = h
      by_change (Some change) k = (k, h.1)

      by_place : (b : Bool) (o : Option (Term × Term)) → VariablesAre P (second_or t o) → VariablesAre P (second_or (Applied t v) (elim b as (λ b. Option (Term × Term)) [ true ↦ Some (v, Applied t u) | false ↦ around (λ w. Applied w v) o ]))
      by_place true o k = (h.0, over)
      by_place false o k = by_change o k

  pub changed_over : (place : ℕ) (u t : Term) → IsTermOf IsVariable symbols u → IsTermOf IsVariable symbols t → IsTermOf IsVariable symbols (with_argument place u t)
  changed_over place u t h k = record { over = taken place u 0 t h.over k.over; variables = variables_changed IsVariable place u t h.variables k.variables }

  -- the arguments of a term
  arguments_over : (n : ℕ) (t : Term) (others : List Term) → Takes symbols t n → VariablesAre IsVariable t → Each (IsTermOf IsVariable symbols) others → Each (IsTermOf IsVariable symbols) (arguments_before t others)
  arguments_over n (Variable x) others h k each = each
  arguments_over n (Function f) others h k each = each
  arguments_over n (Applied t u) others h k each = arguments_over (suc n) t (u ∷ others) h.0 k.0 (record { over = h.1; variables = k.1 }, each)

  each_at : (ts : List Term) (k : ℕ) (a : Term) → Each (IsTermOf IsVariable symbols) ts → slice_get ts k ≡ Some a → IsTermOf IsVariable symbols a
  each_at [] k a each e = absurd cc
  each_at (t ∷ ts) zero a each e = let same : t ≡ a = cc in subst (IsTermOf IsVariable symbols) same each.0
  each_at (t ∷ ts) (suc k) a each e = each_at ts k a each.1 e

  literal_over : (ts : List Term) (place : ℕ) (a : Term) → Each (IsTermOf IsVariable symbols) ts → literal_at place ts ≡ Some a → IsTermOf IsVariable symbols a
  literal_over ts zero a each e = absurd cc
  literal_over ts (suc k) a each e = each_at ts k a each e

  pub argument_over : (t : Term) (place : ℕ) (a : Term) → IsTermOf IsVariable symbols t → literal_at place (parts_of t) ≡ Some a → IsTermOf IsVariable symbols a
  argument_over t place a h e = by_number (is_numeral t) e
    where
      by_number : (b : Bool) → literal_at place (if b then [] else arguments_before t []) ≡ Some a → IsTermOf IsVariable symbols a
      by_number true k = literal_over [] place a tt k
      by_number false k = literal_over (arguments_before t []) place a (arguments_over 0 t [] h.over h.variables tt) k

-- the literal at a place, as an id
pub literal_within : (bank : Content) (place : ℕ) (ids : List TermId) → IsSome (literal_at place (terms_at bank ids)) → place - 1 < length ids
literal_within bank place ids h = omega (arith, literal_first place (terms_at bank ids) h, literal_last bank place ids h)

pub literal_index : (bank : Content) (place : ℕ) (ids : List TermId) (d : TermId) → IsSome (literal_at place (terms_at bank ids)) → literal_at place (terms_at bank ids) ≡ Some (term_at bank (get_or ids (place - 1) d))
literal_index bank zero ids d h = absurd cc
literal_index bank (suc k) ids d h =
    let e : suc k - 1 ≡ k = omega arith in
    let below : k < length ids = subst (λ i. i < length ids) e (literal_within bank (suc k) ids h) in
    slice_get-map (term_at bank) ids k ∙ ap (option_map (term_at bank)) (slice_get-get_or ids k d below) ∙ ap (λ i. Some (term_at bank (get_or ids i d))) (sym e)

-- some literal is there
pub literal_there : (place : ℕ) (ts : List Term) → IsSome (literal_at place ts) → (a : Term) × (literal_at place ts ≡ Some a)
literal_there place ts h = by_option (literal_at place ts) h
  where
    by_option : (o : Option Term) → IsSome o → (a : Term) × (o ≡ Some a)
    by_option None k = absurd cc
    by_option (Some a) k = (a, refl)
