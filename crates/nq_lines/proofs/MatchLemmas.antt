-- Pairs that take patterns to terms.
use Rattle.std.proofs.Common.{◌≡◌, ℕ, zero, suc, ◌+◌, ◌<◌, Bool, true, false, not, ◌&&◌, List, [], ◌∷◌, ◌++◌, length, get_or, take, refl, sym, ap, ap₂, ◌∙◌, subst, inl, inr}
use Rattle.std.specs.Prelude.{Result, Ok, Err, IfOk, OnErr, All, IsTrue, bytes_eq, if◌then◌else◌}
use Rattle.std.proofs.lemmas.List.{take_more, map_push}
use Rattle.nq_logic.specs.Terms.{Name, Symbol, Term, Variable, Function, Applied, Substitution, IsAmong, Each, Takes, value_at, substituted}
use Rattle.nq_logic.specs.Names.{has_name}
use Rattle.nq_logic.specs.Numerals.{number_of}
use Rattle.nq_logic.specs.Admissible.{AreDistinct}
use Rattle.nq_logic.proofs.Lists.{each_among}
use Rattle.nq_logic.proofs.Tests.{names_found_law}
use Rattle.nq_proof.specs.Rules.{are_distinct, pair_terms}
use Rattle.nq_bank.specs.declared.node.TermId.{TermId}
use Rattle.nq_bank.specs.Parts.{occurs}
use Rattle.nq_bank.specs.Content.{Gives, Content, Grows, IsIdOf, text_at, term_at}
use Rattle.nq_bank.proofs.Growth.{Grows-refl, Stands-grown, IsNamed-grown, text_at-grown, term_at-grown}
use Rattle.nq_bank.proofs.Standing.{All-push}
use Rattle.nq_bank.proofs.Texts.{bytes_eq-true}
use Rattle.nq_clause.specs.declared.binding.Bound.{Bound}
use Rattle.nq_clause.specs.declared.binding.Bound.TheVariants.{Term as Other, Num}
use Rattle.nq_clause.specs.declared.binding.Binding.{Binding}
use Rattle.nq_clause.specs.declared.substitution.Pair.{Pair}
use Rattle.nq_clause.specs.Substitution.{substitution_at, PairStands}
use Rattle.nq_clause.specs.Binding.{bound_at, BoundStands, bindings_at, BindingStands, variables_of, BindsOnce}
use Rattle.std.proofs.lemmas.Bool.{or_cases}
use Rattle.nq_clause.proofs.BindingLemmas.{value_at-first}
use Rattle.nq_clause.proofs.InstanceLemmas.{false_true}
use Rattle.nq_clause.proofs.SubstitutionLemmas.{substitution_at-grown, pairs_grown}
use Rattle.nq_kernel.specs.Over.{IsVariable, VariablesAre, IsTermOf}
use Rattle.nq_lines.specs.Facts.{IsInstanceBy}

-- ---- what stands in the place of a variable

-- a variable of a term is of the kind of all its variables
variable_is : (P : Name → Type 0) (x : Name) (t : Term) → VariablesAre P t → IsTrue (occurs x t) → P x
unfolding occurs
variable_is P x (Variable y) h o = subst P (sym (bytes_eq-true x y o)) h
variable_is P x (Function f) h o = absurd (false_true o)
variable_is P x (Applied t u) h o =
    elim (or_cases (occurs x t) (occurs x u) o) [
      | inl in_t ↦ variable_is P x t h.0 in_t
      | inr in_u ↦ variable_is P x u h.1 in_u
    ]

-- what stands in the place of a variable is a part of the instance
value_over : (P : Name → Type 0) (s : Substitution) (own symbols : List Symbol) (x : Name) (t : Term) (n : ℕ) → Takes own t n → Takes symbols (substituted s t) n → VariablesAre P (substituted s t) → IsTrue (occurs x t) → IsTermOf P symbols (value_at s x)
unfolding occurs
value_over P s own symbols x (Variable y) zero fits over variables o =
    subst (λ z. IsTermOf P symbols (value_at s z)) (sym (bytes_eq-true x y o)) (record { over = over; variables = variables })
value_over P s own symbols x (Variable y) (suc n) fits over variables o = absurd fits
value_over P s own symbols x (Function f) n fits over variables o = absurd (false_true o)
value_over P s own symbols x (Applied t u) n fits over variables o =
    elim (or_cases (occurs x t) (occurs x u) o) [
      | inl in_t ↦ value_over P s own symbols x t (suc n) fits.0 over.0 variables.0 in_t
      | inr in_u ↦ value_over P s own symbols x u zero fits.1 over.1 variables.1 in_u
    ]

value_later : (y : Name) (t : Term) (s : Substitution) (x : Name) → (IsAmong y (variables_of s) → ⊥) → IsAmong x (variables_of s) → value_at ((y, t) ∷ s) x ≡ value_at s x
value_later y t s x none m = by_test (bytes_eq x y) refl
  where
    by_test : (b : Bool) → bytes_eq x y ≡ b → (if b then t else value_at s x) ≡ value_at s x
    by_test true e = absurd (none (subst (λ z. IsAmong z (variables_of s)) (bytes_eq-true x y e) m))
    by_test false e = refl

-- the terms of pairs are what stands in the place of their variables
each_value : (Q : Term → Type 0) (s : Substitution) → BindsOnce s → ((x : Name) → IsAmong x (variables_of s) → Q (value_at s x)) → Each Q (pair_terms s)
each_value Q [] once h = tt
each_value Q (b ∷ s) once h = (
  subst Q (value_at-first b.0 b.1 s) (h b.0 (inl refl)),
  each_value Q s once.1 (λ x m. subst Q (value_later b.0 b.1 s x once.0 m) (h x (inr m))),
)

pub distinct_told : (xs : List Name) → AreDistinct xs → are_distinct xs ≡ true
distinct_told [] h = refl
distinct_told (x ∷ xs) h = by_test (has_name x xs) refl (distinct_told xs h.1)
  where
    by_test : (b : Bool) → has_name x xs ≡ b → are_distinct xs ≡ true → (not b && are_distinct xs) ≡ true
    by_test true e rest = absurd (h.0 ((names_found_law x xs).0 e))
    by_test false e rest = rest

-- ---- pairs over the history

-- the pairs take a pattern that is over some functions to a term over others
pub instance_pairs : (own symbols : List Symbol) (s : Substitution) (p t : Term) → IsInstanceBy s p t → IsTermOf IsVariable own p → IsTermOf IsVariable symbols t → Each (IsTermOf IsVariable symbols) (pair_terms s) × Each IsVariable (variables_of s)
instance_pairs own symbols s p t is over there =
    let whole : IsTermOf IsVariable symbols (substituted s p) = subst (IsTermOf IsVariable symbols) (sym is.gives) there in (
      each_value (IsTermOf IsVariable symbols) s is.once (λ x m. value_over IsVariable s own symbols x p zero over.over whole.over whole.variables (is.only.in_term x m)),
      each_among IsVariable (variables_of s) (λ x m. variable_is IsVariable x p over.variables (is.only.in_term x m)),
    )

-- ---- a bank that grew

bound_at-grown : (old new : Content) (b : Bound) → Grows old new → BoundStands old b → bound_at new b ≡ bound_at old b
bound_at-grown old new (Other t) h stands = term_at-grown old new t h stands.0
bound_at-grown old new (Num n) h stands = refl

pub bound_grown : (old new : Content) (b : Bound) → Grows old new → BoundStands old b → BoundStands new b
bound_grown old new (Other t) h stands = (Stands-grown old new t h stands.0, ap number_of (term_at-grown old new t h stands.0) ∙ stands.1)
bound_grown old new (Num n) h stands = stands

-- what the pairs so far are, as the next bound gets an id
module _ (old bank new : Content) (bindings : List Binding) (i : ℕ) (d : Binding) (before : Grows old bank) (after : Grows bank new) (below : i < length bindings) (stand : All (BindingStands old) bindings) where
  abbrev next : Binding
  next = get_or bindings i d

  pub next_stands : BoundStands bank next.bound
  next_stands = bound_grown old bank next.bound before (stand i d below).bound

  module _ (pairs more : List Pair) (t : TermId) (are : more ≡ pairs ++ record { variable = next.variable; term = t } ∷ []) (pairs_stand : All (PairStands bank) pairs) (id : IsIdOf new t (bound_at bank next.bound)) (both : Grows old new) where
    abbrev new_pair : Pair
    new_pair = record { variable = next.variable; term = t }

    pub pairs_stand_more : All (PairStands new) more
    pairs_stand_more =
        subst (All (PairStands new)) (sym are)
        (All-push (PairStands new) pairs new_pair (pairs_grown bank new pairs after pairs_stand) (record { variable = IsNamed-grown old new next.variable both (stand i d below).variable; term = id.stands }))

    pub pairs_more : substitution_at bank pairs ≡ bindings_at old (take i bindings) → substitution_at new more ≡ bindings_at old (take (i + 1) bindings)
    pairs_more so_far =
        let here : (text_at new next.variable, term_at new t) ≡ (text_at old next.variable, bound_at old next.bound) =
        ap₂ (λ (x : Name) (u : Term). (x, u)) (text_at-grown old new next.variable both (stand i d below).variable) (id.denotes ∙ bound_at-grown old bank next.bound before (stand i d below).bound) in
        ap (substitution_at new) are ∙
        map_push _ pairs new_pair ∙
        ap₂ (λ (s : Substitution) (p : Name × Term). s ++ p ∷ []) (substitution_at-grown bank new pairs after pairs_stand ∙ so_far) here ∙
        sym (map_push _ (take i bindings) next) ∙
        ap (bindings_at old) (sym (take_more bindings i d below))

pub gives_grow : {E : Type 0} (old new : Content) (r : Result TermId E) (term : Term) → IfOk r (λ t. Gives old new t term) → OnErr r (new ≡ old) → Grows old new
gives_grow old new (Ok t) term h k = h.grows
gives_grow old new (Err e) term h k = subst (Grows old) (sym k) (Grows-refl old)
