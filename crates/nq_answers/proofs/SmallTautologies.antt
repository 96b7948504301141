-- A small tautology is derivable.
use Rattle.std.proofs.Common.{◌≡◌, ℕ, zero, suc, Bool, true, false, List, [], ◌∷◌, ◌++◌, Option, refl, ap, ap₂, sym, subst, ◌∙◌, inl, inr}
use Rattle.std.specs.Prelude.{None, Some, codes, bytes_eq, if◌then◌else◌}
use Rattle.nq_logic.specs.Terms.{Symbol, Term, Variable, Function, Applied, IsAmong, IsTerm, Each}
use Rattle.nq_logic.specs.Words.{and_term, or_term, implies_term, iff_term}
use Rattle.nq_logic.specs.Formulas.{holds}
use Rattle.nq_logic.specs.Histories.{History}
use Rattle.nq_logic.specs.Ground.{symbols_of}
use Rattle.nq_logic.specs.Derivations.{Derivable}
use Rattle.nq_logic.specs.Shapes as shapes
use Rattle.nq_logic.specs.Shapes.{Shape, Choice as Chosen, Negation, Conjunction, Disjunction, Implication, Equivalence, chosen, shaped, term_in}
use Rattle.nq_logic.proofs.Tautologies.{tautology_law}
use Rattle.nq_logic.proofs.Lists.{among_left, among_right}
use Rattle.nq_proof.specs.Clauses.{same_term}
use Rattle.nq_proof.proofs.Tests.{same_true}
use Rattle.nq_rule.proofs.LiteralLemmas.{true_same}
use Rattle.nq_bank.proofs.Texts.{bytes_eq-true}
use Rattle.nq_fragments.specs.declared.connective.Connective.{Connective}
use Rattle.nq_fragments.specs.declared.connective.Connective.TheVariants.{And, Or, Implies, Iff}
use Rattle.nq_fragments.specs.Propositions.{Proposition, Other, Truth, Falsity, Choice, Denial, Joined, proposition_of, others_in, truth_of, connective_of, joined_by}
use Rattle.nq_fragments.specs.Tautologies.{IsSmallTautology}
use Rattle.nq_answers.proofs.Joined.{joined_term, named_term}

-- the place of a term in a list
abbrev place_of : Term → List Term → ℕ
place_of t [] = zero
place_of t (u ∷ us) = if same_term t u then zero else suc (place_of t us)

at_place : (t : Term) (ts : List Term) → IsAmong t ts → term_in ts (place_of t ts) ≡ t
at_place t [] m = absurd m
at_place t (u ∷ us) m = by_test (same_term t u) refl (λ k. at_place t us k)
  where
    later : same_term t u ≡ false → IsAmong t us
    later e = elim m as (λ o. IsAmong t us) [ inl s ↦ (let both : true ≡ false = sym (true_same t u s) ∙ e in absurd (cc)) | inr k ↦ k ]

    by_test : (b : Bool) → same_term t u ≡ b → (IsAmong t us → term_in us (place_of t us) ≡ t) → term_in (u ∷ us) (if b then zero else suc (place_of t us)) ≡ t
    by_test true e rest = sym (same_true t u e)
    by_test false e rest = rest (later e)

abbrev joined_shape : Connective → Shape → Shape → Shape
joined_shape And p q = Conjunction p q
joined_shape Or p q = Disjunction p q
joined_shape Implies p q = Implication p q
joined_shape Iff p q = Equivalence p q

-- the proposition, its other terms by their places
abbrev shape_in : List Term → Proposition → Shape
shape_in ts (Other t) = shapes.Other (place_of t ts)
shape_in ts Truth = shapes.Truth
shape_in ts Falsity = shapes.Falsity
shape_in ts (Choice p x y) = Chosen (shape_in ts p) (shape_in ts x) (shape_in ts y)
shape_in ts (Denial p) = Negation (shape_in ts p)
shape_in ts (Joined c p q) = joined_shape c (shape_in ts p) (shape_in ts q)

-- ---- it is as true

truth_joined : (values : ℕ → Bool) (ts : List Term) (c : Connective) (p q : Proposition)
    → shapes.truth_of values (shape_in ts p) ≡ truth_of (λ t. values (place_of t ts)) p → shapes.truth_of values (shape_in ts q) ≡ truth_of (λ t. values (place_of t ts)) q
    → shapes.truth_of values (shape_in ts (Joined c p q)) ≡ truth_of (λ t. values (place_of t ts)) (Joined c p q)
truth_joined values ts And p q left right = ap₂ (λ a b. chosen a b false) left right
truth_joined values ts Or p q left right = ap₂ (λ a b. chosen a true b) left right
truth_joined values ts Implies p q left right = ap₂ (λ a b. chosen a b true) left right
truth_joined values ts Iff p q left right = ap₂ (λ a b. chosen a b (chosen b false true)) left right

truth_shaped : (values : ℕ → Bool) (ts : List Term) (p : Proposition) → shapes.truth_of values (shape_in ts p) ≡ truth_of (λ t. values (place_of t ts)) p
truth_shaped values ts (Other t) = refl
truth_shaped values ts Truth = refl
truth_shaped values ts Falsity = refl
truth_shaped values ts (Choice p x y) =
    ap (λ a. chosen a (shapes.truth_of values (shape_in ts x)) (shapes.truth_of values (shape_in ts y))) (truth_shaped values ts p)
    ∙ ap₂ (λ a b. chosen (truth_of (λ t. values (place_of t ts)) p) a b) (truth_shaped values ts x) (truth_shaped values ts y)
truth_shaped values ts (Denial p) = ap (λ a. chosen a false true) (truth_shaped values ts p)
truth_shaped values ts (Joined c p q) = truth_joined values ts c p q (truth_shaped values ts p) (truth_shaped values ts q)

-- ---- it is the term

joined_as : (ts : List Term) (c : Connective) (s u : Shape) (p q : Term) → shaped ts s ≡ p → shaped ts u ≡ q → shaped ts (joined_shape c s u) ≡ joined_term c p q
joined_as ts And s u p q left right = ap₂ and_term left right
joined_as ts Or s u p q left right = ap₂ or_term left right
joined_as ts Implies s u p q left right = ap₂ implies_term left right
joined_as ts Iff s u p q left right = ap₂ iff_term left right

module _ (ts : List Term) where
  abbrev AreIn : List Term → Type 0
  AreIn us = (u : Term) → IsAmong u us → IsAmong u ts

  constant_as : (f : List ℕ) (b c : Bool) → bytes_eq f (codes "TRUE") ≡ b → bytes_eq f (codes "FALSE") ≡ c
      → AreIn (others_in (if b then Truth else if c then Falsity else Other (Function f))) → shaped ts (shape_in ts (if b then Truth else if c then Falsity else Other (Function f))) ≡ Function f
  constant_as f true c e d are = ap Function (sym (bytes_eq-true f (codes "TRUE") e))
  constant_as f false true e d are = ap Function (sym (bytes_eq-true f (codes "FALSE") d))
  constant_as f false false e d are = at_place (Function f) ts (are (Function f) (inl refl))

  other_as : (t : Term) → AreIn (t ∷ []) → shaped ts (shape_in ts (Other t)) ≡ t
  other_as t are = at_place t ts (are t (inl refl))

  left_in : (us vs : List Term) → AreIn (us ++ vs) → AreIn us
  left_in us vs are u m = are u (among_left u us vs m)

  right_in : (us vs : List Term) → AreIn (us ++ vs) → AreIn vs
  right_in us vs are u m = are u (among_right u us vs m)

  shaped_as : (t : Term) → AreIn (others_in (proposition_of t)) → shaped ts (shape_in ts (proposition_of t)) ≡ t
  unfolding proposition_of
  shaped_as (Variable x) are = other_as (Variable x) are
  shaped_as (Function f) are = constant_as f (bytes_eq f (codes "TRUE")) (bytes_eq f (codes "FALSE")) refl refl are
  shaped_as (Applied (Variable z) p) are = other_as (Applied (Variable z) p) are
  shaped_as (Applied (Function f) p) are = by_test (shaped_as p) (bytes_eq f (codes "NOT")) refl are
    where
      by_test : (AreIn (others_in (proposition_of p)) → shaped ts (shape_in ts (proposition_of p)) ≡ p) → (b : Bool) → bytes_eq f (codes "NOT") ≡ b
          → AreIn (others_in (if b then Denial (proposition_of p) else Other (Applied (Function f) p)))
          → shaped ts (shape_in ts (if b then Denial (proposition_of p) else Other (Applied (Function f) p))) ≡ Applied (Function f) p
      by_test rest true e are = ap₂ (λ (g : List ℕ) (u : Term). Applied (Function g) u) (sym (bytes_eq-true f (codes "NOT") e)) (rest are)
      by_test rest false e are = other_as (Applied (Function f) p) are
  shaped_as (Applied (Applied (Variable z) p) q) are = other_as (Applied (Applied (Variable z) p) q) are
  shaped_as (Applied (Applied (Function f) p) q) are = by_name (shaped_as p) (shaped_as q) (connective_of f) refl are
    where
      whole : Term
      whole = Applied (Applied (Function f) p) q

      by_name : (AreIn (others_in (proposition_of p)) → shaped ts (shape_in ts (proposition_of p)) ≡ p) → (AreIn (others_in (proposition_of q)) → shaped ts (shape_in ts (proposition_of q)) ≡ q)
          → (o : Option Connective) → connective_of f ≡ o → AreIn (others_in (joined_by o whole (proposition_of p) (proposition_of q)))
          → shaped ts (shape_in ts (joined_by o whole (proposition_of p) (proposition_of q))) ≡ whole
      by_name left right None e are = other_as whole are
      by_name left right (Some c) e are =
          let first : shaped ts (shape_in ts (proposition_of p)) ≡ p = left (left_in (others_in (proposition_of p)) (others_in (proposition_of q)) are) in
          let second : shaped ts (shape_in ts (proposition_of q)) ≡ q = right (right_in (others_in (proposition_of p)) (others_in (proposition_of q)) are) in
          joined_as ts c (shape_in ts (proposition_of p)) (shape_in ts (proposition_of q)) p q first second ∙ sym (named_term f c p q e)
  shaped_as (Applied (Applied (Applied (Variable z) p) q) r) are = other_as (Applied (Applied (Applied (Variable z) p) q) r) are
  shaped_as (Applied (Applied (Applied (Applied t o) p) q) r) are = other_as (Applied (Applied (Applied (Applied t o) p) q) r) are
  shaped_as (Applied (Applied (Applied (Function f) p) q) r) are = by_test (shaped_as p) (shaped_as q) (shaped_as r) (bytes_eq f (codes "IF")) refl are
    where
      whole : Term
      whole = Applied (Applied (Applied (Function f) p) q) r

      by_test : (AreIn (others_in (proposition_of p)) → shaped ts (shape_in ts (proposition_of p)) ≡ p) → (AreIn (others_in (proposition_of q)) → shaped ts (shape_in ts (proposition_of q)) ≡ q)
          → (AreIn (others_in (proposition_of r)) → shaped ts (shape_in ts (proposition_of r)) ≡ r) → (b : Bool) → bytes_eq f (codes "IF") ≡ b
          → AreIn (others_in (if b then Choice (proposition_of p) (proposition_of q) (proposition_of r) else Other whole))
          → shaped ts (shape_in ts (if b then Choice (proposition_of p) (proposition_of q) (proposition_of r) else Other whole)) ≡ whole
      by_test test first second false e are = other_as whole are
      by_test test first second true e are =
          let branches = right_in (others_in (proposition_of p)) (others_in (proposition_of q) ++ others_in (proposition_of r)) are in
          let name : codes "IF" ≡ f = sym (bytes_eq-true f (codes "IF") e) in
          let one : shaped ts (shape_in ts (proposition_of p)) ≡ p = test (left_in (others_in (proposition_of p)) (others_in (proposition_of q) ++ others_in (proposition_of r)) are) in
          let two : shaped ts (shape_in ts (proposition_of q)) ≡ q = first (left_in (others_in (proposition_of q)) (others_in (proposition_of r)) branches) in
          let three : shaped ts (shape_in ts (proposition_of r)) ≡ r = second (right_in (others_in (proposition_of q)) (others_in (proposition_of r)) branches) in
          ap (λ (g : List ℕ). Applied (Applied (Applied (Function g) (shaped ts (shape_in ts (proposition_of p)))) (shaped ts (shape_in ts (proposition_of q)))) (shaped ts (shape_in ts (proposition_of r)))) name
          ∙ ap (λ (u : Term). Applied (Applied (Applied (Function f) u) (shaped ts (shape_in ts (proposition_of q)))) (shaped ts (shape_in ts (proposition_of r)))) one
          ∙ ap₂ (λ (u v : Term). Applied (Applied (Applied (Function f) p) u) v) two three

-- ---- its other terms are over the same functions

module _ (symbols : List Symbol) where
  abbrev AreOver : List Term → Type 0
  AreOver us = Each (IsTerm symbols) us

  both_over : (us vs : List Term) → AreOver us → AreOver vs → AreOver (us ++ vs)
  both_over [] vs h k = k
  both_over (u ∷ us) vs h k = (h.0, both_over us vs h.1 k)

  constant_over : (f : List ℕ) (b c : Bool) → IsTerm symbols (Function f) → AreOver (others_in (if b then Truth else if c then Falsity else Other (Function f)))
  constant_over f true c h = tt
  constant_over f false true h = tt
  constant_over f false false h = (h, tt)

  others_over : (t : Term) → IsTerm symbols t → AreOver (others_in (proposition_of t))
  unfolding proposition_of
  others_over (Variable x) h = (h, tt)
  others_over (Function f) h = constant_over f (bytes_eq f (codes "TRUE")) (bytes_eq f (codes "FALSE")) h
  others_over (Applied (Variable z) p) h = (h, tt)
  others_over (Applied (Function f) p) h = by_test (others_over p h.1) (bytes_eq f (codes "NOT"))
    where
      by_test : AreOver (others_in (proposition_of p)) → (b : Bool) → AreOver (others_in (if b then Denial (proposition_of p) else Other (Applied (Function f) p)))
      by_test rest true = rest
      by_test rest false = (h, tt)
  others_over (Applied (Applied (Variable z) p) q) h = (h, tt)
  others_over (Applied (Applied (Function f) p) q) h = by_name (others_over p h.0.1) (others_over q h.1) (connective_of f)
    where
      whole : Term
      whole = Applied (Applied (Function f) p) q

      by_name : AreOver (others_in (proposition_of p)) → AreOver (others_in (proposition_of q)) → (o : Option Connective)
          → AreOver (others_in (joined_by o whole (proposition_of p) (proposition_of q)))
      by_name left right None = (h, tt)
      by_name left right (Some c) = both_over (others_in (proposition_of p)) (others_in (proposition_of q)) left right
  others_over (Applied (Applied (Applied (Variable z) p) q) r) h = (h, tt)
  others_over (Applied (Applied (Applied (Applied t o) p) q) r) h = (h, tt)
  others_over (Applied (Applied (Applied (Function f) p) q) r) h = by_test (others_over p h.0.0.1) (others_over q h.0.1) (others_over r h.1) (bytes_eq f (codes "IF"))
    where
      whole : Term
      whole = Applied (Applied (Applied (Function f) p) q) r

      by_test : AreOver (others_in (proposition_of p)) → AreOver (others_in (proposition_of q)) → AreOver (others_in (proposition_of r)) → (b : Bool)
          → AreOver (others_in (if b then Choice (proposition_of p) (proposition_of q) (proposition_of r) else Other whole))
      by_test test first second false = (h, tt)
      by_test test first second true =
          both_over (others_in (proposition_of p)) (others_in (proposition_of q) ++ others_in (proposition_of r)) test
          (both_over (others_in (proposition_of q)) (others_in (proposition_of r)) first second)

-- a small tautology over the functions of a history is derivable in it
pub tautology_derivable : (h : History) (t : Term) → IsTerm (symbols_of h) t → IsSmallTautology t → Derivable h (holds t)
tautology_derivable h t over small =
    let p : Proposition = proposition_of t in
    let ts : List Term = others_in p in
    subst (λ (u : Term). Derivable h (holds u)) (shaped_as ts t (λ u m. m))
    (tautology_law h ts (shape_in ts p) (others_over (symbols_of h) t over)
    (λ values. truth_shaped values ts p ∙ small.always_true (λ u. values (place_of u ts))))
