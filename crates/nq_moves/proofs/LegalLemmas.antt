-- What moves over ids lead to is what moves of the table lead to.
use Rattle.std.proofs.Common.{◌≡◌, ℕ, suc, Bool, true, false, ◌||◌, if◌then◌else◌, Option, Some, None, List, [], ◌∷◌, map, refl, sym, ap, ◌∙◌, subst, inl, inr}
use Rattle.std.specs.Prelude.{◌==◌, IfSome, IsSome, MatchOption, unwrap_or}
use Rattle.nq_logic.specs.Terms.{Term, Variable, Function, Applied, IsAmong}
use Rattle.nq_logic.specs.Numerals.{is_numeral}
use Rattle.nq_logic.specs.Histories.{History}
use Rattle.nq_bank.specs.declared.node.TermId.{TermId}
use Rattle.nq_bank.specs.Content.{Content, term_at, terms_at}
use Rattle.nq_bank.specs.Parts.{parts_of}
use Rattle.nq_proof.specs.Clauses.{Clause, literal_at, same_term, without}
use Rattle.nq_proof.specs.Paths.{argument_count, around, in_argument, replaced_at}
use Rattle.nq_proof.proofs.Tests.{same_true, none_is_not_some, some_same}
use Rattle.nq_rule.specs.Results.{with_argument}
use Rattle.nq_lines.proofs.ArgumentLemmas.{argument_replaced}
use Rattle.nq_goals.specs.Replacing.{exchanged, stands_in, stands_in_one, IsReplaced, IsReplacedWithin, IsReplacedOnce, IsReplacedOnceWithin, AreReplaced, AreReplacedOnce}
use Rattle.nq_goals.specs.Fertilizing.{fertilizings_of, FertilizeMove}
use Rattle.nq_moves.specs.declared.moved.Crossing.{Crossing}
use Rattle.nq_moves.specs.declared.moved.Moved.{Moved}
use Rattle.nq_moves.specs.declared.readings.Reading.{Reading}
use Rattle.nq_moves.specs.Fertilized.{fertilizing_at}
use Rattle.nq_moves.specs.Found.{goals_at}
use Rattle.nq_moves.specs.OfTable.{IsOfTable}
use Rattle.nq_moves.specs.Swapped.{reading_at, part_at, crossed, swapped_literal, swapped_goal}
use Rattle.nq_moves.proofs.FertilizingLemmas.{everywhere, once_in, fertile}

abbrev pair : Term → Term → Term × Term
pair x y = (x, y)

firsts : (p q : Term × Term) → Some p ≡ Some q → p.0 ≡ q.0
firsts p q e = ap (λ (x : Term × Term). x.0) (some_same p q e)

seconds : (p q : Term × Term) → Some p ≡ Some q → p.1 ≡ q.1
seconds p q e = ap (λ (x : Term × Term). x.1) (some_same p q e)

module _ (a b : Term) where
  same_within : (t : Term) → IsReplacedWithin a b t t
  same_within (Variable x) = refl
  same_within (Function f) = refl
  same_within (Applied t u) = (same_within t, inr (same_within u))

  -- one place at least is some places
  some_within : (t u : Term) → IsReplacedOnceWithin a b t u → IsReplacedWithin a b t u
  some_within (Variable x) u h = absurd h
  some_within (Function f) u h = absurd h
  some_within (Applied t s) (Variable x) h = absurd h
  some_within (Applied t s) (Function f) h = absurd h
  some_within (Applied t s) (Applied v w) (inl h) = (some_within t v h.0, h.1)
  some_within (Applied t s) (Applied v w) (inr h) = (h.0, elim h.1 [ inl k ↦ inl k | inr k ↦ inr (some_within s w k) ])

  some_places : (t u : Term) → IsReplacedOnce a b t u → IsReplaced a b t u
  some_places t u (inl h) = inl h
  some_places t u (inr h) = inr (some_within t u h)

  -- an argument that is replaced in
  argument_once : (place : ℕ) (v t u w : Term) → in_argument place (λ x. Some (x, v)) t ≡ Some (pair u w) → IsReplacedOnce a b u v → IsReplacedOnceWithin a b t w
  argument_once place v (Variable x) u w e h = absurd (none_is_not_some (pair u w) e)
  argument_once place v (Function f) u w e h = absurd (none_is_not_some (pair u w) e)
  argument_once place v (Applied t s) u w e h = by_test (λ x y f k. argument_once place v t x y f k) (suc (argument_count t) == place) e
    where
      here : Some (pair s (Applied t v)) ≡ Some (pair u w) → IsReplacedOnceWithin a b (Applied t s) w
      here k = subst (IsReplacedOnceWithin a b (Applied t s)) (seconds (pair s (Applied t v)) (pair u w) k) (inr (same_within t, subst (λ x. IsReplacedOnce a b x v) (sym (firsts (pair s (Applied t v)) (pair u w) k)) h))

      before : ((x y : Term) → in_argument place (λ z. Some (z, v)) t ≡ Some (pair x y) → IsReplacedOnce a b x v → IsReplacedOnceWithin a b t y) → (p : Term × Term) → in_argument place (λ x. Some (x, v)) t ≡ Some p → Some (pair p.0 (Applied p.1 s)) ≡ Some (pair u w) → IsReplacedOnceWithin a b (Applied t s) w
      before again p f k = subst (IsReplacedOnceWithin a b (Applied t s)) (seconds (pair p.0 (Applied p.1 s)) (pair u w) k) (inl (again p.0 p.1 f (subst (λ x. IsReplacedOnce a b x v) (sym (firsts (pair p.0 (Applied p.1 s)) (pair u w) k)) h), inr (same_within s)))

      by_inner : ((x y : Term) → in_argument place (λ z. Some (z, v)) t ≡ Some (pair x y) → IsReplacedOnce a b x v → IsReplacedOnceWithin a b t y) → (o : Option (Term × Term)) → in_argument place (λ x. Some (x, v)) t ≡ o → around (λ x. Applied x s) o ≡ Some (pair u w) → IsReplacedOnceWithin a b (Applied t s) w
      by_inner again None f k = absurd (none_is_not_some (pair u w) k)
      by_inner again (Some p) f k = before again p f k

      by_test : ((x y : Term) → in_argument place (λ z. Some (z, v)) t ≡ Some (pair x y) → IsReplacedOnce a b x v → IsReplacedOnceWithin a b t y) → (n : Bool) → elim n as (λ b. Option (Term × Term)) [ true ↦ around (λ x. Applied t x) (Some (s, v)) | false ↦ around (λ x. Applied x s) (in_argument place (λ x. Some (x, v)) t) ] ≡ Some (pair u w) → IsReplacedOnceWithin a b (Applied t s) w
      by_test again true k = here k
      by_test again false k = by_inner again (in_argument place (λ x. Some (x, v)) t) refl k

  crossed_once : (place : ℕ) (whole part : Term) → literal_at place (parts_of whole) ≡ Some part → stands_in a part ≡ true → IsReplacedOnce a b whole (with_argument place (exchanged ((a, b) ∷ []) part) whole)
  crossed_once place whole part at stands = inr (by_test (is_numeral whole) (argument_replaced place (exchanged ((a, b) ∷ []) part) whole part at))
    where
      by_test : (n : Bool) → elim n as (λ b. Option (Term × Term)) [ true ↦ None | false ↦ in_argument place (replaced_at [] (exchanged ((a, b) ∷ []) part)) whole ] ≡ Some (pair part (with_argument place (exchanged ((a, b) ∷ []) part) whole)) → IsReplacedOnceWithin a b whole (with_argument place (exchanged ((a, b) ∷ []) part) whole)
      by_test true k = absurd (none_is_not_some (pair part (with_argument place (exchanged ((a, b) ∷ []) part) whole)) k)
      by_test false k = argument_once place (exchanged ((a, b) ∷ []) part) whole part (with_argument place (exchanged ((a, b) ∷ []) part) whole) k (once_in a b part stands)

  -- literals that are replaced in one by one
  module _ (image : Term → Term) (each : (t : Term) → IsReplaced a b t (image t)) (once : (t : Term) → stands_in a t ≡ true → IsReplacedOnce a b t (image t)) where
    all_replaced : (c : Clause) → AreReplaced a b c (map image c)
    all_replaced [] = tt
    all_replaced (t ∷ c) = (each t, all_replaced c)

    listed : (t : Term) (c : Clause) (w : Bool) → stands_in a t ≡ w → (stands_in_one a c ≡ true → AreReplacedOnce a b c (map image c)) → (w || stands_in_one a c) ≡ true → AreReplacedOnce a b (t ∷ c) (map image (t ∷ c))
    listed t c true e rest k = inl (once t e, all_replaced c)
    listed t c false e rest k = inr (each t, rest k)

    pub replaced_once : (c : Clause) → stands_in_one a c ≡ true → AreReplacedOnce a b c (map image c)
    replaced_once [] k = absurd cc
    replaced_once (t ∷ c) k = listed t c (stands_in a t) refl (replaced_once c) k

-- a literal of a child, where the one side stands in the argument that is crossed
module _ (bank : Content) (r : Reading) where
  abbrev pub from : Term
  from = term_at bank r.from

  abbrev pub into : Term
  into = term_at bank r.into

  abbrev pub Crosses : Option Crossing → Type 0
  Crosses crossing = IfSome crossing (λ x. IsSome (literal_at x.place (parts_of (term_at bank x.whole))) × (stands_in from (part_at x.place (term_at bank x.whole)) ≡ true))

  across : (x : Crossing) → Crosses (Some x) → IsReplacedOnce from into (term_at bank x.whole) (crossed (reading_at bank r) x.place (term_at bank x.whole))
  across x h = by_part (literal_at x.place (parts_of (term_at bank x.whole))) refl h.0 h.1
    where
      by_part : (o : Option Term) → literal_at x.place (parts_of (term_at bank x.whole)) ≡ o → IsSome o → stands_in from (part_at x.place (term_at bank x.whole)) ≡ true → IsReplacedOnce from into (term_at bank x.whole) (crossed (reading_at bank r) x.place (term_at bank x.whole))
      by_part None e some stands = absurd cc
      by_part (Some part) e some stands =
          let is : part_at x.place (term_at bank x.whole) ≡ part = ap (λ o. unwrap_or o (term_at bank x.whole)) e in
          subst (λ p. IsReplacedOnce from into (term_at bank x.whole) (with_argument x.place (exchanged (reading_at bank r) p) (term_at bank x.whole))) (sym is)
          (crossed_once from into x.place (term_at bank x.whole) part e (ap (stands_in from) (sym is) ∙ stands))

  literal_once : (crossing : Option Crossing) → Crosses crossing → (t : Term) → stands_in from t ≡ true → IsReplacedOnce from into t (swapped_literal bank (reading_at bank r) crossing t)
  literal_once None h t stands = once_in from into t stands
  literal_once (Some x) h t stands = by_test (same_term (term_at bank x.whole) t) refl
    where
      by_test : (b : Bool) → same_term (term_at bank x.whole) t ≡ b → IsReplacedOnce from into t (if b then crossed (reading_at bank r) x.place (term_at bank x.whole) else exchanged (reading_at bank r) t)
      by_test true e = subst (λ u. IsReplacedOnce from into u (crossed (reading_at bank r) x.place (term_at bank x.whole))) (same_true (term_at bank x.whole) t e) (across x h)
      by_test false e = once_in from into t stands

  literal_some : (crossing : Option Crossing) → Crosses crossing → (t : Term) → IsReplaced from into t (swapped_literal bank (reading_at bank r) crossing t)
  literal_some None h t = everywhere from into t
  literal_some (Some x) h t = by_test (same_term (term_at bank x.whole) t) refl
    where
      by_test : (b : Bool) → same_term (term_at bank x.whole) t ≡ b → IsReplaced from into t (if b then crossed (reading_at bank r) x.place (term_at bank x.whole) else exchanged (reading_at bank r) t)
      by_test true e = some_places from into t (crossed (reading_at bank r) x.place (term_at bank x.whole)) (subst (λ u. IsReplacedOnce from into u (crossed (reading_at bank r) x.place (term_at bank x.whole))) (same_true (term_at bank x.whole) t e) (across x h))
      by_test false e = everywhere from into t

  pub fertilized : (h : History) (new : Content) (goal : List TermId) (crossing : Option Crossing) (moved : Moved) → IsAmong (fertilizing_at bank r) (fertilizings_of (terms_at bank goal)) → Crosses crossing → goals_at new moved.children.items ≡ swapped_goal bank r crossing goal ∷ [] → IsOfTable (FertilizeMove h) bank new goal moved
  fertilized h new goal crossing moved among crosses is =
      let f = fertile (terms_at bank goal) (terms_at bank goal) (fertilizing_at bank r) among in
      let image : Term → Term = swapped_literal bank (reading_at bank r) crossing in
      record {
        leads = λ hints path. record {
          chosen = fertilizing_at bank r;
          candidate = among;
          literals = map image (without (term_at bank r.literal) (terms_at bank goal));
          replaced = replaced_once from into image (literal_some crossing crosses) (literal_once crossing crosses) (without (term_at bank r.literal) (terms_at bank goal)) f.stands;
          leads = is;
        };
      }

-- what an exact answer says, in other words
pub some_match : {X : Type 0} (N : Type 0) (P Q : X → Type 0) (o : Option X) → ((x : X) → P x → Q x) → MatchOption o N P → MatchOption o N Q
some_match N P Q None f h = h
some_match N P Q (Some x) f h = f x h
