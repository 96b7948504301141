-- Cases that are added to others.
use Rattle.std.proofs.Common.{◌≡◌, ℕ, suc, ◌≤◌, ◌<◌, List, [], ◌∷◌, ◌++◌, length, Option, Some, None, refl, sym, ap, ◌∙◌, subst, arith}
use Rattle.std.specs.declared.alloc.Global.{Global}
use Rattle.std.specs.Prelude.{All, MatchOption, OnOk, Result, Ok, Err, Vec, get_or, codes}
use Rattle.std.proofs.lemmas.List.{map-append}
use Rattle.std.proofs.lemmas.List.Elements.{All-push}
use Rattle.std.proofs.Math.Nat.{mul-one}
use Rattle.nq_logic.specs.Terms.{Term, Each}
use Rattle.nq_logic.specs.Words.{not_term}
use Rattle.nq_logic.specs.Sizes.{depth_of, depth_limit}
use Rattle.nq_logic.proofs.Lists.{each_append}
use Rattle.nq_bank.specs.declared.node.TermId.{TermId}
use Rattle.nq_bank.specs.Content.{Content, Stands, Grows, IsIdOf, term_at, terms_at}
use Rattle.nq_bank.proofs.Growth.{term_at-grown, terms_at-grown, Stands-grown, Grows-trans}
use Rattle.nq_bank.proofs.Standing.{stand_grown}
use Rattle.nq_proof.specs.Clauses.{Clause, literal_at, in_place}
use Rattle.nq_proof.specs.Paths.{IfParts}
use Rattle.nq_cases.specs.Paths.{paths_of, clause_paths, has_if_before, IsIfFree}
use Rattle.nq_cases.specs.Splits.{IsChoice, IsSplit, SplitsTo, Stays, Splits}
use Rattle.nq_cases.specs.Cases.{Clauses, clauses_at, ClausesStand, AreFree, AddsCases, IsCases}
use Rattle.nq_cases.specs.declared.choosing.Choice.{Choice}
use Rattle.nq_cases.specs.Choices.{ChoiceOf, parts_at}
use Rattle.nq_cases.proofs.PathCounts.{splits_count_law, clause_positive, paths_positive}
use Rattle.nq_cases.proofs.FindLemmas.{call_depth}

-- the last literal of a clause, and two in its place
last_literal : (c : Clause) (t : Term) → literal_at (suc (length c)) (c ++ (t ∷ [])) ≡ Some t
last_literal [] t = refl
last_literal (u ∷ c) t = last_literal c t

last_spliced : (c : Clause) (t a b : Term) → (c ++ (a ∷ [])) ++ (b ∷ []) ≡ in_place (suc (length c)) (a ∷ b ∷ []) (c ++ (t ∷ []))
last_spliced [] t a b = refl
last_spliced (u ∷ c) t a b = ap (λ d. u ∷ d) (last_spliced c t a b)

-- a clause is split in its last literal
split_last : (c : Clause) (t l r : Term) (path : List ℕ) (parts : IfParts) → IsChoice t path parts l r →
    IsSplit (suc (length c)) (c ++ (t ∷ [])) ((c ++ (not_term parts.test ∷ [])) ++ (l ∷ [])) ((c ++ (parts.test ∷ [])) ++ (r ∷ []))
split_last c t l r path parts choice =
    record {
      literal = t;
      path = path;
      parts = parts;
      with_first = l;
      with_second = r;
      at = last_literal c t;
      choice = choice;
      first_is = last_spliced c t (not_term parts.test) l;
      second_is = last_spliced c t parts.test r;
    }

pub clauses_grown : (old new : Content) (cs : Clauses) → Grows old new → ClausesStand old cs → clauses_at new cs ≡ clauses_at old cs
clauses_grown old new [] grows h = refl
clauses_grown old new (c ∷ cs) grows h =
    let one = terms_at-grown old new c.items grows (h 0 c (omega arith)) in
    let rest = clauses_grown old new cs grows (λ k d below. h (suc k) d (omega (arith, below))) in
    rw (one, rest) refl

pub clauses_stand_grown : (old new : Content) (cs : Clauses) → Grows old new → ClausesStand old cs → ClausesStand new cs
clauses_stand_grown old new cs grows h = λ k d below. stand_grown old new (get_or cs k d).items grows (h k d below)

-- a clause without IF is added as it is
pub added_one : (old new : Content) (tests : List TermId) (t : TermId) (before after : Clauses) (clause : Vec TermId Global) → Grows old new → All (Stands old) tests → Stands old t → ClausesStand old before → AreFree old tests → IsIfFree (term_at old t) →
    clause.items ≡ tests ++ (t ∷ []) → after ≡ before ++ (clause ∷ []) → AddsCases new (terms_at old tests ++ (term_at old t ∷ [])) (clauses_at old before) after
added_one old new tests t before after clause grows stand stands cases free one items is =
    let tests_is = terms_at-grown old new tests grows stand in
    let t_is = term_at-grown old new t grows stands in
    let goal : Clause = terms_at old tests ++ (term_at old t ∷ []) in
    let clause_is : terms_at new clause.items ≡ goal = ap (terms_at new) items ∙ map-append (term_at new) tests (t ∷ []) ∙ rw (tests_is, t_is) refl in
    let clause_stands : All (Stands new) clause.items = subst (All (Stands new)) (sym items) (All-push (Stands new) tests t (stand_grown old new tests grows stand) (Stands-grown old new t grows stands)) in
    record {
      nexts = goal ∷ [];
      whole = ap (clauses_at new) is ∙ map-append (λ c. terms_at new c.items) before (clause ∷ []) ∙ rw (clauses_grown old new before grows cases, clause_is) refl;
      splits = Stays goal;
      free = (each_append IsIfFree (terms_at old tests) (term_at old t ∷ []) free (one, tt), tt);
      stand = subst (ClausesStand new) (sym is) (All-push (λ c. All (Stands new) c.items) before clause (clauses_stand_grown old new before grows cases) clause_stands);
    }

-- what stands at the end of a list of ids
pub last_term : (bank : Content) (ids : List TermId) (t : TermId) → terms_at bank (ids ++ (t ∷ [])) ≡ terms_at bank ids ++ (term_at bank t ∷ [])
last_term bank ids t = map-append (term_at bank) ids (t ∷ [])

append_three : (a b c : List Clause) → (a ++ b) ++ c ≡ a ++ (b ++ c)
append_three [] b c = refl
append_three (x ∷ a) b c = ap (λ d. x ∷ d) (append_three a b c)

-- the cases of the two goals of a split, one after the other
pub joined : (b3 b4 : Content) (c : Clause) (t l r : Term) (path : List ℕ) (parts : IfParts) (before0 : List Clause) (mid after : Clauses) → IsChoice t path parts l r → Grows b3 b4 →
    AddsCases b3 ((c ++ (not_term parts.test ∷ [])) ++ (l ∷ [])) before0 mid → AddsCases b4 ((c ++ (parts.test ∷ [])) ++ (r ∷ [])) (clauses_at b3 mid) after → AddsCases b4 (c ++ (t ∷ [])) before0 after
joined b3 b4 c t l r path parts before0 mid after choice grows one two =
    record {
      nexts = one.nexts ++ two.nexts;
      whole = two.whole ∙ ap (λ d. d ++ two.nexts) one.whole ∙ append_three before0 one.nexts two.nexts;
      splits = Splits (suc (length c)) (c ++ (t ∷ [])) ((c ++ (not_term parts.test ∷ [])) ++ (l ∷ [])) ((c ++ (parts.test ∷ [])) ++ (r ∷ [])) one.nexts two.nexts (split_last c t l r path parts choice) one.splits two.splits;
      free = each_append (Each IsIfFree) one.nexts two.nexts one.free two.free;
      stand = two.stand;
    }

mapped_length : (bank : Content) (cs : Clauses) → length (clauses_at bank cs) ≡ length cs
mapped_length bank [] = refl
mapped_length bank (c ∷ cs) = ap suc (mapped_length bank cs)

-- what is added to none are the cases of the term
pub all_cases : (old new : Content) (t : TermId) (tests : List TermId) (before cases : Clauses) → tests ≡ [] → before ≡ [] → AddsCases new (terms_at old tests ++ (term_at old t ∷ [])) (clauses_at old before) cases → IsCases new (term_at old t) cases
all_cases old new t tests before cases none first h =
    let goal : Clause = term_at old t ∷ [] in
    let goal_is : terms_at old tests ++ goal ≡ goal = ap (λ ids. terms_at old ids ++ goal) none in
    let all : clauses_at new cases ≡ h.nexts = h.whole ∙ ap (λ cs. clauses_at old cs ++ h.nexts) first in
    let splits : SplitsTo goal h.nexts = subst (λ g. SplitsTo g h.nexts) goal_is h.splits in
    let fewer = splits_count_law clause_positive goal h.nexts splits in
    let one : clause_paths goal ≡ paths_of (term_at old t) = mul-one (paths_of (term_at old t)) in
    let many : length h.nexts ≡ length cases = ap length (sym all) ∙ mapped_length new cases in
    record {
      stand = h.stand;
      are = record { splits = subst (SplitsTo goal) (sym all) splits; free = subst (Each (Each IsIfFree)) (sym all) h.free };
      count = omega (arith, fewer, one, many);
    }

-- a NOT is no deeper than a term that is deeper than what it denies
pub denial_depth : (t : Term) → depth_of t < depth_limit → depth_of (not_term t) ≤ depth_limit
denial_depth t less = let call = call_depth (codes "NOT") (t ∷ []) in omega (arith, call, less)

-- the two choices have fewer paths than the term
pub first_fewer : (t : Term) (path : List ℕ) (parts : IfParts) (l r : Term) → IsChoice t path parts l r → paths_of l < paths_of t
first_fewer t path parts l r choice = let sums = choice.no_more in let least = paths_positive r in omega (arith, sums, least)

pub second_fewer : (t : Term) (path : List ℕ) (parts : IfParts) (l r : Term) → IsChoice t path parts l r → paths_of r < paths_of t
second_fewer t path parts l r choice = let sums = choice.no_more in let least = paths_positive l in omega (arith, sums, least)

pub match_some : {X : Type 0} (o : Option X) (A : Type 0) (P : X → Type 0) (x : X) → MatchOption o A P → o ≡ Some x → P x
match_some o A P x h e = subst (λ q. MatchOption q A P) e h

pub match_none : {X : Type 0} (o : Option X) (A : Type 0) (P : X → Type 0) → MatchOption o A P → o ≡ None → A
match_none o A P h e = subst (λ q. MatchOption q A P) e h

pub on_ok : {A F : Type 0} (r : Result A F) (P Q : Type 0) → (P → Q) → OnOk r P → OnOk r Q
on_ok (Ok a) P Q f h = f h
on_ok (Err e) P Q f h = tt

free_denial : (p : Term) → IsIfFree p → IsIfFree (not_term p)
unfolding has_if_before
free_denial p h = record { none = h.none }

module _ (b0 b1 b2 : Content) (t : TermId) (tests : List TermId) (choice : Choice) (k : ChoiceOf b1 (term_at b0 t) choice) (one : Grows b0 b1) (two : Grows b1 b2) (stand : All (Stands b0) tests) (free : AreFree b0 tests) where
  abbrev p : Term
  p = term_at b1 choice.test

  tests_later : terms_at b2 tests ≡ terms_at b0 tests
  tests_later = terms_at-grown b0 b2 tests (Grows-trans b0 b1 b2 one two) stand

  -- the tests and one more literal
  longer : (ids : List TermId) (q : TermId) (u : Term) → ids ≡ tests ++ (q ∷ []) → term_at b2 q ≡ u → terms_at b2 ids ≡ terms_at b0 tests ++ (u ∷ [])
  longer ids q u e is = ap (terms_at b2) e ∙ last_term b2 tests q ∙ rw (tests_later, is) refl

  pub longer_stand : (ids : List TermId) (q : TermId) → ids ≡ tests ++ (q ∷ []) → Stands b2 q → All (Stands b2) ids
  longer_stand ids q e h = subst (All (Stands b2)) (sym e) (All-push (Stands b2) tests q (stand_grown b0 b2 tests (Grows-trans b0 b1 b2 one two) stand) h)

  longer_free : (ids : List TermId) (q : TermId) (u : Term) → ids ≡ tests ++ (q ∷ []) → term_at b2 q ≡ u → IsIfFree u → AreFree b2 ids
  longer_free ids q u e is h = subst (Each IsIfFree) (sym (longer ids q u e is)) (each_append IsIfFree (terms_at b0 tests) (u ∷ []) free (h, tt))

  pub first_free : (ids : List TermId) (q : TermId) → ids ≡ tests ++ (q ∷ []) → IsIdOf b2 q (not_term p) → AreFree b2 ids
  first_free ids q e d = longer_free ids q (not_term p) e d.denotes (free_denial p k.choice.free)

  pub second_free : (ids : List TermId) → ids ≡ tests ++ (choice.test ∷ []) → AreFree b2 ids
  second_free ids e = longer_free ids choice.test p e (term_at-grown b1 b2 choice.test two k.test) k.choice.free

  pub first_goal : (ids : List TermId) (q : TermId) → ids ≡ tests ++ (q ∷ []) → IsIdOf b2 q (not_term p) → terms_at b2 ids ++ (term_at b2 choice.first ∷ []) ≡ (terms_at b0 tests ++ (not_term p ∷ [])) ++ (term_at b1 choice.first ∷ [])
  first_goal ids q e d = let a = longer ids q (not_term p) e d.denotes in let b = term_at-grown b1 b2 choice.first two k.first in rw (a, b) refl

  pub second_goal : (ids : List TermId) → ids ≡ tests ++ (choice.test ∷ []) → terms_at b2 ids ++ (term_at b2 choice.second ∷ []) ≡ (terms_at b0 tests ++ (p ∷ [])) ++ (term_at b1 choice.second ∷ [])
  second_goal ids e = let a = longer ids choice.test p e (term_at-grown b1 b2 choice.test two k.test) in let b = term_at-grown b1 b2 choice.second two k.second in rw (a, b) refl

  pub first_less : paths_of (term_at b2 choice.first) < paths_of (term_at b0 t)
  first_less = subst (λ u. paths_of u < paths_of (term_at b0 t)) (sym (term_at-grown b1 b2 choice.first two k.first)) (first_fewer (term_at b0 t) choice.path.items (parts_at b1 choice) (term_at b1 choice.first) (term_at b1 choice.second) k.choice)

  pub second_less : paths_of (term_at b2 choice.second) < paths_of (term_at b0 t)
  second_less = subst (λ u. paths_of u < paths_of (term_at b0 t)) (sym (term_at-grown b1 b2 choice.second two k.second)) (second_fewer (term_at b0 t) choice.path.items (parts_at b1 choice) (term_at b1 choice.first) (term_at b1 choice.second) k.choice)
