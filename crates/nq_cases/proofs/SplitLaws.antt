-- The goals at which splits end stand for the goal.
use Rattle.std.proofs.Common.{◌≡◌, ℕ, zero, suc, List, [], ◌∷◌, ◌++◌, ◌⊎◌, map, inl, inr, refl, sym, subst}
use Rattle.std.specs.Prelude.{Some}
use Rattle.nq_logic.specs.Terms.{Term, IsAmong, Each, IsTerm}
use Rattle.nq_logic.specs.Words.{equal_term, not_term, if_term, false_term}
use Rattle.nq_logic.specs.Formulas.{Formula, Equation, Not, Or, IsFormula, implies, conjunction, holds, clause}
use Rattle.nq_logic.specs.Histories.{History}
use Rattle.nq_logic.specs.Ground.{symbols_of}
use Rattle.nq_logic.specs.Derivations.{Derivable}
use Rattle.nq_logic.specs.Laws.{IsClause, IsWithin}
use Rattle.nq_logic.proofs.Lists.{each_at, each_among, each_mono, each_append, among_at}
use Rattle.nq_logic.proofs.Basic.{middle, well_formed}
use Rattle.nq_logic.proofs.Contexts.{chained, then_also}
use Rattle.nq_logic.proofs.Patterns.{Part, No, Any, follows2, follows3, truth_equation, tautology}
use Rattle.nq_logic.proofs.Equality.{If, falsity_over, if_first, if_second}
use Rattle.nq_logic.proofs.Values.{not_over, not_holds, not_fails}
use Rattle.nq_logic.proofs.Clauses.{clause_over}
use Rattle.nq_logic.proofs.Replacements.{equal_over, equal_holds, equal_inside, replaced_over}
use Rattle.nq_proof.specs.Clauses.{Clause, literal_at, in_place}
use Rattle.nq_proof.specs.Paths.{IfParts}
use Rattle.nq_proof.proofs.Tests.{placed_or_same, placed_in, none_is_not_some}
use Rattle.nq_proof.proofs.Places.{replaced_is}
use Rattle.nq_cases.specs.Simplifying.{clauses}
use Rattle.nq_cases.proofs.Gathering.{Gathers, clauses_are}
use Rattle.nq_cases.specs.Splits.{IsChoice, IsSplit, SplitsTo, Stays, Splits}
use Rattle.nq_cases.specs.Laws.{SplitsSimplify, CasesSimplify}
use Rattle.nq_cases.proofs.Steps.{replaced_literal_law}
use Rattle.nq_cases.proofs.Placed.{placed_from}

-- what a choice says of terms over the history's functions: its parts are terms, and t is equal to the choice that its test makes
record Chosen (h : History) (t p l r : Term) : Type 0 where
  test : IsTerm (symbols_of h) p
  first : IsTerm (symbols_of h) l
  second : IsTerm (symbols_of h) r
  at_first : Derivable h (clause (not_term p ∷ equal_term t l ∷ []))
  at_second : Derivable h (clause (p ∷ equal_term t r ∷ []))

chosen_of : (h : History) (t : Term) (path : List ℕ) (parts : IfParts) (l r : Term) → IsTerm (symbols_of h) t → IsChoice t path parts l r → Chosen h t parts.test l r
chosen_of h t path parts l r ot choice =
    let whole : Term = if_term parts.test parts.first parts.second in
    let one = replaced_is (symbols_of h) parts.first path t whole l choice.at_first in
    let two = replaced_is (symbols_of h) parts.second path t whole r choice.at_second in
    let ow : IsTerm (symbols_of h) whole = one.1 ot in
    let op = ow.0.0.1 in
    let ox = ow.0.1 in
    let oy = ow.1 in
    let f = falsity_over h in
    let ol = replaced_over h whole parts.first ow ox one.0 ot in
    let or = replaced_over h whole parts.second ow oy two.0 ot in
    let on = not_over h parts.test op in
    let e1 = equal_over h t l ot ol in
    let first_equal =
    chained h (holds parts.test) (Equation t l) (holds (equal_term t l))
    (chained h (holds parts.test) (Equation whole parts.first) (Equation t l) (if_first h parts.test parts.first parts.second op ox oy) (equal_inside h whole parts.first ow ox one.0 ot))
    (equal_holds h t l ot ol) in
    let second_equal =
    chained h (Equation parts.test false_term) (Equation t r) (holds (equal_term t r))
    (chained h (Equation parts.test false_term) (Equation whole parts.second) (Equation t r) (if_second h parts.test parts.first parts.second op ox oy) (equal_inside h whole parts.second ow oy two.0 ot))
    (equal_holds h t r ot or) in
    record {
      test = op;
      first = ol;
      second = or;
      at_first =
          follows2 h (holds parts.test ∷ holds (not_term parts.test) ∷ holds (equal_term t l) ∷ []) ((op, f), ((on, f), ((e1, f), tt)))
          (If (Part 0) (Part 2)) (If (No (Part 0)) (Part 1)) (Any (Part 1) (Part 2)) refl first_equal (not_holds h parts.test op);
      at_second = second_equal;
    }

-- beside f, two goals on the two sides of a test give the goal without it
both_sides : (h : History) (f : Formula) (p : Term) (goal : Clause) (t : Term) → IsAmong t goal → IsFormula (symbols_of h) f → IsTerm (symbols_of h) p → IsClause h goal →
    Derivable h (Or f (clause (not_term p ∷ goal))) → Derivable h (Or f (clause (p ∷ goal))) → Derivable h (Or f (clause goal))
both_sides h f p [] t m of op og one two = absurd m
both_sides h f p (q ∷ goal) t m of op og one two =
    let fo = falsity_over h in
    follows3 h (f ∷ holds p ∷ holds (not_term p) ∷ clause (q ∷ goal) ∷ []) (of, ((op, fo), ((not_over h p op, fo), (clause_over h (q ∷ goal) og, tt))))
    (Any (Part 0) (Any (Part 2) (Part 3))) (Any (Part 0) (Any (Part 1) (Part 3))) (If (Part 1) (No (Part 2))) (Any (Part 0) (Part 3)) refl one two (not_fails h p op)

-- what one split tells
record OneSplit (h : History) (goal first second : Clause) : Type 0 where
  over_first : IsClause h first
  over_second : IsClause h second
  to_first : Derivable h (implies (clause goal) (clause first))
  to_second : Derivable h (implies (clause goal) (clause second))
  beside : (f : Formula) → IsFormula (symbols_of h) f → Derivable h (Or f (clause first)) → Derivable h (Or f (clause second)) → Derivable h (Or f (clause goal))

-- the literals of a goal whose literal k is t, beside those that stand in t's place
rest_in : (k : ℕ) (t : Term) (these goal : Clause) → literal_at k goal ≡ Some t → IsWithin goal (t ∷ []) (in_place k these goal)
rest_in k t these goal at = each_among (λ p. IsAmong p (t ∷ []) ⊎ IsAmong p (in_place k these goal)) goal (λ p m. elim (placed_or_same k t p these goal at m) [ inl e ↦ inl (inl e) | inr n ↦ inr n ])

placed_within : (k : ℕ) (q l : Term) (goal : Clause) → IsWithin (in_place k (q ∷ l ∷ []) goal) (l ∷ []) (q ∷ goal)
placed_within k q l goal =
    each_among (λ p. IsAmong p (l ∷ []) ⊎ IsAmong p (q ∷ goal)) (in_place k (q ∷ l ∷ []) goal) (λ p m.
    elim (placed_from k p (q ∷ l ∷ []) goal m) [
      | inl n ↦ elim n [ inl e ↦ inr (inl e) | inr o ↦ elim o [ inl e ↦ inl (inl e) | inr none ↦ absurd none ] ]
      | inr n ↦ inr (inr n)
    ]
    )

placed_over : (h : History) (k : ℕ) (these goal : Clause) → IsClause h these → IsClause h goal → IsClause h (in_place k these goal)
placed_over h k these goal ot og =
    each_among (IsTerm (symbols_of h)) (in_place k these goal) (λ p m.
    elim (placed_from k p these goal m) [ inl n ↦ each_at (IsTerm (symbols_of h)) p these ot n | inr n ↦ each_at (IsTerm (symbols_of h)) p goal og n ])

literal_among : (k : ℕ) (t : Term) (goal : Clause) → literal_at k goal ≡ Some t → IsAmong t goal
literal_among zero t goal e = absurd (none_is_not_some t e)
literal_among (suc k) t goal e = among_at t goal k e

one_split : (h : History) (k : ℕ) (goal first second : Clause) → IsClause h goal → IsSplit k goal first second → OneSplit h goal first second
one_split h k goal first second og s =
    let t : Term = s.literal in
    let p : Term = s.parts.test in
    let l : Term = s.with_first in
    let r : Term = s.with_second in
    let among = literal_among k t goal s.at in
    let ot = each_at (IsTerm (symbols_of h)) t goal og among in
    let c : Chosen h t p l r = chosen_of h t s.path s.parts l r ot s.choice in
    let g1 : Clause = in_place k (not_term p ∷ l ∷ []) goal in
    let g2 : Clause = in_place k (p ∷ r ∷ []) goal in
    let on = not_over h p c.test in
    let o1 = placed_over h k (not_term p ∷ l ∷ []) goal (on, (c.first, tt)) og in
    let o2 = placed_over h k (p ∷ r ∷ []) goal (c.test, (c.second, tt)) og in
    let np_in : IsAmong (not_term p) g1 = placed_in k t (not_term p) (not_term p ∷ l ∷ []) goal s.at (inl refl) in
    let p_in : IsAmong p g2 = placed_in k t p (p ∷ r ∷ []) goal s.at (inl refl) in
    subst (λ g. OneSplit h goal g second) (sym s.first_is) (subst (λ g. OneSplit h goal g1 g) (sym s.second_is) (record {
      over_first = o1;
      over_second = o2;
      to_first =
          replaced_literal_law h t l (not_term p ∷ equal_term t l ∷ []) goal g1 c.at_first ot c.first o1 (inl (inr np_in, (inl (inl refl), tt))) (rest_in k t (not_term p ∷ l ∷ []) goal s.at)
          (placed_in k t l (not_term p ∷ l ∷ []) goal s.at (inr (inl refl)));
      to_second =
          replaced_literal_law h t r (p ∷ equal_term t r ∷ []) goal g2 c.at_second ot c.second o2 (inl (inr p_in, (inl (inl refl), tt))) (rest_in k t (p ∷ r ∷ []) goal s.at)
          (placed_in k t r (p ∷ r ∷ []) goal s.at (inr (inl refl)));
      beside = λ f of one two.
          both_sides h f p goal t among of c.test og
          (then_also h f (clause g1) (clause (not_term p ∷ goal)) one (
          replaced_literal_law h l t (not_term p ∷ equal_term t l ∷ []) g1 (not_term p ∷ goal) c.at_first c.first ot (on, og) (inr (inr (inl refl), (inl (inl refl), tt))) (placed_within k (not_term p) l goal) (inr among)))
          (then_also h f (clause g2) (clause (p ∷ goal)) two (
          replaced_literal_law h r t (p ∷ equal_term t r ∷ []) g2 (p ∷ goal) c.at_second c.second ot (c.test, og) (inr (inr (inl refl), (inl (inl refl), tt))) (placed_within k p r goal) (inr among)));
    }))

-- what the goals at which splits end tell
record Split (h : History) (goal : Clause) (nexts : List Clause) : Type 0 where
  down : Each (λ next. Derivable h (implies (clause goal) (clause next))) nexts
  over : Each (IsClause h) nexts
  gathers : Gathers h nexts goal

left_of : {X : Type 0} (P : X → Type 0) (xs ys : List X) → Each P (xs ++ ys) → Each P xs
left_of P [] ys h = tt
left_of P (x ∷ xs) ys h = (h.0, left_of P xs ys h.1)

right_of : {X : Type 0} (P : X → Type 0) (xs ys : List X) → Each P (xs ++ ys) → Each P ys
right_of P [] ys h = h
right_of P (x ∷ xs) ys h = right_of P xs ys h.1

all_split : (h : History) {goal : Clause} {nexts : List Clause} → IsClause h goal → SplitsTo goal nexts → Split h goal nexts
all_split h og (Stays goal) = record { down = (middle h (clause goal) (clause_over h goal og), tt); over = (og, tt); gathers = record { beside = λ f of ds. ds.0 } }
all_split h og (Splits k goal first second cs ds s s1 s2) =
    let one = one_split h k goal first second og s in
    let a = all_split h one.over_first s1 in
    let b = all_split h one.over_second s2 in
    record {
      down =
          each_append (λ next. Derivable h (implies (clause goal) (clause next))) cs ds
          (each_mono _ _ (λ next d. chained h (clause goal) (clause first) (clause next) one.to_first d) cs a.down)
          (each_mono _ _ (λ next d. chained h (clause goal) (clause second) (clause next) one.to_second d) ds b.down);
      over = each_append (IsClause h) cs ds a.over b.over;
      gathers = record {
        beside = λ f of es.
            one.beside f of
            (a.gathers.beside f of (left_of (λ next. Derivable h (Or f (clause next))) cs ds es))
            (b.gathers.beside f of (right_of (λ next. Derivable h (Or f (clause next))) cs ds es));
      };
    }

module _ (h : History) where
  conjunction_over : (fs : List Formula) → Each (IsFormula (symbols_of h)) fs → IsFormula (symbols_of h) (conjunction fs)
  conjunction_over [] o = well_formed h _ (truth_equation h)
  conjunction_over (a ∷ []) o = o.0
  conjunction_over (a ∷ b ∷ rest) o = (o.0, conjunction_over (b ∷ rest) o.1)

  -- each formula of a conjunction follows from it
  each_follows : (fs : List Formula) → Each (IsFormula (symbols_of h)) fs → Each (λ a. Derivable h (implies (conjunction fs) a)) fs
  each_follows [] o = tt
  each_follows (a ∷ []) o = (middle h a o.0, tt)
  each_follows (a ∷ b ∷ rest) o =
      let more = conjunction_over (b ∷ rest) o.1 in
      let whole : Formula = conjunction (a ∷ b ∷ rest) in
      let parts : List Formula = a ∷ conjunction (b ∷ rest) ∷ [] in (
        tautology h parts (o.0, (more, tt)) (If (No (Any (No (Part 0)) (No (Part 1)))) (Part 0)) refl,
        each_mono (λ c. Derivable h (implies (conjunction (b ∷ rest)) c)) (λ c. Derivable h (implies whole c))
            (λ c d. chained h whole (conjunction (b ∷ rest)) c (tautology h parts (o.0, (more, tt)) (If (No (Any (No (Part 0)) (No (Part 1)))) (Part 1)) refl) d) (b ∷ rest) (each_follows (b ∷ rest) o.1),
      )

  each_mapped : (P : Formula → Type 0) (cs : List Clause) → Each P (map clause cs) → Each (λ c. P (clause c)) cs
  each_mapped P [] o = tt
  each_mapped P (c ∷ cs) o = (o.0, each_mapped P cs o.1)

  clauses_over : (cs : List Clause) → Each (IsClause h) cs → Each (IsFormula (symbols_of h)) (map clause cs)
  clauses_over [] o = tt
  clauses_over (c ∷ cs) o = (clause_over h c o.0, clauses_over cs o.1)

  -- what stands beside each formula beside which goals stand, all of them together imply
  pub together : (nexts : List Clause) (goal : Clause) → Each (IsClause h) nexts → Gathers h nexts goal → Derivable h (implies (conjunction (clauses nexts)) (clause goal))
  together nexts goal over g =
      let fs : List Formula = map clause nexts in
      let o = clauses_over nexts over in
      subst (λ gs. Derivable h (implies (conjunction gs) (clause goal))) (clauses_are nexts)
      (g.beside (Not (conjunction fs)) (conjunction_over fs o) (each_mapped (λ a. Derivable h (implies (conjunction fs) a)) nexts (each_follows fs o)))

pub splits_simplify_law : SplitsSimplify
splits_simplify_law h goal nexts og s =
    let all = all_split h og s in
    record { each = all.down; together = together h nexts goal all.over all.gathers }

pub cases_simplify_law : CasesSimplify
cases_simplify_law h t cases ot are = splits_simplify_law h (t ∷ []) cases (ot, tt) are.splits
