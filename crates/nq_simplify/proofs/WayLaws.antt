-- The goals to which a way leads stand for the goal.
use Rattle.std.proofs.Common.{◌≡◌, ◌⊎◌, ℕ, List, [], ◌∷◌, ◌++◌, refl, sym, subst, inl, inr}
use Rattle.std.specs.Prelude.{Some}
use Rattle.nq_logic.specs.Terms.{Term, IsTerm, IsAmong, Each}
use Rattle.nq_logic.specs.Words.{not_term, equal_term}
use Rattle.nq_logic.specs.Formulas.{Formula, Not, Or, IsFormula, implies, holds, clause}
use Rattle.nq_logic.specs.Histories.{History}
use Rattle.nq_logic.specs.Ground.{symbols_of}
use Rattle.nq_logic.specs.Derivations.{Derivable}
use Rattle.nq_logic.specs.Laws.{IsClause, IsWithin}
use Rattle.nq_logic.proofs.Lists.{each_at, each_among, each_mono, each_append}
use Rattle.nq_logic.proofs.Basic.{expanded}
use Rattle.nq_logic.proofs.Contexts.{left_in, right_in, chained, then_also}
use Rattle.nq_logic.proofs.Patterns.{Part, No, Any, follows1, follows3}
use Rattle.nq_logic.proofs.Equality.{If, falsity_over}
use Rattle.nq_logic.proofs.Values.{not_over, not_fails}
use Rattle.nq_logic.proofs.Clauses.{clause_over, clause_out, literal_in, within, more_literals}
use Rattle.nq_bank.specs.Content.{term_at}
use Rattle.nq_history.specs.declared.entry.Entry.{Entry}
use Rattle.nq_history.specs.Events.{events_at}
use Rattle.nq_proof.specs.Laws.{LinesHold}
use Rattle.nq_kernel.specs.declared.work.Work.{Work}
use Rattle.nq_kernel.specs.Meaning.{clause_at}
use Rattle.nq_lines.specs.Lines.{AreAmong, LineHasOnly}
use Rattle.nq_cases.specs.Simplifying.{Simplifies}
use Rattle.nq_cases.proofs.Gathering.{Gathers}
use Rattle.nq_cases.proofs.Steps.{rewriting_law}
use Rattle.nq_cases.proofs.SplitLaws.{together}
use Rattle.nq_simplify.specs.declared.way.Way.{Way}
use Rattle.nq_simplify.specs.declared.way.Way.TheVariants.{Goal, Line, Rewritten', Cut'}
use Rattle.nq_simplify.specs.Ways.{WayStands, IsKept, InGoal, IsFalse, IsThinned, IsRewriting, LeadsTo, Leaves, Shows, Turns, Divides}
use Rattle.nq_simplify.specs.Laws.{WaysSimplify}

module _ (h : History) where
  among_over : (c d : List Term) → AreAmong c d → IsClause h d → IsClause h c
  among_over c d f od = each_among (IsTerm (symbols_of h)) c (λ p m. each_at (IsTerm (symbols_of h)) p d od (f p m))

  -- a goal implies one with all its literals
  weaker : (c d : List Term) → IsClause h d → AreAmong c d → Derivable h (implies (clause c) (clause d))
  weaker c d od f = clause_out h c (clause d) (clause_over h d od) (each_among (λ p. Derivable h (implies (holds p) (clause d))) c (λ p m. literal_in h p d od (f p m)))

  within_of : (t : Term) (e d : List Term) → AreAmong e (t ∷ d) → IsWithin e (t ∷ []) d
  within_of t e d f = each_among (λ p. IsAmong p (t ∷ []) ⊎ IsAmong p d) e (λ p m. elim (f p m) [ inl k ↦ inl (inl k) | inr k ↦ inr k ])

  -- a literal whose NOT is derivable beside d implies d
  false_literal : (p : Term) (e d : List Term) → Derivable h (clause e) → IsTerm (symbols_of h) p → IsClause h d → AreAmong e (not_term p ∷ d) → Derivable h (implies (holds p) (clause d))
  false_literal p e d de op od f =
      let fo = falsity_over h in
      within h e (not_term p ∷ []) d (Not (holds p)) od (op, fo) (within_of (not_term p) e d f) (
        follows1 h (holds p ∷ holds (not_term p) ∷ clause d ∷ []) ((op, fo), ((not_over h p op, fo), (clause_over h d od, tt)))
            (If (Part 0) (No (Part 1))) (If (Part 1) (Any (No (Part 0)) (Part 2))) refl (not_fails h p op),
        tt,
      ) de

  -- beside f, two goals with a term and with its NOT give the goal
  divided : (f : Formula) (p : Term) (goal : List Term) → IsFormula (symbols_of h) f → IsTerm (symbols_of h) p → IsClause h goal →
      Derivable h (Or f (Or (holds p) (clause goal))) → Derivable h (Or f (Or (holds (not_term p)) (clause goal))) → Derivable h (Or f (clause goal))
  divided f p goal of op og one two =
      let fo = falsity_over h in
      follows3 h (f ∷ holds p ∷ holds (not_term p) ∷ clause goal ∷ []) (of, ((op, fo), ((not_over h p op, fo), (clause_over h goal og, tt))))
      (Any (Part 0) (Any (Part 1) (Part 3))) (Any (Part 0) (Any (Part 2) (Part 3))) (If (Part 1) (No (Part 2))) (Any (Part 0) (Part 3)) refl one two (not_fails h p op)

  -- a goal with literals of another and one more
  one_more : (t : Term) (c goal : List Term) → IsTerm (symbols_of h) t → IsClause h goal → AreAmong c (t ∷ goal) → Derivable h (implies (clause c) (Or (holds t) (clause goal)))
  one_more t c goal ot og f =
      let fo = falsity_over h in
      let oc = clause_over h goal og in
      let whole : Formula = Or (holds t) (clause goal) in
      clause_out h c whole ((ot, fo), oc) (each_among (λ p. Derivable h (implies (holds p) whole)) c (λ p m. by_place oc p (f p m)))
    where
      by_place : IsFormula (symbols_of h) (clause goal) → (p : Term) → IsAmong p (t ∷ goal) → Derivable h (implies (holds p) (Or (holds t) (clause goal)))
      by_place oc p (inl e) = subst (λ q. Derivable h (implies (holds q) (Or (holds t) (clause goal)))) (sym e) (left_in h (holds t) (clause goal) (ot, falsity_over h) oc)
      by_place oc p (inr m) = chained h (holds p) (clause goal) (Or (holds t) (clause goal)) (literal_in h p goal og m) (right_in h (holds t) (clause goal) (ot, falsity_over h) oc)

-- what a way tells
record Stood (h : History) (goal : List Term) (nexts : List (List Term)) : Type 0 where
  down : Each (λ next. Derivable h (implies (clause goal) (clause next))) nexts
  over : Each (IsClause h) nexts
  gathers : Gathers h nexts goal

left_of : {X : Type 0} (P : X → Type 0) (xs ys : List X) → Each P (xs ++ ys) → Each P xs
left_of P [] ys h = tt
left_of P (x ∷ xs) ys h = (h.0, left_of P xs ys h.1)

right_of : {X : Type 0} (P : X → Type 0) (xs ys : List X) → Each P (xs ++ ys) → Each P ys
right_of P [] ys h = h
right_of P (x ∷ xs) ys h = right_of P xs ys h.1

module _ (history : List Entry) (work : Work) (lines : LinesHold (events_at work.bank history) (clause_at work.bank work.log)) where
  abbrev h : History
  h = events_at work.bank history

  shown : (n : ℕ) (these : List Term) (l : LineHasOnly work n these) → Derivable h (clause l.literals)
  shown n these l = lines n l.literals l.stands

  kept : (next : List Term) (p : Term) → IsClause h next → IsTerm (symbols_of h) p → IsKept work next p → Derivable h (implies (holds p) (clause next))
  kept next p on op (InGoal m) = literal_in h p next on m
  kept next p on op (IsFalse n l) = false_literal h p l.literals next (shown n (not_term p ∷ next) l) op on l.only

  thinned : (goal next : List Term) → IsClause h goal → IsThinned work goal next → Stood h goal (next ∷ [])
  thinned goal next og thin =
      let on = among_over h next goal thin.less og in
      record {
        down = (clause_out h goal (clause next) (clause_over h next on) (each_among (λ p. Derivable h (implies (holds p) (clause next))) goal (λ p m. kept next p on (each_at (IsTerm (symbols_of h)) p goal og m) (thin.kept p m))), tt);
        over = (on, tt);
        gathers = record { beside = λ f of ds. then_also h f (clause next) (clause goal) ds.0 (weaker h next goal og thin.less) };
      }

  turned : (a b : Term) (n : ℕ) (goal next : List Term) → IsTerm (symbols_of h) a → IsTerm (symbols_of h) b → IsClause h goal → IsClause h next → IsRewriting work a b n goal next → Simplifies h goal (next ∷ [])
  turned a b n goal next oa ob og on r =
      let one = r.equation in
      let e : List Term = one.literals in
      let two : AreAmong e (equal_term a b ∷ next) = subst (λ c. AreAmong c (equal_term a b ∷ next)) (same_clause r.equation_next.literals e r.equation_next.stands one.stands) r.equation_next.only in
      rewriting_law h a b e goal next (shown n (equal_term a b ∷ goal) one) oa ob og on (within_of h (equal_term a b) e goal one.only) (within_of h (equal_term a b) e next two) r.before r.after
      (within_of h a goal next r.rest) (within_of h b next goal r.less)
    where
      same_clause : (c d : List Term) → clause_at work.bank work.log n ≡ Some c → clause_at work.bank work.log n ≡ Some d → c ≡ d
      same_clause c d x y = cc

  way_stood : (w : Way) (goal : List Term) (nexts : List (List Term)) → IsClause h goal → WayStands history work w → LeadsTo work w goal nexts → Stood h goal nexts
  unfolding WayStands
  way_stood Goal goal nexts og s (Leaves g next thin) = thinned g next og thin
  way_stood (Line n) goal nexts og s (Shows m g l) =
      record { down = tt; over = tt; gathers = record { beside = λ f of ds. expanded h f (clause g) of (more_literals h l.literals g (shown m g l) og (each_among (λ p. IsAmong p g) l.literals l.only)) } }
  way_stood (Rewritten' a b n p w) goal nexts og s (Turns a' b' n' p' w' g next ns r l) =
      let oa : IsTerm (symbols_of h) (term_at work.bank a') = s.0.over.over in
      let ob : IsTerm (symbols_of h) (term_at work.bank b') = s.1.over.over in
      let on = among_over h next (term_at work.bank b' ∷ g) r.less (ob, og) in
      let step = turned (term_at work.bank a') (term_at work.bank b') n' g next oa ob og on r in
      let rest = way_stood w' next ns on s.3 l in
      record {
        down = each_mono (λ c. Derivable h (implies (clause next) (clause c))) (λ c. Derivable h (implies (clause g) (clause c))) (λ c d. chained h (clause g) (clause next) (clause c) step.each.0 d) ns rest.down;
        over = rest.over;
        gathers = record { beside = λ f of ds. then_also h f (clause next) (clause g) (rest.gathers.beside f of ds) step.together };
      }
  way_stood (Cut' t p v q w) goal nexts og s (Divides t' p' q' v' w' g first second some others one two l k) =
      let u : Term = term_at work.bank t' in
      let ou : IsTerm (symbols_of h) u = s.0.over.over in
      let on = not_over h u ou in
      let o1 = among_over h first (u ∷ g) one.less (ou, og) in
      let o2 = among_over h second (not_term u ∷ g) two.less (on, og) in
      let a = way_stood v' first some o1 s.1 l in
      let b = way_stood w' second others o2 s.2 k in
      let to_first = weaker h g first o1 one.more in
      let to_second = weaker h g second o2 two.more in
      record {
        down =
            each_append (λ c. Derivable h (implies (clause g) (clause c))) some others
            (each_mono (λ c. Derivable h (implies (clause first) (clause c))) (λ c. Derivable h (implies (clause g) (clause c))) (λ c d. chained h (clause g) (clause first) (clause c) to_first d) some a.down)
            (each_mono (λ c. Derivable h (implies (clause second) (clause c))) (λ c. Derivable h (implies (clause g) (clause c))) (λ c d. chained h (clause g) (clause second) (clause c) to_second d) others b.down);
        over = each_append (IsClause h) some others a.over b.over;
        gathers = record {
          beside = λ f of es.
              divided h f u g of ou og
              (then_also h f (clause first) (Or (holds u) (clause g)) (a.gathers.beside f of (left_of (λ c. Derivable h (Or f (clause c))) some others es)) (one_more h u first g ou og one.less))
              (then_also h f (clause second) (Or (holds (not_term u)) (clause g)) (b.gathers.beside f of (right_of (λ c. Derivable h (Or f (clause c))) some others es)) (one_more h (not_term u) second g on og two.less));
        };
      }

pub ways_simplify_law : WaysSimplify
ways_simplify_law history work way goal nexts lines og s l =
    let all = way_stood history work lines way goal nexts og s l in
    record { each = all.down; together = together (events_at work.bank history) nexts goal all.over all.gathers }
