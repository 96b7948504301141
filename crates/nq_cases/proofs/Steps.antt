-- Steps between goals: what a goal implies, and what stands beside a formula.
use Rattle.std.proofs.Common.{List, [], ◌∷◌, ◌⊎◌, inl, inr, refl}
use Rattle.nq_logic.specs.Terms.{Term, IsAmong, Each, IsTerm}
use Rattle.nq_logic.specs.Words.{equal_term, false_term}
use Rattle.nq_logic.specs.Formulas.{Equation, Not, IsFormula, implies, holds, clause}
use Rattle.nq_logic.specs.Histories.{History}
use Rattle.nq_logic.specs.Ground.{symbols_of}
use Rattle.nq_logic.specs.Derivations.{Derivable}
use Rattle.nq_logic.specs.Laws.{IsClause, IsWithin}
use Rattle.nq_logic.proofs.Lists.{each_at}
use Rattle.nq_logic.proofs.Patterns.{Part, No, Any, follows3}
use Rattle.nq_logic.proofs.Equality.{If, falsity_over, holds_back, holds_on}
use Rattle.nq_logic.proofs.Clauses.{clause_over, clause_out, literal_in, within}
use Rattle.nq_logic.proofs.Replacements.{equal_over, equal_tells}
use Rattle.nq_cases.specs.Laws.{ReplacedLiteral, RewritingSimplifies}

module _ (h : History) where
  -- the literals of a goal are one that implies d, or stand in d
  pub goal_implies : (c these d : List Term) → IsClause h d → IsWithin c these d → Each (λ p. Derivable h (implies (holds p) (clause d))) these → Derivable h (implies (clause c) (clause d))
  goal_implies c these d od w ds = clause_out h c (clause d) (clause_over h d od) (each_of c w)
    where
      one : (p : Term) → IsAmong p these ⊎ IsAmong p d → Derivable h (implies (holds p) (clause d))
      one p (inl m) = each_at (λ p. Derivable h (implies (holds p) (clause d))) p these ds m
      one p (inr m) = literal_in h p d od m

      each_of : (c : List Term) → IsWithin c these d → Each (λ p. Derivable h (implies (holds p) (clause d))) c
      each_of [] w = tt
      each_of (p ∷ c) w = (one p w.0, each_of c w.1)

  -- an equal literal, where what makes it equal stands beside d
  equal_literal : (a b : Term) (e d : List Term) → Derivable h (clause e) → IsTerm (symbols_of h) a → IsTerm (symbols_of h) b → IsClause h d →
      IsWithin e (equal_term a b ∷ []) d ⊎ IsWithin e (equal_term b a ∷ []) d → IsAmong b d → Derivable h (implies (holds a) (clause d))
  equal_literal a b e d de oa ob od w m =
      let f = falsity_over h in
      let oc = clause_over h d od in
      let put = literal_in h b d od m in
      by_side (equal_over h a b oa ob) (equal_over h b a ob oa) f oc put w
    where
      by_side : IsTerm (symbols_of h) (equal_term a b) → IsTerm (symbols_of h) (equal_term b a) → IsTerm (symbols_of h) false_term → IsFormula (symbols_of h) (clause d) → Derivable h (implies (holds b) (clause d)) →
          IsWithin e (equal_term a b ∷ []) d ⊎ IsWithin e (equal_term b a ∷ []) d → Derivable h (implies (holds a) (clause d))
      by_side oe of f oc put (inl w) =
          within h e (equal_term a b ∷ []) d (Not (holds a)) od (oa, f) w (
            follows3 h (holds (equal_term a b) ∷ Equation a b ∷ holds a ∷ holds b ∷ clause d ∷ []) ((oe, f), ((oa, ob), ((oa, f), ((ob, f), (oc, tt)))))
                (If (Part 0) (Part 1)) (If (Part 1) (If (Part 2) (Part 3))) (If (Part 3) (Part 4)) (If (Part 0) (Any (No (Part 2)) (Part 4))) refl
                (equal_tells h a b oa ob) (holds_on h a b oa ob) put,
            tt,
          ) de
      by_side oe of f oc put (inr w) =
          within h e (equal_term b a ∷ []) d (Not (holds a)) od (oa, f) w (
            follows3 h (holds (equal_term b a) ∷ Equation b a ∷ holds a ∷ holds b ∷ clause d ∷ []) ((of, f), ((ob, oa), ((oa, f), ((ob, f), (oc, tt)))))
                (If (Part 0) (Part 1)) (If (Part 1) (If (Part 2) (Part 3))) (If (Part 3) (Part 4)) (If (Part 0) (Any (No (Part 2)) (Part 4))) refl
                (equal_tells h b a ob oa) (holds_back h b a ob oa) put,
            tt,
          ) de

pub replaced_literal_law : ReplacedLiteral
replaced_literal_law h a b e c d de oa ob od w wc m = goal_implies h c (a ∷ []) d od wc (equal_literal h a b e d de oa ob od w m, tt)

pub rewriting_law : RewritingSimplifies
rewriting_law h a b e goal next de oa ob og on wg wn ma mb w1 w2 =
    record {
      each = (replaced_literal_law h a b e goal next de oa ob on (inl wn) w1 mb, tt);
      together = replaced_literal_law h b a e next goal de ob oa og (inr wg) w2 ma;
    }
