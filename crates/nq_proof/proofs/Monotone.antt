-- More lines allow more: a rule that is allowed stays allowed, with the same clause.
use Rattle.std.proofs.Common.{◌≡◌, Bool, true, false, ℕ, List, [], ◌∷◌, ◌++◌, ◌&&◌, map, sym, subst, refl}
use Rattle.std.specs.Prelude.{Option, Some, None}
use Rattle.nq_logic.specs.Terms.{Term, substituted}
use Rattle.nq_logic.specs.Words.{call1, call2, not_term, if_term}
use Rattle.nq_logic.specs.Histories.{History}
use Rattle.nq_logic.specs.Laws.{denied}
use Rattle.nq_proof.specs.Clauses.{Clause, without, distinct, literal_at, in_place}
use Rattle.nq_proof.specs.Paths.{replaced_at, if_parts, under_two_nots}
use Rattle.nq_proof.specs.Rules.{Hypothesis, CaseLines, Rule, Taut, AxiomRow, EventTerm, Weaken, Cut, Instance, Reflexive, Replace, Join, SplitFirst, SplitSecond, NotNot, Value, Linear, Induct, is_substitution, when, given, used_equation, has_only, case_tests, case_substitutions, are_falls, are_steps, conclusion}
use Rattle.nq_proof.specs.Laws.{HasMoreLines, MoreLinesAllowMore}
use Rattle.nq_proof.proofs.Tests.{and_left, and_right, given_some, when_some}

both : (a b : Bool) → a ≡ true → b ≡ true → a && b ≡ true
both true b e f = f
both false b e f = e

when_true : (b : Bool) (c d : Clause) → b ≡ true → c ≡ d → when b c ≡ Some d
when_true true c d e f = subst (λ d. Some c ≡ Some d) f refl
when_true false c d e f = absurd cc

module _ (few more : ℕ → Option (List Term)) (there : HasMoreLines few more) where
  -- what comes of a line comes of it among more lines
  line_given : (l : ℕ) (next later : Clause → Option Clause) (c : Clause) → ((d : Clause) → next d ≡ Some c → later d ≡ Some c) → given (few l) next ≡ Some c → given (more l) later ≡ Some c
  line_given l next later c f e =
      let g = given_some (few l) next c e in
      subst (λ o. given o later ≡ Some c) (sym (there l g.0 g.1)) (f g.0 g.2)

  one_line_given : (l : ℕ) (next : Clause → Option Clause) (c : Clause) → given (few l) next ≡ Some c → given (more l) next ≡ Some c
  one_line_given l next c e = line_given l next next c (λ d f. f) e

  two_lines_given : (l m : ℕ) (next : Clause → Clause → Option Clause) (c : Clause) → given (few l) (λ c1. given (few m) (next c1)) ≡ Some c → given (more l) (λ c1. given (more m) (next c1)) ≡ Some c
  two_lines_given l m next c e = line_given l (λ c1. given (few m) (next c1)) (λ c1. given (more m) (next c1)) c (λ d f. one_line_given m (next d) c f) e

  only_more : (l : ℕ) (these : List Term) → has_only (few l) these ≡ true → has_only (more l) these ≡ true
  only_more l these e = by_line (few l) refl e
    where
      by_line : (o : Option Clause) → few l ≡ o → has_only o these ≡ true → has_only (more l) these ≡ true
      by_line None f g = absurd cc
      by_line (Some c) f g = subst (λ o. has_only o these ≡ true) (sym (there l c f)) g

  falls_more : (m test : Term) (hypotheses : List Hypothesis) → are_falls few m test hypotheses ≡ true → are_falls more m test hypotheses ≡ true
  falls_more m test [] e = e
  falls_more m test (s ∷ rest) e =
      let these = not_term test ∷ call2 "ORD-LESSP" (substituted s.pairs m) m ∷ [] in
      let one = is_substitution s.pairs in
      let two = has_only (few s.line) these in
      let first = and_left (one && two) (are_falls few m test rest) e in
      both (one && has_only (more s.line) these) (are_falls more m test rest)
      (both one (has_only (more s.line) these) (and_left one two first) (only_more s.line these (and_right one two first)))
      (falls_more m test rest (and_right (one && two) (are_falls few m test rest) e))

  steps_more : (p m : Term) (cases : List CaseLines) → are_steps few p m cases ≡ true → are_steps more p m cases ≡ true
  steps_more p m [] e = e
  steps_more p m (c ∷ cases) e =
      let these = not_term c.test ∷ (denied p (case_substitutions c.hypotheses) ++ (p ∷ [])) in
      let one = has_only (few c.step) these in
      let two = are_falls few m c.test c.hypotheses in
      let first = and_left (one && two) (are_steps few p m cases) e in
      both (has_only (more c.step) these && are_falls more m c.test c.hypotheses) (are_steps more p m cases)
      (both (has_only (more c.step) these) (are_falls more m c.test c.hypotheses) (only_more c.step these (and_left one two first)) (falls_more m c.test c.hypotheses (and_right one two first)))
      (steps_more p m cases (and_right (one && two) (are_steps few p m cases) e))

  allowed_more : (h : History) (rule : Rule) (c : Clause) → conclusion h few rule ≡ Some c → conclusion h more rule ≡ Some c
  allowed_more h (Taut ts) c e = e
  allowed_more h (AxiomRow name row part) c e = e
  allowed_more h (EventTerm name) c e = e
  allowed_more h (Weaken l ts) c e = one_line_given l (λ c. Some (distinct (c ++ ts))) c e
  allowed_more h (Cut l m t) c e = two_lines_given l m (λ c1 c2. Some (distinct (without t c1 ++ without (not_term t) c2))) c e
  allowed_more h (Instance l s) c e = one_line_given l (λ c. when (is_substitution s) (distinct (map (substituted s) c))) c e
  allowed_more h (Reflexive t) c e = e
  allowed_more h (Replace l k path t side) c e =
      one_line_given l (λ c. given (literal_at k c) (λ a. given (replaced_at path t a) (λ change. Some (distinct (in_place k (change.1 ∷ []) c ++ (used_equation side change.0 t ∷ [])))))) c e
  allowed_more h (Join l m p x y) c e =
      two_lines_given l m (λ c1 c2. Some (distinct (without (not_term p) (without x c1) ++ (without p (without y c2) ++ (if_term p x y ∷ []))))) c e
  allowed_more h (SplitFirst l k) c e = one_line_given l (λ c. given (literal_at k c) (λ a. given (if_parts a) (λ parts. Some (distinct (in_place k (not_term parts.test ∷ parts.first ∷ []) c))))) c e
  allowed_more h (SplitSecond l k) c e = one_line_given l (λ c. given (literal_at k c) (λ a. given (if_parts a) (λ parts. Some (distinct (in_place k (parts.test ∷ parts.second ∷ []) c))))) c e
  allowed_more h (NotNot l k) c e = one_line_given l (λ c. given (literal_at k c) (λ a. given (under_two_nots a) (λ t. Some (distinct (in_place k (t ∷ []) c))))) c e
  allowed_more h (Value t) c e = e
  allowed_more h (Linear summands) c e = e
  allowed_more h (Induct p m o b cases) c e =
      let ordinal = call1 "ORDINALP" m ∷ [] in
      let base = case_tests cases ++ (p ∷ []) in
      let one = has_only (few o) ordinal in
      let two = has_only (few b) base in
      let three = are_steps few p m cases in
      let w = when_some (one && two && three) (p ∷ []) c e in
      let first = and_left (one && two) three w.0 in
      when_true (has_only (more o) ordinal && has_only (more b) base && are_steps more p m cases) (p ∷ []) c
      (both (has_only (more o) ordinal && has_only (more b) base) (are_steps more p m cases)
      (both (has_only (more o) ordinal) (has_only (more b) base) (only_more o ordinal (and_left one two first)) (only_more b base (and_right one two first)))
      (steps_more p m cases (and_right (one && two) three w.0))) w.1

pub more_lines_law : MoreLinesAllowMore
more_lines_law h few more rule c there e = allowed_more few more there h rule c e
