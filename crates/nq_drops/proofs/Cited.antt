-- What a rule gives depends on the lines that it cites alone.
use Rattle.std.proofs.Common.{◌≡◌, Bool, true, false, ℕ, List, [], ◌∷◌, ◌++◌, ◌&&◌, ◌||◌, map, sym, subst, refl}
use Rattle.std.specs.Prelude.{Option, Some, None, nat_eq}
use Rattle.std.proofs.lemmas.Bool.Decides.{Decides-eqb}
use Rattle.nq_logic.specs.Terms.{Term, Each, substituted}
use Rattle.nq_logic.specs.Words.{call1, call2, not_term, if_term}
use Rattle.nq_logic.specs.Histories.{History}
use Rattle.nq_logic.specs.Laws.{denied}
use Rattle.nq_proof.specs.Clauses.{Clause, without, distinct, literal_at, in_place}
use Rattle.nq_proof.specs.Paths.{replaced_at, if_parts, under_two_nots}
use Rattle.nq_proof.specs.Rules.{Hypothesis, CaseLines, Rule, Taut, AxiomRow, EventTerm, Weaken, Cut, Instance, Reflexive, Replace, Join, SplitFirst, SplitSecond, NotNot, Value, Linear, Induct, is_substitution, when, given, used_equation, has_only, case_tests, case_substitutions, are_falls, are_steps, conclusion}
use Rattle.nq_proof.proofs.Tests.{and_left, and_right, given_some, when_some}
use Rattle.nq_proof.proofs.TermTests.{each_left, each_right}
use Rattle.nq_drops.specs.Uses.{is_listed}

-- the lines that a rule cites
abbrev pub hypotheses_cited : List Hypothesis → List ℕ
hypotheses_cited [] = []
hypotheses_cited (s ∷ rest) = s.line ∷ hypotheses_cited rest

abbrev pub cases_cited : List CaseLines → List ℕ
cases_cited [] = []
cases_cited (c ∷ cases) = c.step ∷ (hypotheses_cited c.hypotheses ++ cases_cited cases)

abbrev pub rule_cited : Rule → List ℕ
rule_cited (Taut ts) = []
rule_cited (AxiomRow name row part) = []
rule_cited (EventTerm name) = []
rule_cited (Weaken l ts) = l ∷ []
rule_cited (Cut l m t) = l ∷ m ∷ []
rule_cited (Instance l s) = l ∷ []
rule_cited (Reflexive t) = []
rule_cited (Replace l k path t side) = l ∷ []
rule_cited (Join l m p x y) = l ∷ m ∷ []
rule_cited (SplitFirst l k) = l ∷ []
rule_cited (SplitSecond l k) = l ∷ []
rule_cited (NotNot l k) = l ∷ []
rule_cited (Value t) = []
rule_cited (Linear summands) = []
rule_cited (Induct p m o b cases) = cases_cited cases ++ (o ∷ b ∷ [])

-- a line that stands among the first stands among the others
abbrev pub IsKept : (ℕ → Option Clause) → (ℕ → Option Clause) → ℕ → Type 0
IsKept few more l = (c : Clause) → few l ≡ Some c → more l ≡ Some c

both : (a b : Bool) → a ≡ true → b ≡ true → a && b ≡ true
both true b e f = f
both false b e f = e

when_true : (b : Bool) (c d : Clause) → b ≡ true → c ≡ d → when b c ≡ Some d
when_true true c d e f = subst (λ d. Some c ≡ Some d) f refl
when_true false c d e f = absurd cc

module _ (few more : ℕ → Option (List Term)) where
  line_given : (l : ℕ) (next later : Clause → Option Clause) (c : Clause) → IsKept few more l → ((d : Clause) → next d ≡ Some c → later d ≡ Some c) → given (few l) next ≡ Some c → given (more l) later ≡ Some c
  line_given l next later c kept f e =
      let g = given_some (few l) next c e in
      subst (λ o. given o later ≡ Some c) (sym (kept g.0 g.1)) (f g.0 g.2)

  one_line_given : (l : ℕ) (next : Clause → Option Clause) (c : Clause) → IsKept few more l → given (few l) next ≡ Some c → given (more l) next ≡ Some c
  one_line_given l next c kept e = line_given l next next c kept (λ d f. f) e

  two_lines_given : (l m : ℕ) (next : Clause → Clause → Option Clause) (c : Clause) → IsKept few more l → IsKept few more m → given (few l) (λ c1. given (few m) (next c1)) ≡ Some c → given (more l) (λ c1. given (more m) (next c1)) ≡ Some c
  two_lines_given l m next c first second e = line_given l (λ c1. given (few m) (next c1)) (λ c1. given (more m) (next c1)) c first (λ d f. one_line_given m (next d) c second f) e

  pub only_kept : (l : ℕ) (these : List Term) → IsKept few more l → has_only (few l) these ≡ true → has_only (more l) these ≡ true
  only_kept l these kept e = by_line (few l) refl e
    where
      by_line : (o : Option Clause) → few l ≡ o → has_only o these ≡ true → has_only (more l) these ≡ true
      by_line None f g = absurd cc
      by_line (Some c) f g = subst (λ o. has_only o these ≡ true) (sym (kept c f)) g

  falls_kept : (m test : Term) (hypotheses : List Hypothesis) → Each (IsKept few more) (hypotheses_cited hypotheses) → are_falls few m test hypotheses ≡ true → are_falls more m test hypotheses ≡ true
  falls_kept m test [] kept e = e
  falls_kept m test (s ∷ rest) kept e =
      let these = not_term test ∷ call2 "ORD-LESSP" (substituted s.pairs m) m ∷ [] in
      let one = is_substitution s.pairs in
      let two = has_only (few s.line) these in
      let first = and_left (one && two) (are_falls few m test rest) e in
      both (one && has_only (more s.line) these) (are_falls more m test rest)
      (both one (has_only (more s.line) these) (and_left one two first) (only_kept s.line these kept.0 (and_right one two first)))
      (falls_kept m test rest kept.1 (and_right (one && two) (are_falls few m test rest) e))

  steps_kept : (p m : Term) (cases : List CaseLines) → Each (IsKept few more) (cases_cited cases) → are_steps few p m cases ≡ true → are_steps more p m cases ≡ true
  steps_kept p m [] kept e = e
  steps_kept p m (c ∷ cases) kept e =
      let these = not_term c.test ∷ (denied p (case_substitutions c.hypotheses) ++ (p ∷ [])) in
      let one = has_only (few c.step) these in
      let two = are_falls few m c.test c.hypotheses in
      let first = and_left (one && two) (are_steps few p m cases) e in
      let own = each_left (IsKept few more) (hypotheses_cited c.hypotheses) (cases_cited cases) kept.1 in
      let others = each_right (IsKept few more) (hypotheses_cited c.hypotheses) (cases_cited cases) kept.1 in
      both (has_only (more c.step) these && are_falls more m c.test c.hypotheses) (are_steps more p m cases)
      (both (has_only (more c.step) these) (are_falls more m c.test c.hypotheses) (only_kept c.step these kept.0 (and_left one two first)) (falls_kept m c.test c.hypotheses own (and_right one two first)))
      (steps_kept p m cases others (and_right (one && two) (are_steps few p m cases) e))

  pub conclusion_kept : (h : History) (rule : Rule) (c : Clause) → Each (IsKept few more) (rule_cited rule) → conclusion h few rule ≡ Some c → conclusion h more rule ≡ Some c
  conclusion_kept h (Taut ts) c kept e = e
  conclusion_kept h (AxiomRow name row part) c kept e = e
  conclusion_kept h (EventTerm name) c kept e = e
  conclusion_kept h (Weaken l ts) c kept e = one_line_given l (λ c. Some (distinct (c ++ ts))) c kept.0 e
  conclusion_kept h (Cut l m t) c kept e = two_lines_given l m (λ c1 c2. Some (distinct (without t c1 ++ without (not_term t) c2))) c kept.0 kept.1.0 e
  conclusion_kept h (Instance l s) c kept e = one_line_given l (λ c. when (is_substitution s) (distinct (map (substituted s) c))) c kept.0 e
  conclusion_kept h (Reflexive t) c kept e = e
  conclusion_kept h (Replace l k path t side) c kept e =
      one_line_given l (λ c. given (literal_at k c) (λ a. given (replaced_at path t a) (λ change. Some (distinct (in_place k (change.1 ∷ []) c ++ (used_equation side change.0 t ∷ [])))))) c kept.0 e
  conclusion_kept h (Join l m p x y) c kept e =
      two_lines_given l m (λ c1 c2. Some (distinct (without (not_term p) (without x c1) ++ (without p (without y c2) ++ (if_term p x y ∷ []))))) c kept.0 kept.1.0 e
  conclusion_kept h (SplitFirst l k) c kept e = one_line_given l (λ c. given (literal_at k c) (λ a. given (if_parts a) (λ parts. Some (distinct (in_place k (not_term parts.test ∷ parts.first ∷ []) c))))) c kept.0 e
  conclusion_kept h (SplitSecond l k) c kept e = one_line_given l (λ c. given (literal_at k c) (λ a. given (if_parts a) (λ parts. Some (distinct (in_place k (parts.test ∷ parts.second ∷ []) c))))) c kept.0 e
  conclusion_kept h (NotNot l k) c kept e = one_line_given l (λ c. given (literal_at k c) (λ a. given (under_two_nots a) (λ t. Some (distinct (in_place k (t ∷ []) c))))) c kept.0 e
  conclusion_kept h (Value t) c kept e = e
  conclusion_kept h (Linear summands) c kept e = e
  conclusion_kept h (Induct p m o b cases) c kept e =
      let ordinal = call1 "ORDINALP" m ∷ [] in
      let base = case_tests cases ++ (p ∷ []) in
      let one = has_only (few o) ordinal in
      let two = has_only (few b) base in
      let three = are_steps few p m cases in
      let w = when_some (one && two && three) (p ∷ []) c e in
      let first = and_left (one && two) three w.0 in
      let last = each_right (IsKept few more) (cases_cited cases) (o ∷ b ∷ []) kept in
      when_true (has_only (more o) ordinal && has_only (more b) base && are_steps more p m cases) (p ∷ []) c
      (both (has_only (more o) ordinal && has_only (more b) base) (are_steps more p m cases)
      (both (has_only (more o) ordinal) (has_only (more b) base) (only_kept o ordinal last.0 (and_left one two first)) (only_kept b base last.1.0 (and_right one two first)))
      (steps_kept p m cases (each_left (IsKept few more) (cases_cited cases) (o ∷ b ∷ []) kept) (and_right (one && two) three w.0))) w.1

-- what holds of each listed number holds of the list
pub each_listed : (P : ℕ → Type 0) (ls : List ℕ) → ((l : ℕ) → is_listed l ls ≡ true → P l) → Each P ls
each_listed P [] f = tt
each_listed P (k ∷ ks) f = (f k (here (nat_eq k k) (is_listed k ks) ((Decides-eqb k k).1 refl)), each_listed P ks (λ l e. f l (there (nat_eq k l) (is_listed l ks) e)))
  where
    here : (a b : Bool) → a ≡ true → a || b ≡ true
    here true b e = refl
    here false b e = absurd cc

    there : (a b : Bool) → b ≡ true → a || b ≡ true
    there true b e = refl
    there false b e = e
