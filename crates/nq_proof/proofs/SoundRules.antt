-- The clause of each rule is derivable where the lines are.
use Rattle.std.proofs.Common.{◌≡◌, Bool, true, false, ℕ, zero, suc, List, [], ◌∷◌, ◌++◌, ◌⊎◌, ◌&&◌, map, inl, inr, refl, sym, ap, subst}
use Rattle.std.specs.Prelude.{Option, Some, None, bytes_eq}
use Rattle.nq_logic.specs.Terms.{Name, Term, IsAmong, Each, IsTerm, Substitution, substituted}
use Rattle.nq_logic.specs.Words.{call1, call2, equal_term, not_term, if_term}
use Rattle.nq_logic.specs.Formulas.{holds, clause}
use Rattle.nq_logic.specs.Histories.{History, Event, AddShell, Declaration, Defines, Axiom, Lemma, Toggle}
use Rattle.nq_logic.specs.Ground.{symbols_of}
use Rattle.nq_logic.specs.Derivations.{Derivable, added}
use Rattle.nq_logic.specs.Laws.{IsClause, IsWithin, InductionCase, tests_of, denied, IsStep}
use Rattle.nq_logic.proofs.Lists.{each_at, each_among, each_append, among_left, among_right, among_at}
use Rattle.nq_logic.proofs.Symbols.{ordinalp_symbol, ord_lessp_symbol}
use Rattle.nq_logic.proofs.Basic.{well_formed}
use Rattle.nq_logic.proofs.Equality.{axiom_here, falsity_over}
use Rattle.nq_logic.proofs.Values.{not_over}
use Rattle.nq_logic.proofs.Clauses.{literals_over, more_literals, excluded_middle_law, cut_law, instance_law}
use Rattle.nq_logic.proofs.Replacements.{reflexivity_law, replacement_law}
use Rattle.nq_logic.proofs.Branches.{join_law, split_first_law, split_second_law, double_negation_law}
use Rattle.nq_logic.proofs.Inductions.{induction_law}
use Rattle.nq_proof.specs.Clauses.{Clause, has_opposite, without, distinct, literal_at, in_place}
use Rattle.nq_proof.specs.Paths.{replaced_at, IfParts, if_parts, under_two_nots}
use Rattle.nq_proof.specs.Rows.{axiom_clause}
use Rattle.nq_proof.specs.Rules.{Side, Forwards, Backwards, Hypothesis, CaseLines, Rule, Taut, AxiomRow, EventTerm, Weaken, Cut, Instance, Reflexive, Replace, Join, SplitFirst, SplitSecond, NotNot, Value, Linear, Induct, term_if, event_term, is_substitution, when, given, used_equation, has_only, case_tests, case_substitutions, are_falls, are_steps, conclusion, pair_terms, hypothesis_terms, case_terms, rule_terms, is_basic}
use Rattle.nq_proof.specs.Laws.{LemmasHold, LinesHold, Soundness}
use Rattle.nq_proof.proofs.Tests.{and_left, and_right, none_is_not_some, some_same, given_some, when_some, within_each, kept_or_same, distinct_in, opposites, placed_or_same, placed_in}
use Rattle.nq_proof.proofs.Places.{replaced_is, if_parts_are, two_nots_are}
use Rattle.nq_proof.proofs.AxiomRows.{axiom_holds}
use Rattle.nq_proof.proofs.TermTests.{each_left, each_right, substituted_over}
use Rattle.nq_proof.proofs.KeptSymbols.{kept_symbols_law}

module _ (h : History) where
  -- the terms of a clause stand in the clause without copies
  all_over : (ts : List Term) → IsClause h (distinct ts) → IsClause h ts
  all_over ts over = each_among (IsTerm (symbols_of h)) ts (λ p m. each_at (IsTerm (symbols_of h)) p (distinct ts) over (distinct_in p ts m))

  -- a clause with all these literals
  widened : (c d : Clause) → Derivable h (clause c) → IsClause h d → ((p : Term) → IsAmong p c → IsAmong p d) → Derivable h (clause d)
  widened c d dc over f = more_literals h c d dc over (each_among (λ p. IsAmong p d) c f)

  line_over : (c : Clause) → Derivable h (clause c) → IsClause h c
  line_over c dc = literals_over h c (well_formed h (clause c) dc)

  -- a literal that is left out is one of these, and another stands in the result
  one_left_out : (t : Term) (c rest : Clause) → ((p : Term) → IsAmong p (without t c) → IsAmong p rest) → IsWithin c (t ∷ []) (distinct rest)
  one_left_out t c rest f = each_among (λ p. IsAmong p (t ∷ []) ⊎ IsAmong p (distinct rest)) c (λ p m. place p (kept_or_same t p c m))
    where
      place : (p : Term) → (p ≡ t) ⊎ IsAmong p (without t c) → IsAmong p (t ∷ []) ⊎ IsAmong p (distinct rest)
      place p (inl e) = inl (inl e)
      place p (inr m) = inr (distinct_in p rest (f p m))

  two_left_out : (s t : Term) (c rest : Clause) → ((p : Term) → IsAmong p (without s (without t c)) → IsAmong p rest) → IsWithin c (s ∷ t ∷ []) (distinct rest)
  two_left_out s t c rest f = each_among (λ p. IsAmong p (s ∷ t ∷ []) ⊎ IsAmong p (distinct rest)) c (λ p m. first p (kept_or_same t p c m))
    where
      second : (p : Term) → (p ≡ s) ⊎ IsAmong p (without s (without t c)) → IsAmong p (s ∷ t ∷ []) ⊎ IsAmong p (distinct rest)
      second p (inl e) = inl (inl e)
      second p (inr m) = inr (distinct_in p rest (f p m))

      first : (p : Term) → (p ≡ t) ⊎ IsAmong p (without t c) → IsAmong p (s ∷ t ∷ []) ⊎ IsAmong p (distinct rest)
      first p (inl e) = inl (inr (inl e))
      first p (inr m) = second p (kept_or_same s p (without t c) m)

  one_replaced : (k : ℕ) (a : Term) (these : List Term) (c rest : Clause) → literal_at k c ≡ Some a → ((p : Term) → IsAmong p (in_place k these c) → IsAmong p rest) → IsWithin c (a ∷ []) (distinct rest)
  one_replaced k a these c rest e f = each_among (λ p. IsAmong p (a ∷ []) ⊎ IsAmong p (distinct rest)) c (λ p m. place p (placed_or_same k a p these c e m))
    where
      place : (p : Term) → (p ≡ a) ⊎ IsAmong p (in_place k these c) → IsAmong p (a ∷ []) ⊎ IsAmong p (distinct rest)
      place p (inl s) = inl (inl s)
      place p (inr m) = inr (distinct_in p rest (f p m))

  literal_over : (k : ℕ) (a : Term) (c : Clause) → literal_at k c ≡ Some a → IsClause h c → IsTerm (symbols_of h) a
  literal_over k a c e over = each_at (IsTerm (symbols_of h)) a c over (literal_among k a c e)
    where
      literal_among : (k : ℕ) (a : Term) (c : Clause) → literal_at k c ≡ Some a → IsAmong a c
      literal_among zero a c e = absurd (none_is_not_some a e)
      literal_among (suc k) a c e = among_at a c k e

  -- the term of an event
  event_holds : LemmasHold h → (name : Name) (h' : History) (t : Term) → ((e : Event) → IsAmong e h' → IsAmong e h) → IsTerm (symbols_of h) t → event_term name h' ≡ Some t → Derivable h (holds t)
  event_holds lemmas name [] t within over e = absurd (none_is_not_some t e)
  event_holds lemmas name (Axiom n classes u ∷ rest) t within over e =
      by_name (bytes_eq name n) (λ f. event_holds lemmas name rest t (λ x m. within x (inr m)) over f) e
    where
      by_name : (b : Bool) → (event_term name rest ≡ Some t → Derivable h (holds t)) → term_if b u (event_term name rest) ≡ Some t → Derivable h (holds t)
      by_name true again f = axiom_here h (holds t) (over, falsity_over h) (added n classes t (within (Axiom n classes t) (inl (ap (Axiom n classes) (sym (some_same u t f))))))
      by_name false again f = again f
  event_holds lemmas name (Lemma n classes u ∷ rest) t within over e =
      by_name (bytes_eq name n) (λ f. event_holds lemmas name rest t (λ x m. within x (inr m)) over f) e
    where
      by_name : (b : Bool) → (event_term name rest ≡ Some t → Derivable h (holds t)) → term_if b u (event_term name rest) ≡ Some t → Derivable h (holds t)
      by_name true again f = lemmas n classes t (within (Lemma n classes t) (inl (ap (Lemma n classes) (sym (some_same u t f)))))
      by_name false again f = again f
  event_holds lemmas name (AddShell s ∷ rest) t within over e = event_holds lemmas name rest t (λ x m. within x (inr m)) over e
  event_holds lemmas name (Declaration f n ∷ rest) t within over e = event_holds lemmas name rest t (λ x m. within x (inr m)) over e
  event_holds lemmas name (Defines d ∷ rest) t within over e = event_holds lemmas name rest t (λ x m. within x (inr m)) over e
  event_holds lemmas name (Toggle n old b ∷ rest) t within over e = event_holds lemmas name rest t (λ x m. within x (inr m)) over e

  module _ (lines : ℕ → Option (List Term)) (stand : LinesHold h lines) where
    -- a line with only these literals
    only_holds : (n : ℕ) (these : List Term) → IsClause h these → has_only (lines n) these ≡ true → Derivable h (clause these)
    only_holds n these over e = by_line (lines n) refl e
      where
        by_line : (o : Option Clause) → lines n ≡ o → has_only o these ≡ true → Derivable h (clause these)
        by_line None f g = absurd cc
        by_line (Some c) f g = more_literals h c these (stand n c f) over (within_each c these g)

    abbrev cases_of : List CaseLines → List InductionCase
    cases_of cases = map (λ c. record { test = c.test; substitutions = case_substitutions c.hypotheses }) cases

    tests_same : (cases : List CaseLines) → tests_of (cases_of cases) ≡ case_tests cases
    tests_same [] = refl
    tests_same (c ∷ cases) = ap (◌∷◌ c.test) (tests_same cases)

    tests_over : (cases : List CaseLines) → Each (IsTerm (symbols_of h)) (case_terms cases) → IsClause h (case_tests cases)
    tests_over [] over = tt
    tests_over (c ∷ cases) over = (over.0, tests_over cases (each_right (IsTerm (symbols_of h)) (hypothesis_terms c.hypotheses) (case_terms cases) over.1))

    module _ (p m : Term) (op : IsTerm (symbols_of h) p) (om : IsTerm (symbols_of h) m) where
      denied_over : (hypotheses : List Hypothesis) → Each (IsTerm (symbols_of h)) (hypothesis_terms hypotheses) → IsClause h (denied p (case_substitutions hypotheses))
      denied_over [] over = tt
      denied_over (s ∷ rest) over =
          let first = each_left (IsTerm (symbols_of h)) (pair_terms s.pairs) (hypothesis_terms rest) over in
          let others = each_right (IsTerm (symbols_of h)) (pair_terms s.pairs) (hypothesis_terms rest) over in
          (not_over h (substituted s.pairs p) (substituted_over h s.pairs first p zero op), denied_over rest others)

      abbrev falls_clause : Term → Substitution → Clause
      falls_clause test s = not_term test ∷ call2 "ORD-LESSP" (substituted s m) m ∷ []

      falls_hold : (test : Term) → IsTerm (symbols_of h) test → (hypotheses : List Hypothesis) → Each (IsTerm (symbols_of h)) (hypothesis_terms hypotheses) → are_falls lines m test hypotheses ≡ true →
          Each (λ s. Derivable h (clause (falls_clause test s))) (case_substitutions hypotheses)
      falls_hold test ot [] over e = tt
      falls_hold test ot (s ∷ rest) over e =
          let first = each_left (IsTerm (symbols_of h)) (pair_terms s.pairs) (hypothesis_terms rest) over in
          let others = each_right (IsTerm (symbols_of h)) (pair_terms s.pairs) (hypothesis_terms rest) over in
          let whole = is_substitution s.pairs && has_only (lines s.line) (falls_clause test s.pairs) in
          let here_true = and_right (is_substitution s.pairs) (has_only (lines s.line) (falls_clause test s.pairs)) (and_left whole (are_falls lines m test rest) e) in
          let o : IsClause h (falls_clause test s.pairs) = (not_over h test ot, ((((ord_lessp_symbol h, substituted_over h s.pairs first m zero om), om)), tt)) in
          (only_holds s.line (falls_clause test s.pairs) o here_true, falls_hold test ot rest others (and_right whole (are_falls lines m test rest) e))

      steps_hold : (cases : List CaseLines) → Each (IsTerm (symbols_of h)) (case_terms cases) → are_steps lines p m cases ≡ true → Each (IsStep h p m) (cases_of cases)
      steps_hold [] over e = tt
      steps_hold (c ∷ cases) over e =
          let mine = each_left (IsTerm (symbols_of h)) (hypothesis_terms c.hypotheses) (case_terms cases) over.1 in
          let others = each_right (IsTerm (symbols_of h)) (hypothesis_terms c.hypotheses) (case_terms cases) over.1 in
          let step = not_term c.test ∷ (denied p (case_substitutions c.hypotheses) ++ (p ∷ [])) in
          let one = has_only (lines c.step) step in
          let two = are_falls lines m c.test c.hypotheses in
          let three = are_steps lines p m cases in
          let both = and_left (one && two) three e in
          let o : IsClause h step = (not_over h c.test over.0, each_append (IsTerm (symbols_of h)) (denied p (case_substitutions c.hypotheses)) (p ∷ []) (denied_over c.hypotheses mine) (op, tt)) in
          ((only_holds c.step step o (and_left one two both), falls_hold c.test over.0 c.hypotheses mine (and_right one two both)), steps_hold cases others (and_right (one && two) three e))

    abbrev Concludes : Rule → Clause → Type 0
    Concludes rule c = Each (IsTerm (symbols_of h)) (rule_terms rule) → IsClause h c → conclusion h lines rule ≡ Some c → Derivable h (clause c)

    taut_holds : (ts : List Term) (c : Clause) → Concludes (Taut ts) c
    taut_holds ts c terms over e =
        let w = when_some (has_opposite ts ts) (distinct ts) c e in
        let pair = opposites ts ts w.0 in
        subst (λ c. Derivable h (clause c)) w.1
        (excluded_middle_law h pair.0 (distinct ts) (subst (IsClause h) (sym w.1) over) (distinct_in pair.0 ts pair.1) (distinct_in (not_term pair.0) ts pair.2))

    axiom_row_holds : (name : Name) (row part : ℕ) (c : Clause) → Concludes (AxiomRow name row part) c
    axiom_row_holds name row part c terms over e =
        let g = given_some (axiom_clause h name row part) (λ c. Some (distinct c)) c e in
        let same = some_same (distinct g.0) c g.2 in
        let o = subst (IsClause h) (sym same) over in
        subst (λ c. Derivable h (clause c)) same
        (widened g.0 (distinct g.0) (axiom_holds h name row part g.0 g.1 (all_over g.0 o)) o (λ p m. distinct_in p g.0 m))

    weaken_holds : (l : ℕ) (ts : List Term) (c : Clause) → Concludes (Weaken l ts) c
    weaken_holds l ts c terms over e =
        let g = given_some (lines l) (λ c. Some (distinct (c ++ ts))) c e in
        let same = some_same (distinct (g.0 ++ ts)) c g.2 in
        subst (λ c. Derivable h (clause c)) same
        (widened g.0 (distinct (g.0 ++ ts)) (stand l g.0 g.1) (subst (IsClause h) (sym same) over) (λ p m. distinct_in p (g.0 ++ ts) (among_left p g.0 ts m)))

    cut_holds : (l1 l2 : ℕ) (t : Term) (c : Clause) → Concludes (Cut l1 l2 t) c
    cut_holds l1 l2 t c terms over e =
        let g = given_some (lines l1) (λ c1. given (lines l2) (λ c2. Some (distinct (without t c1 ++ without (not_term t) c2)))) c e in
        let k = given_some (lines l2) (λ c2. Some (distinct (without t g.0 ++ without (not_term t) c2))) c g.2 in
        let one = without t g.0 in
        let two = without (not_term t) k.0 in
        let same = some_same (distinct (one ++ two)) c k.2 in
        subst (λ c. Derivable h (clause c)) same
        (cut_law h t g.0 k.0 (distinct (one ++ two)) (stand l1 g.0 g.1) (stand l2 k.0 k.1) terms.0 (subst (IsClause h) (sym same) over)
        (one_left_out t g.0 (one ++ two) (λ p m. among_left p one two m)) (one_left_out (not_term t) k.0 (one ++ two) (λ p m. among_right p one two m)))

    instance_holds : (l : ℕ) (s : Substitution) (c : Clause) → Concludes (Instance l s) c
    instance_holds l s c terms over e =
        let g = given_some (lines l) (λ c. when (is_substitution s) (distinct (map (substituted s) c))) c e in
        let whole = map (substituted s) g.0 in
        let w = when_some (is_substitution s) (distinct whole) c g.2 in
        let o = subst (IsClause h) (sym w.1) over in
        subst (λ c. Derivable h (clause c)) w.1
        (widened whole (distinct whole) (instance_law h s g.0 (stand l g.0 g.1) (all_over whole o)) o (λ p m. distinct_in p whole m))

    replace_holds : (l k : ℕ) (path : List ℕ) (t : Term) (side : Side) (c : Clause) → Concludes (Replace l k path t side) c
    replace_holds l k path t side c terms over e =
        let g = given_some (lines l) (λ c. given (literal_at k c) (λ a. given (replaced_at path t a) (λ change. Some (distinct (in_place k (change.1 ∷ []) c ++ (used_equation side change.0 t ∷ [])))))) c e in
        let b = given_some (literal_at k g.0) (λ a. given (replaced_at path t a) (λ change. Some (distinct (in_place k (change.1 ∷ []) g.0 ++ (used_equation side change.0 t ∷ []))))) c g.2 in
        let change = given_some (replaced_at path t b.0) (λ change. Some (distinct (in_place k (change.1 ∷ []) g.0 ++ (used_equation side change.0 t ∷ [])))) c b.2 in
        let u = change.0.0 in
        let a = change.0.1 in
        let placed = in_place k (a ∷ []) g.0 in
        let rest = placed ++ (used_equation side u t ∷ []) in
        let same = some_same (distinct rest) c change.2 in
        let r = replaced_is (symbols_of h) t path b.0 u a change.1 in
        let ob = literal_over k b.0 g.0 b.1 (line_over g.0 (stand l g.0 g.1)) in
        let equation = distinct_in (used_equation side u t) rest (among_right (used_equation side u t) placed (used_equation side u t ∷ []) (inl refl)) in
        subst (λ c. Derivable h (clause c)) {x = distinct rest} same
        (replacement_law h u t b.0 a g.0 (distinct rest) (stand l g.0 g.1) (r.1 ob) terms.0 r.0 ob (subst (IsClause h) (sym same) over)
        (one_replaced k b.0 (a ∷ []) g.0 rest b.1 (λ p m. among_left p placed (used_equation side u t ∷ []) m))
        (distinct_in a rest (among_left a placed (used_equation side u t ∷ []) (placed_in k b.0 a (a ∷ []) g.0 b.1 (inl refl))))
        (by_side side u (distinct rest) equation))
      where
        by_side : (side : Side) (u : Term) (d : Clause) → IsAmong (used_equation side u t) d → IsAmong (not_term (equal_term u t)) d ⊎ IsAmong (not_term (equal_term t u)) d
        by_side Forwards u d m = inl m
        by_side Backwards u d m = inr m

    join_holds : (l1 l2 : ℕ) (p x y : Term) (c : Clause) → Concludes (Join l1 l2 p x y) c
    join_holds l1 l2 p x y c terms over e =
        let g = given_some (lines l1) (λ c1. given (lines l2) (λ c2. Some (distinct (without (not_term p) (without x c1) ++ (without p (without y c2) ++ (if_term p x y ∷ [])))))) c e in
        let k = given_some (lines l2) (λ c2. Some (distinct (without (not_term p) (without x g.0) ++ (without p (without y c2) ++ (if_term p x y ∷ []))))) c g.2 in
        let one = without (not_term p) (without x g.0) in
        let two = without p (without y k.0) in
        let last = if_term p x y ∷ [] in
        let rest = one ++ (two ++ last) in
        let same = some_same (distinct rest) c k.2 in
        subst (λ c. Derivable h (clause c)) same
        (join_law h p x y g.0 k.0 (distinct rest) (stand l1 g.0 g.1) (stand l2 k.0 k.1) (subst (IsClause h) (sym same) over)
        (distinct_in (if_term p x y) rest (among_right (if_term p x y) one (two ++ last) (among_right (if_term p x y) two last (inl refl))))
        (two_left_out (not_term p) x g.0 rest (λ q m. among_left q one (two ++ last) m))
        (two_left_out p y k.0 rest (λ q m. among_right q one (two ++ last) (among_left q two last m))))

    split_first_holds : (l k : ℕ) (c : Clause) → Concludes (SplitFirst l k) c
    split_first_holds l k c terms over e =
        let g = given_some (lines l) (λ c. given (literal_at k c) (λ a. given (if_parts a) (λ parts. Some (distinct (in_place k (not_term parts.test ∷ parts.first ∷ []) c))))) c e in
        let b = given_some (literal_at k g.0) (λ a. given (if_parts a) (λ parts. Some (distinct (in_place k (not_term parts.test ∷ parts.first ∷ []) g.0)))) c g.2 in
        let parts = given_some (if_parts b.0) (λ parts. Some (distinct (in_place k (not_term parts.test ∷ parts.first ∷ []) g.0))) c b.2 in
        let found : IfParts = parts.0 in
        let whole = if_term found.test found.first found.second in
        let is_if = if_parts_are b.0 found parts.1 in
        let at : literal_at k g.0 ≡ Some whole = subst (λ a. literal_at k g.0 ≡ Some a) is_if b.1 in
        let these = not_term found.test ∷ found.first ∷ [] in
        let rest = in_place k these g.0 in
        let same = some_same (distinct rest) c parts.2 in
        let d = stand l g.0 g.1 in
        subst (λ c. Derivable h (clause c)) same
        (split_first_law h found.test found.first found.second g.0 (distinct rest) d (literal_over k whole g.0 at (line_over g.0 d)) (subst (IsClause h) (sym same) over)
        (distinct_in (not_term found.test) rest (placed_in k whole (not_term found.test) these g.0 at (inl refl)))
        (distinct_in found.first rest (placed_in k whole found.first these g.0 at (inr (inl refl))))
        (one_replaced k whole these g.0 rest at (λ p m. m)))

    split_second_holds : (l k : ℕ) (c : Clause) → Concludes (SplitSecond l k) c
    split_second_holds l k c terms over e =
        let g = given_some (lines l) (λ c. given (literal_at k c) (λ a. given (if_parts a) (λ parts. Some (distinct (in_place k (parts.test ∷ parts.second ∷ []) c))))) c e in
        let b = given_some (literal_at k g.0) (λ a. given (if_parts a) (λ parts. Some (distinct (in_place k (parts.test ∷ parts.second ∷ []) g.0)))) c g.2 in
        let parts = given_some (if_parts b.0) (λ parts. Some (distinct (in_place k (parts.test ∷ parts.second ∷ []) g.0))) c b.2 in
        let found : IfParts = parts.0 in
        let whole = if_term found.test found.first found.second in
        let is_if = if_parts_are b.0 found parts.1 in
        let at : literal_at k g.0 ≡ Some whole = subst (λ a. literal_at k g.0 ≡ Some a) is_if b.1 in
        let these = found.test ∷ found.second ∷ [] in
        let rest = in_place k these g.0 in
        let same = some_same (distinct rest) c parts.2 in
        let d = stand l g.0 g.1 in
        subst (λ c. Derivable h (clause c)) same
        (split_second_law h found.test found.first found.second g.0 (distinct rest) d (literal_over k whole g.0 at (line_over g.0 d)) (subst (IsClause h) (sym same) over)
        (distinct_in found.test rest (placed_in k whole found.test these g.0 at (inl refl)))
        (distinct_in found.second rest (placed_in k whole found.second these g.0 at (inr (inl refl))))
        (one_replaced k whole these g.0 rest at (λ p m. m)))

    not_not_holds : (l k : ℕ) (c : Clause) → Concludes (NotNot l k) c
    not_not_holds l k c terms over e =
        let g = given_some (lines l) (λ c. given (literal_at k c) (λ a. given (under_two_nots a) (λ t. Some (distinct (in_place k (t ∷ []) c))))) c e in
        let b = given_some (literal_at k g.0) (λ a. given (under_two_nots a) (λ t. Some (distinct (in_place k (t ∷ []) g.0)))) c g.2 in
        let t = given_some (under_two_nots b.0) (λ t. Some (distinct (in_place k (t ∷ []) g.0))) c b.2 in
        let rest = in_place k (t.0 ∷ []) g.0 in
        let same = some_same (distinct rest) c t.2 in
        let twice = not_term (not_term t.0) in
        let at : literal_at k g.0 ≡ Some twice = subst (λ a. literal_at k g.0 ≡ Some a) (two_nots_are b.0 t.0 t.1) b.1 in
        subst (λ c. Derivable h (clause c)) same
        (double_negation_law h t.0 g.0 (distinct rest) (stand l g.0 g.1) (subst (IsClause h) (sym same) over)
        (distinct_in t.0 rest (placed_in k twice t.0 (t.0 ∷ []) g.0 at (inl refl))) (one_replaced k twice (t.0 ∷ []) g.0 rest at (λ p m. m)))

    induct_holds : (p m : Term) (o b : ℕ) (cases : List CaseLines) (c : Clause) → Concludes (Induct p m o b cases) c
    induct_holds p m o b cases c terms over e =
        let ordinal = has_only (lines o) (call1 "ORDINALP" m ∷ []) in
        let base = has_only (lines b) (case_tests cases ++ (p ∷ [])) in
        let steps = are_steps lines p m cases in
        let w = when_some (ordinal && base && steps) (p ∷ []) c e in
        let both = and_left (ordinal && base) steps w.0 in
        let op = terms.0 in
        let om = terms.1.0 in
        let rest = terms.1.1 in
        let base_over = each_append (IsTerm (symbols_of h)) (case_tests cases) (p ∷ []) (tests_over cases rest) (op, tt) in
        let base_holds = only_holds b (case_tests cases ++ (p ∷ [])) base_over (and_right ordinal base both) in
        subst (λ c. Derivable h (clause c)) w.1
        (induction_law h p m (cases_of cases) (only_holds o (call1 "ORDINALP" m ∷ []) ((ordinalp_symbol h, om), tt) (and_left ordinal base both))
        (subst (λ tests. Derivable h (clause (tests ++ (p ∷ [])))) (sym (tests_same cases)) base_holds)
        (steps_hold p m op om cases rest (and_right (ordinal && base) steps w.0)))

    pub rule_holds : LemmasHold h → (rule : Rule) (c : Clause) → is_basic rule ≡ true → Concludes rule c
    rule_holds lemmas (Taut ts) c basic = taut_holds ts c
    rule_holds lemmas (AxiomRow name row part) c basic = axiom_row_holds name row part c
    rule_holds lemmas (EventTerm name) c basic = λ terms over e.
        let g = given_some (event_term name h) (λ t. Some (t ∷ [])) c e in
        let same = some_same (g.0 ∷ []) c g.2 in
        let o = subst (IsClause h) (sym same) over in
        subst (λ c. Derivable h (clause c)) same (event_holds lemmas name h g.0 (λ x m. m) o.0 g.1)
    rule_holds lemmas (Weaken l ts) c basic = weaken_holds l ts c
    rule_holds lemmas (Cut l1 l2 t) c basic = cut_holds l1 l2 t c
    rule_holds lemmas (Instance l s) c basic = instance_holds l s c
    rule_holds lemmas (Reflexive t) c basic = λ terms over e. subst (λ c. Derivable h (clause c)) (some_same (equal_term t t ∷ []) c e) (reflexivity_law h t terms.0)
    rule_holds lemmas (Replace l k path t side) c basic = replace_holds l k path t side c
    rule_holds lemmas (Join l1 l2 p x y) c basic = join_holds l1 l2 p x y c
    rule_holds lemmas (SplitFirst l k) c basic = split_first_holds l k c
    rule_holds lemmas (SplitSecond l k) c basic = split_second_holds l k c
    rule_holds lemmas (NotNot l k) c basic = not_not_holds l k c
    rule_holds lemmas (Value t) c basic = absurd cc
    rule_holds lemmas (Linear summands) c basic = absurd cc
    rule_holds lemmas (Induct p m o b cases) c basic = induct_holds p m o b cases c

pub soundness_law : Soundness
soundness_law h lines rule c basic closed lemmas stand terms e = rule_holds h lines stand lemmas rule c basic terms (kept_symbols_law h lines rule c closed stand terms e) e
