-- The rules of the log, and the clause that each gives.
use Rattle.std.specs.Prelude.{ℕ, pos, ◌^◌, nat_lt, Bool, true, false, ◌&&◌, not, List, [], ◌∷◌, ◌++◌, map, Option, Some, None, bytes_eq}
use Rattle.nq_logic.specs.Terms.{Name, Term, Substitution, substituted}
use Rattle.nq_logic.specs.Words.{call1, call2, not_term, if_term, equal_term}
use Rattle.nq_logic.specs.Histories.{History, AddShell, Declaration, Defines, Axiom, Lemma, Toggle}
use Rattle.nq_logic.specs.Names.{has_name}
use Rattle.nq_logic.specs.Laws.{denied}
use Rattle.nq_proof.specs.Clauses.{Clause, is_within, without, distinct, has_opposite, literal_at, in_place}
use Rattle.nq_proof.specs.Paths.{replaced_at, if_parts, under_two_nots}
use Rattle.nq_proof.specs.Values.{value_of}
use Rattle.nq_proof.specs.Linear.{Form, and_then, constant_form, scaled, sum_form, expression_of, is_negative}
use Rattle.nq_proof.specs.Rows.{axiom_clause}

-- in which order an equation is read
pub data Side : Type 0 where
  Forwards : Side
  Backwards : Side

-- the instance at which a case of an induction uses its claim, and the line that shows that the measure falls there
pub record Hypothesis : Type 0 where
  pub line : ℕ
  pub pairs : List (List ℕ × Term)

pub record CaseLines : Type 0 where
  pub test : Term
  pub step : ℕ
  pub hypotheses : List Hypothesis

-- a literal with its factor in a linear sum
pub record Summand : Type 0 where
  pub factor : ℕ
  pub literal : Term
  pub side : Side

-- A rule line of the log, in the order of the table of rules; SPLIT stands for its two sides. A line is cited by its
-- number, and a literal of it by its place from 1.
pub data Rule : Type 0 where
  Taut : (terms : List Term) → Rule
  AxiomRow : (name : List ℕ) (row part : ℕ) → Rule
  EventTerm : (name : List ℕ) → Rule
  Weaken : (line : ℕ) (terms : List Term) → Rule
  Cut : (first second : ℕ) (term : Term) → Rule
  Instance : (line : ℕ) (pairs : List (List ℕ × Term)) → Rule
  Reflexive : (term : Term) → Rule
  Replace : (line literal : ℕ) (path : List ℕ) (term : Term) (side : Side) → Rule
  Join : (first second : ℕ) (test left right : Term) → Rule
  SplitFirst : (line literal : ℕ) → Rule
  SplitSecond : (line literal : ℕ) → Rule
  NotNot : (line literal : ℕ) → Rule
  Value : (term : Term) → Rule
  Linear : (summands : List Summand) → Rule
  Induct : (claim measure : Term) (ordinal base : ℕ) (cases : List CaseLines) → Rule

-- what stands under a name in a history as the term of an axiom or lemma
abbrev pub term_if : Bool → Term → Option Term → Option Term
term_if true t other = Some t
term_if false t other = other

abbrev pub event_term : Name → History → Option Term
event_term name [] = None
event_term name (Axiom n classes t ∷ h) = term_if (bytes_eq name n) t (event_term name h)
event_term name (Lemma n classes t ∷ h) = term_if (bytes_eq name n) t (event_term name h)
event_term name (AddShell s ∷ h) = event_term name h
event_term name (Declaration f n ∷ h) = event_term name h
event_term name (Defines d ∷ h) = event_term name h
event_term name (Toggle n old disabled ∷ h) = event_term name h

abbrev pub are_distinct : List Name → Bool
are_distinct [] = true
are_distinct (x ∷ xs) = not (has_name x xs) && are_distinct xs

-- whether these are distinct variables, each with its term
abbrev pub is_substitution : Substitution → Bool
is_substitution s = are_distinct (map (λ pair. pair.0) s)

-- the clause, where the condition holds
abbrev pub when : Bool → Clause → Option Clause
when true c = Some c
when false c = None

-- what comes of a thing that may be missing
abbrev pub given : {X : Type 0} → Option X → (X → Option Clause) → Option Clause
given None next = None
given (Some x) next = next x

-- the equation that a replacement leaves as a literal
abbrev pub used_equation : Side → Term → Term → Term
used_equation Forwards u t = not_term (equal_term u t)
used_equation Backwards u t = not_term (equal_term t u)

abbrev pub is_forwards : Side → Bool
is_forwards Forwards = true
is_forwards Backwards = false

-- whether a literal's factor is from 1 to 2^63 - 1
abbrev pub is_factor : ℕ → Bool
is_factor m = nat_lt 0 m && nat_lt m (2 ^ 63)

-- the sum so far with the literals' expressions, each so many times
abbrev pub sum_of_summands : Option Form → List Summand → Option Form
sum_of_summands sum [] = sum
sum_of_summands sum (s ∷ rest) =
    sum_of_summands (sum_form sum (and_then (expression_of (is_forwards s.side) s.literal) (λ e. scaled (pos s.factor) e))) rest

abbrev pub are_factors : List Summand → Bool
are_factors [] = true
are_factors (s ∷ rest) = is_factor s.factor && are_factors rest

-- the literals cannot all be false, since their expressions' sum is negative
abbrev pub is_refuted : List Summand → Bool
is_refuted summands = are_factors summands && is_negative (sum_of_summands (constant_form (pos 0)) summands)

-- whether the line stands and has only these literals
abbrev pub has_only : Option Clause → List Term → Bool
has_only None these = false
has_only (Some c) these = is_within c these

abbrev pub case_tests : List CaseLines → List Term
case_tests [] = []
case_tests (c ∷ cases) = c.test ∷ case_tests cases

abbrev pub case_substitutions : List Hypothesis → List Substitution
case_substitutions [] = []
case_substitutions (s ∷ rest) = s.pairs ∷ case_substitutions rest

-- at each instance the measure falls, where the test holds
abbrev pub are_falls : (ℕ → Option Clause) → Term → Term → List Hypothesis → Bool
are_falls lines m test [] = true
are_falls lines m test (s ∷ rest) =
    is_substitution s.pairs
    && has_only (lines s.line) (not_term test ∷ call2 "ORD-LESSP" (substituted s.pairs m) m ∷ [])
    && are_falls lines m test rest

abbrev pub are_steps : (ℕ → Option Clause) → Term → Term → List CaseLines → Bool
are_steps lines p m [] = true
are_steps lines p m (c ∷ cases) =
    has_only (lines c.step) (not_term c.test ∷ (denied p (case_substitutions c.hypotheses) ++ (p ∷ [])))
    && are_falls lines m c.test c.hypotheses
    && are_steps lines p m cases

-- The clause of a rule in a history, after lines of which each may stand with its clause; none where the rule is not
-- allowed. A clause has no later copy of a literal. Above each row stand the words of the log's table.
abbrev pub conclusion : History → (ℕ → Option Clause) → Rule → Option Clause
-- TAUT t1 ... tk: these terms; some t and (NOT t) are among them
conclusion h lines (Taut ts) = when (has_opposite ts ts) (distinct ts)
-- AXIOM name row i: the clause of the tables of axioms; i is 0 where there is none
conclusion h lines (AxiomRow name row part) = given (axiom_clause h name row part) (λ c. Some (distinct c))
-- EVENT name: the term of that axiom or lemma
conclusion h lines (EventTerm name) = given (event_term name h) (λ t. Some (t ∷ []))
-- WEAKEN l t1 ... tk: l and then the terms
conclusion h lines (Weaken l ts) = given (lines l) (λ c. Some (distinct (c ++ ts)))
-- CUT l1 l2 t: l1 without t, and then l2 without (NOT t)
conclusion h lines (Cut l1 l2 t) = given (lines l1) (λ c1. given (lines l2) (λ c2. Some (distinct (without t c1 ++ without (not_term t) c2))))
-- INST l v1 t1 ... vk tk: l with all the variables replaced at once; the v are distinct variables
conclusion h lines (Instance l s) = given (lines l) (λ c. when (is_substitution s) (distinct (map (substituted s) c)))
-- REFL t: (EQUAL t t)
conclusion h lines (Reflexive t) = Some (equal_term t t ∷ [])
-- REPLACE l k p t s: literal k, from 1, has t at the path p instead of u; then (NOT (EQUAL u t)) forwards, (NOT (EQUAL t u))
-- backwards; a numeral has no argument places
conclusion h lines (Replace l k path t side) =
    given (lines l) (λ c. given (literal_at k c) (λ a. given (replaced_at path t a) (λ change.
    Some (distinct (in_place k (change.1 ∷ []) c ++ (used_equation side change.0 t ∷ []))))))
-- JOIN l1 l2 p x y: l1 without (NOT p) and x, l2 without p and y, and then (IF p x y)
conclusion h lines (Join l1 l2 p x y) =
    given (lines l1) (λ c1. given (lines l2) (λ c2.
    Some (distinct (without (not_term p) (without x c1) ++ (without p (without y c2) ++ (if_term p x y ∷ []))))))
-- SPLIT l k 1: literal k is (IF p x y); (NOT p), x stand in its place
conclusion h lines (SplitFirst l k) =
    given (lines l) (λ c. given (literal_at k c) (λ a. given (if_parts a) (λ parts. Some (distinct (in_place k (not_term parts.test ∷ parts.first ∷ []) c)))))
-- SPLIT l k 2: p, y stand in its place
conclusion h lines (SplitSecond l k) =
    given (lines l) (λ c. given (literal_at k c) (λ a. given (if_parts a) (λ parts. Some (distinct (in_place k (parts.test ∷ parts.second ∷ []) c)))))
-- NOTNOT l k: literal k is (NOT (NOT t)); t stands in its place
conclusion h lines (NotNot l k) =
    given (lines l) (λ c. given (literal_at k c) (λ a. given (under_two_nots a) (λ t. Some (distinct (in_place k (t ∷ []) c)))))
-- VALUE t: (EQUAL t v); t is a call on values, and v its value by the table of values
conclusion h lines (Value t) = given (value_of t) (λ v. Some (equal_term t v ∷ []))
-- LINEAR m1 t1 s1 ... mk tk sk: the terms; their expressions, so many times each, have a negative sum
conclusion h lines (Linear summands) = when (is_refuted summands) (distinct (map (λ s. s.literal) summands))
-- INDUCT p m o b: p; line o has only (ORDINALP m), line b only the cases' tests and p, and each case's lines are right
conclusion h lines (Induct p m o b cases) =
    when (has_only (lines o) (call1 "ORDINALP" m ∷ []) && has_only (lines b) (case_tests cases ++ (p ∷ [])) && are_steps lines p m cases) (p ∷ [])

abbrev pub pair_terms : Substitution → List Term
pair_terms s = map (λ pair. pair.1) s

abbrev pub hypothesis_terms : List Hypothesis → List Term
hypothesis_terms [] = []
hypothesis_terms (s ∷ rest) = pair_terms s.pairs ++ hypothesis_terms rest

abbrev pub case_terms : List CaseLines → List Term
case_terms [] = []
case_terms (c ∷ cases) = c.test ∷ (hypothesis_terms c.hypotheses ++ case_terms cases)

-- the terms that a rule line names
abbrev pub rule_terms : Rule → List Term
rule_terms (Taut ts) = ts
rule_terms (AxiomRow name row part) = []
rule_terms (EventTerm name) = []
rule_terms (Weaken l ts) = ts
rule_terms (Cut l1 l2 t) = t ∷ []
rule_terms (Instance l s) = pair_terms s
rule_terms (Reflexive t) = t ∷ []
rule_terms (Replace l k path t side) = t ∷ []
rule_terms (Join l1 l2 p x y) = p ∷ x ∷ y ∷ []
rule_terms (SplitFirst l k) = []
rule_terms (SplitSecond l k) = []
rule_terms (NotNot l k) = []
rule_terms (Value t) = t ∷ []
rule_terms (Linear summands) = map (λ s. s.literal) summands
rule_terms (Induct p m o b cases) = p ∷ m ∷ case_terms cases

-- whether the rule rests on no table of arithmetic
abbrev pub is_basic : Rule → Bool
is_basic (Value t) = false
is_basic (Linear summands) = false
is_basic rule = true
