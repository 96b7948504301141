-- The lines of a block that give its clauses, and those that wait for an induction.
use Rattle.std.specs.Prelude.{ℕ, zero, suc, pred, Bool, true, ◌&&◌, not, ◌==◌, if◌then◌else◌, List, [], ◌∷◌, ◌++◌, Option, Some, None}
use Rattle.nq_logtext.specs.Reading.{◌>>=◌}
use Rattle.nq_logtext.specs.Fields.{Field, number, name, path, sign}
use Rattle.nq_logtext.specs.declared.line.Sign.{Sign}
use Rattle.nq_logtext.specs.declared.line.Sign.TheVariants.{Plus, Minus}
use Rattle.nq_logic.specs.Terms.{Name, Term, Substitution}
use Rattle.nq_proof.specs.Clauses.{Clause}
use Rattle.nq_proof.specs.Rules.{Rule, Taut, AxiomRow, EventTerm, Weaken, Cut, Instance, Reflexive, Replace, Join, SplitFirst, SplitSecond, NotNot, Value, Linear, Induct, Side, Forwards, Backwards, Hypothesis, CaseLines, Summand, conclusion, rule_terms}
use Rattle.nq_logic.specs.Admissible.{mentions}
use Rattle.nq_log.specs.Sizes.{are_shallow}
use Rattle.nq_log.specs.States.{is_empty, CaseLine, CaseOf, HypothesisOf, Block, State, term_at, terms_at, variable_at, clause_at, has_line, has_term_at, only_when}
use Rattle.nq_log.specs.Fields.{numbers_in, pairs_in, Multiple, multiples_in}

abbrev pub with_clause : Block → Clause → Block
with_clause block c = record block { lines = block.lines ++ (Some c ∷ []) }

-- the variables that these numbers name, each with its term
abbrev pub substitution_at : Block → List (ℕ × ℕ) → Option Substitution
substitution_at block [] = Some []
substitution_at block (pair ∷ pairs) =
    variable_at block pair.0 >>= λ x. term_at block pair.1 >>= λ t. substitution_at block pairs >>= λ s. Some ((x, t) ∷ s)

abbrev pub side_of : Sign → Side
side_of Plus = Forwards
side_of Minus = Backwards

abbrev pub summands_at : Block → List Multiple → Option (List Summand)
summands_at block [] = Some []
summands_at block (m ∷ rest) =
    term_at block m.term >>= λ t. summands_at block rest >>= λ summands. Some (record { factor = m.factor; literal = t; side = side_of m.sign } ∷ summands)

-- the hypotheses before the first case, and the cases with their own
abbrev pub grouped : Block → List CaseLine → Option (List Hypothesis × List CaseLines)
grouped block [] = Some ([], [])
grouped block (CaseOf q l ∷ rest) =
    term_at block q >>= λ test. grouped block rest >>= λ g. Some ([], record { test = test; step = l; hypotheses = g.0 } ∷ g.1)
grouped block (HypothesisOf r pairs ∷ rest) =
    substitution_at block pairs >>= λ s. grouped block rest >>= λ g. Some (record { line = r; pairs = s } ∷ g.0, g.1)

-- the cases, where each hypothesis stands after a case
abbrev pub cases_at : Block → List CaseLine → Option (List CaseLines)
cases_at block lines = grouped block lines >>= λ g. only_when (is_empty g.0) g.1

-- TAUT t1 ... tk
abbrev pub taut_rule : Block → List Field → Option Rule
taut_rule block fields = numbers_in fields >>= λ ns. terms_at block ns >>= λ ts. Some (Taut ts)

-- AXIOM name row i
abbrev pub axiom_rule : List Field → Option Rule
axiom_rule (name n ∷ number row ∷ number i ∷ []) = Some (AxiomRow n row i)
axiom_rule fields = None

-- EVENT name
abbrev pub event_rule : List Field → Option Rule
event_rule (name n ∷ []) = Some (EventTerm n)
event_rule fields = None

-- WEAKEN l t1 ... tk
abbrev pub weaken_rule : Block → List Field → Option Rule
weaken_rule block (number l ∷ fields) = numbers_in fields >>= λ ns. terms_at block ns >>= λ ts. Some (Weaken l ts)
weaken_rule block fields = None

-- CUT l1 l2 t
abbrev pub cut_rule : Block → List Field → Option Rule
cut_rule block (number l ∷ number m ∷ number t ∷ []) = term_at block t >>= λ t. Some (Cut l m t)
cut_rule block fields = None

-- INST l v1 t1 ... vk tk, each v the number of a variable
abbrev pub instance_rule : Block → List Field → Option Rule
instance_rule block (number l ∷ fields) = pairs_in fields >>= λ pairs. substitution_at block pairs >>= λ s. Some (Instance l s)
instance_rule block fields = None

-- REFL t
abbrev pub reflexive_rule : Block → List Field → Option Rule
reflexive_rule block (number t ∷ []) = term_at block t >>= λ t. Some (Reflexive t)
reflexive_rule block fields = None

-- REPLACE l k p t s
abbrev pub replace_rule : Block → List Field → Option Rule
replace_rule block (number l ∷ number k ∷ path p ∷ number t ∷ sign s ∷ []) = term_at block t >>= λ t. Some (Replace l k p t (side_of s))
replace_rule block fields = None

-- JOIN l1 l2 p x y
abbrev pub join_rule : Block → List Field → Option Rule
join_rule block (number l ∷ number m ∷ number p ∷ number x ∷ number y ∷ []) =
    term_at block p >>= λ p. term_at block x >>= λ x. term_at block y >>= λ y. Some (Join l m p x y)
join_rule block fields = None

-- SPLIT l k s, s 1 or 2
abbrev pub split_side : ℕ → ℕ → ℕ → Option Rule
split_side l k s = if s == 1 then Some (SplitFirst l k) else (if s == 2 then Some (SplitSecond l k) else None)

abbrev pub split_rule : List Field → Option Rule
split_rule (number l ∷ number k ∷ number s ∷ []) = split_side l k s
split_rule fields = None

-- NOTNOT l k
abbrev pub not_not_rule : List Field → Option Rule
not_not_rule (number l ∷ number k ∷ []) = Some (NotNot l k)
not_not_rule fields = None

-- VALUE t
abbrev pub value_rule : Block → List Field → Option Rule
value_rule block (number t ∷ []) = term_at block t >>= λ t. Some (Value t)
value_rule block fields = None

-- LINEAR m1 t1 s1 ... mk tk sk
abbrev pub linear_rule : Block → List Field → Option Rule
linear_rule block fields = multiples_in fields >>= λ ms. summands_at block ms >>= λ summands. Some (Linear summands)

-- INDUCT p m o b, with the CASE and HYP lines before it
abbrev pub induct_rule : Block → List Field → Option Rule
induct_rule block (number p ∷ number m ∷ number o ∷ number b ∷ []) =
    term_at block p >>= λ p. term_at block m >>= λ m. cases_at block block.cases >>= λ cases. Some (Induct p m o b cases)
induct_rule block fields = None

-- whether none of the terms has the function that the block introduces
abbrev pub is_without : Option (Name × ℕ) → Term → Bool
is_without None t = true
is_without (Some s) t = not (mentions s.0 t)

abbrev pub are_without : Option (Name × ℕ) → List Term → Bool
are_without introduced [] = true
are_without introduced (t ∷ ts) = is_without introduced t && are_without introduced ts

-- the block with the rule's clause as a line; the rule uses no term with the function that the block introduces
abbrev pub rule_line : State → Option Rule → Option Block
rule_line s rule =
    rule >>= λ rule. only_when (are_without s.block.introduced (rule_terms rule)) rule >>= λ rule.
    conclusion s.history (clause_at s.block) rule >>= λ c. only_when (are_shallow c) (with_clause s.block c)

-- an induction uses up the lines that wait for it
abbrev pub induct_line : State → List Field → Option Block
induct_line s fields = rule_line s (induct_rule s.block fields) >>= λ block. Some (record block { cases = [] })

-- the lines, of which the one at place k, counted from 0, is dropped
abbrev pub dropped : List (Option (List Term)) → ℕ → List (Option (List Term))
dropped [] k = []
dropped (c ∷ lines) zero = None ∷ lines
dropped (c ∷ lines) (suc k) = c ∷ dropped lines k

-- DROP l: the line stands, and its use ends
abbrev pub drop_line : State → List Field → Option Block
drop_line s (number l ∷ []) = clause_at s.block l >>= λ c. Some (record s.block { lines = dropped s.block.lines (pred l) })
drop_line s fields = None

abbrev pub with_case : Block → CaseLine → Block
with_case block line = record block { cases = block.cases ++ (line ∷ []) }

-- CASE q l: the numbers stand; an INDUCT judges the rest
abbrev pub case_line : State → List Field → Option Block
case_line s (number q ∷ number l ∷ []) = only_when (has_term_at s.block q && has_line s.block l) (with_case s.block (CaseOf q l))
case_line s fields = None

abbrev pub have_terms : Block → List (ℕ × ℕ) → Bool
have_terms block [] = true
have_terms block (pair ∷ pairs) = has_term_at block pair.0 && has_term_at block pair.1 && have_terms block pairs

-- HYP r v1 t1 ... vk tk: the numbers stand; an INDUCT judges the rest
abbrev pub hypothesis_line : State → List Field → Option Block
hypothesis_line s (number r ∷ fields) =
    pairs_in fields >>= λ pairs. only_when (has_line s.block r && have_terms s.block pairs) (with_case s.block (HypothesisOf r pairs))
hypothesis_line s fields = None
