-- The rule lines of a law, with terms in the places that they name.
use Rattle.std.specs.Prelude.{ℕ, zero, suc, Bool, ◌&&◌, nat_lt, List, [], map, get_or}
use Rattle.std.specs.List.{list_all}
use Rattle.nq_logic.specs.Terms.{Name, Term, Function}
use Rattle.nq_bank.specs.Soundness.{ground_text}
use Rattle.nq_proof.specs.Rules as tree
use Rattle.nq_rule.specs.Sides.{side_of}
use Rattle.nq_replay.specs.declared.table.LawPair.{LawPair}
use Rattle.nq_replay.specs.declared.table.LawHypothesis.{LawHypothesis}
use Rattle.nq_replay.specs.declared.table.LawCase.{LawCase}
use Rattle.nq_replay.specs.declared.table.LawRule.{LawRule}
use Rattle.nq_replay.specs.declared.table.LawRule.TheVariants.{Taut, AxiomRow, Cut, Instance, Reflexive, Replace, Induct}

-- the variable at a place
abbrev pub name_in : List Name → ℕ → Name
name_in xs n = get_or xs n []

-- the term at a place
abbrev pub term_in : List Term → ℕ → Term
term_in ts n = get_or ts n (Function [])

abbrev pub terms_in : List Term → List ℕ → List Term
terms_in ts places = map (term_in ts) places

abbrev pub pair_in : List Name → List Term → LawPair → List ℕ × Term
pair_in xs ts p = (name_in xs p.name, term_in ts p.term)

abbrev pub pairs_in : List Name → List Term → List LawPair → List (List ℕ × Term)
pairs_in xs ts pairs = map (pair_in xs ts) pairs

abbrev pub hypothesis_in : List Name → List Term → LawHypothesis → tree.Hypothesis
hypothesis_in xs ts s = record { line = s.line; pairs = pairs_in xs ts s.pairs.now }

abbrev pub hypotheses_in : List Name → List Term → List LawHypothesis → List tree.Hypothesis
hypotheses_in xs ts steps = map (hypothesis_in xs ts) steps

abbrev pub case_in : List Name → List Term → LawCase → tree.CaseLines
case_in xs ts c = record { test = term_in ts c.test; step = c.line; hypotheses = hypotheses_in xs ts c.steps.now }

abbrev pub cases_in : List Name → List Term → List LawCase → List tree.CaseLines
cases_in xs ts cases = map (case_in xs ts) cases

-- the rule, with terms in the places that it names
abbrev pub rule_in : List Name → List Term → LawRule → tree.Rule
rule_in xs ts (Taut places) = tree.Taut (terms_in ts places.now)
rule_in xs ts (AxiomRow f row part) = tree.AxiomRow (ground_text f) row part
rule_in xs ts (Cut first second place) = tree.Cut first second (term_in ts place)
rule_in xs ts (Instance line pairs) = tree.Instance line (pairs_in xs ts pairs.now)
rule_in xs ts (Reflexive place) = tree.Reflexive (term_in ts place)
rule_in xs ts (Replace line literal path place side) = tree.Replace line literal path.now (term_in ts place) (side_of side)
rule_in xs ts (Induct claim measure ordinal base cases) = tree.Induct (term_in ts claim) (term_in ts measure) ordinal base (cases_in xs ts cases.now)

-- whether a place is one of so many
abbrev pub are_places : ℕ → List ℕ → Bool
are_places n places = list_all (λ place. nat_lt place n) places

abbrev pub is_pair : ℕ → ℕ → LawPair → Bool
is_pair k n p = nat_lt p.name k && nat_lt p.term n

abbrev pub are_pairs : ℕ → ℕ → List LawPair → Bool
are_pairs k n pairs = list_all (is_pair k n) pairs

abbrev pub are_hypotheses : ℕ → ℕ → List LawHypothesis → Bool
are_hypotheses k n steps = list_all (λ s. are_pairs k n s.pairs.now) steps

abbrev pub are_cases : ℕ → ℕ → List LawCase → Bool
are_cases k n cases = list_all (λ c. nat_lt c.test n && are_hypotheses k n c.steps.now) cases

-- whether the rule names one of so many variables, and of so many terms, at each place
abbrev pub is_in_range : ℕ → ℕ → LawRule → Bool
is_in_range k n (Taut places) = are_places n places.now
is_in_range k n (AxiomRow f row part) = nat_lt f.0 48
is_in_range k n (Cut first second place) = nat_lt place n
is_in_range k n (Instance line pairs) = are_pairs k n pairs.now
is_in_range k n (Reflexive place) = nat_lt place n
is_in_range k n (Replace line literal path place side) = nat_lt place n
is_in_range k n (Induct claim measure ordinal base cases) = nat_lt claim n && nat_lt measure n && are_cases k n cases.now

-- the number under which line n, counted from 1, stands
abbrev pub number_in : List ℕ → ℕ → ℕ
number_in numbers zero = 0
number_in numbers (suc k) = get_or numbers k 0
