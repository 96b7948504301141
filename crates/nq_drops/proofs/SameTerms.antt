-- What a line names besides lines is the same where other lines stand.
use Rattle.std.proofs.Common.{◌≡◌, ℕ, ◌&&◌, ◌++◌, Option, Some, List, [], ◌∷◌, refl, sym, ap, ◌∙◌}
use Rattle.std.specs.Prelude.{is_some}
use Rattle.nq_logtext.specs.Reading.{◌>>=◌}
use Rattle.nq_logtext.specs.Fields.{Field, number, path, sign}
use Rattle.nq_logic.specs.Terms.{Term, Substitution}
use Rattle.nq_proof.specs.Clauses.{Clause}
use Rattle.nq_proof.specs.Rules.{Taut, Weaken, Instance, Linear, Induct, Hypothesis, CaseLines}
use Rattle.nq_log.specs.States.{CaseLine, CaseOf, HypothesisOf, Block, is_empty, only_when, term_at, terms_at, variable_at, variables_at}
use Rattle.nq_log.specs.Fields.{numbers_in, pairs_in, Multiple, multiples_in}
use Rattle.nq_log.specs.RuleLines.{side_of, substitution_at, summands_at, grouped, taut_rule, weaken_rule, cut_rule, instance_rule, reflexive_rule, replace_rule, join_rule, value_rule, linear_rule, induct_rule, have_terms}
use Rattle.nq_log.proofs.Options.{nothing_found, found_same, bound}
use Rattle.nq_drops.proofs.Cited.{hypotheses_cited, cases_cited}

-- the block with other lines
abbrev pub with_lines : Block → List (Option Clause) → Block
with_lines block lines = record block { lines = lines }

module _ (block : Block) (lines : List (Option Clause)) where
  abbrev other : Block
  other = with_lines block lines

  pub terms_same : (ns : List ℕ) → terms_at other ns ≡ terms_at block ns
  terms_same [] = refl
  terms_same (n ∷ ns) = λ i. term_at block n >>= λ t. terms_same ns i >>= λ ts. Some (t ∷ ts)

  pub variables_same : (ns : List ℕ) → variables_at other ns ≡ variables_at block ns
  variables_same [] = refl
  variables_same (n ∷ ns) = λ i. variable_at block n >>= λ x. variables_same ns i >>= λ xs. Some (x ∷ xs)

  pub have_terms_same : (pairs : List (ℕ × ℕ)) → have_terms other pairs ≡ have_terms block pairs
  have_terms_same [] = refl
  have_terms_same (pair ∷ pairs) = λ i. is_some (term_at block pair.0) && is_some (term_at block pair.1) && have_terms_same pairs i

  substitution_same : (pairs : List (ℕ × ℕ)) → substitution_at other pairs ≡ substitution_at block pairs
  substitution_same [] = refl
  substitution_same (pair ∷ pairs) = λ i. variable_at block pair.0 >>= λ x. term_at block pair.1 >>= λ t. substitution_same pairs i >>= λ s. Some ((x, t) ∷ s)

  summands_same : (ms : List Multiple) → summands_at other ms ≡ summands_at block ms
  summands_same [] = refl
  summands_same (m ∷ ms) = λ i. term_at block m.term >>= λ t. summands_same ms i >>= λ summands. Some (record { factor = m.factor; literal = t; side = side_of m.sign } ∷ summands)

  grouped_same : (waiting : List CaseLine) → grouped other waiting ≡ grouped block waiting
  grouped_same [] = refl
  grouped_same (CaseOf q l ∷ rest) = λ i. term_at block q >>= λ test. grouped_same rest i >>= λ g. Some ([], record { test = test; step = l; hypotheses = g.0 } ∷ g.1)
  grouped_same (HypothesisOf r pairs ∷ rest) = λ i. substitution_same pairs i >>= λ s. grouped_same rest i >>= λ g. Some (record { line = r; pairs = s } ∷ g.0, g.1)

  pub taut_same : (fields : List Field) → taut_rule other fields ≡ taut_rule block fields
  taut_same fields = λ i. numbers_in fields >>= λ ns. terms_same ns i >>= λ ts. Some (Taut ts)

  pub weaken_same : (fields : List Field) → weaken_rule other fields ≡ weaken_rule block fields
  weaken_same (number l ∷ fields) = λ i. numbers_in fields >>= λ ns. terms_same ns i >>= λ ts. Some (Weaken l ts)
  weaken_same fields = refl

  pub cut_same : (fields : List Field) → cut_rule other fields ≡ cut_rule block fields
  cut_same (number l ∷ number m ∷ number t ∷ []) = refl
  cut_same fields = refl

  pub instance_same : (fields : List Field) → instance_rule other fields ≡ instance_rule block fields
  instance_same (number l ∷ fields) = λ i. pairs_in fields >>= λ pairs. substitution_same pairs i >>= λ s. Some (Instance l s)
  instance_same fields = refl

  pub reflexive_same : (fields : List Field) → reflexive_rule other fields ≡ reflexive_rule block fields
  reflexive_same (number t ∷ []) = refl
  reflexive_same fields = refl

  pub replace_same : (fields : List Field) → replace_rule other fields ≡ replace_rule block fields
  replace_same (number l ∷ number k ∷ path p ∷ number t ∷ sign s ∷ []) = refl
  replace_same fields = refl

  pub join_same : (fields : List Field) → join_rule other fields ≡ join_rule block fields
  join_same (number l ∷ number m ∷ number p ∷ number x ∷ number y ∷ []) = refl
  join_same fields = refl

  pub value_same : (fields : List Field) → value_rule other fields ≡ value_rule block fields
  value_same (number t ∷ []) = refl
  value_same fields = refl

  pub linear_same : (fields : List Field) → linear_rule other fields ≡ linear_rule block fields
  linear_same fields = λ i. multiples_in fields >>= λ ms. summands_same ms i >>= λ summands. Some (Linear summands)

  pub induct_same : (fields : List Field) → induct_rule other fields ≡ induct_rule block fields
  induct_same (number p ∷ number m ∷ number o ∷ number b ∷ []) = λ i.
      term_at block p >>= λ p. term_at block m >>= λ m. (grouped_same block.cases i >>= λ g. only_when (is_empty g.0) g.1) >>= λ cases. Some (Induct p m o b cases)
  induct_same fields = refl

-- ---- the lines that lines which wait cite

abbrev pub case_cited : CaseLine → ℕ
case_cited (CaseOf q l) = l
case_cited (HypothesisOf r pairs) = r

abbrev pub waiting_cited : List CaseLine → List ℕ
waiting_cited [] = []
waiting_cited (line ∷ waiting) = case_cited line ∷ waiting_cited waiting

abbrev Grouped : Type 0
Grouped = List Hypothesis × List CaseLines

abbrev group_cited : List Hypothesis × List CaseLines → List ℕ
group_cited g = hypotheses_cited g.0 ++ cases_cited g.1

grouped_cited : (block : Block) (waiting : List CaseLine) (g : List Hypothesis × List CaseLines) → grouped block waiting ≡ Some g → group_cited g ≡ waiting_cited waiting
grouped_cited block [] g e = ap group_cited (sym (found_same ([], []) g e))
grouped_cited block (CaseOf q l ∷ rest) g e =
    let new = λ (t : Term) (g : List Hypothesis × List CaseLines). let c : CaseLines = record { test = t; step = l; hypotheses = g.0 } in let r : List Hypothesis × List CaseLines = ([], c ∷ g.1) in r in
    let a = bound (term_at block q) (λ t. grouped block rest >>= λ g. Some (new t g)) g e in
    let b = bound (grouped block rest) (λ g. Some (new a.0 g)) g a.2 in
    ap group_cited (sym (found_same (new a.0 b.0) g b.2)) ∙ ap (λ ls. l ∷ ls) (grouped_cited block rest b.0 b.1)
grouped_cited block (HypothesisOf r pairs ∷ rest) g e =
    let new = λ (sub : Substitution) (g : List Hypothesis × List CaseLines). let x : Hypothesis = record { line = r; pairs = sub } in let r : List Hypothesis × List CaseLines = (x ∷ g.0, g.1) in r in
    let a = bound (substitution_at block pairs) (λ sub. grouped block rest >>= λ g. Some (new sub g)) g e in
    let b = bound (grouped block rest) (λ g. Some (new a.0 g)) g a.2 in
    ap group_cited (sym (found_same (new a.0 b.0) g b.2)) ∙ ap (λ ls. r ∷ ls) (grouped_cited block rest b.0 b.1)

pub cases_at_cited : (block : Block) (waiting : List CaseLine) (cases : List CaseLines) → (grouped block waiting >>= λ g. only_when (is_empty g.0) g.1) ≡ Some cases → cases_cited cases ≡ waiting_cited waiting
cases_at_cited block waiting cases e =
    let a = bound (grouped block waiting) (λ g. only_when (is_empty g.0) g.1) cases e in
    by_group a.0.0 a.0.1 a.2 ∙ grouped_cited block waiting a.0 a.1
  where
    by_group : (hs : List Hypothesis) (cs : List CaseLines) → only_when (is_empty hs) cs ≡ Some cases → cases_cited cases ≡ hypotheses_cited hs ++ cases_cited cs
    by_group [] cs f = ap cases_cited (sym (found_same cs cases f))
    by_group (h ∷ hs) cs f = absurd (nothing_found cases f)
