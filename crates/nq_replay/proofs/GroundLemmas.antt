-- What a rule gives in every history.
use Rattle.std.proofs.Common.{◌≡◌, ◌≤◌, ◌∙◌, ℕ, zero, suc, ◌==◌, Bool, true, false, List, [], ◌∷◌, ◌++◌, ◌&&◌, ◌⊎◌, length, inl, inr, refl, sym, ap, ap₂, subst}
use Rattle.std.specs.Prelude.{Option, Some, None, bytes_eq, not, nat_le}
use Rattle.std.specs.List.{list_all}
use Rattle.std.proofs.lemmas.Bool.{leb-true}
use Rattle.nq_logic.specs.Terms.{Name, Term, Variable, Function, Applied, IsTerm, Each}
use Rattle.nq_logic.specs.Histories.{History, Definition, Shell, events_definitions, events_shells}
use Rattle.nq_logic.specs.Ground.{symbols_of, ground_definitions, ground_shells}
use Rattle.nq_logic.specs.Names.{has_name, constant_names}
use Rattle.nq_logic.specs.Sizes.{depth_of, depth_limit}
use Rattle.nq_logtext.specs.Symbols.{is_symbol}
use Rattle.nq_logic.proofs.Additions.{all_symbols_grow, takes_grows}
use Rattle.nq_proof.specs.Clauses.{Clause, distinct}
use Rattle.nq_proof.specs.Rows.{first_found, ground_rows, row_found, definition_found, opening, opening_at, without_part, shell_found, shell_row, shell_clause_at, axiom_clause}
use Rattle.nq_proof.specs.Rules as tree
use Rattle.nq_proof.specs.Rules.{conclusion, given, rule_terms, Hypothesis, CaseLines, hypothesis_terms, case_terms, pair_terms}
use Rattle.nq_proof.specs.Laws.{renumbered, renumbered_hypotheses, renumbered_cases}
use Rattle.nq_proof.specs.Logs.{are_terms}
use Rattle.nq_proof.proofs.Tests.{and_left, and_right, chosen_some, none_is_not_some, some_same}
use Rattle.nq_proof.proofs.TermTests.{are_terms_is}
use Rattle.nq_proof.proofs.Monotone.{more_lines_law}
use Rattle.nq_proof.proofs.Renumbered.{renumbered_law}
use Rattle.nq_kernel.specs.Over.{IsVariable, VariablesAre, IsTermOf, RuleIsOver, pair_names, hypothesis_names, case_names, replaced_names}
use Rattle.nq_replay.specs.declared.table.LawRule.{LawRule}
use Rattle.nq_replay.specs.Tables.{rule_in, is_in_range, number_in}
use Rattle.nq_replay.specs.Replaying.{beyond_openings, ground_axiom, ground_conclusion, is_spelled, has_spelled, is_spoken, are_low, if_low, line_in, law_line}

definition_more : (name : Name) (ds more : List Definition) (d : Definition) → definition_found name ds ≡ Some d → definition_found name (ds ++ more) ≡ Some d
definition_more name [] more d e = absurd (none_is_not_some d e)
definition_more name (x ∷ ds) more d e = by_test (definition_more name ds more d) (bytes_eq name x.function) e
  where
    by_test : (definition_found name ds ≡ Some d → definition_found name (ds ++ more) ≡ Some d) → (b : Bool) → elim b as (λ b. Option Definition) [ true ↦ Some x | false ↦ definition_found name ds ] ≡ Some d →
        elim b as (λ b. Option Definition) [ true ↦ Some x | false ↦ definition_found name (ds ++ more) ] ≡ Some d
    by_test rest true f = f
    by_test rest false f = rest f

shell_more : (name : Name) (row i : ℕ) (earlier ss more : List Shell) (c : Clause) → shell_found name row i earlier ss ≡ Some c → shell_found name row i earlier (ss ++ more) ≡ Some c
shell_more name row i earlier [] more c e = absurd (none_is_not_some c e)
shell_more name row i earlier (s ∷ ss) more c e = by_test (shell_more name row i (earlier ++ (s ∷ [])) ss more c) (bytes_eq name s.constructor) e
  where
    by_test : (shell_found name row i (earlier ++ (s ∷ [])) ss ≡ Some c → shell_found name row i (earlier ++ (s ∷ [])) (ss ++ more) ≡ Some c) → (b : Bool) →
        elim b as (λ b. Option (List Term)) [ true ↦ shell_clause_at earlier s i (shell_row row) | false ↦ shell_found name row i (earlier ++ (s ∷ [])) ss ] ≡ Some c →
        elim b as (λ b. Option (List Term)) [ true ↦ shell_clause_at earlier s i (shell_row row) | false ↦ shell_found name row i (earlier ++ (s ∷ [])) (ss ++ more) ] ≡ Some c
    by_test rest true f = f
    by_test rest false f = rest f

first_some : {X : Type 0} (o other : Option X) (x : X) → first_found o other ≡ Some x → (o ≡ Some x) ⊎ ((o ≡ None) × (other ≡ Some x))
first_some None other x e = inr (refl, e)
first_some (Some y) other x e = inl e

without_some : (i : ℕ) (o : Option Clause) (c : Clause) → without_part i o ≡ Some c → (i ≡ 0) × (o ≡ Some c)
without_some zero o c e = (refl, e)
without_some (suc i) o c e = absurd (none_is_not_some c e)

opening_some : (row : ℕ) (o : Option Definition) (c : Clause) → opening_at row o ≡ Some c → (d : Definition) × (o ≡ Some d)
opening_some row None c e = absurd (none_is_not_some c e)
opening_some row (Some d) c e = (d, refl)

-- no opening stands in another row than the first
no_opening : (row i : ℕ) (o : Option Definition) → (row == 1) ≡ false → without_part i (opening_at row o) ≡ None
no_opening row zero None e = refl
no_opening row zero (Some d) e = ap (λ b. elim b as (λ b. Option (List Term)) [ true ↦ Some (opening d) | false ↦ None ]) e
no_opening row (suc i) o e = refl

beyond_some : (row : ℕ) (o : Option Clause) (c : Clause) → beyond_openings row o ≡ Some c → ((row == 1) ≡ false) × (o ≡ Some c)
beyond_some row o c e = by_test (row == 1) refl e
  where
    by_test : (b : Bool) → (row == 1) ≡ b → elim b as (λ b. Option (List Term)) [ true ↦ None | false ↦ o ] ≡ Some c → ((row == 1) ≡ false) × (o ≡ Some c)
    by_test true g f = absurd (none_is_not_some c f)
    by_test false g f = (g, f)

module _ (h : History) where
  pub axiom_stays : (name : Name) (row i : ℕ) (c : Clause) → ground_axiom name row i ≡ Some c → axiom_clause h name row i ≡ Some c
  axiom_stays name row i c e =
      elim (first_some first (first_found second third) c e) [
        | inl one ↦ ap (λ o. first_found o (first_found second_later third_later)) one
        | inr rest ↦ ap (λ o. first_found o (first_found second_later third_later)) rest.0 ∙ elim (first_some second third c rest.1) [
          | inl two ↦ ap (λ o. first_found o third_later) (opened two)
          | inr three ↦ (let found = beyond_some row (shell_found name row i [] ground_shells) c three.1 in
              ap (λ o. first_found o third_later) (no_opening row i (definition_found name (ground_definitions ++ events_definitions h)) found.0) ∙
              shell_more name row i [] ground_shells (events_shells h) c found.1)
        ]
      ]
    where
      first : Option Clause
      first = without_part i (row_found name row ground_rows)

      second : Option Clause
      second = without_part i (opening_at row (definition_found name ground_definitions))

      third : Option Clause
      third = beyond_openings row (shell_found name row i [] ground_shells)

      second_later : Option Clause
      second_later = without_part i (opening_at row (definition_found name (ground_definitions ++ events_definitions h)))

      third_later : Option Clause
      third_later = shell_found name row i [] (ground_shells ++ events_shells h)

      opened : second ≡ Some c → second_later ≡ Some c
      opened f =
          let part = without_some i (opening_at row (definition_found name ground_definitions)) c f in
          let d = opening_some row (definition_found name ground_definitions) c part.1 in
          ap (λ o. without_part i (opening_at row o)) (definition_more name ground_definitions (events_definitions h) d.0 d.1 ∙ sym d.1) ∙ f

  axiom_given : (name : Name) (row i : ℕ) (c : Clause) (o : Option Clause) → ground_axiom name row i ≡ o → given o (λ c. Some (distinct c)) ≡ Some c → given (axiom_clause h name row i) (λ c. Some (distinct c)) ≡ Some c
  axiom_given name row i c None e f = absurd (none_is_not_some c f)
  axiom_given name row i c (Some d) e f = ap (λ o. given o (λ c. Some (distinct c))) (axiom_stays name row i d e) ∙ f

  ground_is : (lines : ℕ → Option (List Term)) (rule : tree.Rule) (c : Clause) → ground_conclusion lines rule ≡ Some c → conclusion h lines rule ≡ Some c
  ground_is lines (tree.Taut ts) c e = e
  ground_is lines (tree.AxiomRow name row i) c e = axiom_given name row i c (ground_axiom name row i) refl e
  ground_is lines (tree.EventTerm name) c e = absurd (none_is_not_some c e)
  ground_is lines (tree.Weaken l ts) c e = e
  ground_is lines (tree.Cut l m t) c e = e
  ground_is lines (tree.Instance l s) c e = e
  ground_is lines (tree.Reflexive t) c e = e
  ground_is lines (tree.Replace l k path t side) c e = e
  ground_is lines (tree.Join l m p x y) c e = e
  ground_is lines (tree.SplitFirst l k) c e = e
  ground_is lines (tree.SplitSecond l k) c e = e
  ground_is lines (tree.NotNot l k) c e = e
  ground_is lines (tree.Value t) c e = e
  ground_is lines (tree.Linear summands) c e = e
  ground_is lines (tree.Induct p m o b cases) c e = e

low_some : (o : Option Clause) (c : Clause) → if_low o ≡ Some c → (o ≡ Some c) × (are_low c ≡ true)
low_some None c e = absurd (none_is_not_some c e)
low_some (Some d) c e = by_test (are_low d) refl e
  where
    by_test : (b : Bool) → are_low d ≡ b → elim b as (λ b. Option (List Term)) [ true ↦ Some d | false ↦ None ] ≡ Some c → (Some d ≡ Some c) × (are_low c ≡ true)
    by_test true f g = (g, subst (λ x. are_low x ≡ true) (some_same d c g) f)
    by_test false f g = absurd (none_is_not_some c g)

-- what a line's clause shows of it
pub record Judged (xs : List Name) (ts : List Term) (cs : List Clause) (r : LawRule) (c : Clause) : Type 0 where
  pub range : is_in_range (length xs) (length ts) r ≡ true
  pub spoken : is_spoken (rule_in xs ts r) ≡ true
  pub gives : ground_conclusion (line_in cs) (rule_in xs ts r) ≡ Some c
  pub low : are_low c ≡ true

pub judged : (xs : List Name) (ts : List Term) (cs : List Clause) (r : LawRule) (c : Clause) → law_line xs ts cs r ≡ Some c → Judged xs ts cs r c
unfolding law_line
judged xs ts cs r c e =
    elim (chosen_some (is_in_range (length xs) (length ts) r && is_spoken (rule_in xs ts r)) (if_low (ground_conclusion (line_in cs) (rule_in xs ts r))) None c e) [
      | inl p ↦ (let low = low_some (ground_conclusion (line_in cs) (rule_in xs ts r)) c p.1 in
          record {
            range = and_left (is_in_range (length xs) (length ts) r) (is_spoken (rule_in xs ts r)) p.0;
            spoken = and_right (is_in_range (length xs) (length ts) r) (is_spoken (rule_in xs ts r)) p.0;
            gives = low.0;
            low = low.1;
          })
      | inr n ↦ absurd (none_is_not_some c n)
    ]

-- the rule is allowed under other numbers, in every history
pub allowed_there : (h : History) (lines : ℕ → Option (List Term)) (numbers : List ℕ) (cs : List Clause) → ((n : ℕ) (c : Clause) → line_in cs n ≡ Some c → lines (number_in numbers n) ≡ Some c) → (rule : tree.Rule) (c : Clause) → ground_conclusion (line_in cs) rule ≡ Some c → conclusion h lines (renumbered (number_in numbers) rule) ≡ Some c
allowed_there h lines numbers cs there rule c e =
    renumbered_law h lines (number_in numbers) rule ∙
    more_lines_law h (line_in cs) (λ n. lines (number_in numbers n)) rule c there (ground_is h (line_in cs) rule c e)

not_false : (b : Bool) → not b ≡ true → b ≡ false
not_false true e = absurd cc
not_false false e = refl

spelled_is : (x : Name) → is_spelled x ≡ true → IsVariable x
spelled_is x e = record { symbol = and_left (is_symbol x) (not (has_name x constant_names)) e; other = not_false (has_name x constant_names) (and_right (is_symbol x) (not (has_name x constant_names)) e) }

variables_spelled : (t : Term) → has_spelled t ≡ true → VariablesAre IsVariable t
variables_spelled (Variable x) e = spelled_is x e
variables_spelled (Function f) e = tt
variables_spelled (Applied t u) e = (variables_spelled t (and_left (has_spelled t) (has_spelled u) e), variables_spelled u (and_right (has_spelled t) (has_spelled u) e))

terms_spoken : (h : History) (ts : List Term) → Each (IsTerm (symbols_of [])) ts → list_all has_spelled ts ≡ true → Each (IsTermOf IsVariable (symbols_of h)) ts
terms_spoken h [] o e = tt
terms_spoken h (t ∷ ts) o e =
    (record { over = takes_grows (symbols_of []) (symbols_of h) (all_symbols_grow [] h) t 0 o.0; variables = variables_spelled t (and_left (has_spelled t) (list_all has_spelled ts) e) }, terms_spoken h ts o.1 (and_right (has_spelled t) (list_all has_spelled ts) e))

names_spelled : (xs : List Name) → list_all is_spelled xs ≡ true → Each IsVariable xs
names_spelled [] e = tt
names_spelled (x ∷ xs) e = (spelled_is x (and_left (is_spelled x) (list_all is_spelled xs) e), names_spelled xs (and_right (is_spelled x) (list_all is_spelled xs) e))

module _ (f : ℕ → ℕ) where
  same_hypothesis_terms : (hs : List Hypothesis) → hypothesis_terms (renumbered_hypotheses f hs) ≡ hypothesis_terms hs
  same_hypothesis_terms [] = refl
  same_hypothesis_terms (s ∷ hs) = ap (λ ts. pair_terms s.pairs ++ ts) (same_hypothesis_terms hs)

  same_case_terms : (cs : List CaseLines) → case_terms (renumbered_cases f cs) ≡ case_terms cs
  same_case_terms [] = refl
  same_case_terms (c ∷ cs) = ap₂ (λ ts us. c.test ∷ (ts ++ us)) (same_hypothesis_terms c.hypotheses) (same_case_terms cs)

  same_hypothesis_names : (hs : List Hypothesis) → hypothesis_names (renumbered_hypotheses f hs) ≡ hypothesis_names hs
  same_hypothesis_names [] = refl
  same_hypothesis_names (s ∷ hs) = ap (λ xs. pair_names s.pairs ++ xs) (same_hypothesis_names hs)

  same_case_names : (cs : List CaseLines) → case_names (renumbered_cases f cs) ≡ case_names cs
  same_case_names [] = refl
  same_case_names (c ∷ cs) = ap₂ (λ xs ys. xs ++ ys) (same_hypothesis_names c.hypotheses) (same_case_names cs)

  same_terms : (r : tree.Rule) → rule_terms (renumbered f r) ≡ rule_terms r
  same_terms (tree.Taut ts) = refl
  same_terms (tree.AxiomRow name row i) = refl
  same_terms (tree.EventTerm name) = refl
  same_terms (tree.Weaken l ts) = refl
  same_terms (tree.Cut l m t) = refl
  same_terms (tree.Instance l s) = refl
  same_terms (tree.Reflexive t) = refl
  same_terms (tree.Replace l k path t side) = refl
  same_terms (tree.Join l m p x y) = refl
  same_terms (tree.SplitFirst l k) = refl
  same_terms (tree.SplitSecond l k) = refl
  same_terms (tree.NotNot l k) = refl
  same_terms (tree.Value t) = refl
  same_terms (tree.Linear summands) = refl
  same_terms (tree.Induct p m o b cases) = ap (λ ts. p ∷ m ∷ ts) (same_case_terms cases)

  same_names : (r : tree.Rule) → replaced_names (renumbered f r) ≡ replaced_names r
  same_names (tree.Taut ts) = refl
  same_names (tree.AxiomRow name row i) = refl
  same_names (tree.EventTerm name) = refl
  same_names (tree.Weaken l ts) = refl
  same_names (tree.Cut l m t) = refl
  same_names (tree.Instance l s) = refl
  same_names (tree.Reflexive t) = refl
  same_names (tree.Replace l k path t side) = refl
  same_names (tree.Join l m p x y) = refl
  same_names (tree.SplitFirst l k) = refl
  same_names (tree.SplitSecond l k) = refl
  same_names (tree.NotNot l k) = refl
  same_names (tree.Value t) = refl
  same_names (tree.Linear summands) = refl
  same_names (tree.Induct p m o b cases) = same_case_names cases

  -- a rule of ground functions is over every history
  pub spoken_over : (h : History) (r : tree.Rule) → is_spoken r ≡ true → RuleIsOver IsVariable (symbols_of h) (renumbered f r)
  spoken_over h r e =
      let one = are_terms (symbols_of []) (rule_terms r) in
      let two = list_all has_spelled (rule_terms r) in
      let three = list_all is_spelled (replaced_names r) in
      let first = and_left (one && two) three e in
      record {
        terms = subst (Each (IsTermOf IsVariable (symbols_of h))) (sym (same_terms r)) (terms_spoken h (rule_terms r) (are_terms_is (symbols_of []) (rule_terms r) (and_left one two first)) (and_right one two first));
        names = subst (Each IsVariable) (sym (same_names r)) (names_spelled (replaced_names r) (and_right (one && two) three e));
      }

pub low_each : (c : Clause) → are_low c ≡ true → Each (λ u. depth_of u ≤ depth_limit) c
low_each [] e = tt
low_each (t ∷ c) e = (leb-true (depth_of t) depth_limit (and_left (nat_le (depth_of t) depth_limit) (are_low c) e), low_each c (and_right (nat_le (depth_of t) depth_limit) (are_low c) e))
