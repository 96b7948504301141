-- What each rule gives, and when it is allowed, in terms of what the program finds.
use Rattle.std.proofs.Common.{◌≡◌, ℕ, Bool, true, false, ◌&&◌, Option, Some, None, List, [], ◌∷◌, ◌++◌, map, refl, sym, ap, ◌∙◌}
use Rattle.std.specs.Prelude.{is_some, IsSome}
use Rattle.std.specs.Option.{option_map}
use Rattle.nq_logic.specs.Terms.{Term, substituted, Substitution}
use Rattle.nq_logic.specs.Words.{not_term, equal_term, call1}
use Rattle.nq_bank.specs.declared.node.TermId.{TermId}
use Rattle.nq_bank.specs.Content.{Content, terms_at}
use Rattle.nq_proof.specs.Clauses.{Clause, without, distinct, has_opposite, literal_at}
use Rattle.nq_proof.specs.Paths.{IfParts, if_parts, under_two_nots}
use Rattle.nq_proof.specs.Linear.{and_then}
use Rattle.nq_proof.specs.Rules as tree
use Rattle.nq_proof.specs.Rules.{conclusion, given, when, event_term, is_substitution, is_refuted}
use Rattle.nq_proof.specs.Rows.{axiom_clause}
use Rattle.nq_proof.specs.Values.{value_of}
use Rattle.nq_rule.specs.Results.{join_of, placed_of, replacement_of, first_split_of, second_split_of, not_not_of}
use Rattle.nq_rule.specs.Places.{part_at}
use Rattle.nq_rule.proofs.ReplacingLemmas.{replacement_test}
use Rattle.nq_value_rule.specs.Equations.{value_equation}
use Rattle.nq_linear_rule.specs.Sums.{linear_clause}
use Rattle.nq_kernel.specs.declared.rule.Rule.{Rule}
use Rattle.nq_kernel.specs.declared.rule.Line.{Line}
use Rattle.nq_history.specs.declared.entry.Entry.{Entry}
use Rattle.nq_kernel.specs.Lines.{ids_at}
use Rattle.nq_history.specs.Events.{events_at}
use Rattle.nq_kernel.specs.Meaning.{rule_at, clause_at, conclusion_at}

is_some-when : (b : Bool) (c : Clause) → b ≡ is_some (when b c)
is_some-when true c = refl
is_some-when false c = refl

is_some-given : {X Y : Type 0} (o : Option X) (f : X → Y) (next : Y → Clause) → is_some o ≡ is_some (given (option_map f o) (λ c. Some (next c)))
is_some-given None f next = refl
is_some-given (Some x) f next = refl

is_some-some : {X : Type 0} (o : Option X) (next : X → Clause) → is_some o ≡ is_some (given o (λ c. Some (next c)))
is_some-some None next = refl
is_some-some (Some x) next = refl

-- a literal that is an IF, and a literal under two NOTs
some_given : {X : Type 0} (o : Option X) (next : X → Clause) → is_some o ≡ is_some (given o (λ x. Some (next x)))
some_given None next = refl
some_given (Some x) next = refl

both_given : {X : Type 0} (o : Option Term) (f : Term → Option X) (next : X → Clause) → is_some (and_then o f) ≡ is_some (given o (λ a. given (f a) (λ x. Some (next x))))
both_given None f next = refl
both_given (Some a) f next = some_given (f a) next

pub first_split_same : (k : ℕ) (c : Clause) → is_some (and_then (literal_at k c) if_parts) ≡ is_some (first_split_of k c)
first_split_same k c = both_given (literal_at k c) if_parts (λ parts. placed_of k (not_term parts.test ∷ parts.first ∷ []) c)

pub second_split_same : (k : ℕ) (c : Clause) → is_some (and_then (literal_at k c) if_parts) ≡ is_some (second_split_of k c)
second_split_same k c = both_given (literal_at k c) if_parts (λ parts. placed_of k (parts.test ∷ parts.second ∷ []) c)

pub not_not_same : (k : ℕ) (c : Clause) → is_some (and_then (literal_at k c) under_two_nots) ≡ is_some (not_not_of k c)
not_not_same k c = both_given (literal_at k c) under_two_nots (λ t. placed_of k (t ∷ []) c)

both_found : {X : Type 0} (o : Option Term) (f : Term → Option X) (next : X → Clause) (x : X) → and_then o f ≡ Some x → given o (λ a. given (f a) (λ x. Some (next x))) ≡ Some (next x)
both_found None f next x h = absurd cc
both_found (Some a) f next x h = ap (λ o. given o (λ x. Some (next x))) h

pub first_split_found : (k : ℕ) (c : Clause) (parts : IfParts) → and_then (literal_at k c) if_parts ≡ Some parts → first_split_of k c ≡ Some (placed_of k (not_term parts.test ∷ parts.first ∷ []) c)
first_split_found k c parts h = both_found (literal_at k c) if_parts (λ parts. placed_of k (not_term parts.test ∷ parts.first ∷ []) c) parts h

pub second_split_found : (k : ℕ) (c : Clause) (parts : IfParts) → and_then (literal_at k c) if_parts ≡ Some parts → second_split_of k c ≡ Some (placed_of k (parts.test ∷ parts.second ∷ []) c)
second_split_found k c parts h = both_found (literal_at k c) if_parts (λ parts. placed_of k (parts.test ∷ parts.second ∷ []) c) parts h

pub not_not_found : (k : ℕ) (c : Clause) (t : Term) → and_then (literal_at k c) under_two_nots ≡ Some t → not_not_of k c ≡ Some (placed_of k (t ∷ []) c)
not_not_found k c t h = both_found (literal_at k c) under_two_nots (λ t. placed_of k (t ∷ []) c) t h

-- what was found in a literal, in a clause that has one
pub found_literal : {X : Type 0} (k : ℕ) (c : Clause) (f : Term → Option X) → IsSome (and_then (literal_at k c) f) → IsSome (literal_at k c)
found_literal k c f h = by_literal (literal_at k c) h
  where
    by_literal : (o : Option Term) → IsSome (and_then o f) → IsSome o
    by_literal None h = absurd cc
    by_literal (Some a) h = refl

module _ (bank : Content) (history : List Entry) (log : List Line) (rule : Rule) where
  -- what the rule gives, as a rule on terms
  as_tree : (r : tree.Rule) → rule_at bank rule ≡ r → conclusion_at bank history log rule ≡ conclusion (events_at bank history) (clause_at bank log) r
  unfolding conclusion_at
  as_tree r e = ap (conclusion (events_at bank history) (clause_at bank log)) e

  pub taut_test : (ts : List Term) → rule_at bank rule ≡ tree.Taut ts → has_opposite ts ts ≡ is_some (conclusion_at bank history log rule)
  taut_test ts e = is_some-when (has_opposite ts ts) (distinct ts) ∙ sym (ap is_some (as_tree (tree.Taut ts) e))

  pub taut_is : (ts : List Term) → rule_at bank rule ≡ tree.Taut ts → IsSome (conclusion_at bank history log rule) → conclusion_at bank history log rule ≡ Some (distinct ts)
  taut_is ts e allowed = as_tree (tree.Taut ts) e ∙ ap (λ b. when b (distinct ts)) (taut_test ts e ∙ allowed)

  pub axiom_test : (name : List ℕ) (row part : ℕ) → rule_at bank rule ≡ tree.AxiomRow name row part → is_some (axiom_clause (events_at bank history) name row part) ≡ is_some (conclusion_at bank history log rule)
  axiom_test name row part e = is_some-some (axiom_clause (events_at bank history) name row part) distinct ∙ sym (ap is_some (as_tree (tree.AxiomRow name row part) e))

  pub axiom_is : (name : List ℕ) (row part : ℕ) → rule_at bank rule ≡ tree.AxiomRow name row part → conclusion_at bank history log rule ≡ given (axiom_clause (events_at bank history) name row part) (λ c. Some (distinct c))
  axiom_is name row part e = as_tree (tree.AxiomRow name row part) e

  pub event_test : (name : List ℕ) → rule_at bank rule ≡ tree.EventTerm name → is_some (event_term name (events_at bank history)) ≡ is_some (conclusion_at bank history log rule)
  event_test name e = is_some-some (event_term name (events_at bank history)) (λ t. t ∷ []) ∙ sym (ap is_some (as_tree (tree.EventTerm name) e))

  pub event_is : (name : List ℕ) (t : Term) → rule_at bank rule ≡ tree.EventTerm name → event_term name (events_at bank history) ≡ Some t → conclusion_at bank history log rule ≡ Some (t ∷ [])
  event_is name t e found = as_tree (tree.EventTerm name) e ∙ ap (λ o. given o (λ t. Some (t ∷ []))) found

  pub weaken_test : (l : ℕ) (ts : List Term) → rule_at bank rule ≡ tree.Weaken l ts → is_some (ids_at log l) ≡ is_some (conclusion_at bank history log rule)
  weaken_test l ts e = is_some-given (ids_at log l) (terms_at bank) (λ c. distinct (c ++ ts)) ∙ sym (ap is_some (as_tree (tree.Weaken l ts) e))

  pub weaken_is : (l : ℕ) (ts : List Term) (ids : List TermId) → rule_at bank rule ≡ tree.Weaken l ts → ids_at log l ≡ Some ids → conclusion_at bank history log rule ≡ Some (distinct (terms_at bank ids ++ ts))
  weaken_is l ts ids e cited = as_tree (tree.Weaken l ts) e ∙ ap (λ o. given (option_map (terms_at bank) o) (λ c. Some (distinct (c ++ ts)))) cited

  pub cut_test : (l1 l2 : ℕ) (t : Term) → rule_at bank rule ≡ tree.Cut l1 l2 t → is_some (ids_at log l1) && is_some (ids_at log l2) ≡ is_some (conclusion_at bank history log rule)
  cut_test l1 l2 t e = by_lines (ids_at log l1) (ids_at log l2) ∙ sym (ap is_some (as_tree (tree.Cut l1 l2 t) e))
    where
      by_lines : (o p : Option (List TermId)) → is_some o && is_some p ≡ is_some (given (option_map (terms_at bank) o) (λ c1. given (option_map (terms_at bank) p) (λ c2. Some (distinct (without t c1 ++ without (not_term t) c2)))))
      by_lines None p = refl
      by_lines (Some x) None = refl
      by_lines (Some x) (Some y) = refl

  pub cut_is : (l1 l2 : ℕ) (t : Term) (first second : List TermId) → rule_at bank rule ≡ tree.Cut l1 l2 t → ids_at log l1 ≡ Some first → ids_at log l2 ≡ Some second →
      conclusion_at bank history log rule ≡ Some (distinct (without t (terms_at bank first) ++ without (not_term t) (terms_at bank second)))
  cut_is l1 l2 t first second e cited other =
      as_tree (tree.Cut l1 l2 t) e ∙
      ap (λ o. given (option_map (terms_at bank) o) (λ c1. given (option_map (terms_at bank) (ids_at log l2)) (λ c2. Some (distinct (without t c1 ++ without (not_term t) c2))))) cited ∙
      ap (λ o. given (option_map (terms_at bank) o) (λ c2. Some (distinct (without t (terms_at bank first) ++ without (not_term t) c2)))) other

  pub instance_test : (l : ℕ) (s : Substitution) → rule_at bank rule ≡ tree.Instance l s → is_some (ids_at log l) && is_substitution s ≡ is_some (conclusion_at bank history log rule)
  instance_test l s e = by_line (ids_at log l) (is_substitution s) ∙ sym (ap is_some (as_tree (tree.Instance l s) e))
    where
      by_line : (o : Option (List TermId)) (b : Bool) → is_some o && b ≡ is_some (given (option_map (terms_at bank) o) (λ c. when b (distinct (map (substituted s) c))))
      by_line None b = refl
      by_line (Some x) true = refl
      by_line (Some x) false = refl

  pub instance_is : (l : ℕ) (s : Substitution) (ids : List TermId) → rule_at bank rule ≡ tree.Instance l s → IsSome (conclusion_at bank history log rule) → ids_at log l ≡ Some ids → conclusion_at bank history log rule ≡ Some (distinct (map (substituted s) (terms_at bank ids)))
  instance_is l s ids e allowed cited =
      as_tree (tree.Instance l s) e ∙
      ap (λ o. given (option_map (terms_at bank) o) (λ c. when (is_substitution s) (distinct (map (substituted s) c)))) cited ∙
      ap (λ b. when b (distinct (map (substituted s) (terms_at bank ids)))) (second_true (is_some (ids_at log l)) (is_substitution s) (instance_test l s e ∙ allowed))
    where
      second_true : (a b : Bool) → a && b ≡ true → b ≡ true
      second_true true b h = h
      second_true false true h = refl
      second_true false false h = h

  pub reflexive_is : (t : Term) → rule_at bank rule ≡ tree.Reflexive t → conclusion_at bank history log rule ≡ Some (equal_term t t ∷ [])
  reflexive_is t e = as_tree (tree.Reflexive t) e

  pub reflexive_test : (t : Term) → rule_at bank rule ≡ tree.Reflexive t → true ≡ is_some (conclusion_at bank history log rule)
  reflexive_test t e = sym (ap is_some (as_tree (tree.Reflexive t) e))

  pub value_is : (t : Term) → rule_at bank rule ≡ tree.Value t → conclusion_at bank history log rule ≡ value_equation t
  value_is t e = as_tree (tree.Value t) e

  pub value_test : (t : Term) → rule_at bank rule ≡ tree.Value t → is_some (value_of t) ≡ is_some (conclusion_at bank history log rule)
  value_test t e = is_some-some (value_of t) (λ v. equal_term t v ∷ []) ∙ sym (ap is_some (as_tree (tree.Value t) e))

  pub linear_is : (summands : List tree.Summand) → rule_at bank rule ≡ tree.Linear summands → conclusion_at bank history log rule ≡ linear_clause summands
  linear_is summands e = as_tree (tree.Linear summands) e

  pub linear_test : (summands : List tree.Summand) → rule_at bank rule ≡ tree.Linear summands → is_refuted summands ≡ is_some (conclusion_at bank history log rule)
  linear_test summands e = is_some-when (is_refuted summands) (distinct (map (λ s. s.literal) summands)) ∙ sym (ap is_some (as_tree (tree.Linear summands) e))

  -- what a rule that cites one line gives
  pub one_test : {X : Type 0} (l : ℕ) (r : tree.Rule) (next : Clause → Option Clause) (test : Clause → Option X) → rule_at bank rule ≡ r → conclusion (events_at bank history) (clause_at bank log) r ≡ given (clause_at bank log l) next →
      ((c : Clause) → is_some (test c) ≡ is_some (next c)) → is_some (and_then (clause_at bank log l) test) ≡ is_some (conclusion_at bank history log rule)
  one_test l r next test e same each = by_line (clause_at bank log l) ∙ sym (ap is_some (as_tree r e ∙ same))
    where
      by_line : (o : Option Clause) → is_some (and_then o test) ≡ is_some (given o next)
      by_line None = refl
      by_line (Some c) = each c

  pub one_stands : (l : ℕ) (r : tree.Rule) (next : Clause → Option Clause) → rule_at bank rule ≡ r → conclusion (events_at bank history) (clause_at bank log) r ≡ given (clause_at bank log l) next → IsSome (conclusion_at bank history log rule) → IsSome (ids_at log l)
  one_stands l r next e same allowed = by_ids (ids_at log l) (sym (ap is_some (as_tree r e ∙ same)) ∙ allowed)
    where
      by_ids : (o : Option (List TermId)) → IsSome (given (option_map (terms_at bank) o) next) → IsSome o
      by_ids None h = absurd cc
      by_ids (Some ids) h = refl

  pub one_is : (l : ℕ) (r : tree.Rule) (next : Clause → Option Clause) (ids : List TermId) → rule_at bank rule ≡ r → conclusion (events_at bank history) (clause_at bank log) r ≡ given (clause_at bank log l) next → ids_at log l ≡ Some ids → conclusion_at bank history log rule ≡ next (terms_at bank ids)
  one_is l r next ids e same cited = as_tree r e ∙ same ∙ ap (λ o. given (option_map (terms_at bank) o) next) cited

  pub join_test : (l1 l2 : ℕ) (p x y : Term) → rule_at bank rule ≡ tree.Join l1 l2 p x y → is_some (ids_at log l1) && is_some (ids_at log l2) ≡ is_some (conclusion_at bank history log rule)
  join_test l1 l2 p x y e = by_lines (ids_at log l1) (ids_at log l2) ∙ sym (ap is_some (as_tree (tree.Join l1 l2 p x y) e))
    where
      by_lines : (o q : Option (List TermId)) → is_some o && is_some q ≡ is_some (given (option_map (terms_at bank) o) (λ c1. given (option_map (terms_at bank) q) (λ c2. Some (join_of p x y c1 c2))))
      by_lines None q = refl
      by_lines (Some a) None = refl
      by_lines (Some a) (Some b) = refl

  pub join_is : (l1 l2 : ℕ) (p x y : Term) (first second : List TermId) → rule_at bank rule ≡ tree.Join l1 l2 p x y → ids_at log l1 ≡ Some first → ids_at log l2 ≡ Some second → conclusion_at bank history log rule ≡ Some (join_of p x y (terms_at bank first) (terms_at bank second))
  join_is l1 l2 p x y first second e cited other =
      as_tree (tree.Join l1 l2 p x y) e ∙
      ap (λ o. given (option_map (terms_at bank) o) (λ c1. given (option_map (terms_at bank) (ids_at log l2)) (λ c2. Some (join_of p x y c1 c2)))) cited ∙
      ap (λ o. given (option_map (terms_at bank) o) (λ c2. Some (join_of p x y (terms_at bank first) c2))) other

  module _ (l k : ℕ) where
    abbrev pub in_literal : {X : Type 0} → (Term → Option X) → Option X
    in_literal f = and_then (clause_at bank log l) (λ c. and_then (literal_at k c) f)

    pub replace_test : (path : List ℕ) (t : Term) (side : tree.Side) → rule_at bank rule ≡ tree.Replace l k path t side → is_some (in_literal (λ a. part_at path a)) ≡ is_some (conclusion_at bank history log rule)
    replace_test path t side e = one_test l (tree.Replace l k path t side) (replacement_of k path t side) (λ c. and_then (literal_at k c) (λ a. part_at path a)) e refl (λ c. replacement_test k path t side c)

    pub replace_is : (path : List ℕ) (t : Term) (side : tree.Side) (ids : List TermId) → rule_at bank rule ≡ tree.Replace l k path t side → ids_at log l ≡ Some ids → conclusion_at bank history log rule ≡ replacement_of k path t side (terms_at bank ids)
    replace_is path t side ids e cited = one_is l (tree.Replace l k path t side) (replacement_of k path t side) ids e refl cited

    pub replace_stands : (path : List ℕ) (t : Term) (side : tree.Side) → rule_at bank rule ≡ tree.Replace l k path t side → IsSome (conclusion_at bank history log rule) → IsSome (ids_at log l)
    replace_stands path t side e allowed = one_stands l (tree.Replace l k path t side) (replacement_of k path t side) e refl allowed

    pub replace_leads : (path : List ℕ) (t : Term) (side : tree.Side) (ids : List TermId) → rule_at bank rule ≡ tree.Replace l k path t side → IsSome (conclusion_at bank history log rule) → ids_at log l ≡ Some ids → IsSome (and_then (literal_at k (terms_at bank ids)) (λ a. part_at path a))
    replace_leads path t side ids e allowed cited = replacement_test k path t side (terms_at bank ids) ∙ sym (ap is_some (replace_is path t side ids e cited)) ∙ allowed

    pub split_first_test : rule_at bank rule ≡ tree.SplitFirst l k → is_some (in_literal if_parts) ≡ is_some (conclusion_at bank history log rule)
    split_first_test e = one_test l (tree.SplitFirst l k) (first_split_of k) (λ c. and_then (literal_at k c) if_parts) e refl (first_split_same k)

    pub split_first_is : rule_at bank rule ≡ tree.SplitFirst l k → conclusion_at bank history log rule ≡ given (clause_at bank log l) (first_split_of k)
    split_first_is e = as_tree (tree.SplitFirst l k) e

    pub split_second_test : rule_at bank rule ≡ tree.SplitSecond l k → is_some (in_literal if_parts) ≡ is_some (conclusion_at bank history log rule)
    split_second_test e = one_test l (tree.SplitSecond l k) (second_split_of k) (λ c. and_then (literal_at k c) if_parts) e refl (second_split_same k)

    pub split_second_is : rule_at bank rule ≡ tree.SplitSecond l k → conclusion_at bank history log rule ≡ given (clause_at bank log l) (second_split_of k)
    split_second_is e = as_tree (tree.SplitSecond l k) e

    pub not_not_test : rule_at bank rule ≡ tree.NotNot l k → is_some (in_literal under_two_nots) ≡ is_some (conclusion_at bank history log rule)
    not_not_test e = one_test l (tree.NotNot l k) (not_not_of k) (λ c. and_then (literal_at k c) under_two_nots) e refl (not_not_same k)

    pub not_not_is : rule_at bank rule ≡ tree.NotNot l k → conclusion_at bank history log rule ≡ given (clause_at bank log l) (not_not_of k)
    not_not_is e = as_tree (tree.NotNot l k) e

  module _ (p m : Term) (o b : ℕ) (cases : List tree.CaseLines) where
    abbrev pub induction_shown : Bool
    induction_shown = tree.has_only (clause_at bank log o) (call1 "ORDINALP" m ∷ []) && tree.has_only (clause_at bank log b) (tree.case_tests cases ++ (p ∷ [])) && tree.are_steps (clause_at bank log) p m cases

    pub induct_test : rule_at bank rule ≡ tree.Induct p m o b cases → induction_shown ≡ is_some (conclusion_at bank history log rule)
    induct_test e = is_some-when induction_shown (p ∷ []) ∙ sym (ap is_some (as_tree (tree.Induct p m o b cases) e))

    pub induct_is : rule_at bank rule ≡ tree.Induct p m o b cases → IsSome (conclusion_at bank history log rule) → conclusion_at bank history log rule ≡ Some (p ∷ [])
    induct_is e allowed = as_tree (tree.Induct p m o b cases) e ∙ ap (λ b. when b (p ∷ [])) (induct_test e ∙ allowed)

-- what a program found is the same on trees
pub told : {X Y : Type 0} (f : X → Y) (o : Option X) (x : X) (p : Option Y) → option_map f o ≡ p → o ≡ Some x → p ≡ Some (f x)
told f o x p e some = sym e ∙ ap (option_map f) some

pub is_some-mapped : {X Y : Type 0} (f : X → Y) (o : Option X) → is_some o ≡ is_some (option_map f o)
is_some-mapped f None = refl
is_some-mapped f (Some x) = refl

-- what was found in a literal of a line
module _ (bank : Content) (log : List Line) (l k : ℕ) where
  abbrev in_line : {X : Type 0} → (Term → Option X) → Option X
  in_line f = and_then (clause_at bank log l) (λ c. and_then (literal_at k c) f)

  at_cited : {X : Type 0} (ids : List TermId) (f : Term → Option X) (o : Option X) → ids_at log l ≡ Some ids → in_line f ≡ o → and_then (literal_at k (terms_at bank ids)) f ≡ o
  at_cited ids f o cited h = sym (ap (λ o. and_then (option_map (terms_at bank) o) (λ c. and_then (literal_at k c) f)) cited) ∙ h

  -- the line stands, and has such a literal
  pub found_stands : {X : Type 0} (f : Term → Option X) (x : X) → in_line f ≡ Some x → IsSome (ids_at log l)
  found_stands f x h = by_ids (ids_at log l) h
    where
      by_ids : (o : Option (List TermId)) → and_then (option_map (terms_at bank) o) (λ c. and_then (literal_at k c) f) ≡ Some x → IsSome o
      by_ids None h = absurd cc
      by_ids (Some ids) h = refl

  pub found_place : {X : Type 0} (f : Term → Option X) (x : X) (ids : List TermId) → ids_at log l ≡ Some ids → in_line f ≡ Some x → IsSome (literal_at k (terms_at bank ids))
  found_place f x ids cited h = found_literal k (terms_at bank ids) f (ap is_some (at_cited ids f (Some x) cited h))

  next_cited : (next : Clause → Option Clause) (ids : List TermId) → ids_at log l ≡ Some ids → given (clause_at bank log l) next ≡ next (terms_at bank ids)
  next_cited next ids cited = ap (λ o. given (option_map (terms_at bank) o) next) cited

  pub split_first_given : (ids : List TermId) (parts : IfParts) → ids_at log l ≡ Some ids → in_line if_parts ≡ Some parts → given (clause_at bank log l) (first_split_of k) ≡ Some (placed_of k (not_term parts.test ∷ parts.first ∷ []) (terms_at bank ids))
  split_first_given ids parts cited found = next_cited (first_split_of k) ids cited ∙ first_split_found k (terms_at bank ids) parts (at_cited ids if_parts (Some parts) cited found)

  pub split_second_given : (ids : List TermId) (parts : IfParts) → ids_at log l ≡ Some ids → in_line if_parts ≡ Some parts → given (clause_at bank log l) (second_split_of k) ≡ Some (placed_of k (parts.test ∷ parts.second ∷ []) (terms_at bank ids))
  split_second_given ids parts cited found = next_cited (second_split_of k) ids cited ∙ second_split_found k (terms_at bank ids) parts (at_cited ids if_parts (Some parts) cited found)

  pub not_not_given : (ids : List TermId) (t : Term) → ids_at log l ≡ Some ids → in_line under_two_nots ≡ Some t → given (clause_at bank log l) (not_not_of k) ≡ Some (placed_of k (t ∷ []) (terms_at bank ids))
  not_not_given ids t cited found = next_cited (not_not_of k) ids cited ∙ not_not_found k (terms_at bank ids) t (at_cited ids under_two_nots (Some t) cited found)
