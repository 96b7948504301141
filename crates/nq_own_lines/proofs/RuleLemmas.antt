-- The clause of each rule has only variables that the rule, the lines before it and the history have.
use Rattle.std.proofs.Common.{◌≡◌, Bool, true, false, ℕ, zero, suc, List, [], ◌∷◌, ◌++◌, ◌&&◌, map, if◌then◌else◌, subst}
use Rattle.std.specs.Prelude.{Option, Some}
use Rattle.nq_logic.specs.Terms.{Name, Term, Each, Substitution, substituted}
use Rattle.nq_logic.specs.Words.{equal_term, not_term, if_term, call1}
use Rattle.nq_logic.specs.Histories.{History}
use Rattle.nq_logic.proofs.Lists.{among_at, each_at, each_append}
use Rattle.nq_proof.specs.Clauses.{Clause, same_term, without, distinct, has_opposite, literal_at, spliced, in_place}
use Rattle.nq_proof.specs.Paths.{replaced_at, if_parts, under_two_nots}
use Rattle.nq_proof.specs.Values.{value_of}
use Rattle.nq_proof.specs.Rows.{axiom_clause}
use Rattle.nq_proof.specs.Rules.{Side, Forwards, Backwards, Rule, Taut, AxiomRow, EventTerm, Weaken, Cut, Instance, Reflexive, Replace, Join, SplitFirst, SplitSecond, NotNot, Value, Linear, Induct, event_term, is_substitution, when, given, used_equation, has_only, case_tests, are_steps, is_refuted, conclusion, pair_terms, rule_terms}
use Rattle.nq_proof.proofs.Tests.{none_is_not_some, some_same, given_some, when_some}
use Rattle.nq_proof.proofs.Places.{if_parts_are, two_nots_are}
use Rattle.nq_kernel.specs.Over.{VariablesAre}
use Rattle.nq_own_lines.proofs.PlaceLemmas.{replaced_is, substituted_is}
use Rattle.nq_own_lines.proofs.ValueLemmas.{value_over}

module _ (P : Term → Type 0) where
  each_without : (t : Term) (c : Clause) → Each P c → Each P (without t c)
  each_without t [] all = tt
  each_without t (u ∷ c) all = by_test (same_term t u) (each_without t c all.1)
    where
      by_test : (b : Bool) → Each P (without t c) → Each P (if b then without t c else u ∷ without t c)
      by_test true rest = rest
      by_test false rest = (all.0, rest)

  each_distinct : (ts : List Term) → Each P ts → Each P (distinct ts)
  each_distinct [] all = tt
  each_distinct (t ∷ ts) all = (all.0, each_without t (distinct ts) (each_distinct ts all.1))

  each_spliced : (k : ℕ) (these : List Term) (c : Clause) → Each P these → Each P c → Each P (spliced k these c)
  each_spliced k these [] new all = tt
  each_spliced zero these (t ∷ c) new all = each_append P these c new all.1
  each_spliced (suc k) these (t ∷ c) new all = (all.0, each_spliced k these c new all.1)

  each_placed : (k : ℕ) (these : List Term) (c : Clause) → Each P these → Each P c → Each P (in_place k these c)
  each_placed zero these c new all = all
  each_placed (suc k) these c new all = each_spliced k these c new all

  literal_is : (k : ℕ) (a : Term) (c : Clause) → literal_at k c ≡ Some a → Each P c → P a
  literal_is zero a c e all = absurd (none_is_not_some a e)
  literal_is (suc k) a c e all = each_at P a c all (among_at a c k e)

module _ (P : Name → Type 0) (h : History) (lines : ℕ → Option Clause) (rows : (name : Name) (row part : ℕ) (c : Clause) → axiom_clause h name row part ≡ Some c → Each (VariablesAre P) c) (events : (name : Name) (t : Term) → event_term name h ≡ Some t → VariablesAre P t) (line_over : (l : ℕ) (c : Clause) → lines l ≡ Some c → Each (VariablesAre P) c) where
  abbrev Right : Term → Type 0
  Right = VariablesAre P

  abbrev IsClause : Clause → Type 0
  IsClause c = Each Right c

  found_over : (d c : Clause) → Some (distinct d) ≡ Some c → IsClause d → IsClause c
  found_over d c e o = subst IsClause (some_same (distinct d) c e) (each_distinct Right d o)

  instances_over : (s : Substitution) → Each Right (pair_terms s) → (c : Clause) → IsClause c → IsClause (map (substituted s) c)
  instances_over s over [] o = tt
  instances_over s over (t ∷ c) o = (substituted_is P s over t o.0, instances_over s over c o.1)

  equation_over : (side : Side) (u t : Term) → Right u → Right t → Right (used_equation side u t)
  equation_over Forwards u t ou ot = (tt, ((tt, ou), ot))
  equation_over Backwards u t ou ot = (tt, ((tt, ot), ou))

  pub rule_over : (rule : Rule) (c : Clause) → Each Right (rule_terms rule) → conclusion h lines rule ≡ Some c → IsClause c
  rule_over (Taut ts) c o e = let a = when_some (has_opposite ts ts) (distinct ts) c e in subst IsClause a.1 (each_distinct Right ts o)
  rule_over (AxiomRow name row part) c o e =
      let a = given_some (axiom_clause h name row part) (λ c. Some (distinct c)) c e in found_over a.0 c a.2 (rows name row part a.0 a.1)
  rule_over (EventTerm name) c o e =
      let a = given_some (event_term name h) (λ t. Some (t ∷ [])) c e in subst IsClause (some_same (a.0 ∷ []) c a.2) (events name a.0 a.1, tt)
  rule_over (Weaken l ts) c o e =
      let a = given_some (lines l) (λ c. Some (distinct (c ++ ts))) c e in found_over (a.0 ++ ts) c a.2 (each_append Right a.0 ts (line_over l a.0 a.1) o)
  rule_over (Cut l m t) c o e =
      let a = given_some (lines l) (λ c1. given (lines m) (λ c2. Some (distinct (without t c1 ++ without (not_term t) c2)))) c e in
      let b = given_some (lines m) (λ c2. Some (distinct (without t a.0 ++ without (not_term t) c2))) c a.2 in
      found_over (without t a.0 ++ without (not_term t) b.0) c b.2
      (each_append Right (without t a.0) (without (not_term t) b.0) (each_without Right t a.0 (line_over l a.0 a.1)) (each_without Right (not_term t) b.0 (line_over m b.0 b.1)))
  rule_over (Instance l s) c o e =
      let a = given_some (lines l) (λ c. when (is_substitution s) (distinct (map (substituted s) c))) c e in
      let b = when_some (is_substitution s) (distinct (map (substituted s) a.0)) c a.2 in
      subst IsClause b.1 (each_distinct Right (map (substituted s) a.0) (instances_over s o a.0 (line_over l a.0 a.1)))
  rule_over (Reflexive t) c o e = subst IsClause (some_same (equal_term t t ∷ []) c e) (((tt, o.0), o.0), tt)
  rule_over (Replace l k path t side) c o e =
      let whole = λ (c : Clause) (change : Term × Term). Some (distinct (in_place k (change.1 ∷ []) c ++ (used_equation side change.0 t ∷ []))) in
      let a = given_some (lines l) (λ c. given (literal_at k c) (λ a. given (replaced_at path t a) (whole c))) c e in
      let b = given_some (literal_at k a.0) (λ a'. given (replaced_at path t a') (whole a.0)) c a.2 in
      let d = given_some (replaced_at path t b.0) (whole a.0) c b.2 in
      let oa = line_over l a.0 a.1 in
      let ob = literal_is Right k b.0 a.0 b.1 oa in
      let r = replaced_is P t o.0 path b.0 d.0.0 d.0.1 d.1 ob in
      found_over (in_place k (d.0.1 ∷ []) a.0 ++ (used_equation side d.0.0 t ∷ [])) c d.2
      (each_append Right (in_place k (d.0.1 ∷ []) a.0) (used_equation side d.0.0 t ∷ []) (each_placed Right k (d.0.1 ∷ []) a.0 (r.1, tt) oa)
      (equation_over side d.0.0 t r.0 o.0, tt))
  rule_over (Join l m p x y) c o e =
      let whole = λ (c1 c2 : Clause). without (not_term p) (without x c1) ++ (without p (without y c2) ++ (if_term p x y ∷ [])) in
      let a = given_some (lines l) (λ c1. given (lines m) (λ c2. Some (distinct (whole c1 c2)))) c e in
      let b = given_some (lines m) (λ c2. Some (distinct (whole a.0 c2))) c a.2 in
      found_over (whole a.0 b.0) c b.2
      (each_append Right (without (not_term p) (without x a.0)) (without p (without y b.0) ++ (if_term p x y ∷ []))
      (each_without Right (not_term p) (without x a.0) (each_without Right x a.0 (line_over l a.0 a.1)))
      (each_append Right (without p (without y b.0)) (if_term p x y ∷ []) (each_without Right p (without y b.0) (each_without Right y b.0 (line_over m b.0 b.1)))
      ((((tt, o.0), o.1.0), o.1.1.0), tt)))
  rule_over (SplitFirst l k) c o e =
      let a = given_some (lines l) (λ c. given (literal_at k c) (λ a. given (if_parts a) (λ parts. Some (distinct (in_place k (not_term parts.test ∷ parts.first ∷ []) c))))) c e in
      let b = given_some (literal_at k a.0) (λ a'. given (if_parts a') (λ parts. Some (distinct (in_place k (not_term parts.test ∷ parts.first ∷ []) a.0)))) c a.2 in
      let d = given_some (if_parts b.0) (λ parts. Some (distinct (in_place k (not_term parts.test ∷ parts.first ∷ []) a.0))) c b.2 in
      let oa = line_over l a.0 a.1 in
      let ob = subst Right (if_parts_are b.0 d.0 d.1) (literal_is Right k b.0 a.0 b.1 oa) in
      found_over (in_place k (not_term d.0.test ∷ d.0.first ∷ []) a.0) c d.2 (each_placed Right k (not_term d.0.test ∷ d.0.first ∷ []) a.0 ((tt, ob.0.0.1), (ob.0.1, tt)) oa)
  rule_over (SplitSecond l k) c o e =
      let a = given_some (lines l) (λ c. given (literal_at k c) (λ a. given (if_parts a) (λ parts. Some (distinct (in_place k (parts.test ∷ parts.second ∷ []) c))))) c e in
      let b = given_some (literal_at k a.0) (λ a'. given (if_parts a') (λ parts. Some (distinct (in_place k (parts.test ∷ parts.second ∷ []) a.0)))) c a.2 in
      let d = given_some (if_parts b.0) (λ parts. Some (distinct (in_place k (parts.test ∷ parts.second ∷ []) a.0))) c b.2 in
      let oa = line_over l a.0 a.1 in
      let ob = subst Right (if_parts_are b.0 d.0 d.1) (literal_is Right k b.0 a.0 b.1 oa) in
      found_over (in_place k (d.0.test ∷ d.0.second ∷ []) a.0) c d.2 (each_placed Right k (d.0.test ∷ d.0.second ∷ []) a.0 (ob.0.0.1, (ob.1, tt)) oa)
  rule_over (NotNot l k) c o e =
      let a = given_some (lines l) (λ c. given (literal_at k c) (λ a. given (under_two_nots a) (λ t. Some (distinct (in_place k (t ∷ []) c))))) c e in
      let b = given_some (literal_at k a.0) (λ a'. given (under_two_nots a') (λ t. Some (distinct (in_place k (t ∷ []) a.0)))) c a.2 in
      let d = given_some (under_two_nots b.0) (λ t. Some (distinct (in_place k (t ∷ []) a.0))) c b.2 in
      let oa = line_over l a.0 a.1 in
      let ob = subst Right (two_nots_are b.0 d.0 d.1) (literal_is Right k b.0 a.0 b.1 oa) in
      found_over (in_place k (d.0 ∷ []) a.0) c d.2 (each_placed Right k (d.0 ∷ []) a.0 (ob.1.1, tt) oa)
  rule_over (Value t) c o e =
      let a = given_some (value_of t) (λ v. Some (equal_term t v ∷ [])) c e in
      subst IsClause (some_same (equal_term t a.0 ∷ []) c a.2) (((tt, o.0), value_over P t o.0 a.0 a.1), tt)
  rule_over (Linear summands) c o e =
      let a = when_some (is_refuted summands) (distinct (map (λ s. s.literal) summands)) c e in subst IsClause a.1 (each_distinct Right (map (λ s. s.literal) summands) o)
  rule_over (Induct p m o' b cases) c o e =
      let ordinal = has_only (lines o') (call1 "ORDINALP" m ∷ []) in
      let base = has_only (lines b) (case_tests cases ++ (p ∷ [])) in
      let a = when_some (ordinal && base && are_steps lines p m cases) (p ∷ []) c e in
      subst IsClause a.1 (o.0, tt)
