-- The terms of an elimination that is a candidate.
use Rattle.std.proofs.Common.{◌≡◌, ℕ, suc, Bool, true, false, ◌||◌, ◌&&◌, List, [], ◌∷◌, map, refl, sym, ap, ◌∙◌, subst, inl, inr}
use Rattle.std.specs.Prelude.{bytes_eq, codes}
use Rattle.nq_logic.specs.Terms.{Name, Term, Variable, Function, Applied, Each, IsAmong, Substitution, substituted, value_at}
use Rattle.nq_logic.specs.Histories.{History}
use Rattle.nq_logic.specs.RuleShapes.{variables_of}
use Rattle.nq_logic.specs.Values.{is_value}
use Rattle.nq_logic.specs.Words.{equal_term, not_term}
use Rattle.nq_bank.specs.Parts.{occurs}
use Rattle.nq_bank.proofs.Texts.{bytes_eq-true}
use Rattle.nq_proof.specs.Clauses.{Clause, same_term}
use Rattle.nq_proof.proofs.Tests.{same_true}
use Rattle.nq_events.specs.Events.{Hints}
use Rattle.nq_goals.specs.Eliminating.{Eliminating, EliminateCandidate, destructors, destructors_of, distinct_names, hypotheses_of, other_variables, renaming_of, whole_of}
use Rattle.nq_goals.specs.Generalizing.{exchange_of}
use Rattle.nq_goals.specs.NewVariables.{clause_variables}
use Rattle.nq_goals.specs.Replacing.{Exchange, exchanged, exchanged_for, exchanged_within, parts_in}
use Rattle.nq_moves.specs.Naming.{occurs_in_one}
use Rattle.nq_stuck.specs.Destructors.{is_variable}
use Rattle.nq_eliminate.specs.Instances.{IsPlain, equation_of}
use Rattle.nq_eliminate.specs.Serving.{is_flat}
use Rattle.nq_eliminate.proofs.CallShapes.{both, flat}
use Rattle.nq_eliminate.proofs.CandidateLemmas.{Standing, destructor_is, once_among, standing, still_among}
use Rattle.nq_eliminate.proofs.FindingLemmas.{made_no_value}
use Rattle.nq_eliminate.proofs.Names.{among_first, among_second, renamed_value, value_among}

pub each_from : (P : Term → Type 0) (c : Clause) → ((t : Term) → IsAmong t c → P t) → Each P c
each_from P [] f = tt
each_from P (t ∷ c) f = (f t (inl refl), each_from P c (λ u m. f u (inr m)))

-- ---- flat calls

made_flat : (s : Substitution) → ((x : Name) → is_variable (value_at s x) ≡ true) → (t : Term) → is_flat t ≡ true → is_flat (substituted s t) ≡ true
made_flat s each (Variable x) e = absurd (cc)
made_flat s each (Function f) e = refl
made_flat s each (Applied t (Variable x)) e = both (is_variable (value_at s x)) (is_flat (substituted s t)) (each x) (made_flat s each t e)
made_flat s each (Applied t (Function f)) e = absurd (cc)
made_flat s each (Applied t (Applied u v)) e = absurd (cc)

-- what a map makes of an element
record IsMade (f : Term → Term) (t : Term) (ds : List Term) : Type 0 where
  pub element : Term
  pub among : IsAmong element ds
  pub is : t ≡ f element

is_made : (f : Term → Term) (t : Term) (ds : List Term) → IsAmong t (map f ds) → IsMade f t ds
is_made f t [] m = absurd m
is_made f t (d ∷ ds) (inl e) = record { element = d; among = inl refl; is = e }
is_made f t (d ∷ ds) (inr m) = let rest = is_made f t ds m in record { element = rest.element; among = inr rest.among; is = rest.is }

-- ---- what is exchanged

untold : (b : Bool) → elim b as (λ b. Bool) [ true ↦ false | false ↦ false ] ≡ false
untold true = refl
untold false = refl

module _ (ts : List Term) (xs : List Name) (calls : (t : Term) → IsAmong t ts → is_flat t ≡ true) where
  -- what is no flat call stays at the top
  for_other : (t other : Term) → is_flat t ≡ false → exchanged_for (exchange_of ts xs) t other ≡ other
  for_other t other none = all ts xs calls
    where
      differs : (u : Term) → is_flat u ≡ true → (b : Bool) → same_term u t ≡ b → b ≡ false
      differs u e false k = refl
      differs u e true k = let here : is_flat t ≡ true = ap is_flat (sym (same_true u t k)) ∙ e in absurd (cc)

      all : (us : List Term) (ys : List Name) → ((u : Term) → IsAmong u us → is_flat u ≡ true) → exchanged_for (exchange_of us ys) t other ≡ other
      all [] ys on = refl
      all (u ∷ us) [] on = refl
      all (u ∷ us) (y ∷ ys) on = by_test (same_term u t) (differs u (on u (inl refl)) (same_term u t) refl) (all us ys (λ v m. on v (inr m)))
        where
          by_test : (b : Bool) → b ≡ false → exchanged_for (exchange_of us ys) t other ≡ other → elim b as (λ b. Term) [ true ↦ Variable y | false ↦ exchanged_for (exchange_of us ys) t other ] ≡ other
          by_test true e rest = absurd (cc)
          by_test false e rest = rest

  abbrev E : Exchange
  E = exchange_of ts xs

  kept_variable : (x : Name) → exchanged E (Variable x) ≡ Variable x
  kept_variable x = for_other (Variable x) (Variable x) refl

  kept_equation : (t : Term) (x : Name) → is_variable t ≡ false → exchanged E (equal_term t (Variable x)) ≡ equal_term (exchanged E t) (Variable x)
  kept_equation t x none =
      for_other (equal_term t (Variable x)) (exchanged_within E (equal_term t (Variable x))) (ap (λ b. b && true) none)
      ∙ ap (λ u. Applied (Applied (Function (codes "EQUAL")) (exchanged E t)) u) (kept_variable x)

  pub kept_denial : (t : Term) (x : Name) → is_variable t ≡ false → exchanged E (not_term (equal_term t (Variable x))) ≡ not_term (equal_term (exchanged E t) (Variable x))
  kept_denial t x none =
      for_other (not_term (equal_term t (Variable x))) (exchanged_within E (not_term (equal_term t (Variable x)))) refl
      ∙ ap (Applied (Function (codes "NOT"))) (kept_equation t x none)

-- ---- variables

or_either : (a b : Bool) (P : Type 0) → (a ≡ true → P) → (b ≡ true → P) → (a || b) ≡ true → P
or_either true b P f g e = f refl
or_either false b P f g e = g e

module _ (h : History) (hints : Hints) (goal : Clause) (e : Eliminating) (candidate : EliminateCandidate h hints goal e) where
  abbrev v : List ℕ
  v = e.rule.variable

  abbrev xs : List Name
  xs = other_variables e.rule

  abbrev s : Substitution
  s = renaming_of e

  abbrev names : List Name
  names = e.variable ∷ e.others

  each_variable : (x : Name) → is_variable (value_at s x) ≡ true
  each_variable x = ap is_variable (renamed_value (v ∷ xs) names x).is

  -- the rule's variables become these
  within : (t : Term) → ((x : Name) → IsAmong x (variables_of t) → IsAmong x (v ∷ xs)) → (y : Name) → occurs y (substituted s t) ≡ true → IsAmong y names
  unfolding occurs
  within (Variable x) own y there =
      let to = renamed_value (v ∷ xs) names x in
      let at : IsAmong to.name names = value_among (v ∷ xs) names x to.name (own x (inl refl)) (ap suc candidate.each) to.is in
      let same : y ≡ to.name = bytes_eq-true y to.name (ap (occurs y) (sym to.is) ∙ there) in
      subst (λ z. IsAmong z names) (sym same) at
  within (Function f) own y there = absurd (cc)
  within (Applied t u) own y there =
      or_either (occurs y (substituted s t)) (occurs y (substituted s u)) (IsAmong y names)
      (within t (λ x m. own x (among_first x (variables_of t) (variables_of u) m)) y)
      (within u (λ x m. own x (among_second x (variables_of t) (variables_of u) m)) y) there

  all_within : (ts : List Term) → ((x : Name) → IsAmong x (clause_variables ts) → IsAmong x (v ∷ xs)) → (y : Name) → occurs_in_one y (map (substituted s) ts) ≡ true → IsAmong y names
  all_within [] own y there = absurd (cc)
  all_within (t ∷ ts) own y there =
      or_either (occurs y (substituted s t)) (occurs_in_one y (map (substituted s) ts)) (IsAmong y names)
      (within t (λ x m. own x (among_first x (variables_of t) (clause_variables ts) m)) y)
      (all_within ts (λ x m. own x (among_second x (variables_of t) (clause_variables ts) m)) y) there

  own_variable : (x : Name) → IsAmong x (clause_variables (e.rule.made_of ∷ e.rule.hypotheses)) → IsAmong x (v ∷ xs)
  own_variable x m = by_test (bytes_eq x v) refl
    where
      all : List Name
      all = clause_variables (e.rule.made_of ∷ e.rule.hypotheses)

      by_test : (b : Bool) → bytes_eq x v ≡ b → IsAmong x (v ∷ xs)
      by_test true k = inl (bytes_eq-true x v k)
      by_test false k = inr (still_among x v (distinct_names all) k (once_among x all m))

  of_whole : (y : Name) → occurs y (whole_of e) ≡ true → IsAmong y names
  of_whole = within e.rule.made_of (λ x m. own_variable x (among_first x (variables_of e.rule.made_of) (clause_variables e.rule.hypotheses) m))

  of_equation : (y : Name) → occurs y (equation_of e) ≡ true → IsAmong y names
  unfolding occurs
  of_equation y there = or_either (occurs y (whole_of e)) (bytes_eq y e.variable) (IsAmong y names) (of_whole y) (λ k. inl (bytes_eq-true y e.variable k)) there

  of_hypotheses : (y : Name) → occurs_in_one y (hypotheses_of e) ≡ true → IsAmong y names
  of_hypotheses = all_within e.rule.hypotheses (λ x m. own_variable x (among_second x (variables_of e.rule.made_of) (clause_variables e.rule.hypotheses) m))

  -- ---- the destructor calls

  flat_call : (t : Term) → IsAmong t (destructors_of e) → is_flat t ≡ true
  flat_call t m =
      let made = is_made (substituted s) t (destructors e.rule) m in
      ap is_flat made.is ∙ made_flat s each_variable made.element (flat [] made.element (destructor_is e.rule made.element made.among).flat)

  plain_call : (t : Term) → IsAmong t (destructors_of e) → is_value t ≡ false
  plain_call t m =
      let made = is_made (substituted s) t (destructors e.rule) m in
      let is = destructor_is e.rule made.element made.among in
      ap is_value made.is ∙ made_no_value s each_variable v made.element (flat [] made.element is.flat) is.argument

  -- the whole holds one, so that it is no variable
  no_variable : is_variable (whole_of e) ≡ false
  no_variable = by_term e.rule.made_of (destructor_is e.rule at.element at.among).part (flat [] at.element (destructor_is e.rule at.element at.among).flat)
    where
      at : Standing (substituted s) (destructors e.rule) goal
      at = standing (substituted s) (destructors e.rule) goal candidate.stands

      by_term : (t : Term) → IsAmong at.element (parts_in t) → is_flat at.element ≡ true → is_variable (substituted s t) ≡ false
      by_term (Variable x) (inl same) k = let none : is_flat at.element ≡ false = ap is_flat same in absurd (cc)
      by_term (Variable x) (inr none) k = absurd none
      by_term (Function f) m k = refl
      by_term (Applied t u) m k = refl

  pub plain_candidate : IsPlain e
  plain_candidate =
      record {
        values = each_from (λ t. is_value t ≡ false) (destructors_of e) plain_call;
        variables = λ y there.
            or_either (occurs y (whole_of e)) (occurs_in_one y (equation_of e ∷ hypotheses_of e)) (IsAmong y names) (of_whole y)
            (or_either (occurs y (equation_of e)) (occurs_in_one y (hypotheses_of e)) (IsAmong y names) (of_equation y) (of_hypotheses y)) there;
        within = λ zs. kept_denial (destructors_of e) zs flat_call (whole_of e) e.variable no_variable;
      }
