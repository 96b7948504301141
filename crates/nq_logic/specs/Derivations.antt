-- The axioms of a history, and what is derivable from them.
use Rattle.std.specs.Prelude.{◌≡◌, ℕ, List, [], ◌∷◌, ◌++◌, map, ⊤}
use Rattle.nq_logic.specs.Terms.{Term, Variable, call, IsAmong, Each, Substitution, substituted}
use Rattle.nq_logic.specs.Words.{call1, call2, true_term, false_term, if_term, equal_term}
use Rattle.nq_logic.specs.Formulas.{Formula, Equation, Not, Or, implies, conjunction, implied, holds, clause, IsFormula, instance}
use Rattle.nq_logic.specs.Histories.{RuleClass, Definition, Shell, History, Axiom, events_shells, events_definitions}
use Rattle.nq_logic.specs.Ground.{symbols_of, ground_definitions, ground_shells, x_term, y_term, z_term}
use Rattle.nq_logic.specs.Shells.{IsShellClause}

-- the axioms that a history adds to the logic
pub data IsAxiom (h : History) : Formula → Type 0 where
  truth_is_not_falsity : IsAxiom h (Not (Equation true_term false_term))
  equal_of_same : IsAxiom h (implies (Equation x_term y_term) (Equation (equal_term x_term y_term) true_term))
  equal_of_different : IsAxiom h (implies (Not (Equation x_term y_term)) (Equation (equal_term x_term y_term) false_term))
  if_false : IsAxiom h (implies (Equation x_term false_term) (Equation (if_term x_term y_term z_term) z_term))
  if_true : IsAxiom h (implies (Not (Equation x_term false_term)) (Equation (if_term x_term y_term z_term) y_term))
  size_is_number : IsAxiom h (holds (call1 "NUMBERP" (call1 "COUNT" x_term)))
  one_less_is_less : IsAxiom h (Or (holds (call1 "ZEROP" x_term)) (holds (call2 "LESSP" (call1 "SUB1" x_term) x_term)))
  definition : (d : Definition) → IsAmong d (ground_definitions ++ events_definitions h) →
      IsAxiom h (Equation (call d.function (map Variable d.formals)) d.body)
  shell : (earlier later : List Shell) (s : Shell) (row part : ℕ) (literals : List Term) →
      ground_shells ++ events_shells h ≡ earlier ++ (s ∷ later) → IsShellClause earlier s row part literals → IsAxiom h (clause literals)
  added : (n : List ℕ) (classes : List RuleClass) (t : Term) → IsAmong (Axiom n classes t) h → IsAxiom h (holds t)

-- the equations of the pairs' two sides
abbrev pub equations : List (Term × Term) → List Formula
equations [] = []
equations (pair ∷ pairs) = Equation pair.0 pair.1 ∷ equations pairs

-- a case of an induction: what it assumes, and the instances at which the claim may be used
pub record Case : Type 0 where
  pub test : Formula
  pub substitutions : List (List (List ℕ × Term))

-- the measure m falls by these substitutions
abbrev pub descents : Term → Formula → List Substitution → List Formula
descents m test [] = []
descents m test (s ∷ rest) = implies test (holds (call2 "ORD-LESSP" (substituted s m) m)) ∷ descents m test rest

abbrev pub all_descents : Term → List Case → List Formula
all_descents m [] = []
all_descents m (c ∷ cases) = descents m c.test c.substitutions ++ all_descents m cases

abbrev pub no_test : List Case → List Formula
no_test [] = []
no_test (c ∷ cases) = Not c.test ∷ no_test cases

abbrev pub instances : Formula → List Substitution → List Formula
instances p [] = []
instances p (s ∷ rest) = instance s p ∷ instances p rest

abbrev pub steps : Formula → List Case → List Formula
steps p [] = []
steps p (c ∷ cases) = implies (conjunction (c.test ∷ instances p c.substitutions)) p ∷ steps p cases

-- what an induction rests on: the measure is an ordinal and falls, the base case, and a step for each case
abbrev pub induction_premises : Formula → Term → List Case → List Formula
induction_premises p m cases =
    holds (call1 "ORDINALP" m) ∷ (all_descents m cases ++ (implies (conjunction (no_test cases)) p ∷ steps p cases))

-- From these formulas the logic infers this one. The axioms of equality are stated of any terms, where they are often
-- stated of variables: instantiation gives the one from the other.
pub data Inference (h : History) : List Formula → Formula → Type 0 where
  excluded_middle : (a : Formula) → Inference h [] (Or (Not a) a)
  reflexive : (t : Term) → Inference h [] (Equation t t)
  congruent : (f : List ℕ) (pairs : List (Term × Term)) →
      Inference h [] (implied (equations pairs) (Equation (call f (map (λ pair. pair.0) pairs)) (call f (map (λ pair. pair.1) pairs))))
  equal_ends : (a b c d : Term) → Inference h [] (implied (Equation a b ∷ Equation c d ∷ Equation a c ∷ []) (Equation b d))
  axiom_of : (a : Formula) → IsAxiom h a → Inference h [] a
  expansion : (a b : Formula) → Inference h (b ∷ []) (Or a b)
  contraction : (a : Formula) → Inference h (Or a a ∷ []) a
  associativity : (a b c : Formula) → Inference h (Or a (Or b c) ∷ []) (Or (Or a b) c)
  cut : (a b c : Formula) → Inference h (Or a b ∷ Or (Not a) c ∷ []) (Or b c)
  instantiation : (a : Formula) (s : Substitution) → Inference h (a ∷ []) (instance s a)
  induction : (p : Formula) (m : Term) (cases : List Case) → Inference h (induction_premises p m cases) p

-- A list of formulas, the latest first: each is a formula over the history's symbols, and is inferred from earlier ones.
abbrev pub IsDerivation : History → List Formula → Type 0
IsDerivation h [] = ⊤
IsDerivation h (f ∷ earlier) =
    IsFormula (symbols_of h) f × (premises : List Formula) × Inference h premises f × Each (λ p. IsAmong p earlier) premises × IsDerivation h earlier

-- some derivation ends in f
unfoldable pub Derivable : History → Formula → Type 0
Derivable h f = (earlier : List Formula) × IsDerivation h (f ∷ earlier)
