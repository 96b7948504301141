-- The rules of inference and the axioms, written out.
use Rattle.std.specs.Prelude.{[], ◌∷◌, codes}
use Rattle.nq_logic.specs.Terms.{Term, Substitution, substituted}
use Rattle.nq_logic.specs.Words.{variable, call0, call1, call2, call3}
use Rattle.nq_logic.specs.Formulas.{Formula, Equation, Not, Or, instance}
use Rattle.nq_logic.specs.Histories.{History, Axiom, Defines, AddShell}
use Rattle.nq_logic.specs.Ground.{defines1}
use Rattle.nq_logic.specs.ShellTable.{stacks}
use Rattle.nq_logic.specs.Derivations.{Inference, IsAxiom}

-- a and b, which stands for not (not a or not b)
abbrev both : Formula → Formula → Formula
both a b = Not (Or (Not a) (Not b))

-- the term is not F
abbrev true_of : Term → Formula
true_of t = Not (Equation t (call0 "FALSE"))

-- Each rule, from which formulas it infers which.
pub record RulesAsWritten (h : History) : Type 0 where
  pub excluded_middle : (a : Formula) → Inference h [] (Or (Not a) a)
  pub reflexivity : (t : Term) → Inference h [] (Equation t t)
  pub equal_arguments :
      (a b c d : Term) → Inference h [] (Or (Not (Equation a b)) (Or (Not (Equation c d)) (Equation (call2 "CONS" a c) (call2 "CONS" b d))))
  pub equal_ends :
      (a b c d : Term) → Inference h [] (Or (Not (Equation a b)) (Or (Not (Equation c d)) (Or (Not (Equation a c)) (Equation b d))))
  pub expansion : (a b : Formula) → Inference h (b ∷ []) (Or a b)
  pub contraction : (a : Formula) → Inference h (Or a a ∷ []) a
  pub associativity : (a b c : Formula) → Inference h (Or a (Or b c) ∷ []) (Or (Or a b) c)
  pub cut : (a b c : Formula) → Inference h (Or a b ∷ Or (Not a) c ∷ []) (Or b c)
  pub instantiation :
      (t : Term) → Inference h (Not (Equation (call1 "CAR" (variable "X")) (variable "Y")) ∷ []) (Not (Equation (call1 "CAR" t) (variable "Y")))
  pub induction :
      (p q1 q2 : Formula) (m : Term) (s1 s2 s3 : Substitution) →
      Inference h
      (true_of (call1 "ORDINALP" m)
      ∷ Or (Not q1) (true_of (call2 "ORD-LESSP" (substituted s1 m) m))
      ∷ Or (Not q1) (true_of (call2 "ORD-LESSP" (substituted s2 m) m))
      ∷ Or (Not q2) (true_of (call2 "ORD-LESSP" (substituted s3 m) m))
      ∷ Or (Not (both (Not q1) (Not q2))) p
      ∷ Or (Not (both q1 (both (instance s1 p) (instance s2 p)))) p
      ∷ Or (Not (both q2 (instance s3 p))) p ∷ [])
      p

abbrev x : Term
x = variable "X"

abbrev y : Term
y = variable "Y"

abbrev z : Term
z = variable "Z"

-- Each axiom of the logic, and one of each kind that a history adds.
pub record AxiomsAsWritten (h : History) : Type 0 where
  pub truth : IsAxiom h (Not (Equation (call0 "TRUE") (call0 "FALSE")))
  pub equal : IsAxiom h (Or (Not (Equation x y)) (Equation (call2 "EQUAL" x y) (call0 "TRUE")))
  pub unequal : IsAxiom h (Or (Not (Not (Equation x y))) (Equation (call2 "EQUAL" x y) (call0 "FALSE")))
  pub if_false : IsAxiom h (Or (Not (Equation x (call0 "FALSE"))) (Equation (call3 "IF" x y z) z))
  pub if_true : IsAxiom h (Or (Not (Not (Equation x (call0 "FALSE")))) (Equation (call3 "IF" x y z) y))
  pub size : IsAxiom h (true_of (call1 "NUMBERP" (call1 "COUNT" x)))
  pub one_less : IsAxiom h (Or (true_of (call1 "ZEROP" x)) (true_of (call2 "LESSP" (call1 "SUB1" x) x)))
  pub ground_definition : IsAxiom h (Equation (call2 "GREATERP" x y) (call2 "LESSP" y x))
  pub ground_shell : IsAxiom h (true_of (call1 "NUMBERP" (call1 "ADD1" (variable "X1"))))
  pub definition : IsAxiom (Defines (defines1 "DOUBLE" "X" (call2 "PLUS" x x)) ∷ h) (Equation (call1 "DOUBLE" x) (call2 "PLUS" x x))
  pub shell_apart : IsAxiom (AddShell stacks ∷ h) (Or (true_of (call1 "NOT" (call1 "STACKP" x))) (true_of (call1 "NOT" (call1 "NEGATIVEP" x))))
  pub added : (t : Term) → IsAxiom (Axiom (codes "A") [] t ∷ h) (true_of t)

abbrev pub RulesOfLogic : Type 0
RulesOfLogic = (h : History) → RulesAsWritten h

abbrev pub AxiomsOfLogic : Type 0
AxiomsOfLogic = (h : History) → AxiomsAsWritten h
