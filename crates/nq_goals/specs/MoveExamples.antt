-- Goals with their candidates, and where moves lead.
use Rattle.std.specs.Prelude.{◌≡◌, true, false, [], ◌∷◌, length, codes, None}
use Rattle.nq_logic.specs.Terms.{Term}
use Rattle.nq_logic.specs.Words.{variable, call1, call2, true_term, equal_term, not_term, numeral, zero_term}
use Rattle.nq_logic.specs.Histories.{Event, Lemma, Toggle, Elim}
use Rattle.nq_proof.specs.Clauses.{Clause}
use Rattle.nq_goals.specs.NormalExamples.{x, y, plus, no_hints}
use Rattle.nq_goals.specs.Substituting.{Substituting, substitutions_of, substituted_goal}
use Rattle.nq_goals.specs.Dropping.{droppings_of, group_of, others}
use Rattle.nq_goals.specs.Fertilizing.{Fertilizing, fertilizings_of}
use Rattle.nq_goals.specs.Replacing.{AreReplacedOnce, exchanged}
use Rattle.nq_goals.specs.NewVariables.{numbered, new_variables}
use Rattle.nq_goals.specs.Generalizing.{generalizings_of, exchange_of}
use Rattle.nq_goals.specs.Eliminating.{ElimRule, elim_rules, destructors, other_variables, Eliminating, EliminateCandidate, hypotheses_of, eliminated_goal, eliminations_of}

abbrev pub z : Term
z = variable "Z"

abbrev differ : Term → Term → Term
differ a b = not_term (equal_term a b)

abbrev car : Term → Term
car t = call1 "CAR" t

abbrev cdr : Term → Term
cdr t = call1 "CDR" t

-- X is CAR of Y
abbrev x_is_car : Substituting
x_is_car = record { literal = differ x (car y); variable = codes "X"; term = car y }

-- X is used up, from either side; of two variables either one; a variable in the term, and an equation that is no
-- hypothesis, give nothing
pub record Substitutions : Type 0 where
  pub left : substitutions_of (differ x (car y) ∷ []) ≡ x_is_car ∷ []
  pub right : substitutions_of (differ (car y) x ∷ []) ≡ record { literal = differ (car y) x; variable = codes "X"; term = car y } ∷ []
  pub either : substitutions_of (differ x y ∷ []) ≡ record { literal = differ x y; variable = codes "X"; term = y } ∷ record { literal = differ x y; variable = codes "Y"; term = x } ∷ []
  pub within : substitutions_of (differ x (car x) ∷ differ y y ∷ []) ≡ []
  pub claim : substitutions_of (equal_term x (car y) ∷ []) ≡ []
  pub no_variable : substitutions_of (differ (car x) (car y) ∷ []) ≡ []
  pub leads : substituted_goal x_is_car (plus x y ∷ differ x (car y) ∷ plus (car y) y ∷ call1 "LISTP" x ∷ []) ≡ (plus (car y) y ∷ call1 "LISTP" (car y) ∷ [])

-- X and Y hang together by a literal with both
abbrev chain : Clause
chain = call1 "LISTP" x ∷ call1 "NUMBERP" z ∷ plus y y ∷ equal_term x y ∷ true_term ∷ []

-- groups by their variables; a group without recursive functions, one call of one, and the goal as a whole
pub record Droppings : Type 0 where
  pub chained : group_of chain (call1 "LISTP" x) ≡ (call1 "LISTP" x ∷ equal_term x y ∷ plus y y ∷ [])
  pub alone : group_of chain (call1 "NUMBERP" z) ≡ call1 "NUMBERP" z ∷ []
  pub ground : group_of chain true_term ≡ true_term ∷ []
  pub chain_droppings : droppings_of [] chain ≡ (call1 "NUMBERP" z ∷ []) ∷ (true_term ∷ []) ∷ []
  pub rest : others (true_term ∷ []) chain ≡ call1 "LISTP" x ∷ call1 "NUMBERP" z ∷ plus y y ∷ equal_term x y ∷ []
  pub lone : droppings_of [] (not_term (call2 "MEMBER" x y) ∷ equal_term (plus z z) z ∷ []) ≡ (not_term (call2 "MEMBER" x y) ∷ []) ∷ []
  pub not_distinct : droppings_of [] (call2 "MEMBER" x x ∷ equal_term (plus z z) z ∷ []) ≡ []
  pub not_recursive : droppings_of [] (call1 "LISTP" (car x) ∷ equal_term (plus z z) z ∷ []) ≡ (call1 "LISTP" (car x) ∷ []) ∷ []
  pub whole : droppings_of [] (call1 "LISTP" x ∷ call1 "NUMBERP" x ∷ []) ≡ []
  pub none : droppings_of [] [] ≡ []

-- A is a sum, and B is a variable or the other side
abbrev fertilizing : Term → Term → Term → Fertilizing
fertilizing l a b = record { literal = l; from = a; into = b }

pub record Fertilizings : Type 0 where
  pub left : fertilizings_of (differ (plus x y) z ∷ call1 "ZEROP" (plus x y) ∷ []) ≡ fertilizing (differ (plus x y) z) (plus x y) z ∷ []
  pub right : fertilizings_of (call1 "ZEROP" (plus x y) ∷ differ z (plus x y) ∷ []) ≡ fertilizing (differ z (plus x y)) (plus x y) z ∷ []
  pub value : fertilizings_of (differ (numeral 2) (plus x y) ∷ equal_term z (numeral 2) ∷ []) ≡ []
  pub elsewhere : fertilizings_of (differ (plus x y) z ∷ call1 "ZEROP" (plus y x) ∷ []) ≡ []
  pub variable_side : fertilizings_of (differ x (plus y z) ∷ call1 "ZEROP" x ∷ []) ≡ []
  pub one_place : AreReplacedOnce (plus x y) z (equal_term (plus x y) (plus x y) ∷ []) (equal_term z (plus x y) ∷ [])
  pub no_place : AreReplacedOnce (plus x y) z (x ∷ []) (x ∷ []) → ⊥

pub record NewOnes : Type 0 where
  pub first : numbered 1 ≡ codes "V1"
  pub later : numbered 120 ≡ codes "V120"
  pub none_used : new_variables [] 2 ≡ codes "V1" ∷ codes "V2" ∷ []
  pub some_used : new_variables (codes "V2" ∷ codes "X" ∷ codes "V2" ∷ codes "V1" ∷ []) 2 ≡ codes "V3" ∷ codes "V4" ∷ []

-- a sum that stands on both sides, in two literals, or once; accessors, values and connectives are left
pub record Generalizings : Type 0 where
  pub both_sides : generalizings_of [] no_hints (equal_term (call1 "FIX" (plus x y)) (car (plus x y)) ∷ []) ≡ plus x y ∷ []
  pub two_literals : generalizings_of [] no_hints (call1 "LISTP" (plus x y) ∷ call1 "NUMBERP" (plus x y) ∷ []) ≡ plus x y ∷ []
  pub denied : generalizings_of [] no_hints (not_term (call2 "LESSP" (plus x y) (plus x y)) ∷ []) ≡ plus x y ∷ []
  pub once : generalizings_of [] no_hints (equal_term (plus x y) z ∷ []) ≡ []
  pub one_literal : generalizings_of [] no_hints (call2 "MEMBER" (plus x y) (plus x y) ∷ []) ≡ []
  pub kept : generalizings_of [] no_hints (call1 "LISTP" (car x) ∷ call1 "NUMBERP" (car x) ∷ equal_term (numeral 2) (numeral 2) ∷ []) ≡ []
  pub forbidden : generalizings_of [] (record no_hints { no_generalize = true }) (equal_term (plus x y) (plus x y) ∷ []) ≡ []
  pub outside_in : exchanged (exchange_of (plus x y ∷ call1 "FIX" (plus x y) ∷ []) (codes "V1" ∷ codes "V2" ∷ [])) (equal_term (plus x y) (call1 "FIX" (plus x y))) ≡ equal_term (variable "V1") (variable "V2")

abbrev cons_rule : ElimRule
cons_rule = record { hypotheses = call1 "LISTP" x ∷ []; made_of = call2 "CONS" (car x) (cdr x); variable = codes "X" }

-- Y for X
abbrev cons_of_y : Eliminating
cons_of_y = record { rule = cons_rule; variable = codes "Y"; others = [] }

abbrev quotients : Event
quotients = Lemma (codes "QR") (Elim ∷ []) (equal_term (plus (call2 "REMAINDER" x y) (call2 "TIMES" y (call2 "QUOTIENT" x y))) x)

abbrev quotient_rule : ElimRule
quotient_rule = record { hypotheses = []; made_of = plus (call2 "REMAINDER" x y) (call2 "TIMES" y (call2 "QUOTIENT" x y)); variable = codes "X" }

pub record Eliminations : Type 0 where
  pub ground :
      elim_rules [] no_hints
      ≡ record { hypotheses = call1 "NUMBERP" x ∷ differ x zero_term ∷ []; made_of = call1 "ADD1" (call1 "SUB1" x); variable = codes "X" }
      ∷ cons_rule
      ∷ record { hypotheses = call1 "LITATOM" x ∷ []; made_of = call1 "PACK" (call1 "UNPACK" x); variable = codes "X" }
      ∷ record { hypotheses = call1 "NEGATIVEP" x ∷ []; made_of = call1 "MINUS" (call1 "NEGATIVE-GUTS" x); variable = codes "X" }
      ∷ []
  pub parts : destructors cons_rule ≡ car x ∷ cdr x ∷ []
  pub lemma : length (elim_rules (quotients ∷ []) no_hints) ≡ 5
  pub disabled : length (elim_rules (quotients ∷ Toggle (codes "OFF") (codes "QR") true ∷ []) no_hints) ≡ 4
  pub quotient_parts : destructors quotient_rule ≡ call2 "REMAINDER" x y ∷ call2 "QUOTIENT" x y ∷ []
  pub quotient_others : other_variables quotient_rule ≡ codes "Y" ∷ []
  pub hypotheses : hypotheses_of cons_of_y ≡ call1 "LISTP" y ∷ []
  pub leads :
      eliminated_goal [] (call2 "MEMBER" (car y) y ∷ equal_term (variable "V1") y ∷ []) cons_of_y []
      ≡ call2 "MEMBER" (variable "V2") (call2 "CONS" (variable "V2") (variable "V3"))
      ∷ equal_term (variable "V1") (call2 "CONS" (variable "V2") (variable "V3"))
      ∷ not_term (call1 "LISTP" (call2 "CONS" (variable "V2") (variable "V3")))
      ∷ []

-- the rule of quotients, Z by Y
abbrev z_by_y : Eliminating
z_by_y = record { rule = quotient_rule; variable = codes "Z"; others = codes "Y" ∷ [] }

-- candidates that are found, and goals without one
pub record EliminationsFound : Type 0 where
  pub accessor : eliminations_of [] no_hints (call1 "NUMBERP" (cdr y) ∷ []) ≡ cons_of_y ∷ []
  pub both : eliminations_of [] no_hints (call2 "MEMBER" (car y) (cdr y) ∷ []) ≡ cons_of_y ∷ cons_of_y ∷ []
  pub nested : eliminations_of [] no_hints (call1 "NUMBERP" (car (plus x y)) ∷ []) ≡ []
  pub none : eliminations_of [] no_hints (equal_term x y ∷ []) ≡ []
  pub quotient : eliminations_of (quotients ∷ []) no_hints (call1 "ZEROP" (call2 "QUOTIENT" z y) ∷ []) ≡ z_by_y ∷ []
  pub one_variable : eliminations_of (quotients ∷ []) no_hints (call1 "ZEROP" (call2 "QUOTIENT" z z) ∷ []) ≡ []
  pub without_rule : eliminations_of [] no_hints (call1 "ZEROP" (call2 "QUOTIENT" z y) ∷ []) ≡ []

-- a destructor call stands in the goal, and of one variable for both there is none
pub record EliminationCandidates : Type 0 where
  pub stands : EliminateCandidate [] no_hints (call1 "NUMBERP" (cdr y) ∷ []) cons_of_y
  pub absent : EliminateCandidate [] no_hints (call1 "NUMBERP" (cdr z) ∷ []) cons_of_y → ⊥
  pub same : EliminateCandidate (quotients ∷ []) no_hints (call1 "NUMBERP" (call2 "QUOTIENT" z z) ∷ []) (record { rule = quotient_rule; variable = codes "Z"; others = codes "Z" ∷ [] }) → ⊥
