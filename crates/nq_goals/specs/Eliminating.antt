-- ELIM: destructor calls of a variable are replaced by new variables, and the variable by what an elimination rule says that it
-- is made of.
use Rattle.std.specs.Prelude.{not, ◌≡◌, ℕ, Bool, true, false, ◌&&◌, ◌||◌, if◌then◌else◌, bytes_eq, List, [], ◌∷◌, ◌++◌, map, length, Option, Some, None, codes}
use Rattle.nq_logic.specs.Terms.{Name, Term, Variable, Function, Applied, Substitution, substituted, IsAmong, Each}
use Rattle.nq_logic.specs.Words.{not_term, equal_term}
use Rattle.nq_logic.specs.Histories.{History, Shell, RuleClass, Rewrite, Elim, Generalize, Event, AddShell, Declaration, Defines, Axiom, Lemma, Toggle}
use Rattle.nq_logic.specs.Ground.{all_events}
use Rattle.nq_logic.specs.Names.{has_name, is_enabled_for}
use Rattle.nq_logic.specs.Shells.{whole, remade, recognizes}
use Rattle.nq_logic.specs.RuleShapes.{RuleParts, rule_parts, is_destructor_call}
use Rattle.nq_proof.specs.Clauses.{Clause, has_term, distinct}
use Rattle.nq_events.specs.Events.{Hints}
use Rattle.nq_goals.specs.Equations.{Equation, equation_of}
use Rattle.nq_goals.specs.Replacing.{Exchange, parts_in, parts_in_all, stands_in_one, exchanged}
use Rattle.nq_goals.specs.NewVariables.{clause_variables, new_variables, used_variables}
use Rattle.nq_goals.specs.Generalizing.{chosen_from, exchange_of, IsFact}

-- under the hypotheses, the whole is the variable
pub record ElimRule : Type 0 where
  pub hypotheses : List Term
  pub made_of : Term
  pub variable : List ℕ

-- the rule of a term's hypotheses and of its conclusion (EQUAL t V)
abbrev pub rule_of_sides : List Term → Term → Term → List ElimRule
rule_of_sides hs t (Variable v) = record { hypotheses = hs; made_of = t; variable = v } ∷ []
rule_of_sides hs t (Function f) = []
rule_of_sides hs t (Applied f u) = []

abbrev pub rule_of_equation : List Term → Option Equation → List ElimRule
rule_of_equation hs None = []
rule_of_equation hs (Some e) = rule_of_sides hs e.left e.right

abbrev pub rule_of_parts : RuleParts → List ElimRule
rule_of_parts parts = rule_of_equation parts.hypotheses (equation_of parts.conclusion)

abbrev pub is_elim : RuleClass → Bool
is_elim Rewrite = false
is_elim Elim = true
is_elim Generalize = false

abbrev pub has_elim : List RuleClass → Bool
has_elim [] = false
has_elim (class ∷ classes) = is_elim class || has_elim classes

-- X is not the base
abbrev pub no_base : Option Name → List Term
no_base None = []
no_base (Some b) = not_term (equal_term whole (Function b)) ∷ []

abbrev pub has_parts : List (List ℕ) → Bool
has_parts [] = false
has_parts (x ∷ xs) = true

-- the rule of a shell with parts: an object of the shell other than its base is the constructor's call of its parts
abbrev pub shell_rules : Shell → List ElimRule
shell_rules s =
    elim (has_parts (map (λ part. part.accessor) s.parts)) as (λ b. List ElimRule) [
      | true ↦ record { hypotheses = recognizes s whole ∷ no_base s.base; made_of = remade s; variable = codes "X" } ∷ []
      | false ↦ []
    ]

-- the elimination rules of an event: of a shell, and of an axiom or lemma of the class that is enabled
abbrev pub event_rules : History → Hints → Event → List ElimRule
event_rules h hints (AddShell s) = shell_rules s
event_rules h hints (Declaration f n) = []
event_rules h hints (Defines d) = []
event_rules h hints (Axiom n classes t) = if has_elim classes && is_enabled_for hints.enable hints.disable n h then rule_of_parts (rule_parts t) else []
event_rules h hints (Lemma n classes t) = if has_elim classes && is_enabled_for hints.enable hints.disable n h then rule_of_parts (rule_parts t) else []
event_rules h hints (Toggle n old disabled) = []

abbrev pub events_rules : History → Hints → List Event → List ElimRule
events_rules h hints [] = []
events_rules h hints (e ∷ es) = event_rules h hints e ++ events_rules h hints es

-- the enabled elimination rules, of the oldest event first
abbrev pub elim_rules : History → Hints → List ElimRule
elim_rules h hints = events_rules h hints (all_events h)

-- the destructor calls of a rule, each once
abbrev pub destructors : ElimRule → List Term
destructors rule = distinct (chosen_from (is_destructor_call rule.variable) (parts_in rule.made_of))

-- the names without later copies
abbrev pub without_name : Name → List Name → List Name
without_name x [] = []
without_name x (y ∷ ys) = if bytes_eq x y then without_name x ys else y ∷ without_name x ys

abbrev pub distinct_names : List Name → List Name
distinct_names [] = []
distinct_names (x ∷ xs) = x ∷ without_name x (distinct_names xs)

-- the variables of a rule other than the one that is eliminated, each once
abbrev pub other_variables : ElimRule → List Name
other_variables rule = without_name rule.variable (distinct_names (clause_variables (rule.made_of ∷ rule.hypotheses)))

-- a variable for each of these
abbrev pub renaming : List Name → List Name → Substitution
renaming [] ys = []
renaming (x ∷ xs) [] = []
renaming (x ∷ xs) (y ∷ ys) = (x, Variable y) ∷ renaming xs ys

-- a rule, the variable for the one that is eliminated, and one for each of the others in their order
pub record Eliminating : Type 0 where
  pub rule : ElimRule
  pub variable : List ℕ
  pub others : List (List ℕ)

abbrev pub renaming_of : Eliminating → Substitution
renaming_of e = renaming (e.rule.variable ∷ other_variables e.rule) (e.variable ∷ e.others)

-- the rule's terms with these variables
abbrev pub hypotheses_of : Eliminating → List Term
hypotheses_of e = map (substituted (renaming_of e)) e.rule.hypotheses

abbrev pub whole_of : Eliminating → Term
whole_of e = substituted (renaming_of e) e.rule.made_of

abbrev pub destructors_of : Eliminating → List Term
destructors_of e = map (substituted (renaming_of e)) (destructors e.rule)

abbrev pub one_stands : List Term → Clause → Bool
one_stands [] goal = false
one_stands (t ∷ ts) goal = stands_in_one t goal || one_stands ts goal

abbrev pub no_copies : List Term → Bool
no_copies [] = true
no_copies (t ∷ ts) = not (has_term t ts) && no_copies ts

-- The rule is enabled and each of its variables has one, of which the eliminated one differs from the others. The instances of
-- the destructor calls are distinct, and one of them stands in the goal.
pub record EliminateCandidate (h : History) (hints : Hints) (goal : Clause) (e : Eliminating) : Type 0 where
  pub enabled : IsAmong e.rule (elim_rules h hints)
  pub each : length e.others ≡ length (other_variables e.rule)
  pub differs : has_name e.variable e.others ≡ false
  pub apart : no_copies (destructors_of e) ≡ true
  pub stands : one_stands (destructors_of e) goal ≡ true

-- the goal with one further literal
abbrev pub hypothesis_goal : Clause → Term → Clause
hypothesis_goal goal hypothesis = distinct (goal ++ (hypothesis ∷ []))

-- the variables that a new one must not be
abbrev pub known_variables : List Clause → Clause → Eliminating → List Name
known_variables path goal e = used_variables path goal ++ (e.variable ∷ e.others)

-- a new variable in the place of each destructor call
abbrev pub exchange_for : List Clause → Clause → Eliminating → Exchange
exchange_for path goal e = exchange_of (destructors_of e) (new_variables (known_variables path goal e) (length (destructors_of e)))

-- The goal where the hypotheses hold: with their NOTs and with added facts, with the new variables in the place of the
-- destructor calls, and then with the whole, which has them too, in the place of the variable.
abbrev pub eliminated_goal : List Clause → Clause → Eliminating → List Term → Clause
eliminated_goal path goal e facts =
    distinct (map (λ t. substituted ((e.variable, exchanged (exchange_for path goal e) (whole_of e)) ∷ []) (exchanged (exchange_for path goal e) t))
    (goal ++ (map not_term (hypotheses_of e) ++ map not_term facts)))

-- the move leads from the goal to these goals alone: to one for each hypothesis, and to one where they hold
pub record EliminateMove (h : History) (hints : Hints) (path : List Clause) (goal : Clause) (nexts : List Clause) : Type 0 where
  pub chosen : Eliminating
  pub candidate : EliminateCandidate h hints goal chosen
  pub facts : List Term
  pub are_facts : Each (IsFact h) facts
  pub leads : nexts ≡ map (hypothesis_goal goal) (hypotheses_of chosen) ++ (eliminated_goal path goal chosen facts ∷ [])

-- the variables of a destructor call, each with the one in its place
abbrev pub arguments_paired : Term → Term → List (List ℕ × List ℕ)
arguments_paired (Variable x) u = []
arguments_paired (Function f) u = []
arguments_paired (Applied t (Variable x)) (Applied u (Variable y)) = (x, y) ∷ arguments_paired t u
arguments_paired (Applied t s) u = []

-- whether the call is the destructor call with other variables
abbrev pub is_renamed : Term → Term → Bool
is_renamed (Function f) (Function g) = bytes_eq f g
is_renamed (Applied t (Variable x)) (Applied u (Variable y)) = is_renamed t u
is_renamed t u = false

abbrev pub name_in : List (List ℕ × List ℕ) → Name → Option Name
name_in [] x = None
name_in (p ∷ ps) x = if bytes_eq x p.0 then Some p.1 else name_in ps x

-- a name for each variable; the new ones are taken in turn
abbrev pub named_by : Option Name → List Name → (List Name → List Name) → List Name
named_by None [] rest = []
named_by None (y ∷ ys) rest = y ∷ rest ys
named_by (Some y) ys rest = y ∷ rest ys

abbrev pub names_for : List (List ℕ × List ℕ) → List Name → List Name → List Name
names_for ps [] new = []
names_for ps (x ∷ xs) new = named_by (name_in ps x) new (names_for ps xs)

-- the same as a test
abbrev pub can_eliminate : Clause → Eliminating → Bool
can_eliminate goal e = not (has_name e.variable e.others) && no_copies (destructors_of e) && one_stands (destructors_of e) goal

-- the rule with the variables of a call, and with new ones for the rule's variables that the destructor call does not have
abbrev pub filled : Clause → ElimRule → List (List ℕ × List ℕ) → Name → Eliminating
filled goal rule ps x =
    record { rule = rule; variable = x; others = names_for ps (other_variables rule) (new_variables (clause_variables goal) (length (other_variables rule))) }

abbrev pub elimination_of : Clause → ElimRule → List (List ℕ × List ℕ) → Option Name → List Eliminating
elimination_of goal rule ps None = []
elimination_of goal rule ps (Some x) = elim (can_eliminate goal (filled goal rule ps x)) as (λ b. List Eliminating) [ true ↦ filled goal rule ps x ∷ [] | false ↦ [] ]

abbrev pub from_calls : Clause → ElimRule → Term → List Term → List Eliminating
from_calls goal rule d [] = []
from_calls goal rule d (u ∷ us) =
    (if is_renamed d u then elimination_of goal rule (arguments_paired d u) (name_in (arguments_paired d u) rule.variable) else []) ++ from_calls goal rule d us

abbrev pub from_destructors : Clause → ElimRule → List Term → List Eliminating
from_destructors goal rule [] = []
from_destructors goal rule (d ∷ ds) = from_calls goal rule d (parts_in_all goal) ++ from_destructors goal rule ds

abbrev pub from_rules : Clause → List ElimRule → List Eliminating
from_rules goal [] = []
from_rules goal (rule ∷ rules) = from_destructors goal rule (destructors rule) ++ from_rules goal rules

-- The candidates of a goal with as few forced variables as there can be: of each rule, each of its destructor calls, and each
-- call in the goal that is the destructor call with other variables. Each other candidate is one of these with other variables
-- in the place of the new ones; so there is none exactly where this list is empty.
abbrev pub eliminations_of : History → Hints → Clause → List Eliminating
eliminations_of h hints goal = from_rules goal (elim_rules h hints)
