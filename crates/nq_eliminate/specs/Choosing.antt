-- The elimination that is chosen for a rule: with the variables of a call of the goal, and new ones for the rest.
use Rattle.std.specs.Prelude.{ℕ, List, [], ◌∷◌, length}
use Rattle.nq_logic.specs.Terms.{Name, Term, Variable, Function, Applied}
use Rattle.nq_bank.specs.Content.{Content, term_at}
use Rattle.nq_bank.specs.Parts.{parts_of}
use Rattle.nq_proof.specs.Clauses.{Clause}
use Rattle.nq_goals.specs.Eliminating.{ElimRule, Eliminating, names_for, other_variables}
use Rattle.nq_goals.specs.NewVariables.{clause_variables, new_variables}
use Rattle.nq_eliminate.specs.Finding.{rule_at}
use Rattle.nq_eliminate.specs.declared.finding.Candidate.{Candidate}

-- the names of the variables among terms
abbrev pub names_of : List Term → List Name
names_of [] = []
names_of (Variable x ∷ ts) = x ∷ names_of ts
names_of (Function f ∷ ts) = names_of ts
names_of (Applied t u ∷ ts) = names_of ts

-- each name with the one in its place
abbrev pub paired : List Name → List Name → List (List ℕ × List ℕ)
paired [] ys = []
paired (x ∷ xs) [] = []
paired (x ∷ xs) (y ∷ ys) = (x, y) ∷ paired xs ys

-- the pairs of the arguments of a destructor call and of a call
abbrev pub call_pairs : Term → Term → List (List ℕ × List ℕ)
call_pairs d u = paired (names_of (parts_of d)) (names_of (parts_of u))

-- the variables of a rule, the one that is eliminated first
abbrev pub rule_variables : ElimRule → List Name
rule_variables rule = rule.variable ∷ other_variables rule

-- new variables for those of a rule that a call may not name
abbrev pub new_names : Clause → ElimRule → List Name
new_names goal rule = new_variables (clause_variables goal) (length (other_variables rule))

-- a rule, and names for its variables
abbrev pub with_names : ElimRule → List Name → Eliminating
with_names rule [] = record { rule = rule; variable = rule.variable; others = [] }
with_names rule (y ∷ ys) = record { rule = rule; variable = y; others = ys }

-- the rule with the variables of the call, and with new ones for the others
abbrev pub chosen_by : Clause → ElimRule → Term → Term → Eliminating
chosen_by goal rule d u = with_names rule (names_for (call_pairs d u) (rule_variables rule) (new_names goal rule))

-- the same of a candidate
abbrev pub chosen_at : Content → Clause → Candidate → Eliminating
chosen_at bank goal c = chosen_by goal (rule_at bank (term_at bank c.term) c.served.rule) (term_at bank c.served.destructor) (term_at bank c.served.call)
