-- The shapes of terms that can serve as rules.
use Rattle.std.specs.Prelude.{◌≡◌, ℕ, Bool, true, false, ◌||◌, ◌&&◌, not, if◌then◌else◌, List, [], ◌∷◌, ◌++◌, bytes_eq, codes}
use Rattle.nq_logic.specs.Terms.{Name, Term, Variable, Function, Applied, substituted, Each}
use Rattle.nq_logic.specs.Names.{has_name}
use Rattle.nq_logic.specs.Values.{is_value}
use Rattle.nq_logic.specs.Admissible.{HasVariables}
use Rattle.nq_logic.specs.Histories.{RuleClass, Rewrite, Elim, Generalize}

-- whether this is a function of the name, given no argument yet
abbrev pub is_function_named : Name → Term → Bool
is_function_named f (Variable x) = false
is_function_named f (Function g) = bytes_eq f g
is_function_named f (Applied t u) = false

-- the AND parts of a term
abbrev pub and_parts : Term → List Term
and_parts (Variable x) = Variable x ∷ []
and_parts (Function f) = Function f ∷ []
and_parts (Applied (Variable x) u) = Applied (Variable x) u ∷ []
and_parts (Applied (Function f) u) = Applied (Function f) u ∷ []
and_parts (Applied (Applied f t) u) = if is_function_named (codes "AND") f then and_parts t ++ and_parts u else Applied (Applied f t) u ∷ []

-- a term's hypotheses and its conclusion
pub record RuleParts : Type 0 where
  pub hypotheses : List Term
  pub conclusion : Term

-- these hypotheses first
abbrev pub supposing : List Term → RuleParts → RuleParts
supposing hs parts = record { hypotheses = hs ++ parts.hypotheses; conclusion = parts.conclusion }

-- (IMPLIES h c) has the AND parts of h as hypotheses and goes on with c; any other term is the conclusion
abbrev pub rule_parts : Term → RuleParts
rule_parts (Variable x) = record { hypotheses = []; conclusion = Variable x }
rule_parts (Function f) = record { hypotheses = []; conclusion = Function f }
rule_parts (Applied (Variable x) u) = record { hypotheses = []; conclusion = Applied (Variable x) u }
rule_parts (Applied (Function f) u) = record { hypotheses = []; conclusion = Applied (Function f) u }
rule_parts (Applied (Applied f t) u) =
    if is_function_named (codes "IMPLIES") f
    then supposing (and_parts t) (rule_parts u)
    else record { hypotheses = []; conclusion = Applied (Applied f t) u }

abbrev pub is_call : Term → Bool
is_call (Variable x) = false
is_call (Function f) = true
is_call (Applied t u) = is_call t

-- the left side of a part: l of (EQUAL l r) and of (NOT l), and any other part as a whole
abbrev pub left_side : Term → Term
left_side (Variable x) = Variable x
left_side (Function f) = Function f
left_side (Applied (Variable x) u) = Applied (Variable x) u
left_side (Applied (Function f) u) = if bytes_eq f (codes "NOT") then u else Applied (Function f) u
left_side (Applied (Applied f t) u) = if is_function_named (codes "EQUAL") f then t else Applied (Applied f t) u

-- whether the left side of a part is a call and no value
abbrev pub is_rewritable : Term → Bool
is_rewritable part = is_call (left_side part) && not (is_value (left_side part))

abbrev pub are_rewritable : List Term → Bool
are_rewritable [] = true
are_rewritable (part ∷ parts) = is_rewritable part && are_rewritable parts

-- each AND part of the conclusion has a left side that is a call and no value
abbrev pub IsRewriteShape : Term → Type 0
IsRewriteShape t = Each (λ part. (is_call (left_side part) ≡ true) × (is_value (left_side part) ≡ false)) (and_parts (rule_parts t).conclusion)

-- the terms that stand within the arguments of a call
abbrev pub inner_terms : Term → List Term
inner_terms (Variable x) = []
inner_terms (Function f) = []
inner_terms (Applied t u) = inner_terms t ++ (u ∷ inner_terms u)

-- whether a call's arguments are variables, none of them twice and none of these
abbrev pub has_distinct_variables : List Name → Term → Bool
has_distinct_variables seen (Variable x) = false
has_distinct_variables seen (Function f) = true
has_distinct_variables seen (Applied t (Variable x)) = not (has_name x seen) && has_distinct_variables (x ∷ seen) t
has_distinct_variables seen (Applied t (Function f)) = false
has_distinct_variables seen (Applied t (Applied u v)) = false

-- whether the variable is one of a call's arguments
abbrev pub has_argument : Name → Term → Bool
has_argument x (Variable y) = false
has_argument x (Function f) = false
has_argument x (Applied t (Variable y)) = bytes_eq x y || has_argument x t
has_argument x (Applied t (Function f)) = has_argument x t
has_argument x (Applied t (Applied u v)) = has_argument x t

-- a destructor call of the variable: a call of distinct variables, the variable among them
abbrev pub is_destructor_call : Name → Term → Bool
is_destructor_call x t = has_distinct_variables [] t && has_argument x t

-- whether the variable stands in some argument of a call other than in destructor calls of it
abbrev pub stands_apart_within : Name → Term → Bool
stands_apart_within x (Variable y) = bytes_eq x y
stands_apart_within x (Function f) = false
stands_apart_within x (Applied t u) = stands_apart_within x t || (not (is_destructor_call x u) && stands_apart_within x u)

abbrev pub has_destructor_call : Name → List Term → Bool
has_destructor_call x [] = false
has_destructor_call x (t ∷ ts) = is_destructor_call x t || has_destructor_call x ts

-- t holds a destructor call of x, and x stands in t only in such calls
abbrev pub is_elimination : Term → Name → Bool
is_elimination t x = has_destructor_call x (t ∷ inner_terms t) && not (not (is_destructor_call x t) && stands_apart_within x t)

abbrev pub is_elim_conclusion : Term → Bool
is_elim_conclusion (Variable x) = false
is_elim_conclusion (Function f) = false
is_elim_conclusion (Applied (Applied f t) (Variable x)) = is_function_named (codes "EQUAL") f && is_elimination t x
is_elim_conclusion (Applied (Applied f t) (Function g)) = false
is_elim_conclusion (Applied (Applied f t) (Applied u v)) = false
is_elim_conclusion (Applied (Variable x) u) = false
is_elim_conclusion (Applied (Function f) u) = false

-- the conclusion is (EQUAL t V), where t holds a destructor call of the variable V, and V stands in t only in such calls
abbrev pub IsElimShape : Term → Type 0
IsElimShape t = is_elim_conclusion (rule_parts t).conclusion ≡ true

-- the functions whose calls alone give nothing to generalize
abbrev pub plain_functions : List Name
plain_functions =
    codes "IF" ∷ codes "EQUAL" ∷ codes "TRUE" ∷ codes "FALSE" ∷ codes "NOT" ∷ codes "AND" ∷ codes "OR" ∷ codes "IMPLIES" ∷ codes "IFF" ∷ []

-- whether the term holds a call of another function
abbrev pub calls_another : Term → Bool
calls_another (Variable x) = false
calls_another (Function f) = not (has_name f plain_functions)
calls_another (Applied t u) = calls_another t || calls_another u

abbrev pub IsGeneralizeShape : Term → Type 0
IsGeneralizeShape t = calls_another t ≡ true

-- the term can serve as a rule of the class
abbrev pub IsOfShape : RuleClass → Term → Type 0
IsOfShape Rewrite t = IsRewriteShape t
IsOfShape Elim t = IsElimShape t
IsOfShape Generalize t = IsGeneralizeShape t

-- the same as a test
abbrev pub is_of_shape : RuleClass → Term → Bool
is_of_shape Rewrite t = are_rewritable (and_parts (rule_parts t).conclusion)
is_of_shape Elim t = is_elim_conclusion (rule_parts t).conclusion
is_of_shape Generalize t = calls_another t

-- the variables of a term, each as often as it stands there
abbrev pub variables_of : Term → List Name
variables_of (Variable x) = x ∷ []
variables_of (Function f) = []
variables_of (Applied t u) = variables_of t ++ variables_of u

-- r is l with its variables exchanged, each for itself perhaps: each is an instance of the other, so the two differ in the
-- places of their variables alone, and r has no other variables
pub record IsPermutative (l r : Term) : Type 0 where
  pub there : List (List ℕ × Term)
  pub back : List (List ℕ × Term)
  pub becomes : substituted there l ≡ r
  pub returns : substituted back r ≡ l
  pub own : HasVariables (variables_of l) r
