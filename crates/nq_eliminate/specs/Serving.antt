-- Calls of a goal that a rule's destructor calls become with other variables.
use Rattle.std.specs.Prelude.{◌≡◌, ℕ, Bool, true, false, ◌&&◌, bytes_eq, List, [], ◌∷◌, length, map, Some}
use Rattle.nq_logic.specs.Terms.{Name, Term, Variable, Function, Applied, Each, IsAmong, Substitution, call, substituted, value_at}
use Rattle.nq_logic.specs.RuleShapes.{is_destructor_call, variables_of}
use Rattle.nq_logic.specs.Values.{is_value}
use Rattle.nq_bank.specs.declared.node.TermId.{TermId}
use Rattle.nq_bank.specs.Content.{Content, IsNamed, Stands, term_at, text_at}
use Rattle.nq_bank.specs.Parts.{parts_of}
use Rattle.nq_proof.specs.Clauses.{Clause, distinct}
use Rattle.nq_goals.specs.Eliminating.{no_copies}
use Rattle.nq_goals.specs.Generalizing.{chosen_from}
use Rattle.nq_goals.specs.Replacing.{parts_in, parts_in_all, stands_in_one}
use Rattle.nq_stuck.specs.Destructors.{is_variable}
use Rattle.nq_eliminate.specs.Images.{StayDistinct, has_other, image}
use Rattle.nq_eliminate.specs.declared.rules.Rule.{Rule}
use Rattle.nq_eliminate.specs.declared.serving.Served.{Served}

abbrev pub are_variables : List Term → Bool
are_variables [] = true
are_variables (t ∷ ts) = is_variable t && are_variables ts

-- whether the term is a function with variables alone
abbrev pub is_flat : Term → Bool
is_flat (Variable x) = false
is_flat (Function f) = true
is_flat (Applied t u) = is_variable u && is_flat t

-- the destructor calls of a variable in a term, and in terms, each as often as it stands there
abbrev pub calls_of : Name → Term → List Term
calls_of x t = chosen_from (is_destructor_call x) (parts_in t)

abbrev pub calls_of_all : Name → List Term → List Term
calls_of_all x ts = chosen_from (is_destructor_call x) (parts_in_all ts)

-- the same, each once
abbrev pub destructors_in : Name → Term → List Term
destructors_in x t = distinct (calls_of x t)

-- With variables for its variables the destructor call becomes the call, which stands in the goal and is no value. The destructor calls
-- stay distinct, and no other variable of the call becomes what the eliminated one does.
pub record Serves (x : Name) (goal : Clause) (ds : List Term) (d u : Term) (s : Substitution) : Type 0 where
  pub variables : (y : Name) → is_variable (value_at s y) ≡ true
  pub destructor : is_destructor_call x d ≡ true
  pub makes : substituted s d ≡ u
  pub other : is_value u ≡ false
  pub apart : no_copies (map (substituted s) ds) ≡ true
  pub differs : (y : Name) → IsAmong y (variables_of d) → bytes_eq y x ≡ false → value_at s y ≡ value_at s x → ⊥
  pub stands : stands_in_one u goal ≡ true

-- no variables do so
abbrev pub ServesNone : Name → Clause → List Term → Term → Term → Type 0
ServesNone x goal ds d u = (s : Substitution) → Serves x goal ds d u s → ⊥

-- for none of the calls
abbrev pub ServesNoneOf : Name → Clause → List Term → List Term → Term → Type 0
ServesNoneOf x goal ds us d = Each (ServesNone x goal ds d) us

-- none of a rule's destructor calls for none of the calls
abbrev pub NoneServe : Name → Clause → Term → List Term → Type 0
NoneServe x goal t us = Each (ServesNoneOf x goal (destructors_in x t) us) (destructors_in x t)

-- The terms can become these, which are as many variables: the variable becomes one that no other does, and no two of the destructor
-- calls become one.
pub record Becomes (x : Name) (ds from to : List Term) : Type 0 where
  pub variables : are_variables to ≡ true
  pub many : length from ≡ length to
  pub into : Term
  pub becomes : image from to (Variable x) ≡ Some into
  pub alone : has_other from to (Variable x) into ≡ false
  pub apart : StayDistinct from to ds

-- a call of a function, whose arguments these terms can become
pub record CallServes (x : Name) (ds : List Term) (f : Name) (from : List Term) (u : Term) : Type 0 where
  pub second : u ≡ call f (parts_of u)
  pub becomes : Becomes x ds from (parts_of u)

-- a destructor call and a call of the same function, whose arguments the arguments of the first can become
pub record MayServe (x : Name) (ds : List Term) (d u : Term) : Type 0 where
  pub function : List ℕ
  pub first : d ≡ call function (parts_of d)
  pub serves : CallServes x ds function (parts_of d) u

-- the same of a call that stands in the goal
pub record IsServed (x : Name) (goal : Clause) (ds : List Term) (d u : Term) : Type 0 where
  pub may : MayServe x ds d u
  pub stands : stands_in_one u goal ≡ true

-- the same over ids
pub record ServesAt (bank : Content) (x : Name) (goal : Clause) (ds : List Term) (d : Term) (u : TermId) : Type 0 where
  pub call : Stands bank u
  pub served : IsServed x goal ds d (term_at bank u)

-- the ids of a rule: what its variable is made of, the variable and its name
pub record IsRuleIn (bank : Content) (r : Rule) : Type 0 where
  pub named : IsNamed bank r.name
  pub made_of : Stands bank r.made_of
  pub variable : Stands bank r.variable
  pub variable_is : term_at bank r.variable ≡ Variable (text_at bank r.name)

-- one of these destructor calls of a rule, and the call of the goal that it becomes
pub record IsServedBy (bank : Content) (goal : Clause) (ds these : List Term) (r : Rule) (s : Served) : Type 0 where
  pub rule : s.rule ≡ r
  pub destructor : Stands bank s.destructor
  pub call : Stands bank s.call
  pub among : IsAmong (term_at bank s.destructor) these
  pub served : IsServed (text_at bank r.name) goal ds (term_at bank s.destructor) (term_at bank s.call)
