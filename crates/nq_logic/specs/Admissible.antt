-- Which definitions a history admits.
use Rattle.std.specs.Prelude.{◌≡◌, Bool, true, false, ◌||◌, ◌&&◌, not, if◌then◌else◌, List, [], ◌∷◌, ◌++◌, map, length, filter, bytes_eq, codes, Option, Some, None, ⊤}
use Rattle.nq_logic.specs.Terms.{Name, Term, Variable, Function, Applied, IsTerm, IsAmong, Each, Substitution, substituted}
use Rattle.nq_logic.specs.Words.{call1, call2, not_term}
use Rattle.nq_logic.specs.Formulas.{clause}
use Rattle.nq_logic.specs.Histories.{History, Definition}
use Rattle.nq_logic.specs.Ground.{symbols_of}
use Rattle.nq_logic.specs.Names.{has_name, is_in_use}
use Rattle.nq_logic.specs.Derivations.{Derivable}

-- whether the function f stands in the term
abbrev pub mentions : Name → Term → Bool
mentions f (Variable x) = false
mentions f (Function g) = bytes_eq f g
mentions f (Applied t u) = mentions f t || mentions f u

-- each variable of the term is one of these
abbrev pub HasVariables : List Name → Term → Type 0
HasVariables xs (Variable x) = IsAmong x xs
HasVariables xs (Function f) = ⊤
HasVariables xs (Applied t u) = HasVariables xs t × HasVariables xs u

-- the same, as a test
abbrev pub has_variables : List Name → Term → Bool
has_variables xs (Variable x) = has_name x xs
has_variables xs (Function f) = true
has_variables xs (Applied t u) = has_variables xs t && has_variables xs u

-- no name stands twice
abbrev pub AreDistinct : List Name → Type 0
AreDistinct [] = ⊤
AreDistinct (x ∷ xs) = (IsAmong x xs → ⊥) × AreDistinct xs

-- A call within a term, with the tests that govern it: in the first side of an IF its test, and in the second side the
-- NOT of its test.
pub record Call : Type 0 where
  pub tests : List Term
  pub arguments : List Term

abbrev pub governed : Term → List Call → List Call
governed p calls = map (λ c. record { tests = p ∷ c.tests; arguments = c.arguments }) calls

abbrev pub all_calls : List (List Call) → List Call
all_calls [] = []
all_calls (calls ∷ rest) = calls ++ all_calls rest

-- the calls within the test and the two sides of an IF, each of which is given by its own calls
abbrev pub second_side : Term → List (List Call) → List Call
second_side p [] = []
second_side p (calls ∷ rest) = governed (not_term p) calls ++ all_calls rest

abbrev pub both_sides : Term → List (List Call) → List Call
both_sides p [] = []
both_sides p (calls ∷ rest) = governed p calls ++ second_side p rest

abbrev pub if_calls : List Term → List (List Call) → List Call
if_calls arguments [] = []
if_calls [] (calls ∷ rest) = all_calls (calls ∷ rest)
if_calls (p ∷ arguments) (calls ∷ rest) = calls ++ both_sides p rest

abbrev pub own_call : Name → Name → List Term → List Call
own_call f g arguments = if bytes_eq f g then record { tests = []; arguments = arguments } ∷ [] else []

-- the calls of f within a term that is given these further arguments, and of which these are the calls within them
abbrev pub calls_with : Name → Term → List Term → List (List Call) → List Call
calls_with f (Variable x) arguments inner = []
calls_with f (Function g) arguments inner =
    own_call f g arguments ++ (if bytes_eq g (codes "IF") then if_calls arguments inner else all_calls inner)
calls_with f (Applied t u) arguments inner = calls_with f t (u ∷ arguments) (calls_with f u [] [] ∷ inner)

-- the calls of f within a term, in the order of their opening parentheses
abbrev pub calls_of : Name → Term → List Call
calls_of f t = calls_with f t [] []

-- each formal with its argument
abbrev pub matched : List Name → List Term → Substitution
matched [] ts = []
matched (x ∷ xs) [] = []
matched (x ∷ xs) (t ∷ ts) = (x, t) ∷ matched xs ts

-- the tests that do not mention f, each as NOT
abbrev pub denied_tests : Name → List Term → List Term
denied_tests f tests = map not_term (filter (λ t. not (mentions f t)) tests)

-- the measure falls at a call of these arguments under these tests
abbrev pub obligation : Name → List Name → Term → List Term → List Term → List Term
obligation f xs m tests arguments =
    denied_tests f tests ++ (call2 "ORD-LESSP" (substituted (matched xs arguments) m) m ∷ [])

-- the measure at this call's arguments does not mention the function, and the call's obligation is derivable
pub record FallsAt (h : History) (d : Definition) (m : Term) (c : Call) : Type 0 where
  pub older : mentions d.function (substituted (matched d.formals c.arguments) m) ≡ false
  pub less : Derivable h (clause (obligation d.function d.formals m c.tests c.arguments))

-- m is a measure of the definition: an ordinal that falls at each call of the function in the body
pub record IsMeasure (h : History) (d : Definition) (m : Term) : Type 0 where
  pub over : IsTerm (symbols_of h) m
  pub of_formals : HasVariables d.formals m
  pub ordinal : Derivable h (clause (call1 "ORDINALP" m ∷ []))
  pub falls : Each (FallsAt h d m) (calls_of d.function d.body)

-- a measure stands exactly where the body calls the function
abbrev pub IsMeasured : History → Definition → Bool → Option Term → Type 0
IsMeasured h d false None = ⊤
IsMeasured h d false (Some m) = ⊥
IsMeasured h d true None = ⊥
IsMeasured h d true (Some m) = IsMeasure h d m

-- The Definition Principle: the function is new, its formals are distinct and the only variables of the body, the body is
-- over the history's functions and the new one, and where it calls the new one its measure falls.
pub record IsAdmissible (h : History) (d : Definition) : Type 0 where
  pub unused : is_in_use d.function h ≡ false
  pub distinct : AreDistinct d.formals
  pub closed : HasVariables d.formals d.body
  pub over : IsTerm ((d.function, length d.formals) ∷ symbols_of h) d.body
  pub measured : IsMeasured h d (mentions d.function d.body) d.measure
