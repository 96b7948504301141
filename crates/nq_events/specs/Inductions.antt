-- Calls that suggest an induction, and calls that can be opened.
use Rattle.std.specs.Prelude.{Bool, false, bytes_eq, if◌then◌else◌, List, [], ◌∷◌, Option, None, Some}
use Rattle.nq_logic.specs.Terms.{Name, Term, Variable, Function, Applied, Substitution}
use Rattle.nq_logic.specs.Histories.{History, Definition, events_definitions}
use Rattle.nq_logic.specs.Ground.{all_events}
use Rattle.nq_logic.specs.Names.{has_name, are_distinct}
use Rattle.nq_logic.specs.Admissible.{matched}
use Rattle.nq_logic.specs.RuleShapes.{variables_of}

-- the function of a call
abbrev pub head_of : Term → Option Name
head_of (Variable x) = None
head_of (Function f) = Some f
head_of (Applied t u) = head_of t

-- the arguments of a call, before further ones
abbrev pub arguments_before : Term → List Term → List Term
arguments_before (Variable x) more = more
arguments_before (Function f) more = more
arguments_before (Applied t u) more = arguments_before t (u ∷ more)

abbrev pub arguments_of : Term → List Term
arguments_of t = arguments_before t []

abbrev pub definition_among : List Definition → Name → Option Definition
definition_among [] f = None
definition_among (d ∷ definitions) f = if bytes_eq f d.function then Some d else definition_among definitions f

abbrev pub definition_if : History → Option Name → Option Definition
definition_if h None = None
definition_if h (Some f) = definition_among (events_definitions (all_events h)) f

-- the definition of the function that a term calls
abbrev pub opened_by : History → Term → Option Definition
opened_by h t = definition_if h (head_of t)

-- the terms in the places of the formals of a measure
abbrev pub measured : List Name → Substitution → List Term
measured xs [] = []
measured xs (b ∷ s) = if has_name b.0 xs then b.1 ∷ measured xs s else measured xs s

abbrev pub name_before : Term → Option (List Name) → Option (List Name)
name_before (Variable x) (Some xs) = Some (x ∷ xs)
name_before (Variable x) None = None
name_before (Function f) rest = None
name_before (Applied t u) rest = None

-- the names of terms that are all variables
abbrev pub names_of : List Term → Option (List Name)
names_of [] = Some []
names_of (t ∷ ts) = name_before t (names_of ts)

abbrev pub are_distinct_names : Option (List Name) → Bool
are_distinct_names None = false
are_distinct_names (Some xs) = are_distinct xs

abbrev pub suggests_by : Definition → Option Term → List Term → Bool
suggests_by d None arguments = false
suggests_by d (Some m) arguments = are_distinct_names (names_of (measured (variables_of m) (matched d.formals arguments)))

abbrev pub suggests_of : Option Definition → List Term → Bool
suggests_of None arguments = false
suggests_of (Some d) arguments = suggests_by d d.measure arguments

-- A call suggests an induction where its function is recursive, and the terms in the places of the formals of its measure
-- are distinct variables.
abbrev pub suggests_induction : History → Term → Bool
suggests_induction h t = suggests_of (opened_by h t) (arguments_of t)
