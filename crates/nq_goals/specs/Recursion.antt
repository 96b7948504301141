-- Recursive functions. A definition is recursive where its body calls its own function. The Definition Principle gives it a
-- measure then, and at no other time; so recursion is read off the measure.
use Rattle.std.specs.Prelude.{◌≡◌, Bool, false, ◌||◌, ◌&&◌, Option, Some, None, is_some, []}
use Rattle.nq_logic.specs.Terms.{Name, Term, Variable, Function, Applied}
use Rattle.nq_logic.specs.Histories.{History, Definition, Event, AddShell, Declaration, Defines, Axiom, Lemma, Toggle}
use Rattle.nq_logic.specs.Names.{looked_up}
use Rattle.nq_logic.specs.Admissible.{mentions, IsAdmissible}
use Rattle.nq_logic.specs.RuleShapes.{has_distinct_variables}

abbrev pub is_recursive_definition : Definition → Bool
is_recursive_definition d = is_some d.measure

-- in a history that meets the Definition Principle both say the same
abbrev pub RecursionIsTold : Type 0
RecursionIsTold = (h : History) (d : Definition) → IsAdmissible h d → is_recursive_definition d ≡ mentions d.function d.body

abbrev pub is_recursive_event : Option Event → Bool
is_recursive_event None = false
is_recursive_event (Some (AddShell s)) = false
is_recursive_event (Some (Declaration f n)) = false
is_recursive_event (Some (Defines d)) = is_recursive_definition d
is_recursive_event (Some (Axiom n classes t)) = false
is_recursive_event (Some (Lemma n classes t)) = false
is_recursive_event (Some (Toggle n old disabled)) = false

-- whether the function is recursive
abbrev pub is_recursive : History → Name → Bool
is_recursive h f = is_recursive_event (looked_up f h)

-- whether a recursive function stands in the term
unfoldable pub holds_recursive : History → Term → Bool
holds_recursive h (Variable x) = false
holds_recursive h (Function f) = is_recursive h f
holds_recursive h (Applied t u) = holds_recursive h t || holds_recursive h u

-- whether the function of a call is recursive
abbrev pub calls_recursive : History → Term → Bool
calls_recursive h (Variable x) = false
calls_recursive h (Function f) = is_recursive h f
calls_recursive h (Applied t u) = calls_recursive h t

-- whether the term is one call of a recursive function, on distinct variables
abbrev pub is_recursive_call : History → Term → Bool
is_recursive_call h t = calls_recursive h t && has_distinct_variables [] t
