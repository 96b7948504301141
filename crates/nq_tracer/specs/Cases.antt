-- The scheme of induction that a call suggests: the measure of its function at its arguments, and a case for each call of the
-- function within its body.
use Rattle.std.specs.Prelude.{◌≡◌, true, List, [], ◌∷◌, map, length, Some, if◌then◌else◌}
use Rattle.nq_logic.specs.Terms.{Name, Term, Variable, Function, Applied, IsTerm, IsAmong, Each, Substitution, substituted, value_at}
use Rattle.nq_logic.specs.Histories.{History, Definition}
use Rattle.nq_logic.specs.Ground.{symbols_of}
use Rattle.nq_logic.specs.Names.{has_name}
use Rattle.nq_logic.specs.Admissible.{Call, calls_of, matched}
use Rattle.nq_logic.specs.RuleShapes.{variables_of}
use Rattle.nq_logic.specs.Laws.{InductionCase}
use Rattle.nq_events.specs.Inductions.{opened_by, arguments_of, suggests_by}
use Rattle.nq_goals.specs.Inducting.{IsCase, all_of}
use Rattle.nq_falls.specs.Falls.{Falls}

-- and what a variable becomes, if the term is one
abbrev pub change_of : Term → Term → Substitution → Substitution
change_of (Variable v) t rest = (v, t) ∷ rest
change_of (Function f) t rest = rest
change_of (Applied f u) t rest = rest

-- what the variables in the places of some formals become, where each formal has an image
abbrev pub changes_of : List Name → (Name → Term) → Substitution → Substitution
changes_of formals image [] = []
changes_of formals image (b ∷ s) = if has_name b.0 formals then change_of b.1 (image b.0) (changes_of formals image s) else changes_of formals image s

-- the argument of a recursive call in the place of a formal, at the arguments of the call at hand
abbrev pub image_by : (here there : Substitution) → Name → Term
image_by here there x = substituted here (value_at there x)

abbrev pub image_of : Definition → List Term → Call → Name → Term
image_of d arguments c = image_by (matched d.formals arguments) (matched d.formals c.arguments)

-- the case that a recursive call gives: its tests hold, and the measured variables become what they are there
abbrev pub case_there : Term → (here there : Substitution) → List Term → InductionCase
case_there m here there tests = record { test = all_of (map (substituted here) tests); substitutions = changes_of (variables_of m) (image_by here there) here ∷ [] }

abbrev pub case_by : List Name → Term → Substitution → Call → InductionCase
case_by formals m here c = case_there m here (matched formals c.arguments) c.tests

abbrev pub case_of : Definition → Term → List Term → Call → InductionCase
case_of d m arguments c = case_by d.formals m (matched d.formals arguments) c

-- the call suggests an induction by the measure of its function, and has as many arguments as this has formals
pub record IsSuggesting (h : History) (d : Definition) (m t : Term) : Type 0 where
  pub opened : opened_by h t ≡ Some d
  pub measure : d.measure ≡ Some m
  pub suggests : suggests_by d (Some m) (arguments_of t) ≡ true
  pub count : length (arguments_of t) ≡ length d.formals
  pub over : Each (IsTerm (symbols_of h)) (arguments_of t)

-- each call within the body gives a case, by which the measure at the arguments falls
abbrev pub CallsGiveCases : Type 0
CallsGiveCases =
    (h : History) (d : Definition) (m t : Term) (c : Call) (calls : List Term) → IsSuggesting h d m t → Falls h d m → IsAmong c (calls_of d.function d.body) → IsAmong t calls →
    IsCase h calls (substituted (matched d.formals (arguments_of t)) m) (case_of d m (arguments_of t) c)
