-- The measure of a definition falls at each recursive call.
use Rattle.std.specs.Prelude.{◌≡◌, List, [], ◌∷◌, ◌++◌, map, Some}
use Rattle.nq_logic.specs.Terms.{Term, IsTerm, Each, substituted}
use Rattle.nq_logic.specs.Words.{call1, call2, not_term}
use Rattle.nq_logic.specs.Formulas.{clause}
use Rattle.nq_logic.specs.Histories.{History, Definition}
use Rattle.nq_logic.specs.Ground.{symbols_of, ground_definitions}
use Rattle.nq_logic.specs.Admissible.{Call, calls_of, matched, HasVariables}
use Rattle.nq_logic.specs.Derivations.{Derivable}

-- the measure at the arguments of a call is below the measure
abbrev pub fall_of : Definition → Term → List Term → Term
fall_of d m arguments = call2 "ORD-LESSP" (substituted (matched d.formals arguments) m) m

-- under all tests that govern the call the measure falls there
abbrev pub FallsUnder : History → Definition → Term → Call → Type 0
FallsUnder h d m c = Derivable h (clause (map not_term c.tests ++ (fall_of d m c.arguments ∷ [])))

-- m is over the formals, and it is an ordinal that falls at each call of the function in its body
pub record Falls (h : History) (d : Definition) (m : Term) : Type 0 where
  pub over : IsTerm (symbols_of h) m
  pub of_formals : HasVariables d.formals m
  pub body : IsTerm (symbols_of h) d.body
  pub ordinal : Derivable h (clause (call1 "ORDINALP" m ∷ []))
  pub falls : Each (FallsUnder h d m) (calls_of d.function d.body)

-- of the definition the measure falls, if it has one
abbrev pub FallsByMeasure : Definition → Type 0
FallsByMeasure d = (m : Term) → d.measure ≡ Some m → Falls [] d m

-- of each definition of the ground history
abbrev pub GroundDefinitionsFall : Type 0
GroundDefinitionsFall = Each FallsByMeasure ground_definitions
