-- The obligations of the counted calls are those of the calls.
use Rattle.std.proofs.Common.{List, [], ◌∷◌}
use Rattle.nq_logic.specs.Terms.{Term, IsTerm, Each}
use Rattle.nq_logic.specs.Histories.{History, Definition}
use Rattle.nq_logic.specs.Ground.{symbols_of}
use Rattle.nq_logic.specs.Formulas.{clause}
use Rattle.nq_logic.specs.Derivations.{Derivable}
use Rattle.nq_logic.specs.Admissible.{Call, calls_of, HasVariables, FallsAt, IsMeasure}
use Rattle.nq_calls.specs.Calls.{beneath, counted_calls}
use Rattle.nq_measures.specs.Measures.{FallsThere, ordinal_clause}

module _ (h : History) (d : Definition) (m : Term) where
  each_falls : (calls : List Call) → Each (FallsThere h d.function d.formals m) (beneath d.function [] calls) → Each (FallsAt h d m) calls
  each_falls [] falls = tt
  each_falls (c ∷ calls) falls = (record { older = falls.0.older; less = falls.0.less }, each_falls calls falls.1)

  pub measured : IsTerm (symbols_of h) m → HasVariables d.formals m → Derivable h (clause (ordinal_clause m)) → Each (FallsThere h d.function d.formals m) (counted_calls d.function d.body) → IsMeasure h d m
  measured over of_formals ordinal falls = record { over = over; of_formals = of_formals; ordinal = ordinal; falls = each_falls (calls_of d.function d.body) falls }
