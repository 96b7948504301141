-- What the lines of a measure show.
use Rattle.std.specs.Prelude.{◌≡◌, false, List, [], ◌∷◌}
use Rattle.nq_logic.specs.Terms.{Name, Term}
use Rattle.nq_logic.specs.Words.{call1}
use Rattle.nq_logic.specs.Histories.{History}
use Rattle.nq_logic.specs.Admissible.{mentions, Call}
use Rattle.nq_logic.specs.Derivations.{Derivable}
use Rattle.nq_logic.specs.Formulas.{clause}
use Rattle.nq_calls.specs.Falls.{obligation_at, smaller_at}

-- the measure is an ordinal
abbrev pub ordinal_clause : Term → List Term
ordinal_clause m = call1 "ORDINALP" m ∷ []

-- The measure falls at the call: where it is smaller does not mention the function, and the obligation is derivable.
pub record FallsThere (h : History) (f : Name) (xs : List Name) (m : Term) (c : Call) : Type 0 where
  pub older : mentions f (smaller_at xs m c) ≡ false
  pub less : Derivable h (clause (obligation_at xs m c))
