-- What holds of clauses of variables and NOTs of variables.
use Rattle.std.specs.Prelude.{List, [], ◌∷◌}
use Rattle.nq_logic.specs.Histories.{History}
use Rattle.nq_events.specs.Events.{Hints}
use Rattle.nq_goals.specs.Normal.{IsNormal}
use Rattle.nq_goals.specs.Dropping.{DropMove}
use Rattle.nq_goals.specs.Paths.{Above, goals_above}
use Rattle.nq_decided.specs.Literals.{Signed, literals, AreApart}
use Rattle.nq_decided.specs.Shaped.{IsShaped}

-- such a clause is normal
abbrev pub ClausesAreNormal : Type 0
ClausesAreNormal = (h : History) (hints : Hints) (ss : List Signed) → IsShaped h hints → AreApart ss → IsNormal h hints (literals ss)

-- its first literal can be dropped, where there is another
abbrev pub LiteralsAreDropped : Type 0
LiteralsAreDropped = (h : History) (hints : Hints) (above : Above) (s u : Signed) (ss : List Signed) → AreApart (s ∷ u ∷ ss) → DropMove h hints (goals_above above) (literals (s ∷ u ∷ ss)) (literals (u ∷ ss) ∷ [])
