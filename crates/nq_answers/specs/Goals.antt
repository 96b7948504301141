-- The text of a goal.
use Rattle.std.specs.Prelude.{ℕ, List, [], ◌∷◌, ◌++◌, codes}
use Rattle.nq_logic.specs.Terms.{Term}
use Rattle.nq_language.specs.Printing.{printed}

-- more literals, each behind an OR
abbrev pub more_literals : List Term → List ℕ
more_literals [] = []
more_literals (l ∷ literals) = codes " OR " ++ (printed l ++ more_literals literals)

-- the literals of a goal, joined by OR
abbrev pub goal_text : List Term → List ℕ
goal_text [] = codes "no literal"
goal_text (l ∷ literals) = printed l ++ more_literals literals
