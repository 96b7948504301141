-- The ways that lead a goal on.
use Rattle.std.specs.Prelude.{◌≡◌, ◌<◌, List, [], Vec, length}
use Rattle.std.specs.declared.alloc.Global.{Global}
use Rattle.nq_bank.specs.declared.node.TermId.{TermId}
use Rattle.nq_bank.specs.Content.{terms_at}
use Rattle.nq_history.specs.declared.entry.Entry.{Entry}
use Rattle.nq_kernel.specs.declared.work.Work.{Work}
use Rattle.nq_lines.specs.Lines.{LineHasOnly}
use Rattle.nq_elim.specs.Eliminations.{IsEliminationWay}
use Rattle.nq_induct.specs.Goals as induction
use Rattle.nq_induct.specs.Schemes.{IsSchemeIn}
use Rattle.nq_moves.specs.Ways as moves
use Rattle.nq_search.specs.Goals.{goals_at}
use Rattle.nq_simplify.specs.Simplified.{IsSimplified}
use Rattle.nq_tactic.specs.declared.way.Induction.{Induction}
use Rattle.nq_tactic.specs.declared.way.Way.{Way}
use Rattle.nq_tactic.specs.declared.way.Way.TheVariants as way

-- the goals to which a way leads
abbrev pub nexts_of : Way → List (Vec TermId Global)
nexts_of (way.Simplified s) = s.nexts.items
nexts_of (way.Moved m) = m.children.items
nexts_of (way.Eliminated e) = e.nexts.items
nexts_of (way.Inducted i) = i.nexts.items
nexts_of (way.Refuted n) = []

-- the lines of the scheme stand, and the goals are those of the induction by it
pub record IsInduction (history : List Entry) (work : Work) (goal : List TermId) (i : Induction) : Type 0 where
  pub scheme : IsSchemeIn history work i.scheme
  pub some : 0 < length goal
  pub leads : goals_at work.bank i.nexts.items ≡ induction.goals_at work.bank i.scheme goal

-- lines of the goals to which the way leads give a line of the goal
abbrev pub IsWay : List Entry → Work → List TermId → Way → Type 0
IsWay history work goal (way.Simplified s) = IsSimplified history work (terms_at work.bank goal) s
IsWay history work goal (way.Moved m) = moves.IsWay history work goal m
IsWay history work goal (way.Eliminated e) = IsEliminationWay history work goal e
IsWay history work goal (way.Inducted i) = IsInduction history work goal i
IsWay history work goal (way.Refuted n) = LineHasOnly work n (terms_at work.bank goal)
