-- What becomes of a goal for which a move may be found.
use Rattle.std.proofs.Common.{List, Option, Some, None}
use Rattle.std.specs.Prelude.{IfSome}
use Rattle.nq_bank.specs.declared.node.TermId.{TermId}
use Rattle.nq_history.specs.declared.entry.Entry.{Entry}
use Rattle.nq_history.specs.declared.hints.Hints.{Hints}
use Rattle.nq_kernel.specs.declared.work.Work.{Work}
use Rattle.nq_waterfall.specs.declared.mover.Lead.{Lead}
use Rattle.nq_waterfall.specs.declared.trail.Ancestor.{Ancestor}
use Rattle.nq_waterfall.specs.Turns.{IsLead, IsTurn}
use Rattle.nq_legal.specs.declared.way.Way.{Way}
use Rattle.nq_legal.specs.Legal.{IsLegal, IsWay}
use Rattle.nq_legal.specs.Turning.{turn_of}

module _ (history : List Entry) (hints : Hints) (work : Work) (path : List Ancestor) (goal : List TermId) where
  pub turn_led : (found : Option (Lead Way)) → IfSome found (IsLead IsWay history hints work path goal) → IsTurn IsWay history hints work path goal (turn_of found)
  turn_led None h = tt
  turn_led (Some lead) h = h

  pub turn_legal : (found : Option (Lead Way)) → IfSome found (IsLegal history hints work goal) → IsTurn IsWay history hints work path goal (turn_of found)
  turn_legal None h = tt
  turn_legal (Some lead) h = h path
