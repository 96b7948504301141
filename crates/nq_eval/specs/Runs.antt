-- Evaluation of a term, turn by turn.
use Rattle.std.specs.Prelude.{◌≡◌, ◌+◌, ℕ, List, [], ⊤}
use Rattle.nq_bank.specs.Content.{Content}
use Rattle.nq_history.specs.declared.entry.Entry.{Entry}
use Rattle.nq_kernel.specs.declared.work.Work.{Work}
use Rattle.nq_eval.specs.Known.{Memo}
use Rattle.nq_eval.specs.Gathered.{CanEvaluate}
use Rattle.nq_eval.specs.Frames.{AreWaiting, IsTurn, hand_of}
use Rattle.nq_eval.specs.Weights.{turn_weight, frames_weight}
use Rattle.nq_eval.specs.declared.frames.Frame.{Frame}
use Rattle.nq_eval.specs.declared.frames.Turn.{Turn}
use Rattle.nq_eval.specs.declared.frames.Turn.TheVariants as turn
use Rattle.nq_eval.specs.declared.evaluation.Run.{Run}

-- what waits, waits for the whole in the end, and what is at hand stands
pub record IsRun (history : List Entry) (work : Work) (memo : Memo) (run : Run) : Type 0 where
  pub can : CanEvaluate history work memo
  pub waiting : AreWaiting history work run.frames.items run.whole (hand_of run.turn)
  pub turn_is : IsTurn history work run.turn

-- how much is left to do before the next opening
abbrev pub run_weight : Content → Run → ℕ
run_weight bank run = turn_weight bank run.turn + frames_weight bank run.frames.items

-- what is found goes to no one, or a call was just opened
abbrev pub rests : Turn → List Frame → Type 0
rests (turn.Enter r) fs = ⊤
rests (turn.Look r) fs = ⊥
rests (turn.Give r what) fs = fs ≡ []
