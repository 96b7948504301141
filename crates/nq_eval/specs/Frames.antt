-- Terms that wait for the value of a part, one within the other.
use Rattle.std.specs.Prelude.{◌≡◌, ◌≤◌, ◌<◌, ◌-◌, ℕ, false, List, [], ◌∷◌, length, get_or, take, All, ⊤}
use Rattle.nq_bank.specs.declared.node.TermId.{TermId}
use Rattle.nq_bank.specs.Content.{term_at, terms_at}
use Rattle.nq_bank.specs.Parts.{parts_of}
use Rattle.nq_history.specs.declared.entry.Entry.{Entry}
use Rattle.nq_kernel.specs.declared.work.Work.{Work}
use Rattle.nq_fragments.specs.Outcomes.{is_small}
use Rattle.nq_eval.specs.Lines.{IsUsable}
use Rattle.nq_eval.specs.Heads.{IsChoice, IsOtherCall}
use Rattle.nq_eval.specs.Sides.{side_at}
use Rattle.nq_eval.specs.Known.{IsReached, IsFoundFor, IsFoundOn}
use Rattle.nq_eval.specs.Gathered.{HasRoom, AreReached, IsReduced}
use Rattle.nq_eval.specs.Opened.{IsOpenedTo}
use Rattle.nq_eval.specs.declared.found.Found.{Found}
use Rattle.nq_eval.specs.declared.frames.Request.{Request}
use Rattle.nq_eval.specs.declared.frames.Gathering.{Gathering}
use Rattle.nq_eval.specs.declared.frames.Choosing.{Choosing}
use Rattle.nq_eval.specs.declared.frames.Entered.{Entered}
use Rattle.nq_eval.specs.declared.frames.Wait.{Wait}
use Rattle.nq_eval.specs.declared.frames.Wait.TheVariants as wait
use Rattle.nq_eval.specs.declared.frames.Frame.{Frame}
use Rattle.nq_eval.specs.declared.frames.Turn.{Turn}
use Rattle.nq_eval.specs.declared.frames.Turn.TheVariants as turn
use Rattle.nq_eval.specs.declared.frames.CallAnswer.{CallAnswer}
use Rattle.nq_eval.specs.declared.frames.CallAnswer.TheVariants as answer
use Rattle.nq_eval.specs.declared.frames.Step.{Step}
use Rattle.nq_eval.specs.declared.frames.Step.TheVariants as step

-- how many arguments have values
abbrev pub gathered : Gathering → ℕ
gathered g = length g.values.known.items

-- there is a part to wait for, and calls are left for it
abbrev pub CanWait : Request → Wait → Type 0
CanWait r (wait.Argument g) = (gathered g < length g.arguments.items) × (g.values.calls ≤ r.calls)
CanWait r (wait.Test parts) = ⊤
CanWait r (wait.Side c) = c.test.calls ≤ r.calls
CanWait r (wait.Body e) = (0 < r.nesting) × (e.used < r.calls)

-- the part of which the value is waited for
abbrev pub child_at : Request → Wait → Request
child_at r (wait.Argument g) = record { term = get_or g.arguments.items (gathered g) (record { 0 = 0 }); nesting = r.nesting; calls = r.calls - g.values.calls }
child_at r (wait.Test parts) = record { term = parts.test; nesting = r.nesting; calls = r.calls }
child_at r (wait.Side c) = record { term = c.side; nesting = r.nesting; calls = r.calls - c.test.calls }
child_at r (wait.Body e) = record { term = e.opened.body; nesting = r.nesting - 1; calls = r.calls - e.used - 1 }

abbrev pub child_of : Frame → Request
child_of f = child_at f.request f.wait

-- a part is looked at next, and what a call was opened to is entered
abbrev pub turn_at : Request → Wait → Turn
turn_at r (wait.Argument g) = turn.Look (child_at r (wait.Argument g))
turn_at r (wait.Test parts) = turn.Look (child_at r (wait.Test parts))
turn_at r (wait.Side c) = turn.Look (child_at r (wait.Side c))
turn_at r (wait.Body e) = turn.Enter (child_at r (wait.Body e))

abbrev pub turn_of : Frame → Turn
turn_of f = turn_at f.request f.wait

-- the first arguments of a call have their values
pub record IsGathering (history : List Entry) (work : Work) (r : Request) (g : Gathering) : Type 0 where
  pub head : IsOtherCall work.bank r.term g.function
  pub parts : terms_at work.bank g.arguments.items ≡ parts_of (term_at work.bank r.term)
  pub rooms : All (HasRoom work.bank history) g.arguments.items
  pub some : gathered g ≤ length g.arguments.items
  pub reached : AreReached history work (take (gathered g) g.arguments.items) r.nesting r.calls g.values

-- the test of an IF has its value, which chooses the side
pub record IsChoosing (history : List Entry) (work : Work) (r : Request) (c : Choosing) : Type 0 where
  pub head : IsChoice work.bank r.term c.parts
  pub chosen : c.side ≡ side_at work.bank c.parts c.test.value
  pub test_reached : IsReached history work c.parts.test r.nesting r.calls c.test

-- the call of the values of a call's arguments was opened
pub record IsEntered (history : List Entry) (work : Work) (r : Request) (e : Entered) : Type 0 where
  pub reduced : IsReduced history work r.term r.nesting r.calls e.used e.deepest e.call
  pub opens : IsOpenedTo history work e.call.term e.opened

abbrev pub Waits : List Entry → Work → Request → Wait → Type 0
Waits history work r (wait.Argument g) = IsGathering history work r g
Waits history work r (wait.Test parts) = IsChoice work.bank r.term parts
Waits history work r (wait.Side c) = IsChoosing history work r c
Waits history work r (wait.Body e) = IsEntered history work r e

-- a term that is no small value waits for a part of it
pub record IsWaiting (history : List Entry) (work : Work) (f : Frame) : Type 0 where
  pub usable : IsUsable work.bank history f.request.term
  pub large : is_small (term_at work.bank f.request.term) ≡ false
  pub can : CanWait f.request f.wait
  pub waits : Waits history work f.request f.wait

-- The frames wait one for the other: the first for the whole, and the last one waits for the term at hand.
abbrev pub AreWaiting : List Entry → Work → List Frame → Request → Request → Type 0
AreWaiting history work [] whole hand = whole ≡ hand
AreWaiting history work (f ∷ fs) whole hand = IsWaiting history work f × (f.request ≡ whole) × AreWaiting history work fs (child_of f) hand

-- what was found for a request
abbrev pub IsFoundAt : List Entry → Work → Request → Found → Type 0
IsFoundAt history work r what = IsFoundFor history work r.term r.nesting r.calls what

-- the term at hand
abbrev pub hand_of : Turn → Request
hand_of (turn.Enter r) = r
hand_of (turn.Look r) = r
hand_of (turn.Give r what) = r

abbrev pub IsTurn : List Entry → Work → Turn → Type 0
IsTurn history work (turn.Enter r) = IsUsable work.bank history r.term
IsTurn history work (turn.Look r) = IsUsable work.bank history r.term
IsTurn history work (turn.Give r what) = IsFoundAt history work r what

abbrev pub IsStep : List Entry → Work → Request → Step → Type 0
IsStep history work r (step.Found what) = IsFoundAt history work r what
IsStep history work r (step.Wait f) = IsWaiting history work f × (f.request ≡ r)

-- what is found for a call on values; or what it opens to, which may be entered
abbrev pub IsCallAnswer : List Entry → Work → TermId → ℕ → ℕ → CallAnswer → Type 0
IsCallAnswer history work u n left (answer.Found what) = IsFoundOn history work u n left what
IsCallAnswer history work u n left (answer.Opened o) = IsOpenedTo history work u o × (0 < n) × (0 < left)
