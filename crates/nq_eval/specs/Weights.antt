-- How much is left to do between two openings, and how many calls are left.
use Rattle.std.specs.Prelude.{◌≤◌, ◌<◌, ◌+◌, ℕ, List, [], ◌∷◌, drop}
use Rattle.nq_logic.specs.Terms.{Term, Variable, Function, Applied}
use Rattle.nq_bank.specs.Content.{Content, term_at, terms_at}
use Rattle.nq_history.specs.declared.entry.Entry.{Entry}
use Rattle.nq_kernel.specs.declared.work.Work.{Work}
use Rattle.nq_eval.specs.Known.{left_on}
use Rattle.nq_eval.specs.Frames.{gathered, turn_of, IsStep}
use Rattle.nq_eval.specs.declared.found.Found.{Found}
use Rattle.nq_eval.specs.declared.frames.Request.{Request}
use Rattle.nq_eval.specs.declared.frames.Gathering.{Gathering}
use Rattle.nq_eval.specs.declared.frames.Wait.{Wait}
use Rattle.nq_eval.specs.declared.frames.Wait.TheVariants as wait
use Rattle.nq_eval.specs.declared.frames.Frame.{Frame}
use Rattle.nq_eval.specs.declared.frames.Turn.{Turn}
use Rattle.nq_eval.specs.declared.frames.Turn.TheVariants as turn
use Rattle.nq_eval.specs.declared.frames.Step.{Step}
use Rattle.nq_eval.specs.declared.frames.Step.TheVariants as step

-- how much looking at a term takes: a turn for each node, and one to give what was found for it
unfoldable pub term_weight : Term → ℕ
term_weight (Variable x) = 2
term_weight (Function f) = 2
term_weight (Applied t u) = term_weight t + term_weight u + 2

abbrev pub terms_weight : List Term → ℕ
terms_weight [] = 0
terms_weight (t ∷ ts) = term_weight t + terms_weight ts

-- the arguments that have no value yet, and one to give what was found
abbrev pub gathering_weight : Content → Gathering → ℕ
gathering_weight bank g = terms_weight (terms_at bank (drop (gathered g) g.arguments.items)) + 2

abbrev pub turn_weight : Content → Turn → ℕ
turn_weight bank (turn.Enter r) = 0
turn_weight bank (turn.Look r) = term_weight (term_at bank r.term)
turn_weight bank (turn.Give r what) = 1

-- what is still to be looked at once the part has its value, and one to give what was found
abbrev pub wait_weight : Content → Wait → ℕ
wait_weight bank (wait.Argument g) = terms_weight (terms_at bank (drop (gathered g + 1) g.arguments.items)) + 1
wait_weight bank (wait.Test parts) = term_weight (term_at bank parts.first) + term_weight (term_at bank parts.second) + 2
wait_weight bank (wait.Side c) = 1
wait_weight bank (wait.Body e) = 1

abbrev pub frames_weight : Content → List Frame → ℕ
frames_weight bank [] = 0
frames_weight bank (f ∷ fs) = wait_weight bank f.wait + frames_weight bank fs

abbrev pub step_weight : Content → Step → ℕ
step_weight bank (step.Found what) = 1
step_weight bank (step.Wait f) = turn_weight bank (turn_of f) + wait_weight bank f.wait

-- the calls that are left once it was found
abbrev pub left_after : Request → Found → ℕ
left_after r what = left_on r.calls what

-- the calls that are left; the opening that is entered is one of them
abbrev pub turn_left : Turn → ℕ
turn_left (turn.Enter r) = r.calls + 1
turn_left (turn.Look r) = r.calls
turn_left (turn.Give r what) = left_after r what

abbrev pub step_left : Request → Step → ℕ
step_left r (step.Found what) = left_after r what
step_left r (step.Wait f) = turn_left (turn_of f)

-- the step is one of the request; less than so much is left to do, and at most so many calls are left
pub record Leads (history : List Entry) (work : Work) (r : Request) (weight left : ℕ) (s : Step) : Type 0 where
  pub stands : IsStep history work r s
  pub lighter : step_weight work.bank s < weight
  pub fewer : step_left r s ≤ left
