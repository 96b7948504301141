-- What is said of an obligation that was handed to a prover.
use Rattle.std.specs.Prelude.{◌≡◌, ◌≤◌, ⊤, Bool, true, false, List}
use Rattle.nq_logic.specs.Terms.{Term, Each}
use Rattle.nq_logic.specs.Histories.{History}
use Rattle.nq_logic.specs.Ground.{symbols_of}
use Rattle.nq_logic.specs.Shells.{either_of}
use Rattle.nq_logic.specs.Sizes.{depth_of, depth_limit}
use Rattle.nq_fragments.specs.Fragments.{IsInNoFragment}
use Rattle.nq_kernel.specs.declared.work.Work.{Work}
use Rattle.nq_kernel.specs.Over.{IsVariable, IsTermOf}
use Rattle.nq_lines.specs.Lines.{LineHasOnly}
use Rattle.nq_measures.specs.declared.judging.Why.{Why}
use Rattle.nq_measures.specs.declared.judging.Why.TheVariants.{Mentions, TooDeep, Failed, OutOfSteps, NotYet}
use Rattle.nq_measures.specs.declared.judging.Judged.{Judged}
use Rattle.nq_measures.specs.declared.judging.Judged.TheVariants.{Shown, Open}

-- whether an obligation has no line for want of steps; a term that is too deep takes all that are left
abbrev pub is_want : Why → Bool
is_want Mentions = false
is_want TooDeep = true
is_want (Failed path cause) = false
is_want OutOfSteps = true
is_want (NotYet path) = false

-- the terms are over the history's functions, with variables that a log can spell
abbrev pub AreIn : History → List Term → Type 0
AreIn h ts = Each (IsTermOf IsVariable (symbols_of h)) ts

-- Steps ran out only where the counter is at its limit. The prover was asked only for what no fragment holds.
pub record RanOut (h : History) (work : Work) (t : Term) : Type 0 where
  pub no_fragment : IsInNoFragment h t
  pub at_limit : work.counter.used ≡ work.counter.limit

-- why the clause has no line; the prover was asked for the nest of its literals
abbrev pub IsOpen : History → Work → List Term → Why → Type 0
IsOpen h work these Mentions = ⊥
IsOpen h work these TooDeep = depth_limit ≤ depth_of (either_of these)
IsOpen h work these (Failed path cause) = IsInNoFragment h (either_of these)
IsOpen h work these OutOfSteps = RanOut h work (either_of these)
IsOpen h work these (NotYet path) = IsInNoFragment h (either_of these)

-- a line has only the literals, or there is a cause
abbrev pub IsJudged : History → Work → List Term → Judged → Type 0
IsJudged h work these (Shown line) = LineHasOnly work line these
IsJudged h work these (Open why) = IsOpen h work these why

-- The same of a call's obligation, which is handed to the prover where the measure at the call's arguments does not mention
-- the function.
abbrev pub IsFallJudged : History → Work → Bool → List Term → Judged → Type 0
IsFallJudged h work true these (Shown line) = ⊥
IsFallJudged h work true these (Open Mentions) = ⊤
IsFallJudged h work true these (Open TooDeep) = ⊥
IsFallJudged h work true these (Open (Failed path cause)) = ⊥
IsFallJudged h work true these (Open OutOfSteps) = ⊥
IsFallJudged h work true these (Open (NotYet path)) = ⊥
IsFallJudged h work false these j = IsJudged h work these j
