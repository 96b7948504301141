-- What a report says of a form.
use Rattle.std.specs.Prelude.{ℕ, Bool, List, Option}
use Rattle.nq_comment.specs.declared.step.Move.{Move}
use Rattle.nq_comment.specs.declared.step.Cause.{Cause}
use Rattle.nq_comment.specs.declared.kind.Kind.{Kind}
use Rattle.nq_comment.specs.declared.kind.Kind.TheVariants as kind

-- the fragment in which a lemma was proved without a search: a small tautology, a ground term with a value, or an instance of
-- an earlier lemma or axiom
pub data Quick : Type 0 where
  Taut : Quick
  Eval : Quick
  Inst : Quick

-- a goal to which a move led, as its line shows it: from the goal of this number, by a move of this kind, to this goal
pub record ShownStep : Type 0 where
  pub parent : ℕ
  pub led_by : Move
  pub goal : List ℕ

-- a measure that was tried of a recursive definition and is not proved: its text, the text of its first obligation that is not
-- proved, and whether the steps ran out at that
pub record Trial : Type 0 where
  pub measure : List ℕ
  pub goal : List ℕ
  pub out_of_steps : Bool

-- What a form is answered. The words of a refusal begin with its name; measures and goals are told by their texts.
pub data Answer : Type 0 where
  Accepted : Answer
  -- the recursive definition has the measure of this place among those that are tried, counted from 0
  AcceptedBy : (place : ℕ) (measure : List ℕ) → Answer
  -- no measure of the recursive definition is proved; each that was tried is told
  Unmeasured : (trials : List Trial) → Answer
  -- so many events are gone
  Undone : (count : ℕ) → Answer
  Skipped : Answer
  Proved : (quick : Quick) → Answer
  -- the lemma was proved by moves from its first goal; the steps are goals that the proof used
  ProvedFrom : (goal : List ℕ) (steps : List ShownStep) → Answer
  -- the steps lead from the first goal to one that is left over for this cause
  Failed : (goal : List ℕ) (steps : List ShownStep) (cause : Cause) → Answer
  OutOfSteps : Answer
  Refused : (code : ℕ) (words : List (List ℕ)) → Answer

-- as what the summary counts a form of this answer
abbrev pub kind_of : Answer → Kind
kind_of Accepted = kind.Accepted
kind_of (AcceptedBy place measure) = kind.Accepted
kind_of (Unmeasured trials) = kind.Refused
kind_of (Undone count) = kind.Accepted
kind_of Skipped = kind.Skipped
kind_of (Proved quick) = kind.Accepted
kind_of (ProvedFrom goal steps) = kind.Accepted
kind_of (Failed goal steps cause) = kind.Failed
kind_of OutOfSteps = kind.Failed
kind_of (Refused code words) = kind.Refused

-- the header's word and name, and the answer
pub record Report : Type 0 where
  pub word : Option (List ℕ)
  pub name : Option (List ℕ)
  pub answer : Answer
