-- What every prover may assume of a history, and of the lines that stand in its log.
use Rattle.std.specs.Prelude.{◌≡◌, ◌≤◌, ◌++◌, ℕ, ⊤, true, false, List, [], ◌∷◌, Some, length}
use Rattle.nq_logic.specs.Terms.{Name, Each}
use Rattle.nq_logic.specs.Sizes.{depth_of}
use Rattle.nq_logic.specs.Ground.{symbols_of}
use Rattle.nq_logic.specs.Names.{event_name, is_in_use, looked_up, are_distinct}
use Rattle.nq_logic.specs.Histories.{History, Definition, Shell, Event, AddShell, Declaration, Defines, Axiom, Lemma, Toggle}
use Rattle.nq_logic.specs.ShellPrinciple.{listed}
use Rattle.nq_log.specs.Laws.{EventHolds}
use Rattle.nq_proof.specs.Laws.{LinesHold}
use Rattle.nq_history.specs.declared.entry.Entry.{Entry}
use Rattle.nq_history.specs.Events.{events_at}
use Rattle.nq_kernel.specs.declared.work.Work.{Work}
use Rattle.nq_kernel.specs.Meaning.{clause_at}
use Rattle.nq_kernel.specs.Over.{IsVariable, IsTermOf}

-- the greatest depth of a body
abbrev pub body_depth : ℕ
body_depth = 2000

-- the most parts of a shell
abbrev pub part_limit : ℕ
part_limit = 20

-- the most recognizers that a restriction names
abbrev pub recognizer_limit : ℕ
recognizer_limit = 100

-- the shell is within the limits of event forms
pub record IsLimitedShell (s : Shell) : Type 0 where
  pub few_parts : length s.parts ≤ part_limit
  pub few_recognizers : Each (λ part. length (listed part.restriction) ≤ recognizer_limit) s.parts

-- The term of an axiom or a lemma is over the history's functions, with variables that a log can spell. So are the formals of a
-- definition, whose body is not too deep. A shell is within the limits of event forms.
abbrev pub IsSpelledEvent : History → Event → Type 0
IsSpelledEvent h (AddShell s) = IsLimitedShell s
IsSpelledEvent h (Declaration f n) = ⊤
IsSpelledEvent h (Defines d) = Each IsVariable d.formals × (depth_of d.body ≤ body_depth)
IsSpelledEvent h (Axiom n classes t) = IsTermOf IsVariable (symbols_of h) t
IsSpelledEvent h (Lemma n classes t) = IsTermOf IsVariable (symbols_of h) t
IsSpelledEvent h (Toggle n old disabled) = ⊤

-- The event's name is new, it meets the principle of its kind, and a log can spell its terms. So a lemma is derivable, and a
-- definition has distinct formals, no other variables, and only functions of the history and its own.
pub record IsReadyEvent (h : History) (e : Event) : Type 0 where
  pub unused : is_in_use (event_name e) h ≡ false
  pub holds : EventHolds h e
  pub spelled : IsSpelledEvent h e

-- each event is so in the history before it; the second list is what follows the first
abbrev pub ReadyFrom : History → History → Type 0
ReadyFrom before [] = ⊤
ReadyFrom before (e ∷ h) = IsReadyEvent before e × ReadyFrom (before ++ e ∷ []) h

-- each event of the history is so in the history before it
abbrev pub IsReady : History → Type 0
IsReady h = ReadyFrom [] h

-- the formals are distinct variables that a log can spell, and the body is over the history's functions and not too deep
pub record IsUsableDefinition (h : History) (d : Definition) : Type 0 where
  pub distinct : are_distinct d.formals ≡ true
  pub spelled : Each IsVariable d.formals
  pub over : IsTermOf IsVariable (symbols_of h) d.body
  pub shallow : depth_of d.body ≤ body_depth

-- each definition is so that is looked up, of the history or of the ground history
pub record HasUsableDefinitions (h : History) : Type 0 where
  pub each : (f : Name) (d : Definition) → looked_up f h ≡ Some (Defines d) → IsUsableDefinition h d

-- each standing line of the work's log is derivable
abbrev pub WorkHolds : List Entry → Work → Type 0
WorkHolds history work = LinesHold (events_at work.bank history) (clause_at work.bank work.log)
