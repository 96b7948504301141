-- The commentary: the lines of reports, and the closing lines.
use Rattle.std.specs.Prelude.{◌+◌, ◌==◌, if◌then◌else◌, ℕ, Bool, true, false, List, [], ◌∷◌, ◌++◌, Option, Some, None, codes}
use Rattle.std.specs.List.{flat_map}
use Rattle.std.specs.Fmt.{decimal}
use Rattle.nq_comment.specs.declared.step.Move.{Move}
use Rattle.nq_comment.specs.declared.step.Move.TheVariants.{Simp, Subst, Elim, Fert, Gen, Irr, Ind}
use Rattle.nq_comment.specs.declared.step.Cause.{Cause}
use Rattle.nq_comment.specs.declared.step.Cause.TheVariants.{False, NoInduction, Loop, Forbidden, Depth}
use Rattle.nq_comment.specs.Reports.{Answer, Accepted, AcceptedBy, Unmeasured, Undone, Skipped, Proved, ProvedFrom, Failed, OutOfSteps, Refused, Quick, Taut, Eval, Inst, ShownStep, Trial, Report}
use Rattle.nq_comment.specs.Totals.{Totals, totals_of}
use Rattle.nq_form.specs.Grammar.{Ending, done, fault, too_long}

-- the pieces one after another
abbrev pub joined : List (List ℕ) → List ℕ
joined = flat_map (λ piece. piece)

abbrev pub shown_word : Option (List ℕ) → List ℕ
shown_word (Some word) = word
shown_word None = codes "?"

abbrev pub shown_name : Option (List ℕ) → List ℕ
shown_name (Some name) = joined (codes " " ∷ name ∷ [])
shown_name None = []

abbrev pub quick_word : Quick → List ℕ
quick_word Taut = codes "TAUT"
quick_word Eval = codes "EVAL"
quick_word Inst = codes "INST"

-- a space before each word
abbrev pub spaced : List (List ℕ) → List ℕ
spaced words = flat_map (λ word. 32 ∷ word) words

abbrev pub move_word : Move → List ℕ
move_word Simp = codes "SIMP"
move_word Subst = codes "SUBST"
move_word Elim = codes "ELIM"
move_word Fert = codes "FERT"
move_word Gen = codes "GEN"
move_word Irr = codes "IRR"
move_word Ind = codes "IND"

abbrev pub cause_words : Cause → List ℕ
cause_words False = codes "false"
cause_words NoInduction = codes "no induction"
cause_words Loop = codes "loop"
cause_words Forbidden = codes "induction forbidden"
cause_words Depth = codes "too many inductions"

-- the line of the first goal
abbrev pub first_line : List ℕ → List ℕ
first_line goal = joined (codes "   0. GOAL: " ∷ goal ∷ codes "\n" ∷ [])

-- the line of a step, by the texts of its number, its move and its parent
abbrev pub step_line_by : List ℕ → List ℕ → List ℕ → List ℕ → List ℕ
step_line_by number led_by parent goal =
    joined (codes "   " ∷ number ∷ codes ". " ∷ led_by ∷ codes " from " ∷ parent ∷ codes ": " ∷ goal ∷ codes "\n" ∷ [])

-- the line of the step of this number
abbrev pub step_line : ℕ → ShownStep → List ℕ
step_line number s = step_line_by (decimal number) (move_word s.led_by) (decimal s.parent) s.goal

-- the lines of steps, the first of this number
abbrev pub step_lines_from : ℕ → List ShownStep → List ℕ
step_lines_from number [] = []
step_lines_from number (s ∷ steps) = step_line number s ++ step_lines_from (number + 1) steps

-- the lines of a first goal and of the steps from it
abbrev pub goal_lines : List ℕ → List ShownStep → List ℕ
goal_lines goal steps = first_line goal ++ step_lines_from 1 steps

-- the line of a definition that was accepted by this measure
abbrev pub measured_line : List ℕ → List ℕ
measured_line measure = joined (codes "   Accepted by " ∷ measure ∷ codes ".\n" ∷ [])

-- the line of a goal that was left over for this cause
abbrev pub failed_line : Cause → List ℕ
failed_line cause = joined (codes "   Failed, " ∷ cause_words cause ∷ codes ".\n" ∷ [])

-- how a trial ended: its steps ran out, or not
abbrev pub trial_end : Bool → List ℕ
trial_end true = codes " out of steps.\n"
trial_end false = codes " failed.\n"

-- the line of a trial, by the texts of its measure, its goal and its end
abbrev pub trial_line_by : List ℕ → List ℕ → List ℕ → List ℕ
trial_line_by measure goal end = joined (codes "   Tried " ∷ measure ∷ codes ": " ∷ goal ∷ end ∷ [])

-- the line of a measure that was tried
abbrev pub trial_line : Trial → List ℕ
trial_line t = trial_line_by t.measure t.goal (trial_end t.out_of_steps)

-- the lines of a definition of which no measure is proved
abbrev pub unmeasured_lines : List Trial → List ℕ
unmeasured_lines trials = flat_map trial_line trials ++ codes "   Refused 64 NoMeasure.\n"

abbrev pub answer_lines : Answer → List ℕ
answer_lines Accepted = codes "   Accepted.\n"
answer_lines (AcceptedBy place measure) = measured_line measure
answer_lines (Unmeasured trials) = unmeasured_lines trials
answer_lines (Undone count) = joined (codes "   Undone " ∷ decimal count ∷ codes ".\n" ∷ [])
answer_lines Skipped = codes "   Skipped.\n"
answer_lines (Proved quick) = joined (codes "   By " ∷ quick_word quick ∷ codes ".\n   Proved.\n" ∷ [])
answer_lines (ProvedFrom goal steps) = goal_lines goal steps ++ codes "   Proved.\n"
answer_lines (Failed goal steps cause) = goal_lines goal steps ++ failed_line cause
answer_lines OutOfSteps = codes "   Out of steps.\n"
answer_lines (Refused code words) = joined (codes "   Refused " ∷ decimal code ∷ spaced words ∷ codes ".\n" ∷ [])

-- the header and the lines of one report
abbrev pub lines_of_report : ℕ → Report → List ℕ
lines_of_report number report =
    joined (decimal number ∷ codes ". " ∷ shown_word report.word ∷ shown_name report.name ∷ codes "\n" ∷ answer_lines report.answer ∷ [])

-- the lines of reports, the first of this number
abbrev pub lines_from : ℕ → List Report → List ℕ
lines_from number [] = []
lines_from number (report ∷ reports) = lines_of_report number report ++ lines_from (number + 1) reports

-- the lines of all reports of a run, without the closing lines
abbrev pub report_lines : List Report → List ℕ
report_lines = lines_from 1

-- what is wrong with the spelling, by the code of the fault: from 1 to 4
abbrev pub fault_words : ℕ → List ℕ
fault_words code = if code == 1 then codes "unbalanced"
    else if code == 2 then codes "bad token"
    else if code == 3 then codes "numeral too wide"
    else if code == 4 then codes "too deep"
    else []

abbrev pub fault_line : Ending → List ℕ
fault_line done = []
fault_line too_long = []
fault_line (fault code offset) = joined (codes "Syntax fault " ∷ decimal code ∷ codes " at byte " ∷ decimal offset
    ∷ codes ": " ∷ fault_words code ∷ codes ".\n" ∷ [])

-- the last line, of these numbers in digits
abbrev pub summary_by : List ℕ → List ℕ → List ℕ → List ℕ → List ℕ → List ℕ
summary_by forms accepted refused failed skipped = joined (codes "Forms " ∷ forms ∷ codes ", accepted " ∷ accepted
    ∷ codes ", refused " ∷ refused ∷ codes ", failed " ∷ failed ∷ codes ", skipped " ∷ skipped ∷ codes ".\n" ∷ [])

abbrev pub summary : Totals → List ℕ
summary t = summary_by (decimal t.forms) (decimal t.accepted) (decimal t.refused) (decimal t.failed) (decimal t.skipped)

-- the closing lines after forms that were answered so
abbrev pub closing_lines : Ending → Totals → List ℕ
closing_lines ending totals = fault_line ending ++ summary totals

-- the whole text of a run that came to the end of its file, or to a fault of its spelling
abbrev pub rendering : List Report → Ending → List ℕ
rendering reports ending = report_lines reports ++ closing_lines ending (totals_of reports)
