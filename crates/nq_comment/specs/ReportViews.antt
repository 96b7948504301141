-- A report of the program, and its fault, as the model sees them.
use Rattle.std.specs.Prelude.{ℕ, List, map, Option, None, Some, Vec}
use Rattle.std.specs.Option.{option_map}
use Rattle.std.specs.Borrow.{Bor}
use Rattle.std.specs.declared.alloc.Global.{Global}
use Rattle.nq_comment.specs.Reports as model
use Rattle.nq_comment.specs.declared.answer.Quick.{Quick}
use Rattle.nq_comment.specs.declared.answer.Quick.TheVariants as quick
use Rattle.nq_comment.specs.declared.answer.Trial.{Trial}
use Rattle.nq_comment.specs.declared.answer.FormAnswer.{FormAnswer}
use Rattle.nq_comment.specs.declared.answer.FormAnswer.TheVariants as form
use Rattle.nq_comment.specs.declared.step.ShownStep.{ShownStep}
use Rattle.nq_comment.specs.declared.report.FormReport.{FormReport}
use Rattle.nq_comment.specs.declared.report.SyntaxFault.{SyntaxFault}
use Rattle.nq_form.specs.Grammar.{Ending, done, fault}

-- the fragment of the program, as the model sees it
abbrev pub quick_of : Quick → model.Quick
quick_of quick.Taut = model.Taut
quick_of quick.Eval = model.Eval
quick_of quick.Inst = model.Inst

abbrev pub words_of : List (Vec ℕ Global) → List (List ℕ)
words_of = map (λ word. word.items)

abbrev pub step_of : ShownStep → model.ShownStep
step_of s = record { parent = s.parent; led_by = s.led_by; goal = s.goal.items }

abbrev pub steps_of : List ShownStep → List model.ShownStep
steps_of = map step_of

abbrev pub trial_of : Trial → model.Trial
trial_of t = record { measure = t.measure.items; goal = t.goal.items; out_of_steps = t.out_of_steps }

abbrev pub trials_of : List Trial → List model.Trial
trials_of = map trial_of

abbrev pub answer_of : FormAnswer → model.Answer
answer_of form.Accepted = model.Accepted
answer_of (form.AcceptedBy place measure) = model.AcceptedBy place measure.items
answer_of (form.Unmeasured trials) = model.Unmeasured (trials_of trials.items)
answer_of (form.Undone count) = model.Undone count
answer_of form.Skipped = model.Skipped
answer_of (form.Proved quick) = model.Proved (quick_of quick)
answer_of (form.ProvedFrom goal steps) = model.ProvedFrom goal.items (steps_of steps.items)
answer_of (form.Failed goal steps cause) = model.Failed goal.items (steps_of steps.items) cause
answer_of form.OutOfSteps = model.OutOfSteps
answer_of (form.Refused refusal) = model.Refused refusal.code (words_of refusal.words.items)

abbrev pub text_of : Option (Bor (List ℕ)) → Option (List ℕ)
text_of = option_map (λ text. text.now)

abbrev pub report_of : FormReport → model.Report
report_of r = record { word = text_of r.word; name = text_of r.name; answer = answer_of r.answer }

abbrev pub ending_of : Option SyntaxFault → Ending
ending_of None = done
ending_of (Some f) = fault f.code f.offset
