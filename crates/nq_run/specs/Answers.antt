-- How the program answers a form: one of which no event was read, a lemma that was proved, a definition that is not admitted.
use Rattle.std.specs.Prelude.{◌≡◌, Option, None, Some}
use Rattle.nq_logic.specs.Terms.{Name}
use Rattle.nq_bank.specs.Content.{Content, text_at}
use Rattle.nq_kernel.specs.declared.verdict.Quick.{Quick}
use Rattle.nq_kernel.specs.declared.verdict.Quick.TheVariants as quick
use Rattle.nq_admit.specs.declared.admission.AdmitFault.{AdmitFault}
use Rattle.nq_admit.specs.declared.admission.AdmitFault.TheVariants as admit
use Rattle.nq_events.specs.Refusals.{Refusal, FunctionInUse, RepeatedFormal, FreeVariable, FormalIsConstant, BadMeasureHint, TooManyEvents}
use Rattle.nq_event.specs.declared.fault.EventFault.{EventFault}
use Rattle.nq_event.specs.declared.fault.EventFault.TheVariants as fault
use Rattle.nq_comment.specs.Reports as model
use Rattle.nq_comment.specs.ReportViews.{answer_of, words_of}
use Rattle.nq_comment.specs.declared.answer.FormAnswer.{FormAnswer}

-- the answer has the code and the words of the fault; there is none where memory was wanting
abbrev pub IsAnswerTo : EventFault → FormAnswer → Type 0
IsAnswerTo (fault.Refused code words) answer = answer_of answer ≡ model.Refused code (words_of words.items)
IsAnswerTo fault.Memory answer = ⊥

-- the fragment of a proof, as a report names it
abbrev pub quick_of : Quick → model.Quick
quick_of quick.Taut = model.Taut
quick_of quick.Eval = model.Eval
quick_of quick.Inst = model.Inst

-- the refusal that a fault tells of a definition of this name; want of memory refuses nothing
abbrev pub fault_refusal : Content → Name → AdmitFault → Option Refusal
fault_refusal bank name admit.NameInUse = Some (FunctionInUse name)
fault_refusal bank name (admit.FormalIsConstant x) = Some (FormalIsConstant (text_at bank x))
fault_refusal bank name (admit.RepeatedFormal x) = Some (RepeatedFormal (text_at bank x))
fault_refusal bank name (admit.FreeVariable x) = Some (FreeVariable (text_at bank x))
fault_refusal bank name admit.BadMeasureHint = Some BadMeasureHint
fault_refusal bank name admit.TooManyEvents = Some TooManyEvents
fault_refusal bank name admit.Memory = None
