-- A trace over work that grew is one over the bank as it was.
use Rattle.std.proofs.Common.{◌≡◌, ◌∙◌, List, Option, Some, None, subst}
use Rattle.std.specs.Prelude.{All, IfSome, Vec}
use Rattle.std.specs.declared.alloc.Global.{Global}
use Rattle.nq_logic.specs.Terms.{Term}
use Rattle.nq_logic.specs.Histories.{History}
use Rattle.nq_bank.specs.declared.node.TermId.{TermId}
use Rattle.nq_bank.specs.Content.{Stands, term_at, terms_at}
use Rattle.nq_bank.proofs.Growth.{terms_at-grown}
use Rattle.nq_history.specs.declared.entry.Entry.{Entry}
use Rattle.nq_history.specs.declared.hints.Hints.{Hints}
use Rattle.nq_history.specs.Events.{HistoryStands, events_at}
use Rattle.nq_history.specs.Hints.{HintsStand}
use Rattle.nq_history.proofs.HistoryLemmas.{events_at-grown}
use Rattle.nq_kernel.specs.declared.work.Work.{Work}
use Rattle.nq_kernel.specs.Growing.{WorkGrows}
use Rattle.nq_kernel.proofs.GrowingLemmas.{WorkGrows-trans}
use Rattle.nq_events.specs.Events as model
use Rattle.nq_event.specs.EventsAt.{hints_at}
use Rattle.nq_event.proofs.HintSumLemmas.{hints_same}
use Rattle.nq_comment.specs.declared.step.ShownStep.{ShownStep}
use Rattle.nq_comment.specs.ReportViews.{steps_of}
use Rattle.nq_goals.specs.Hints.{first_goal}
use Rattle.nq_answers.specs.Shown.{ShowsTrace}

module _ (history : List Entry) (hints : Hints) (goal : TermId) (begun middle later : Work) (stands : HistoryStands begun.bank history) (hints_stand : HintsStand begun.bank hints) (first_grows : WorkGrows history begun middle) (then_grows : WorkGrows history middle later) where
  abbrev h : History
  h = events_at begun.bank history

  abbrev asked : model.Hints
  asked = hints_at begun.bank hints

  whole : WorkGrows history begun later
  whole = WorkGrows-trans history begun middle later first_grows then_grows

  -- what is told of the ids of the first goal is told of it
  pub trace_told : (ids : List TermId) (o : Option (Vec ShownStep Global)) → All (Stands middle.bank) ids → terms_at middle.bank ids ≡ first_goal h asked (term_at begun.bank goal)
      → IfSome o (λ steps. ShowsTrace (events_at later.bank history) (hints_at later.bank hints) (terms_at later.bank ids) (steps_of steps.items)) → IfSome o (λ steps. ShowsTrace h asked (first_goal h asked (term_at begun.bank goal)) (steps_of steps.items))
  trace_told ids None stand are tells = tt
  trace_told ids (Some steps) stand are tells =
      let here = subst (λ (k : History). ShowsTrace k (hints_at later.bank hints) (terms_at later.bank ids) (steps_of steps.items)) (events_at-grown begun.bank later.bank whole.bank history stands.entries) tells in
      let there = subst (λ (k : model.Hints). ShowsTrace h k (terms_at later.bank ids) (steps_of steps.items)) (hints_same begun.bank later.bank whole.bank hints hints_stand) here in
      subst (λ (ts : List Term). ShowsTrace h asked ts (steps_of steps.items)) (terms_at-grown middle.bank later.bank ids then_grows.bank stand ∙ are) there
