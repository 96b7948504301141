-- What work that grew tells is told of the first goal over the bank as it was.
use Rattle.std.proofs.Common.{◌≡◌, ◌∙◌, ℕ, List, [], refl, subst}
use Rattle.std.specs.Prelude.{All}
use Rattle.nq_logic.specs.Terms.{Term}
use Rattle.nq_logic.specs.Histories.{History}
use Rattle.nq_bank.specs.declared.node.TermId.{TermId}
use Rattle.nq_bank.specs.Content.{Content, Grows, Stands, term_at, terms_at}
use Rattle.nq_bank.proofs.Growth.{terms_at-grown}
use Rattle.nq_steps.specs.NewNames.{AddsSymbols}
use Rattle.nq_history.specs.declared.entry.Entry.{Entry}
use Rattle.nq_history.specs.declared.hints.Hints.{Hints}
use Rattle.nq_history.specs.Events.{HistoryStands, events_at}
use Rattle.nq_history.specs.Hints.{HintsStand}
use Rattle.nq_history.proofs.HistoryLemmas.{events_at-grown}
use Rattle.nq_kernel.specs.declared.work.Work.{Work}
use Rattle.nq_kernel.specs.Growing.{WorkGrows, WorkStands}
use Rattle.nq_kernel.specs.Hints.{HintsAreIn}
use Rattle.nq_kernel.specs.Over.{TermIsIn}
use Rattle.nq_kernel.specs.Ready.{IsReady, WorkHolds}
use Rattle.nq_kernel.proofs.GrowingLemmas.{WorkGrows-trans}
use Rattle.nq_events.specs.Events as model
use Rattle.nq_event.specs.EventsAt.{hints_at}
use Rattle.nq_event.proofs.HintSumLemmas.{hints_same}
use Rattle.nq_comment.specs.ReportViews.{steps_of}
use Rattle.nq_goals.specs.Hints.{first_goal}
use Rattle.nq_answers.specs.Shown.{ShowsTree}
use Rattle.nq_giving_up.specs.declared.giving_up.Failing.{Failing}
use Rattle.nq_giving_up.specs.declared.giving_up.Failing.TheVariants.{Failed, OutOfSteps}
use Rattle.nq_giving_up.specs.Failing.{IsFailing, TellsOf}

module _ (steps : ℕ) (history : List Entry) (hints : Hints) (goal : TermId) (begun middle later : Work) (stands : HistoryStands begun.bank history) (hints_stand : HintsStand begun.bank hints) (first_grows : WorkGrows history begun middle) (then_grows : WorkGrows history middle later) where
  abbrev h : History
  h = events_at begun.bank history

  abbrev asked : model.Hints
  asked = hints_at begun.bank hints

  whole : WorkGrows history begun later
  whole = WorkGrows-trans history begun middle later first_grows then_grows

  -- what is told of work that began with so many steps, from the ids of the first goal
  pub failing_told : (ids : List TermId) (f : Failing) → begun.log ≡ [] → begun.counter.used ≡ 0 → begun.counter.limit ≡ steps → All (Stands middle.bank) ids → terms_at middle.bank ids ≡ first_goal h asked (term_at begun.bank goal)
      → TellsOf history hints later ids f → IsFailing steps h asked (first_goal h asked (term_at begun.bank goal)) f
  failing_told ids (Failed tree cause) empty unused limit stand are tells =
      let here = subst (λ (k : History). ShowsTree k (hints_at later.bank hints) (terms_at later.bank ids) (steps_of tree.items) cause) (events_at-grown begun.bank later.bank whole.bank history stands.entries) tells in
      let there = subst (λ (k : model.Hints). ShowsTree h k (terms_at later.bank ids) (steps_of tree.items) cause) (hints_same begun.bank later.bank whole.bank hints hints_stand) here in
      subst (λ (ts : List Term). ShowsTree h asked ts (steps_of tree.items) cause) (terms_at-grown middle.bank later.bank ids then_grows.bank stand ∙ are) there
  failing_told ids OutOfSteps empty unused limit stand are tells =
      record {
        entries = history;
        begun = begun;
        spent = later;
        history_is = refl;
        no_lines = empty;
        unused = unused;
        limit_is = limit;
        grows = whole;
        all_used = tells ∙ whole.counter.limit ∙ limit;
      }
