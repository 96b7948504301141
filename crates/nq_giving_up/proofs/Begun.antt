-- Work that begins over a bank, and in which the first goal was made.
use Rattle.std.proofs.Common.{◌≡◌, ◌∙◌, List, [], sym, subst}
use Rattle.std.specs.Prelude.{All}
use Rattle.nq_bank.specs.declared.node.TermId.{TermId}
use Rattle.nq_bank.specs.Content.{Content, Grows, Stands, term_at, terms_at}
use Rattle.nq_steps.proofs.NameLemmas.{no_names}
use Rattle.nq_history.specs.declared.entry.Entry.{Entry}
use Rattle.nq_history.specs.declared.hints.Hints.{Hints}
use Rattle.nq_history.specs.Events.{HistoryStands, events_at}
use Rattle.nq_history.specs.Hints.{HintsStand}
use Rattle.nq_kernel.specs.declared.work.Work.{Work}
use Rattle.nq_kernel.specs.Growing.{WorkGrows, WorkStands}
use Rattle.nq_kernel.specs.Hints.{HintsAreIn}
use Rattle.nq_kernel.specs.Over.{TermIsIn}
use Rattle.nq_kernel.specs.Ready.{IsReady}
use Rattle.nq_kernel.specs.ReadyLaws.{NoLineHolds}
use Rattle.nq_kernel.proofs.GrowingLemmas.{bank_grows, uncounted}
use Rattle.nq_event.specs.EventsAt.{hints_at}
use Rattle.nq_goals.specs.Hints.{first_goal}
use Rattle.nq_first_goal.proofs.Judgements.{literals_are, work_stands}
use Rattle.nq_waterfall.specs.Ready.{CanMove, HoldingLaws, IsGoalIn}
use Rattle.nq_waterfall.proofs.SameLemmas.{ready_grown}

module _ (bank later : Content) (history : List Entry) (hints : Hints) (begun : Work) (bank_is : begun.bank ≡ bank) (empty : begun.log ≡ []) (unknown : begun.known.items ≡ []) (stands : HistoryStands bank history)
    (grows : Grows begun.bank later) (names : later.names ≡ begun.bank.names) where
  abbrev pub with_first : Work
  with_first = record { bank = later; log = begun.log; counter = begun.counter; known = begun.known }

  pub history_stands : HistoryStands begun.bank history
  history_stands = subst (λ (b : Content). HistoryStands b history) (sym bank_is) stands

  begun_stands : WorkStands history begun
  begun_stands = work_stands history bank begun stands bank_is empty unknown

  pub first_made : WorkGrows history begun with_first
  first_made = bank_grows history begun later begun.counter begun_stands grows (no_names begun.bank later names) (uncounted begun.counter)

  pub can_move : HoldingLaws → NoLineHolds → IsReady (events_at bank history) → HintsStand bank hints → HintsAreIn bank history hints → CanMove history hints with_first
  can_move laws none ready hints_stand hints_in =
      ready_grown history begun with_first begun_stands first_made laws hints
      (record {
        stands = begun_stands;
        ready = subst (λ (b : Content). IsReady (events_at b history)) (sym bank_is) ready;
        holds = none history begun empty;
        hints_stand = subst (λ (b : Content). HintsStand b hints) (sym bank_is) hints_stand;
        hints_in = subst (λ (b : Content). HintsAreIn b history hints) (sym bank_is) hints_in;
      })

  pub goal_in : (goal : TermId) (ids : List TermId) → IsReady (events_at bank history) → HintsAreIn bank history hints → TermIsIn bank history goal → All (Stands later) ids
      → terms_at later ids ≡ first_goal (events_at begun.bank history) (hints_at begun.bank hints) (term_at begun.bank goal) → IsGoalIn history with_first ids
  goal_in goal ids ready hints_in over stand are =
      let literals =
      literals_are begun.bank later history hints goal history_stands grows ids (subst (λ (b : Content). IsReady (events_at b history)) (sym bank_is) ready) (subst (λ (b : Content). HintsAreIn b history hints) (sym bank_is) hints_in)
      (subst (λ (b : Content). TermIsIn b history goal) (sym bank_is) over) stand are in
      λ i d below. let literal = literals i d below in record { stands = literal.stands; over = literal.over }
