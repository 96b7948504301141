use Rattle.std.proofs.Common.{[], ◌∷◌, ◌++◌, map, take, sym, ap, ◌∙◌, subst}
use Rattle.std.specs.Prelude.{All}
use Rattle.std.proofs.lemmas.List.{map_push, map_more}
use Rattle.nq_bank.specs.Content.{Content}
use Rattle.nq_bank.proofs.Growth.{Grows-trans}
use Rattle.nq_bank.proofs.Standing.{All-push}
use Rattle.nq_history.specs.Events.{event_at, all_events_at, EntryStands}
use Rattle.nq_history.specs.GroundTable.{row_event}
use Rattle.nq_history.proofs.GroundLemmas.{rows_right, a_row}
use Rattle.nq_history.specs.Marking.{AreMarked}
use Rattle.nq_history.proofs.MarkingLemmas.{all_within, marked_grown, marked_push}
use Rattle.nq_history.proofs.HistoryLemmas.{all_events_at-grown, entries_grown}
use Rattle.nq_history.proofs.ground_entries.entries_of.Goals as goal

pub entry_of-requires : goal.entry_of-requires
entry_of-requires c =
    record { row = rows_right c.args.rows.now c.requires.rows c.loop-row.row-index a_row c.loop-row-test.true }

pub loop-row-preserved : goal.loop-row-preserved
loop-row-preserved c =
    let bank : Content = c.loop-row.bank in
    let new : Content = c.entry_of.new.bank in
    let entries = c.loop-row.entries.items in
    let rows = c.args.rows.now in
    let given = c.in_ok-entry.ensures in
    let push = c.in_ok-push.ensures.items in
    record {
      grows = Grows-trans c.args.bank.now bank new c.loop-row.invariant.grows given.grows;
      stand = subst (All (EntryStands new)) (sym push) (All-push (EntryStands new) entries c.in_ok-entry.entry (entries_grown bank new given.grows entries c.loop-row.invariant.stand) given.stands);
      marked =
          subst (AreMarked new) (sym push) (marked_push new entries c.in_ok-entry.entry (marked_grown bank new entries given.grows c.loop-row.invariant.marked) (record { earlier = bank; mark = given.mark; grew = given.grows; held = all_within bank entries c.loop-row.invariant.marked c.loop-row.invariant.stand }));
      events =
          ap (all_events_at new) push ∙
          map_push (event_at new) entries c.in_ok-entry.entry ∙
          ap (λ es. es ++ event_at new c.in_ok-entry.entry ∷ []) (all_events_at-grown bank new given.grows entries c.loop-row.invariant.stand ∙ c.loop-row.invariant.events) ∙
          ap (λ e. map row_event (take c.loop-row.row-index rows) ++ e ∷ []) given.event ∙
          sym (map_more row_event rows c.loop-row.row-index a_row c.loop-row-test.true);
    }
