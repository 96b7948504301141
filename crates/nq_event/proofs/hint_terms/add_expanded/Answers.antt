use Rattle.std.proofs.Common.{◌++◌, ap, ◌∙◌}
use Rattle.std.specs.Prelude.{is_some}
use Rattle.std.specs.List.{list_all}
use Rattle.nq_bank.specs.Content.{terms_at}
use Rattle.nq_history.specs.Events.{events_at}
use Rattle.nq_history.proofs.HistoryLemmas.{events_at-grown, history_grown}
use Rattle.nq_events.specs.Inductions.{opened_by}
use Rattle.nq_event.specs.Reads.{forms_of}
use Rattle.nq_event.proofs.HintSumLemmas.{expanded_added}
use Rattle.nq_event.proofs.hint_terms.add_expanded.Goals as goal

pub returns-clause-added : goal.returns-clause-added
returns-clause-added c =
    let old = c.args.bank.now in
    let new = c.terms_in.new.bank in
    let hints = c.args.hints.now in
    let terms = c.in_ok-terms.terms.items in
    let read = c.in_ok-terms.ensures.read in
    expanded_added (events_at old c.args.history.now) old new c.terms_in.ensures.grows hints c.requires.hints c.extend_from_slice.new.self terms (forms_of c.args.forms.now) c.are_opened.result
    (c.in_ok-extend_from_slice.ensures.items ∙ ap (λ xs. hints.expand.items ++ xs) c.as_slice.ensures.value) read.stands read.unrefused read.is
    (c.are_opened.ensures ∙ ap (λ xs. list_all (λ t. is_some (opened_by (events_at new c.args.history.now) t)) (terms_at new xs)) c.as_slice-2.ensures.value
    ∙ ap (λ h. list_all (λ t. is_some (opened_by h t)) (terms_at new terms)) (events_at-grown old new c.terms_in.ensures.grows c.args.history.now c.requires.history.entries))

pub are_opened-requires-clause-history : goal.are_opened-requires-clause-history
are_opened-requires-clause-history c = history_grown c.args.bank.now c.terms_in.new.bank c.terms_in.ensures.grows c.args.history.now c.requires.history
