use Rattle.std.proofs.Common.{◌≡◌, length, take, get_or, sym, ap, subst, ◌∙◌, arith}
use Rattle.nq_bank.specs.Marks.{released}
use Rattle.nq_history.specs.Events.{events_at, HistoryStands}
use Rattle.nq_history.specs.Marking.{AreMarked}
use Rattle.nq_history.proofs.MarkingLemmas.{entry_at, undo_marked, undo_stands}
use Rattle.nq_history.specs.Lookups.{entries_before, entry_named}
use Rattle.nq_history.proofs.LookupLemmas.{before_is, named_at, undo_place, if_found, undo_events}
use Rattle.nq_history.proofs.history.History.undo_back_through.Goals as goal

pub overflow_sub-undone : goal.overflow_sub-undone
overflow_sub-undone c =
    let history = c.args.self.now in
    let name = c.args.name in
    let kept : c.count_before-kept.result ≡ length (entries_before name history) = c.count_before-kept.ensures in
    let all : c.len.result ≡ length history = c.len.ensures ∙ c.self.inside.entries.ok.0 ∙ ap length c.self.view_is in
    let again : c.len-in-None.result ≡ length history = c.len-in-None.ensures ∙ c.self.inside.entries.ok.0 ∙ ap length c.self.view_is in
    let place = undo_place name history c.count_before-kept.result c.len.result kept all (sym c.undo_fault.ensures ∙ c.in-None.is) in
    omega (arith, place.0, again)

pub undo_to-requires-clause-kept : goal.undo_to-requires-clause-kept
undo_to-requires-clause-kept c =
    let history = c.args.self.now in
    let name = c.args.name in
    let kept : c.count_before-kept.result ≡ length (entries_before name history) = c.count_before-kept.ensures in
    let all : c.len.result ≡ length history = c.len.ensures ∙ c.self.inside.entries.ok.0 ∙ ap length c.self.view_is in
    (undo_place name history c.count_before-kept.result c.len.result kept all (sym c.undo_fault.ensures ∙ c.in-None.is)).0

pub returns-in-None-clause-history : goal.returns-in-None-clause-history
returns-in-None-clause-history c =
    let history = c.args.self.now in
    let name = c.args.name in
    let kept : c.count_before-kept.result ≡ length (entries_before name history) = c.count_before-kept.ensures in
    c.undo_to.ensures.history ∙ ap (λ n. take n history) kept ∙ before_is name history

pub returns-in-None-clause-bank : goal.returns-in-None-clause-bank
returns-in-None-clause-bank c =
    let history = c.args.self.now in
    let name = c.args.name in
    let kept : c.count_before-kept.result ≡ length (entries_before name history) = c.count_before-kept.ensures in
    if_found (entry_named name history) (λ e. c.undo_to.new.bank ≡ released c.args.bank.now e.mark)
    (λ e is. c.undo_to.ensures.bank e (named_at name history e is ∙ ap (λ n. get_or history n e) (sym kept)))

pub returns-in-None-clause-events : goal.returns-in-None-clause-events
returns-in-None-clause-events c =
    λ sound stands named.
    let history = c.args.self.now in
    let name = c.args.name in
    let bank = c.args.bank.now in
    let kept : c.count_before-kept.result ≡ length (entries_before name history) = c.count_before-kept.ensures in
    let all : c.len.result ≡ length history = c.len.ensures ∙ c.self.inside.entries.ok.0 ∙ ap length c.self.view_is in
    let place = undo_place name history c.count_before-kept.result c.len.result kept all (sym c.undo_fault.ensures ∙ c.in-None.is) in
    ap (events_at bank) (c.undo_to.ensures.history ∙ ap (λ n. take n history) kept ∙ before_is name history) ∙
    undo_events bank name history sound stands named (omega (arith, place.1, kept))

pub returns-in-None-clause-marked : goal.returns-in-None-clause-marked
returns-in-None-clause-marked c =
    λ marked.
    let history = c.args.self.now in
    let name = c.args.name in
    let bank = c.args.bank.now in
    let kept : c.count_before-kept.result ≡ length (entries_before name history) = c.count_before-kept.ensures in
    let all : c.len.result ≡ length history = c.len.ensures ∙ c.self.inside.entries.ok.0 ∙ ap length c.self.view_is in
    let place = undo_place name history c.count_before-kept.result c.len.result kept all (sym c.undo_fault.ensures ∙ c.in-None.is) in
    let at = entry_at history c.count_before-kept.result place.0 in
    let gone : c.undo_to.new.bank ≡ released bank at.0.mark = c.undo_to.ensures.bank at.0 at.1 in
    subst (λ b. AreMarked b c.undo_to.new.self) (sym gone) (subst (AreMarked (released bank at.0.mark)) (sym c.undo_to.ensures.history) (undo_marked bank history c.count_before-kept.result at.0 marked place.0 at.1))

pub returns-in-None-clause-stands : goal.returns-in-None-clause-stands
returns-in-None-clause-stands c =
    λ marked stands.
    let history = c.args.self.now in
    let name = c.args.name in
    let bank = c.args.bank.now in
    let kept : c.count_before-kept.result ≡ length (entries_before name history) = c.count_before-kept.ensures in
    let all : c.len.result ≡ length history = c.len.ensures ∙ c.self.inside.entries.ok.0 ∙ ap length c.self.view_is in
    let place = undo_place name history c.count_before-kept.result c.len.result kept all (sym c.undo_fault.ensures ∙ c.in-None.is) in
    let at = entry_at history c.count_before-kept.result place.0 in
    let gone : c.undo_to.new.bank ≡ released bank at.0.mark = c.undo_to.ensures.bank at.0 at.1 in
    subst (λ b. HistoryStands b c.undo_to.new.self) (sym gone) (subst (HistoryStands (released bank at.0.mark)) (sym c.undo_to.ensures.history) (undo_stands bank history c.count_before-kept.result at.0 marked place.0 at.1 stands place.1))
