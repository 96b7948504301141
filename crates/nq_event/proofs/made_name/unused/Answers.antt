use Rattle.std.proofs.Common.{◌≡◌, true, false, sym, ap, ◌∙◌, subst}
use Rattle.std.specs.Prelude.{IfOk}
use Rattle.nq_logic.specs.Names.{is_in_use}
use Rattle.nq_bank.specs.Content.{NamesText, text_at}
use Rattle.nq_history.specs.Events.{events_at}
use Rattle.nq_history.proofs.HistoryLemmas.{events_at-grown, history_grown}
use Rattle.nq_events.specs.MadeNames.{numbered_from}
use Rattle.nq_event.proofs.NumberedLemmas.{name_used, name_free}
use Rattle.nq_event.proofs.made_name.unused.Goals as goal

pub in_use-requires-clause-history : goal.in_use-requires-clause-history
in_use-requires-clause-history c = history_grown c.args.bank.now c.name.new.self c.in_ok-s.ensures.ok.grows c.args.history.now c.requires

pub numbered-requires-clause-history : goal.numbered-requires-clause-history
numbered-requires-clause-history c = history_grown c.args.bank.now c.name.new.self c.in_ok-s.ensures.ok.grows c.args.history.now c.requires

pub returns-then-in_use-clause-named : goal.returns-then-in_use-clause-named
returns-then-in_use-clause-named c =
    let old = c.args.bank.now in
    let mid = c.name.new.self in
    let h = events_at old c.args.history.now in
    let name = c.args.name.now in
    let past = events_at-grown old mid c.in_ok-s.ensures.ok.grows c.args.history.now c.requires.entries in
    let used : is_in_use name h ≡ true = ap (λ x. is_in_use x h) (sym c.in_ok-s.ensures.ok.reads) ∙ ap (is_in_use (text_at mid c.in_ok-s.s)) (sym past) ∙ sym c.in_use.ensures ∙ c.if-in_use.true in
    subst (λ x. IfOk c.numbered.result (λ s. NamesText c.numbered.new.bank s x))
    (sym (name_used h name c.count_names.result (c.count_names.ensures.count old c.requires) used ∙ ap (λ z. numbered_from z name 1 c.count_names.result) (sym past))) c.numbered.ensures.named

pub returns-else-in_use-clause-named : goal.returns-else-in_use-clause-named
returns-else-in_use-clause-named c =
    let old = c.args.bank.now in
    let mid = c.name.new.self in
    let h = events_at old c.args.history.now in
    let name = c.args.name.now in
    let past = events_at-grown old mid c.in_ok-s.ensures.ok.grows c.args.history.now c.requires.entries in
    let free : is_in_use name h ≡ false = ap (λ x. is_in_use x h) (sym c.in_ok-s.ensures.ok.reads) ∙ ap (is_in_use (text_at mid c.in_ok-s.s)) (sym past) ∙ sym c.in_use.ensures ∙ c.if-in_use.false in
    record { named = c.in_ok-s.ensures.ok.named; reads = c.in_ok-s.ensures.ok.reads ∙ sym (name_free h name free) }
