use Rattle.std.proofs.Common.{sym, ap, ◌∙◌}
use Rattle.nq_bank.specs.Content.{term_at}
use Rattle.nq_bank.proofs.Growth.{Grows-trans, Stands-grown, term_at-grown}
use Rattle.nq_sexp.specs.Tree.{tree}
use Rattle.nq_history.specs.Events.{events_at}
use Rattle.nq_history.proofs.HistoryLemmas.{events_at-grown, history_grown}
use Rattle.nq_events.specs.Inductions.{suggests_induction}
use Rattle.nq_event.proofs.HintSumLemmas.{inducted_added}
use Rattle.nq_event.proofs.hint_terms.add_inducted.Goals as goal

pub returns-clause-added : goal.returns-clause-added
returns-clause-added c =
    let old = c.args.bank.now in
    let mid = c.term_in.new.bank in
    let new = c.suggests_induction.new.bank in
    let t = c.in_ok-t.t in
    let read = c.in_ok-t.ensures.read in
    let same = term_at-grown mid new t c.suggests_induction.ensures.grows read.stands in
    inducted_added (events_at old c.args.history.now) old new (Grows-trans old mid new c.term_in.ensures.grows c.suggests_induction.ensures.grows) c.args.hints.now c.requires.hints c.first_of-hints.result t (tree c.args.form.now) c.in_ok-suggests_induction.field-0
    c.first_of-hints.ensures (Stands-grown mid new t c.suggests_induction.ensures.grows read.stands) read.unrefused (same ∙ read.is)
    (c.in_ok-suggests_induction.ensures.is ∙ ap (λ h. suggests_induction h (term_at mid t)) (events_at-grown old mid c.term_in.ensures.grows c.args.history.now c.requires.history.entries) ∙ ap (suggests_induction (events_at old c.args.history.now)) (sym same))

pub suggests_induction-requires-clause-history : goal.suggests_induction-requires-clause-history
suggests_induction-requires-clause-history c = history_grown c.args.bank.now c.term_in.new.bank c.term_in.ensures.grows c.args.history.now c.requires.history
