use Rattle.std.proofs.Common.{◌≡◌, ◌≤◌, ◌<◌, List, [], length, drop, take, map, sym, ap, subst, ◌∙◌, arith}
use Rattle.std.proofs.lemmas.List.{take_all, length-take-le, drop_all, drop_more}
use Rattle.nq_bank.specs.Content.{Content}
use Rattle.nq_bank.specs.Marks.{released}
use Rattle.nq_history.specs.declared.entry.Entry.{Entry}
use Rattle.nq_history.specs.Events.{event_at, events_at, ground_length, HistoryStands}
use Rattle.nq_history.specs.Marking.{given_back, AreMarked}
use Rattle.nq_history.proofs.MarkingLemmas.{entry_at, undo_marked, undo_stands}
use Rattle.nq_history.proofs.history.History.back_to_ground.Goals as goal

-- no entry stands past the ground history
none_past : (bank : Content) (entries : List Entry) → length entries ≤ ground_length → events_at bank entries ≡ []
none_past bank entries few = ap (map (event_at bank)) (drop_all ground_length entries few)

-- the first entries, as many as the ground history has
ground_alone : (bank : Content) (entries : List Entry) → ground_length ≤ length entries → events_at bank (take ground_length entries) ≡ []
ground_alone bank entries long = none_past bank (take ground_length entries) (omega (arith, length-take-le ground_length entries long))

pub returns-then-len-gt-GROUND_LENGTH-clause-bank : goal.returns-then-len-gt-GROUND_LENGTH-clause-bank
returns-then-len-gt-GROUND_LENGTH-clause-bank c =
    let history = c.args.self.now in
    let bank = c.args.bank.now in
    let long : ground_length < length history = omega (arith, c.if-len-gt-GROUND_LENGTH.true, c.len.ensures ∙ c.self.inside.entries.ok.0 ∙ ap length c.self.view_is) in
    let at = entry_at history ground_length long in
    c.undo_to.ensures.bank at.0 at.1 ∙ ap (λ (e : Entry). released bank e.mark) at.1 ∙ sym (ap (given_back bank) (drop_more history ground_length at.0 long))

pub returns-then-len-gt-GROUND_LENGTH-clause-none : goal.returns-then-len-gt-GROUND_LENGTH-clause-none
returns-then-len-gt-GROUND_LENGTH-clause-none c =
    let history = c.args.self.now in
    let long : ground_length < length history = omega (arith, c.if-len-gt-GROUND_LENGTH.true, c.len.ensures ∙ c.self.inside.entries.ok.0 ∙ ap length c.self.view_is) in
    subst (λ (es : List Entry). events_at c.undo_to.new.bank es ≡ []) (sym c.undo_to.ensures.history) (ground_alone c.undo_to.new.bank history (omega (arith, long)))

pub returns-then-len-gt-GROUND_LENGTH-clause-stands_after : goal.returns-then-len-gt-GROUND_LENGTH-clause-stands_after
returns-then-len-gt-GROUND_LENGTH-clause-stands_after c =
    let history = c.args.self.now in
    let bank = c.args.bank.now in
    let long : ground_length < length history = omega (arith, c.if-len-gt-GROUND_LENGTH.true, c.len.ensures ∙ c.self.inside.entries.ok.0 ∙ ap length c.self.view_is) in
    let at = entry_at history ground_length long in
    let gone : c.undo_to.new.bank ≡ released bank at.0.mark = c.undo_to.ensures.bank at.0 at.1 in
    subst (λ b. HistoryStands b c.undo_to.new.self) (sym gone)
    (subst (HistoryStands (released bank at.0.mark)) (sym c.undo_to.ensures.history) (undo_stands bank history ground_length at.0 c.requires.marked long at.1 c.requires.stands (omega arith)))

pub returns-then-len-gt-GROUND_LENGTH-clause-marked_after : goal.returns-then-len-gt-GROUND_LENGTH-clause-marked_after
returns-then-len-gt-GROUND_LENGTH-clause-marked_after c =
    let history = c.args.self.now in
    let bank = c.args.bank.now in
    let long : ground_length < length history = omega (arith, c.if-len-gt-GROUND_LENGTH.true, c.len.ensures ∙ c.self.inside.entries.ok.0 ∙ ap length c.self.view_is) in
    let at = entry_at history ground_length long in
    let gone : c.undo_to.new.bank ≡ released bank at.0.mark = c.undo_to.ensures.bank at.0 at.1 in
    subst (λ b. AreMarked b c.undo_to.new.self) (sym gone)
    (subst (AreMarked (released bank at.0.mark)) (sym c.undo_to.ensures.history) (undo_marked bank history ground_length at.0 c.requires.marked long at.1))

pub returns-else-len-gt-GROUND_LENGTH-clause-history : goal.returns-else-len-gt-GROUND_LENGTH-clause-history
returns-else-len-gt-GROUND_LENGTH-clause-history c =
    let history = c.args.self.now in
    sym (take_all ground_length history (omega (arith, c.if-len-gt-GROUND_LENGTH.false, c.len.ensures ∙ c.self.inside.entries.ok.0 ∙ ap length c.self.view_is)))

pub returns-else-len-gt-GROUND_LENGTH-clause-none : goal.returns-else-len-gt-GROUND_LENGTH-clause-none
returns-else-len-gt-GROUND_LENGTH-clause-none c =
    let history = c.args.self.now in
    none_past c.args.bank.now history (omega (arith, c.if-len-gt-GROUND_LENGTH.false, c.len.ensures ∙ c.self.inside.entries.ok.0 ∙ ap length c.self.view_is))

pub returns-else-len-gt-GROUND_LENGTH-clause-bank : goal.returns-else-len-gt-GROUND_LENGTH-clause-bank
returns-else-len-gt-GROUND_LENGTH-clause-bank c =
    let history = c.args.self.now in
    sym (ap (given_back c.args.bank.now) (drop_all ground_length history (omega (arith, c.if-len-gt-GROUND_LENGTH.false, c.len.ensures ∙ c.self.inside.entries.ok.0 ∙ ap length c.self.view_is))))
