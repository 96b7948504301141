use Rattle.std.proofs.Common.{◌≡◌, ◌≤◌, ◌-◌, ◌∷◌, length, take, drop, ap, sym, subst, arith}
use Rattle.std.specs.Prelude.{All}
use Rattle.nq_logic.specs.Terms.{IsAmong, Each}
use Rattle.nq_logic.specs.Sizes.{depth_of}
use Rattle.nq_logic.specs.Histories.{events_shells}
use Rattle.nq_bank.specs.Content.{term_at, terms_at}
use Rattle.nq_bank.specs.Shells.{ShellStands, shell_at, shells_at}
use Rattle.nq_bank.proofs.Growth.{Stands-grown, term_at-grown, terms_at-grown}
use Rattle.nq_bank.proofs.NodesLemmas.{All-head, All-tail}
use Rattle.nq_bank.proofs.Standing.{stand_grown}
use Rattle.nq_rule.proofs.Made.{for_ok}
use Rattle.nq_history.specs.Events.{events_at}
use Rattle.nq_lines.proofs.TermLemmas.{same_term_grown, term_grown}
use Rattle.nq_replay.proofs.UncountedLemmas.{grown_refl, grown_trans}
use Rattle.nq_part_lines.specs.LawLines.{term_room}
use Rattle.nq_part_lines.proofs.GrownLemmas.{room_grown}
use Rattle.nq_decrease.specs.Nests.{IsNestOf, IsShellNestLine}
use Rattle.nq_decrease.proofs.NestLines.{found_none}
use Rattle.nq_decrease.proofs.OwnGrownLemmas.{ready_grown, same_events}
use Rattle.nq_decrease.proofs.OwnShellLemmas.{OwnFound, first_apart, own_more, own_moved, shells_same, shells_stand}
use Rattle.nq_decrease.proofs.own_nests.+nest_of_own.Goals as goal

pub nest_of_one-requires-clause-shell : goal.nest_of_one-requires-clause-shell
nest_of_one-requires-clause-shell t c =
    let b = c.args.work.now.bank in
    let xs = c.args.shells.now in
    let s = c.first-item.result in
    let rest = take (length xs - 1) (drop 1 xs) in
    All-head (ShellStands b) s rest (subst (All (ShellStands b)) (first_apart xs s c.in-len1-up.len_at_least c.first-item.is) c.requires.shells)

pub nest_of_one-requires-clause-own : goal.nest_of_one-requires-clause-own
nest_of_one-requires-clause-own t c =
    let b = c.args.work.now.bank in
    let xs = c.args.shells.now in
    let s = c.first-item.result in
    let all = subst (λ ss. Each (λ s. IsAmong s (events_shells (events_at b c.args.history.now))) (shells_at b ss)) (first_apart xs s c.in-len1-up.len_at_least c.first-item.is) c.requires.own in
    all.0

pub nest_of_own-requires : goal.nest_of_own-requires
nest_of_own-requires t c =
    let h = c.args.history.now in
    let old = c.args.work.now in
    let one = c.nest_of_one.new.work in
    let grows = c.nest_of_one.ensures.grows.grows in
    let stands = c.requires.stands in
    let xs = c.args.shells.now in
    let s = c.first-item.result in
    let rest = take (length xs - 1) (drop 1 xs) in
    let apart : xs ≡ s ∷ rest = first_apart xs s c.in-len1-up.len_at_least c.first-item.is in
    let many : length xs ≡ length (s ∷ rest) = ap length apart in
    let shells : All (ShellStands old.bank) rest = All-tail (ShellStands old.bank) s rest (subst (All (ShellStands old.bank)) apart c.requires.shells) in
    let own = subst (λ ss. Each (λ s. IsAmong s (events_shells (events_at old.bank h))) (shells_at old.bank ss)) apart c.requires.own in
    let own_one =
    subst (λ ss. Each (λ s. IsAmong s (events_shells (events_at one.bank h))) ss) (sym (shells_same old.bank one.bank grows.bank rest shells))
    (subst (λ es. Each (λ s. IsAmong s (events_shells es)) (shells_at old.bank rest)) (sym (same_events h old one grows stands)) own.1) in
    let shallow = subst (λ t. depth_of t ≤ term_room) (sym (term_at-grown old.bank one.bank c.args.t grows.bank c.requires.term)) c.requires.shallow in (
      omega (arith, many),
      (
        grows.stands,
        (
          ready_grown h old one grows stands c.requires.ready,
          (
            shells_stand old.bank one.bank grows.bank rest shells,
            (
              own_one,
              (
                term_grown h old one c.args.whole stands grows c.requires.whole,
                (Stands-grown old.bank one.bank c.args.t grows.bank c.requires.term, (stand_grown old.bank one.bank c.args.tests.now grows.bank c.requires.tests, (room_grown h old one grows c.args.whole c.requires.whole c.requires.room, shallow))),
              ),
            ),
          ),
        ),
      ),
    )

pub returns-in-empty-clause-grows : goal.returns-in-empty-clause-grows
returns-in-empty-clause-grows t c = grown_refl c.args.history.now c.args.work.now c.requires.stands

pub returns-in-None-clause-answer : goal.returns-in-None-clause-answer
returns-in-None-clause-answer t c =
    let h = c.args.history.now in
    let old = c.args.work.now in
    let one = c.nest_of_one.new.work in
    let new = c.nest_of_own.new.work in
    let grows = c.nest_of_one.ensures.grows.grows in
    let events = events_at old.bank h in
    let tests = terms_at old.bank c.args.tests.now in
    let x = term_at old.bank c.args.whole in
    let z = term_at old.bank c.args.t in
    let xs = c.args.shells.now in
    let first = c.first-item.result in
    let s = shell_at old.bank first in
    let rest = take (length xs - 1) (drop 1 xs) in
    let apart : xs ≡ first ∷ rest = first_apart xs first c.in-len1-up.len_at_least c.first-item.is in
    let shells : All (ShellStands old.bank) rest = All-tail (ShellStands old.bank) first rest (subst (All (ShellStands old.bank)) apart c.requires.shells) in
    let none = found_none (IsNestOf s tests x z → ⊥) (IsShellNestLine events one tests x z) c.in_ok-nest_of_one-in-len1-up.field-0 c.in-None.is c.in_ok-nest_of_one-in-len1-up.ensures.answer in
    for_ok c.nest_of_own.result (OwnFound (events_at one.bank h) new (terms_at one.bank c.args.tests.now) (term_at one.bank c.args.whole) (term_at one.bank c.args.t) (shells_at one.bank rest)) (OwnFound events new tests x z (shells_at old.bank xs)) (λ r f.
    subst (λ ss. OwnFound events new tests x z (shells_at old.bank ss) r) (sym apart)
    (own_more events new tests x z s (shells_at old.bank rest) r none
    (own_moved new events (events_at one.bank h) (shells_at old.bank rest) (shells_at one.bank rest) tests (terms_at one.bank c.args.tests.now) x (term_at one.bank c.args.whole) z (term_at one.bank c.args.t) r (same_events h old one grows c.requires.stands) (shells_same old.bank one.bank grows.bank rest shells)
    (terms_at-grown old.bank one.bank c.args.tests.now grows.bank c.requires.tests) (same_term_grown h old one c.args.whole grows c.requires.whole) (term_at-grown old.bank one.bank c.args.t grows.bank c.requires.term) f))) c.nest_of_own.ensures.answer

pub returns-in-None-clause-grows : goal.returns-in-None-clause-grows
returns-in-None-clause-grows t c = grown_trans c.args.history.now c.args.work.now c.nest_of_one.new.work c.nest_of_own.new.work c.nest_of_one.ensures.grows c.nest_of_own.ensures.grows
