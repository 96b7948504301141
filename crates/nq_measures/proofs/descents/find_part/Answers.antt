use Rattle.std.proofs.Common.{◌≤◌, ◌∙◌, List, ap, sym, subst, arith}
use Rattle.std.specs.Prelude.{All}
use Rattle.nq_logic.specs.Terms.{Term}
use Rattle.nq_logic.specs.Sizes.{depth_of}
use Rattle.nq_bank.specs.declared.node.TermId.{TermId}
use Rattle.nq_bank.specs.Content.{Stands, text_at, term_at, terms_at}
use Rattle.nq_bank.proofs.Growth.{Stands-grown, term_at-grown, text_at-grown}
use Rattle.nq_rule.proofs.Made.{for_ok}
use Rattle.nq_history.specs.Events.{events_at}
use Rattle.nq_history.proofs.HistoryLemmas.{events_at-grown}
use Rattle.nq_replay.proofs.UncountedLemmas.{grown_trans}
use Rattle.nq_calls.specs.Calls.{guards_at}
use Rattle.nq_decrease.specs.LawLines.{term_room}
use Rattle.nq_measures.proofs.DescentLemmas.{part_found}
use Rattle.nq_measures.proofs.ReadyLemmas.{ready_on}
use Rattle.nq_measures.proofs.descents.find_part.Goals as goal

pub decrease-requires-clause-ready : goal.decrease-requires-clause-ready
decrease-requires-clause-ready c = ready_on c.args.history.now c.args.work.now.bank c.tests_of.new.work.bank c.requires.stands.history c.tests_of.ensures.grows.grows.bank c.requires.ready

pub decrease-requires-clause-nest : goal.decrease-requires-clause-nest
decrease-requires-clause-nest c = Stands-grown c.args.work.now.bank c.tests_of.new.work.bank c.args.part c.tests_of.ensures.grows.grows.bank c.requires.part.stands

pub decrease-requires-clause-tests : goal.decrease-requires-clause-tests
decrease-requires-clause-tests c = subst (λ (ids : List TermId). All (Stands c.tests_of.new.work.bank) ids) (sym c.as_slice.ensures.value) c.in_ok-tests.ensures.stand

pub decrease-requires-clause-shallow : goal.decrease-requires-clause-shallow
decrease-requires-clause-shallow c =
    let d = c.requires.shallow in
    subst (λ (t : Term). depth_of t ≤ term_room) (sym (term_at-grown c.args.work.now.bank c.tests_of.new.work.bank c.args.part c.tests_of.ensures.grows.grows.bank c.requires.part.stands)) (omega (arith, d))

pub returns-clause-found : goal.returns-clause-found
returns-clause-found c =
    let old = c.args.work.now.bank in
    let mid = c.tests_of.new.work.bank in
    let up = c.tests_of.ensures.grows.grows.bank in
    for_ok c.decrease.result _ _
    (λ found w. part_found c.decrease.new.work (events_at old c.args.history.now) (events_at mid c.args.history.now) (text_at old c.args.x) (text_at mid c.args.x) (guards_at old c.args.guards.now) (terms_at mid c.as_slice.result.now) (term_at old c.args.part) (term_at mid c.args.part) found (events_at-grown old mid up c.args.history.now c.requires.stands.history.entries) (text_at-grown old mid c.args.x up c.requires.named)
    (ap (terms_at mid) c.as_slice.ensures.value ∙ c.in_ok-tests.ensures.tests) (term_at-grown old mid c.args.part up c.requires.part.stands) w)
    c.decrease.ensures.answer

pub returns-clause-grows : goal.returns-clause-grows
returns-clause-grows c = grown_trans c.args.history.now c.args.work.now c.tests_of.new.work c.decrease.new.work c.tests_of.ensures.grows c.decrease.ensures.grows
