use Rattle.std.proofs.Common.{◌≤◌, ap₂, sym, subst, arith}
use Rattle.nq_logic.specs.Terms.{Applied, Function}
use Rattle.nq_logic.specs.Sizes.{depth_of}
use Rattle.nq_bank.specs.Content.{IsIdOf, term_at, text_at}
use Rattle.nq_bank.proofs.Growth.{IsNamed-grown, text_at-grown}
use Rattle.nq_rule.proofs.Made.{for_ok}
use Rattle.nq_history.specs.Events.{events_at}
use Rattle.nq_replay.proofs.UncountedLemmas.{grown_trans}
use Rattle.nq_part_lines.specs.Decisions.{is_of}
use Rattle.nq_part_lines.specs.Defaults.{truth_name, truth_term}
use Rattle.nq_part_lines.specs.Known.{row_room}
use Rattle.nq_part_lines.proofs.KindLemmas.{kind_known}
use Rattle.nq_part_lines.proofs.KnownGrowth.{symbol_grown}
use Rattle.nq_part_lines.proofs.RoomLemmas.{constant_low}
use Rattle.nq_part_lines.proofs.kinds.kind_term.Goals as goal

pub call_on-requires-clause-named : goal.call_on-requires-clause-named
call_on-requires-clause-named c = IsNamed-grown c.args.work.now.bank c.truth.new.work.bank c.args.r c.truth.ensures.grows.grows.bank c.requires.named

pub call_on-requires-clause-symbol : goal.call_on-requires-clause-symbol
call_on-requires-clause-symbol c =
    let old = c.args.work.now in
    let h = c.args.history.now in
    symbol_grown h old c.truth.new.work c.requires.stands c.truth.ensures.grows.grows c.args.r 1 c.requires.named (kind_known (events_at old.bank h) (text_at old.bank c.args.r) c.requires.rows c.requires.kind)

pub call_on-requires-clause-low : goal.call_on-requires-clause-low
call_on-requires-clause-low c =
    let low = constant_low (truth_name c.args.value) in
    let few : depth_of (truth_term c.args.value) ≤ row_room = omega (arith, low) in
    subst (λ u. depth_of u ≤ row_room) (sym c.in_ok-t.ensures.truth.denotes) few

pub returns-clause-term : goal.returns-clause-term
returns-clause-term c =
    let old = c.args.work.now in
    let mid = c.truth.new.work in
    let new = c.call_on.new.work in
    let name = text_at-grown old.bank mid.bank c.args.r c.truth.ensures.grows.grows.bank c.requires.named in
    for_ok c.call_on.result (λ u. IsIdOf new.bank u (Applied (Function (text_at mid.bank c.args.r)) (term_at mid.bank c.in_ok-t.t))) (λ u. IsIdOf new.bank u (is_of (text_at old.bank c.args.r) c.args.value)) (λ u k.
    subst (IsIdOf new.bank u) (ap₂ (λ n v. Applied (Function n) v) name c.in_ok-t.ensures.truth.denotes) k) c.call_on.ensures.call

pub returns-clause-grows : goal.returns-clause-grows
returns-clause-grows c = grown_trans c.args.history.now c.args.work.now c.truth.new.work c.call_on.new.work c.truth.ensures.grows c.call_on.ensures.grows
