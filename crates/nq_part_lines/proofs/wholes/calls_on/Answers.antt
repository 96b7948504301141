use Rattle.std.proofs.Common.{◌≡◌, ◌≤◌, ◌+◌, ◌++◌, ◌∙◌, List, drop, sym, ap, ap₂, subst, arith}
use Rattle.std.specs.Prelude.{All}
use Rattle.nq_logic.specs.Terms.{Applied, Function, Term}
use Rattle.nq_logic.specs.Ground.{symbols_of}
use Rattle.nq_logic.specs.Shells.{accessed, whole}
use Rattle.nq_logic.specs.Sizes.{depth_of}
use Rattle.nq_bank.specs.declared.node.TermId.{TermId}
use Rattle.nq_bank.specs.declared.shell.Part.{Part}
use Rattle.nq_bank.specs.Content.{IsIdOf, IsNamed, term_at, terms_at, text_at}
use Rattle.nq_bank.specs.Shells.{parts_at}
use Rattle.nq_bank.proofs.Growth.{IsNamed-grown, text_at-grown}
use Rattle.nq_history.specs.Events.{events_at}
use Rattle.nq_kernel.specs.declared.work.Work.{Work}
use Rattle.nq_lines.proofs.TermLemmas.{same_term_grown}
use Rattle.nq_replay.proofs.UncountedLemmas.{grown_refl, grown_trans}
use Rattle.nq_part_lines.specs.Known.{row_room}
use Rattle.nq_part_lines.specs.Small.{IsSmallIn}
use Rattle.nq_part_lines.proofs.PartCallLemmas.{accessor_in, call_more, call_next, calls_all, none_small, symbol_grown}
use Rattle.nq_part_lines.proofs.PartLemmas.{part_named}
use Rattle.nq_part_lines.proofs.ReadingLemmas.{small_grown}
use Rattle.nq_part_lines.proofs.RoomLemmas.{variable_low}
use Rattle.nq_part_lines.proofs.wholes.calls_on.Goals as goal

pub loop-part-init : goal.loop-part-init
loop-part-init c =
    let h = c.args.history.now in
    let w0 = c.args.work.now in
    record {
      grows = grown_refl h w0 c.requires.stands;
      small = none_small h w0 c.new-calls.result.items c.new-calls.ensures.items;
      terms = ap (λ (ids : List TermId). terms_at w0.bank ids ++ accessed whole (parts_at w0.bank c.args.parts.now)) c.new-calls.ensures.items;
    }

pub call_on-requires-clause-stands : goal.call_on-requires-clause-stands
call_on-requires-clause-stands c = c.loop-part.invariant.grows.grows.stands

pub call_on-requires-clause-named : goal.call_on-requires-clause-named
call_on-requires-clause-named c =
    let w0 = c.args.work.now in
    let part : Part = c.part-item.result in
    IsNamed-grown w0.bank c.loop-part.work.bank part.accessor c.loop-part.invariant.grows.grows.bank ((part_named w0.bank c.args.parts.now c.loop-part.part-index part c.loop-part-test.true c.part-item.is c.requires.parts).accessor)

pub call_on-requires-clause-symbol : goal.call_on-requires-clause-symbol
call_on-requires-clause-symbol c =
    let h = c.args.history.now in
    let w0 = c.args.work.now in
    let part : Part = c.part-item.result in
    let named = (part_named w0.bank c.args.parts.now c.loop-part.part-index part c.loop-part-test.true c.part-item.is c.requires.parts).accessor in
    let there = accessor_in w0.bank (symbols_of (events_at w0.bank h)) c.args.parts.now c.loop-part.part-index part c.requires.accessors c.loop-part-test.true c.part-item.is in
    symbol_grown h w0 c.loop-part.work part.accessor 1 c.requires.stands c.loop-part.invariant.grows.grows named there

pub call_on-requires-clause-term : goal.call_on-requires-clause-term
call_on-requires-clause-term c = small_grown c.args.history.now c.args.work.now c.loop-part.work c.args.x c.requires.stands c.loop-part.invariant.grows.grows c.requires.term

pub call_on-requires-clause-low : goal.call_on-requires-clause-low
call_on-requires-clause-low c =
    let w1 : Work = c.loop-part.work in
    let is : term_at w1.bank c.args.x ≡ whole = same_term_grown c.args.history.now c.args.work.now w1 c.args.x c.loop-part.invariant.grows.grows c.requires.term.inside ∙ c.requires.whole in
    let low : depth_of whole ≤ 1 = variable_low _ in
    let few : depth_of whole ≤ row_room = omega (arith, low) in
    subst (λ t. depth_of t ≤ row_room) (sym is) few

pub loop-part-preserved : goal.loop-part-preserved
loop-part-preserved c =
    let h = c.args.history.now in
    let w0 : Work = c.args.work.now in
    let w1 : Work = c.loop-part.work in
    let w2 : Work = c.call_on.new.work in
    let inv = c.loop-part.invariant in
    let grows = c.call_on.ensures.grows in
    let part : Part = c.part-item.result in
    let call : TermId = c.in_ok-call.call in
    let named : IsNamed w0.bank part.accessor = (part_named w0.bank c.args.parts.now c.loop-part.part-index part c.loop-part-test.true c.part-item.is c.requires.parts).accessor in
    let x : term_at w1.bank c.args.x ≡ whole = same_term_grown h w0 w1 c.args.x inv.grows.grows c.requires.term.inside ∙ c.requires.whole in
    let is : IsIdOf w2.bank call (Applied (Function (text_at w0.bank part.accessor)) whole) =
    subst (IsIdOf w2.bank call) (ap₂ (λ (n : List _) (t : Term). Applied (Function n) t) (text_at-grown w0.bank w1.bank part.accessor inv.grows.grows.bank named) x) c.in_ok-call.ensures.call in
    record {
      grows = grown_trans h w0 w1 w2 inv.grows grows;
      small = subst (All (IsSmallIn h w2)) (sym c.in_ok-push.ensures.items) (call_more h w1 w2 inv.grows.grows.stands grows.grows c.loop-part.calls.items call inv.small c.in_ok-call.ensures.small);
      terms =
          ap (λ (ids : List TermId). terms_at w2.bank ids ++ accessed whole (parts_at w0.bank (drop (c.loop-part.part-index + 1) c.args.parts.now))) c.in_ok-push.ensures.items
          ∙ call_next h w1 w2 inv.grows.grows.stands grows.grows w0.bank c.loop-part.calls.items call c.args.parts.now c.loop-part.part-index part inv.small inv.terms c.loop-part-test.true c.part-item.is is;
    }

pub returns-in_err-call-clause-grows : goal.returns-in_err-call-clause-grows
returns-in_err-call-clause-grows c = grown_trans c.args.history.now c.args.work.now c.loop-part.work c.call_on.new.work c.loop-part.invariant.grows c.call_on.ensures.grows

pub returns-in_err-push-clause-grows : goal.returns-in_err-push-clause-grows
returns-in_err-push-clause-grows c = grown_trans c.args.history.now c.args.work.now c.loop-part.work c.call_on.new.work c.loop-part.invariant.grows c.call_on.ensures.grows

pub returns-clause-calls : goal.returns-clause-calls
returns-clause-calls c = calls_all c.args.work.now.bank (terms_at c.loop-part.work.bank c.loop-part.calls.items) c.loop-part.part-index c.args.parts.now c.loop-part.invariant.terms c.loop-part-test.false

pub returns-clause-small : goal.returns-clause-small
returns-clause-small c = c.loop-part.invariant.small

pub returns-clause-grows : goal.returns-clause-grows
returns-clause-grows c = c.loop-part.invariant.grows
