use Rattle.std.proofs.Common.{◌≤◌, refl, sym, subst}
use Rattle.nq_logic.specs.Sizes.{depth_of}
use Rattle.nq_logic.specs.Terms.{IsAmong}
use Rattle.nq_logic.specs.Ground.{symbols_of}
use Rattle.nq_logic.proofs.Lists.{among_at, each_at}
use Rattle.nq_bank.specs.Content.{term_at, text_at}
use Rattle.nq_bank.specs.Shells.{part_at, shell_at}
use Rattle.nq_history.specs.Events.{events_at}
use Rattle.nq_lines.proofs.TermLemmas.{both_ok}
use Rattle.nq_part_lines.specs.Known.{row_room}
use Rattle.nq_part_lines.proofs.PartLemmas.{accessed_told, object_low, part_named, part_read}
use Rattle.nq_part_lines.proofs.objects.accessor_call.Goals as goal

pub call_on-requires-clause-named : goal.call_on-requires-clause-named
call_on-requires-clause-named c = (part_named c.args.work.now.bank c.args.shell.now.parts.items c.args.place c.index-part.result.now c.requires.place c.index-part.ensures c.requires.shell.parts).accessor

pub call_on-requires-clause-symbol : goal.call_on-requires-clause-symbol
call_on-requires-clause-symbol c =
    let w = c.args.work.now in
    let s = shell_at w.bank c.args.shell.now in
    let p = c.index-part.result.now in
    let symbols = symbols_of (events_at w.bank c.args.history.now) in
    each_at (λ q. IsAmong (q.accessor, 1) symbols) (part_at w.bank p) s.parts c.requires.known.accessors (among_at (part_at w.bank p) s.parts c.args.place (part_read w.bank c.args.shell.now.parts.items c.args.place p c.requires.place c.index-part.ensures))

pub call_on-requires-clause-low : goal.call_on-requires-clause-low
call_on-requires-clause-low c =
    let w = c.args.work.now in
    subst (λ t. depth_of t ≤ row_room) (sym c.requires.object_is) (object_low (shell_at w.bank c.args.shell.now) c.requires.known.size.low.0)

pub returns-clause-accessed : goal.returns-clause-accessed
returns-clause-accessed c =
    let w = c.args.work.now in
    let new = c.call_on.new.work in
    let s = shell_at w.bank c.args.shell.now in
    let p = c.index-part.result.now in
    both_ok c.call_on.result _ _ _ (λ t small call. accessed_told c.args.history.now new w.bank s c.args.shell.now.parts.items c.args.place p (text_at w.bank p.accessor) (term_at w.bank c.args.object) t refl c.requires.place c.index-part.ensures refl c.requires.object_is small call) c.call_on.ensures.small c.call_on.ensures.call
