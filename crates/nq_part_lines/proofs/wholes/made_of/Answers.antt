use Rattle.std.proofs.Common.{◌≡◌, ◌≤◌, ◌<◌, ◌∙◌, List, Err, ap, sym, subst, arith}
use Rattle.nq_logic.specs.Terms.{Term, call}
use Rattle.nq_logic.specs.Ground.{symbols_of}
use Rattle.nq_logic.specs.Shells.{remade}
use Rattle.nq_logic.specs.Sizes.{depth_of, depth_limit}
use Rattle.nq_bank.specs.Content.{Grows, IsIdOf, terms_at}
use Rattle.nq_bank.specs.Shells.{shell_at}
use Rattle.nq_bank.proofs.Growth.{Grows-refl}
use Rattle.nq_history.specs.Events.{events_at}
use Rattle.nq_history.proofs.HistoryLemmas.{events_at-grown}
use Rattle.nq_kernel.specs.declared.work.Work.{Work}
use Rattle.nq_kernel.specs.Over.{IsTermOf, IsVariable}
use Rattle.nq_lines.proofs.TermLemmas.{id_in}
use Rattle.nq_steps.proofs.NameLemmas.{no_names}
use Rattle.nq_replay.proofs.UncountedLemmas.{bank_uncounted}
use Rattle.nq_part_lines.specs.LawLines.{term_room}
use Rattle.nq_part_lines.proofs.PartCallLemmas.{remade_over, small_stand}
use Rattle.nq_part_lines.proofs.RoomLemmas.{remade_low}
use Rattle.nq_part_lines.proofs.TermLemmas.{not_both}
use Rattle.nq_part_lines.proofs.wholes.made_of.Goals as goal

pub app-requires-clause-function : goal.app-requires-clause-function
app-requires-clause-function c = c.requires.shell.constructor

pub app-requires-clause-arguments : goal.app-requires-clause-arguments
app-requires-clause-arguments c = small_stand c.args.history.now c.args.work.now c.args.calls.now c.requires.small

pub unreachable-requires : goal.unreachable-requires
unreachable-requires c =
    let b = c.args.work.now.bank in
    let s = shell_at b c.args.shell.now in
    let low = remade_low s in
    let deep : depth_limit < depth_of (call s.constructor (terms_at b c.args.calls.now)) = c.app.ensures.deep.0 (c.in-Err-Deep.is ∙ ap Err c.in-Err-Deep.field-0-is) in
    let same : depth_of (call s.constructor (terms_at b c.args.calls.now)) ≡ depth_of (remade s) = ap (λ (ts : List Term). depth_of (call s.constructor ts)) c.requires.calls in
    not_both (depth_of (remade s)) (omega (arith, low)) (omega (arith, deep, same))

pub returns-in-Ok-clause-made : goal.returns-in-Ok-clause-made
returns-in-Ok-clause-made c =
    let s = shell_at c.args.work.now.bank c.args.shell.now in
    subst (λ (ts : List Term). IsIdOf c.app.new.self c.in-Ok.t (call s.constructor ts)) c.requires.calls c.in-Ok.ensures.ok.id

pub returns-in-Ok-clause-small : goal.returns-in-Ok-clause-small
returns-in-Ok-clause-small c =
    let h = c.args.history.now in
    let old : Work = c.args.work.now in
    let new : Work = record old { bank = c.app.new.self } in
    let s = shell_at old.bank c.args.shell.now in
    let is : IsIdOf new.bank c.in-Ok.t (remade s) = subst (λ (ts : List Term). IsIdOf new.bank c.in-Ok.t (call s.constructor ts)) c.requires.calls c.in-Ok.ensures.ok.id in
    let over = remade_over (events_at old.bank h) s c.requires.known c.requires.rows in
    let low = remade_low s in
    let few : depth_of (remade s) ≤ term_room = omega (arith, low) in
    record {
      inside = id_in h new c.in-Ok.t (remade s) is (subst (λ es. IsTermOf IsVariable (symbols_of es) (remade s)) (sym (events_at-grown old.bank new.bank c.in-Ok.ensures.ok.grows h c.requires.stands.history.entries)) over);
      room = subst (λ u. depth_of u ≤ term_room) (sym is.denotes) few;
    }

pub returns-in-Ok-clause-grows : goal.returns-in-Ok-clause-grows
returns-in-Ok-clause-grows c = bank_uncounted c.args.history.now c.args.work.now c.app.new.self c.requires.stands c.in-Ok.ensures.ok.grows (no_names c.args.work.now.bank c.app.new.self c.in-Ok.ensures.ok.names)

pub returns-in-Err-Memory-clause-grows : goal.returns-in-Err-Memory-clause-grows
returns-in-Err-Memory-clause-grows c =
    bank_uncounted c.args.history.now c.args.work.now c.app.new.self c.requires.stands (subst (Grows c.args.work.now.bank) (sym c.in-Err-Memory.ensures.err) (Grows-refl c.args.work.now.bank)) (no_names c.args.work.now.bank c.app.new.self (ap (λ bank. bank.names) c.in-Err-Memory.ensures.err))
