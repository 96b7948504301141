use Rattle.std.proofs.Common.{◌≤◌, ◌∙◌, Err, ap, sym, subst, arith}
use Rattle.nq_logic.specs.Terms.{Function}
use Rattle.nq_logic.specs.Ground.{symbols_of}
use Rattle.nq_logic.specs.Sizes.{depth_of}
use Rattle.nq_bank.specs.Content.{Grows, IsIdOf, text_at}
use Rattle.nq_bank.proofs.Growth.{Grows-refl}
use Rattle.nq_history.specs.Events.{events_at}
use Rattle.nq_history.proofs.HistoryLemmas.{events_at-grown}
use Rattle.nq_kernel.specs.declared.work.Work.{Work}
use Rattle.nq_kernel.specs.Over.{IsTermOf, IsVariable}
use Rattle.nq_lines.proofs.TermLemmas.{id_in}
use Rattle.nq_steps.proofs.NameLemmas.{no_names}
use Rattle.nq_replay.proofs.UncountedLemmas.{bank_uncounted}
use Rattle.nq_part_lines.specs.LawLines.{term_room}
use Rattle.nq_part_lines.proofs.RoomLemmas.{constant_low}
use Rattle.nq_part_lines.proofs.TermLemmas.{not_both}
use Rattle.nq_part_lines.proofs.own.base_term.Goals as goal

pub unreachable-requires : goal.unreachable-requires
unreachable-requires c =
    let low = constant_low (text_at c.args.work.now.bank c.args.b) in
    not_both (depth_of (Function (text_at c.args.work.now.bank c.args.b))) (omega (arith, low)) (c.app.ensures.deep.0 (c.in-Err-Deep.is ∙ ap Err c.in-Err-Deep.field-0-is))

pub returns-in-Ok-clause-grows : goal.returns-in-Ok-clause-grows
returns-in-Ok-clause-grows c = bank_uncounted c.args.history.now c.args.work.now c.app.new.self c.requires.stands c.in-Ok.ensures.ok.grows (no_names c.args.work.now.bank c.app.new.self c.in-Ok.ensures.ok.names)

pub returns-in-Err-Memory-clause-grows : goal.returns-in-Err-Memory-clause-grows
returns-in-Err-Memory-clause-grows c =
    bank_uncounted c.args.history.now c.args.work.now c.app.new.self c.requires.stands (subst (Grows c.args.work.now.bank) (sym c.in-Err-Memory.ensures.err) (Grows-refl c.args.work.now.bank)) (no_names c.args.work.now.bank c.app.new.self (ap (λ bank. bank.names) c.in-Err-Memory.ensures.err))

pub returns-in-Ok-clause-small : goal.returns-in-Ok-clause-small
returns-in-Ok-clause-small c =
    let h = c.args.history.now in
    let old : Work = c.args.work.now in
    let new : Work = record old { bank = c.app.new.self } in
    let b = Function (text_at old.bank c.args.b) in
    let is : IsIdOf new.bank c.in-Ok.t b = c.in-Ok.ensures.ok.id in
    let over : IsTermOf IsVariable (symbols_of (events_at old.bank h)) b = record { over = c.requires.symbol; variables = tt } in
    let low = constant_low (text_at old.bank c.args.b) in
    let few : depth_of b ≤ term_room = omega (arith, low) in
    record {
      inside = id_in h new c.in-Ok.t b is (subst (λ es. IsTermOf IsVariable (symbols_of es) b) (sym (events_at-grown old.bank new.bank c.in-Ok.ensures.ok.grows h c.requires.stands.history.entries)) over);
      room = subst (λ u. depth_of u ≤ term_room) (sym is.denotes) few;
    }
