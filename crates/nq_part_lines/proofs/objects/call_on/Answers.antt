use Rattle.std.proofs.Common.{◌≤◌, ◌∙◌, Err, ap, sym, subst, arith}
use Rattle.nq_logic.specs.Terms.{Applied, Function}
use Rattle.nq_logic.specs.Sizes.{depth_of}
use Rattle.nq_bank.specs.Content.{Grows, term_at, text_at}
use Rattle.nq_bank.proofs.Growth.{Grows-refl}
use Rattle.nq_steps.proofs.NameLemmas.{no_names}
use Rattle.nq_replay.proofs.UncountedLemmas.{bank_uncounted}
use Rattle.nq_part_lines.specs.Known.{row_room}
use Rattle.nq_part_lines.proofs.CallLemmas.{one_depth}
use Rattle.nq_part_lines.proofs.PartLemmas.{one_small}
use Rattle.nq_part_lines.proofs.TermLemmas.{not_both}
use Rattle.nq_part_lines.proofs.objects.call_on.Goals as goal

pub unreachable-requires : goal.unreachable-requires
unreachable-requires c =
    let b = c.args.work.now.bank in
    let low = one_depth (text_at b c.args.f) (term_at b c.args.t) in
    let room : depth_of (term_at b c.args.t) ≤ row_room = c.requires.low in
    not_both (depth_of (Applied (Function (text_at b c.args.f)) (term_at b c.args.t))) (omega (arith, low, room)) (c.app.ensures.deep.0 (c.in-Err-Deep.is ∙ ap Err c.in-Err-Deep.field-0-is))

pub returns-in-Ok-clause-grows : goal.returns-in-Ok-clause-grows
returns-in-Ok-clause-grows c = bank_uncounted c.args.history.now c.args.work.now c.app.new.self c.requires.stands c.in-Ok.ensures.ok.grows (no_names c.args.work.now.bank c.app.new.self c.in-Ok.ensures.ok.names)

pub returns-in-Err-Memory-clause-grows : goal.returns-in-Err-Memory-clause-grows
returns-in-Err-Memory-clause-grows c =
    bank_uncounted c.args.history.now c.args.work.now c.app.new.self c.requires.stands (subst (Grows c.args.work.now.bank) (sym c.in-Err-Memory.ensures.err) (Grows-refl c.args.work.now.bank)) (no_names c.args.work.now.bank c.app.new.self (ap (λ bank. bank.names) c.in-Err-Memory.ensures.err))

pub returns-in-Ok-clause-small : goal.returns-in-Ok-clause-small
returns-in-Ok-clause-small c =
    let old = c.args.work.now in
    let grows = bank_uncounted c.args.history.now old c.app.new.self c.requires.stands c.in-Ok.ensures.ok.grows (no_names old.bank c.app.new.self c.in-Ok.ensures.ok.names) in
    one_small c.args.history.now old (record old { bank = c.app.new.self }) c.requires.stands grows.grows (text_at old.bank c.args.f) c.args.t c.in-Ok.u c.requires.symbol c.requires.term c.requires.low c.in-Ok.ensures.ok.id
