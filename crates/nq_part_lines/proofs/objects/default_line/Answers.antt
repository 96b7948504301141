use Rattle.std.proofs.Common.{◌≡◌, ◌+◌, ◌-◌, ◌∷◌, [], length, ap₂, arith, vec_len}
use Rattle.nq_logic.specs.Terms.{Function}
use Rattle.nq_logic.specs.Words.{equal_term}
use Rattle.nq_logic.specs.Shells.{made}
use Rattle.nq_bank.specs.Content.{term_at, text_at}
use Rattle.nq_bank.specs.Shells.{part_at, shell_at}
use Rattle.nq_history.specs.Events.{events_at}
use Rattle.nq_rule.proofs.Made.{for_ok}
use Rattle.nq_arith.specs.Nests.{accessor_of, is_smaller}
use Rattle.nq_lines.specs.Lines.{LineHasOnly}
use Rattle.nq_replay.proofs.UncountedLemmas.{grown_trans}
use Rattle.nq_part_lines.specs.Known.{allowed}
use Rattle.nq_part_lines.proofs.KnownGrowth.{accessed_grown, piece_at, row_grown, sized_grown, smaller_moved, three_steps, zero_grown}
use Rattle.nq_part_lines.proofs.PartLemmas.{part_named, part_read, parts_many, row_next, two_line}
use Rattle.nq_part_lines.proofs.objects.default_line.Goals as goal

pub zero_base-requires-clause-named : goal.zero_base-requires-clause-named
zero_base-requires-clause-named c = (part_named c.args.work.now.bank c.args.shell.now.parts.items c.args.place c.index-part.result.now c.requires.place c.index-part.ensures c.requires.shell.parts).default

pub zero_base-requires-clause-base : goal.zero_base-requires-clause-base
zero_base-requires-clause-base c =
    let w = c.args.work.now in
    let p = c.index-part.result.now in
    c.requires.base (part_at w.bank p) (part_read w.bank c.args.shell.now.parts.items c.args.place p c.requires.place c.index-part.ensures)

pub row_line-requires-clause-row : goal.row_line-requires-clause-row
row_line-requires-clause-row c =
    let w = c.args.work.now in
    let s = shell_at w.bank c.args.shell.now in
    let p = c.index-part.result.now in
    let place = c.args.place in
    let k = c.requires.known.parts place (part_at w.bank p) (part_read w.bank c.args.shell.now.parts.items place p c.requires.place c.index-part.ensures) in
    let literals = allowed place (part_at w.bank p) ∷ equal_term (accessor_of (part_at w.bank p) (made s)) (Function (text_at w.bank p.default)) ∷ [] in
    record { clause = literals; there = row_grown c.args.history.now w c.zero_base.new.work c.requires.stands c.zero_base.ensures.grows.grows c.args.shell.now.constructor 7 (place + 1) literals c.requires.shell.constructor (row_next (events_at w.bank c.args.history.now) (text_at w.bank c.args.shell.now.constructor) 7 place literals k.wrong) }

pub base_line-requires-clause-piece : goal.base_line-requires-clause-piece
base_line-requires-clause-piece c =
    let w0 = c.args.work.now in
    let w2 = c.row_line.new.work in
    let items = c.args.shell.now.parts.items in
    let s = shell_at w0.bank c.args.shell.now in
    let many : length s.parts ≡ length items = parts_many w0.bank items in
    let below = c.requires.place in
    let counted : c.len.result ≡ vec_len c.args.shell.now.parts = c.len.ensures in
    let count : length s.parts ≡ c.args.place + (c.len.result - c.args.place - 1) + 1 = omega (arith, many, below, counted, c.args.shell.now.parts.ok.0) in
    let grows = grown_trans c.args.history.now w0 c.zero_base.new.work w2 c.zero_base.ensures.grows c.row_line.ensures.grows in
    piece_at c.args.history.now w0 w2 c.requires.stands grows.grows s c.args.place (c.len.result - c.args.place - 1) c.args.sized count c.requires.sized

pub base_line-requires-clause-taken : goal.base_line-requires-clause-taken
base_line-requires-clause-taken c =
    let w0 = c.args.work.now in
    let w2 = c.row_line.new.work in
    let grows = grown_trans c.args.history.now w0 c.zero_base.new.work w2 c.zero_base.ensures.grows c.row_line.ensures.grows in
    (accessed_grown c.args.history.now w0 w2 c.requires.stands grows.grows (shell_at w0.bank c.args.shell.now) c.args.place c.args.taken c.requires.taken).small

pub base_line-requires-clause-base : goal.base_line-requires-clause-base
base_line-requires-clause-base c =
    let w1 = c.zero_base.new.work in
    (zero_grown c.args.history.now w1 c.row_line.new.work c.zero_base.ensures.grows.grows.stands c.row_line.ensures.grows.grows (text_at c.args.work.now.bank c.index-part.result.now.default) c.in_ok-zero.zero c.in_ok-zero.ensures.base).base

pub base_line-requires-clause-none : goal.base_line-requires-clause-none
base_line-requires-clause-none c =
    let w1 = c.zero_base.new.work in
    (zero_grown c.args.history.now w1 c.row_line.new.work c.zero_base.ensures.grows.grows.stands c.row_line.ensures.grows.grows (text_at c.args.work.now.bank c.index-part.result.now.default) c.in_ok-zero.zero c.in_ok-zero.ensures.base).none

pub base_line-requires-clause-none_is : goal.base_line-requires-clause-none_is
base_line-requires-clause-none_is c =
    let w1 = c.zero_base.new.work in
    (zero_grown c.args.history.now w1 c.row_line.new.work c.zero_base.ensures.grows.grows.stands c.row_line.ensures.grows.grows (text_at c.args.work.now.bank c.index-part.result.now.default) c.in_ok-zero.zero c.in_ok-zero.ensures.base).none_is

pub base_line-requires-clause-zero : goal.base_line-requires-clause-zero
base_line-requires-clause-zero c =
    let w1 = c.zero_base.new.work in
    (zero_grown c.args.history.now w1 c.row_line.new.work c.zero_base.ensures.grows.grows.stands c.row_line.ensures.grows.grows (text_at c.args.work.now.bank c.index-part.result.now.default) c.in_ok-zero.zero c.in_ok-zero.ensures.base).line

pub base_line-requires-clause-size : goal.base_line-requires-clause-size
base_line-requires-clause-size c =
    let w0 = c.args.work.now in
    let w2 = c.row_line.new.work in
    let grows = grown_trans c.args.history.now w0 c.zero_base.new.work w2 c.zero_base.ensures.grows c.row_line.ensures.grows in
    (sized_grown c.args.history.now w0 w2 c.requires.stands grows.grows (shell_at w0.bank c.args.shell.now) c.args.place c.args.sized c.requires.sized).line

pub base_line-requires-clause-wrong : goal.base_line-requires-clause-wrong
base_line-requires-clause-wrong c =
    let h = c.args.history.now in
    let w0 = c.args.work.now in
    let w1 = c.zero_base.new.work in
    let w2 = c.row_line.new.work in
    let place = c.args.place in
    let s = shell_at w0.bank c.args.shell.now in
    let p = c.index-part.result.now in
    let q = part_at w0.bank p in
    let there = part_read w0.bank c.args.shell.now.parts.items place p c.requires.place c.index-part.ensures in
    let literals = allowed place q ∷ equal_term (accessor_of q (made s)) (Function q.default) ∷ [] in
    let row = row_grown h w0 w1 c.requires.stands c.zero_base.ensures.grows.grows c.args.shell.now.constructor 7 (place + 1) literals c.requires.shell.constructor (row_next (events_at w0.bank h) (text_at w0.bank c.args.shell.now.constructor) 7 place literals (c.requires.known.parts place q there).wrong) in
    let grows = grown_trans h w0 w1 w2 c.zero_base.ensures.grows c.row_line.ensures.grows in
    let z = sized_grown h w0 w2 c.requires.stands grows.grows s place c.args.sized c.requires.sized in
    let t = accessed_grown h w0 w2 c.requires.stands grows.grows s place c.args.taken c.requires.taken in
    let zero = zero_grown h w1 w2 c.zero_base.ensures.grows.grows.stands c.row_line.ensures.grows.grows q.default c.in_ok-zero.zero c.in_ok-zero.ensures.base in
    two_line w2 c.in_ok-wrong.wrong (allowed place q) (equal_term (accessor_of q (made s)) (Function q.default)) (term_at w2.bank c.args.sized.piece.allowed) (equal_term (term_at w2.bank c.args.taken) (term_at w2.bank c.in_ok-zero.zero.base)) (z.allowed_is q there) (ap₂ equal_term (t.is q there) zero.base_is) (c.in_ok-wrong.ensures.line literals row.is)

pub returns-in_err-wrong-clause-grows : goal.returns-in_err-wrong-clause-grows
returns-in_err-wrong-clause-grows c = grown_trans c.args.history.now c.args.work.now c.zero_base.new.work c.row_line.new.work c.zero_base.ensures.grows c.row_line.ensures.grows

pub returns-clause-grows : goal.returns-clause-grows
returns-clause-grows c = three_steps c.args.history.now c.args.work.now c.zero_base.new.work c.row_line.new.work c.base_line.new.work c.zero_base.ensures.grows c.row_line.ensures.grows c.base_line.ensures.grows

pub returns-clause-line : goal.returns-clause-line
returns-clause-line c =
    let h = c.args.history.now in
    let w0 = c.args.work.now in
    let w2 = c.row_line.new.work in
    let new = c.base_line.new.work in
    let p = c.args.sized.piece in
    let k = c.requires.sized.piece in
    let grows = grown_trans h w0 c.zero_base.new.work w2 c.zero_base.ensures.grows c.row_line.ensures.grows in
    for_ok c.base_line.result (λ n. LineHasOnly new n (term_at w2.bank p.allowed ∷ is_smaller (term_at w2.bank c.args.taken) (term_at w2.bank p.object) ∷ [])) (λ n. LineHasOnly new n (term_at w0.bank p.allowed ∷ is_smaller (term_at w0.bank c.args.taken) (term_at w0.bank p.object) ∷ [])) (λ n line.
    smaller_moved h w0 w2 c.requires.stands grows.grows new n (λ v. v) p.allowed c.args.taken p.object k.allowed c.requires.taken.small k.object line) c.base_line.ensures.line
