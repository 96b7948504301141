use Rattle.std.proofs.Common.{◌≡◌, ◌+◌, ◌-◌, ◌∷◌, [], length, refl, ap, ap₂, arith, vec_len}
use Rattle.nq_logic.specs.Words.{equal_term, not_term}
use Rattle.nq_logic.specs.Shells.{made, part_variable}
use Rattle.nq_bank.specs.Content.{term_at, text_at}
use Rattle.nq_bank.specs.Shells.{shell_at}
use Rattle.nq_history.specs.Events.{events_at}
use Rattle.nq_rule.proofs.Made.{for_ok}
use Rattle.nq_arith.specs.Nests.{accessor_of, is_smaller}
use Rattle.nq_lines.specs.Lines.{LineHasOnly}
use Rattle.nq_replay.proofs.UncountedLemmas.{grown_trans}
use Rattle.nq_part_lines.specs.Known.{allowed}
use Rattle.nq_part_lines.proofs.KnownGrowth.{accessed_grown, piece_at, sized_grown, smaller_moved}
use Rattle.nq_part_lines.proofs.PartLemmas.{known_part, parts_many, row_next, two_line}
use Rattle.nq_part_lines.proofs.objects.part_line.Goals as goal

pub row_line-requires-clause-row : goal.row_line-requires-clause-row
row_line-requires-clause-row c =
    let old = c.args.work.now in
    let items = c.args.shell.now.parts.items in
    let s = shell_at old.bank c.args.shell.now in
    let k = known_part old.bank items c.args.place s refl c.requires.place c.requires.known in
    let literals = not_term (allowed c.args.place k.0) ∷ equal_term (accessor_of k.0 (made s)) (part_variable c.args.place) ∷ [] in
    record { clause = literals; there = row_next (events_at old.bank c.args.history.now) (text_at old.bank c.args.shell.now.constructor) 6 c.args.place literals k.2.taken }

pub allowed_line-requires-clause-piece : goal.allowed_line-requires-clause-piece
allowed_line-requires-clause-piece c =
    let old = c.args.work.now in
    let items = c.args.shell.now.parts.items in
    let s = shell_at old.bank c.args.shell.now in
    let many : length s.parts ≡ length items = parts_many old.bank items in
    let below = c.requires.place in
    let counted : c.len.result ≡ vec_len c.args.shell.now.parts = c.len.ensures in
    let count : length s.parts ≡ c.args.place + (c.len.result - c.args.place - 1) + 1 = omega (arith, many, below, counted, c.args.shell.now.parts.ok.0) in
    piece_at c.args.history.now old c.row_line.new.work c.requires.stands c.row_line.ensures.grows.grows s c.args.place (c.len.result - c.args.place - 1) c.args.sized count c.requires.sized

pub allowed_line-requires-clause-taken : goal.allowed_line-requires-clause-taken
allowed_line-requires-clause-taken c =
    let old = c.args.work.now in
    (accessed_grown c.args.history.now old c.row_line.new.work c.requires.stands c.row_line.ensures.grows.grows (shell_at old.bank c.args.shell.now) c.args.place c.args.taken c.requires.taken).small

pub allowed_line-requires-clause-size : goal.allowed_line-requires-clause-size
allowed_line-requires-clause-size c =
    let old = c.args.work.now in
    (sized_grown c.args.history.now old c.row_line.new.work c.requires.stands c.row_line.ensures.grows.grows (shell_at old.bank c.args.shell.now) c.args.place c.args.sized c.requires.sized).line

pub allowed_line-requires-clause-part : goal.allowed_line-requires-clause-part
allowed_line-requires-clause-part c =
    let h = c.args.history.now in
    let old = c.args.work.now in
    let mid = c.row_line.new.work in
    let place = c.args.place in
    let items = c.args.shell.now.parts.items in
    let s = shell_at old.bank c.args.shell.now in
    let k = known_part old.bank items place s refl c.requires.place c.requires.known in
    let literals = not_term (allowed place k.0) ∷ equal_term (accessor_of k.0 (made s)) (part_variable place) ∷ [] in
    let row = row_next (events_at old.bank h) (text_at old.bank c.args.shell.now.constructor) 6 place literals k.2.taken in
    let z = sized_grown h old mid c.requires.stands c.row_line.ensures.grows.grows s place c.args.sized c.requires.sized in
    let t = accessed_grown h old mid c.requires.stands c.row_line.ensures.grows.grows s place c.args.taken c.requires.taken in
    two_line mid c.in_ok-part.part (not_term (allowed place k.0)) (equal_term (accessor_of k.0 (made s)) (part_variable place)) (not_term (term_at mid.bank c.args.sized.piece.allowed)) (equal_term (term_at mid.bank c.args.taken) (term_at mid.bank c.args.sized.piece.variable))
    (ap not_term (z.allowed_is k.0 k.1))
    (ap₂ equal_term (t.is k.0 k.1) z.variable_is)
    (c.in_ok-part.ensures.line literals row.is)

pub returns-clause-line : goal.returns-clause-line
returns-clause-line c =
    let h = c.args.history.now in
    let old = c.args.work.now in
    let mid = c.row_line.new.work in
    let new = c.allowed_line.new.work in
    let p = c.args.sized.piece in
    let k = c.requires.sized.piece in
    for_ok c.allowed_line.result (λ n. LineHasOnly new n (not_term (term_at mid.bank p.allowed) ∷ is_smaller (term_at mid.bank c.args.taken) (term_at mid.bank p.object) ∷ [])) (λ n. LineHasOnly new n (not_term (term_at old.bank p.allowed) ∷ is_smaller (term_at old.bank c.args.taken) (term_at old.bank p.object) ∷ [])) (λ n line.
    smaller_moved h old mid c.requires.stands c.row_line.ensures.grows.grows new n not_term p.allowed c.args.taken p.object k.allowed c.requires.taken.small k.object line) c.allowed_line.ensures.line

pub returns-clause-grows : goal.returns-clause-grows
returns-clause-grows c = grown_trans c.args.history.now c.args.work.now c.row_line.new.work c.allowed_line.new.work c.row_line.ensures.grows c.allowed_line.ensures.grows
