use Rattle.std.proofs.Common.{◌≡◌, ◌+◌, ◌∷◌, [], ◌∙◌, length, suc, inl, refl, sym, ap, subst, arith, vec_len}
use Rattle.std.specs.Prelude.{◌-◌}
use Rattle.nq_bank.specs.Content.{term_at, text_at}
use Rattle.nq_bank.specs.Shells.{shell_at}
use Rattle.nq_kernel.specs.Growing.{LineHolds}
use Rattle.nq_part_lines.specs.Known.{size_is}
use Rattle.nq_part_lines.specs.Pieces.{IsSizeEquation}
use Rattle.nq_part_lines.proofs.ObjectLemmas.{row_small, size_equation, size_told, some_part}
use Rattle.nq_part_lines.proofs.PartLemmas.{parts_many}
use Rattle.nq_part_lines.proofs.objects.size_line.Goals as goal

pub row_line-requires-clause-row : goal.row_line-requires-clause-row
row_line-requires-clause-row c = record { clause = size_is (shell_at c.args.work.now.bank c.args.shell.now) ∷ []; there = c.requires.known.size }

pub only_literal-equation-requires-clause-line : goal.only_literal-equation-requires-clause-line
only_literal-equation-requires-clause-line c =
    let s = shell_at c.args.work.now.bank c.args.shell.now in
    record { literal = size_is s; holds = c.in_ok-line.ensures.line (size_is s ∷ []) c.requires.known.size.is }

pub read_piece-piece-requires-clause-equation : goal.read_piece-piece-requires-clause-equation
read_piece-piece-requires-clause-equation c =
    let old = c.args.work.now in
    let mid = c.row_line.new.work in
    let s = shell_at old.bank c.args.shell.now in
    let read : term_at mid.bank c.only_literal-equation.result ≡ size_is s = c.only_literal-equation.ensures.literal (size_is s) (c.in_ok-line.ensures.line (size_is s ∷ []) c.requires.known.size.is) in
    row_small c.args.history.now old mid c.requires.stands c.row_line.ensures.grows.grows c.requires.rows (text_at old.bank c.args.shell.now.constructor) 14 0 (size_is s ∷ []) c.requires.known.size (size_is s) (inl refl) c.only_literal-equation.result c.only_literal-equation.ensures.stands read

pub read_piece-piece-requires-clause-size : goal.read_piece-piece-requires-clause-size
read_piece-piece-requires-clause-size c =
    let old = c.args.work.now in
    let mid = c.row_line.new.work in
    let s = shell_at old.bank c.args.shell.now in
    let items = c.args.shell.now.parts.items in
    let read : term_at mid.bank c.only_literal-equation.result ≡ size_is s = c.only_literal-equation.ensures.literal (size_is s) (c.in_ok-line.ensures.line (size_is s ∷ []) c.requires.known.size.is) in
    let many : length s.parts ≡ length items = parts_many old.bank items in
    let below = c.requires.place in
    let counted : c.len.result ≡ vec_len c.args.shell.now.parts = c.len.ensures in
    let part = some_part s.parts c.args.place (omega (arith, many, below, counted, c.args.shell.now.parts.ok.0)) in
    let count : length s.parts ≡ c.args.place + suc (c.len.result - c.args.place - 1) = omega (arith, many, below, counted, c.args.shell.now.parts.ok.0) in
    subst (IsSizeEquation c.args.place (c.len.result - c.args.place - 1)) (sym read) (size_equation c.summands_found.ensures s c.args.place (c.len.result - c.args.place - 1) part.0 count part.1)

pub returns-clause-sized : goal.returns-clause-sized
returns-clause-sized c =
    let old = c.args.work.now in
    let new = c.row_line.new.work in
    let s = shell_at old.bank c.args.shell.now in
    let items = c.args.shell.now.parts.items in
    let line : LineHolds new c.in_ok-line.line (size_is s ∷ []) = c.in_ok-line.ensures.line (size_is s ∷ []) c.requires.known.size.is in
    let read : term_at new.bank c.only_literal-equation.result ≡ size_is s = c.only_literal-equation.ensures.literal (size_is s) line in
    let many : length s.parts ≡ length items = parts_many old.bank items in
    let below = c.requires.place in
    let counted : c.len.result ≡ vec_len c.args.shell.now.parts = c.len.ensures in
    let count : length s.parts ≡ c.args.place + (c.len.result - c.args.place - 1) + 1 = omega (arith, many, below, counted, c.args.shell.now.parts.ok.0) in
    size_told c.summands_found.ensures c.args.history.now new s c.args.place (c.len.result - c.args.place - 1) c.in_ok-line.line c.read_piece-piece.result count c.read_piece-piece.ensures.piece (ap (term_at new.bank) c.read_piece-piece.ensures.equation ∙ read) line
