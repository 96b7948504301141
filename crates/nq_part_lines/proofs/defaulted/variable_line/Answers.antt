use Rattle.std.proofs.Common.{◌∷◌, [], sym, subst}
use Rattle.nq_logic.specs.Words.{equal_term, not_term}
use Rattle.nq_bank.specs.Content.{term_at}
use Rattle.nq_rule.proofs.Made.{for_ok}
use Rattle.nq_kernel.proofs.HeldLines.{holds_held, holds_stands}
use Rattle.nq_arith.specs.Nests.{is_smaller}
use Rattle.nq_lines.specs.Lines.{LineHasOnly}
use Rattle.nq_lines.proofs.LineLemmas.{only_grown}
use Rattle.nq_lines.proofs.TermLemmas.{same_term_grown, term_grown}
use Rattle.nq_replay.proofs.UncountedLemmas.{grown_trans}
use Rattle.nq_shell_parts.specs.LawClauses.{same_is_equal_clause}
use Rattle.nq_part_lines.specs.LawLines.{IsLaw}
use Rattle.nq_part_lines.proofs.DefaultedLemmas.{same_is_law, same_made}
use Rattle.nq_part_lines.proofs.GrownLemmas.{room_grown}
use Rattle.nq_part_lines.proofs.KnownGrowth.{smaller_moved, three_steps}
use Rattle.nq_part_lines.proofs.ReadingLemmas.{small_grown}
use Rattle.nq_part_lines.proofs.TakenLemmas.{piece_grown}
use Rattle.nq_part_lines.proofs.defaulted.variable_line.Goals as goal

pub at_term-requires-clause-line : goal.at_term-requires-clause-line
at_term-requires-clause-line c = holds_stands c.same_is_equal.new.work c.in_ok-law.law same_is_equal_clause c.in_ok-law.ensures.line

pub at_term-requires-clause-law : goal.at_term-requires-clause-law
at_term-requires-clause-law c = subst IsLaw (sym (holds_held c.same_is_equal.new.work c.in_ok-law.law same_is_equal_clause c.in_ok-law.ensures.line)) same_is_law

pub at_term-requires-clause-term : goal.at_term-requires-clause-term
at_term-requires-clause-term c = term_grown c.args.history.now c.args.work.now c.same_is_equal.new.work c.args.piece.variable c.requires.stands c.same_is_equal.ensures.grows.grows c.requires.piece.variable.inside

pub at_term-requires-clause-room : goal.at_term-requires-clause-room
at_term-requires-clause-room c = room_grown c.args.history.now c.args.work.now c.same_is_equal.new.work c.same_is_equal.ensures.grows.grows c.args.piece.variable c.requires.piece.variable.inside c.requires.piece.variable.room

pub allowed_line-requires-clause-piece : goal.allowed_line-requires-clause-piece
allowed_line-requires-clause-piece c =
    let grows = grown_trans c.args.history.now c.args.work.now c.same_is_equal.new.work c.at_term.new.work c.same_is_equal.ensures.grows c.at_term.ensures.grows in
    piece_grown c.args.history.now c.args.work.now c.at_term.new.work c.requires.stands grows.grows c.args.place c.args.more c.args.piece c.requires.piece

pub allowed_line-requires-clause-taken : goal.allowed_line-requires-clause-taken
allowed_line-requires-clause-taken c =
    let grows = grown_trans c.args.history.now c.args.work.now c.same_is_equal.new.work c.at_term.new.work c.same_is_equal.ensures.grows c.at_term.ensures.grows in
    small_grown c.args.history.now c.args.work.now c.at_term.new.work c.args.piece.variable c.requires.stands grows.grows c.requires.piece.variable

pub allowed_line-requires-clause-size : goal.allowed_line-requires-clause-size
allowed_line-requires-clause-size c =
    let h = c.args.history.now in
    let old = c.args.work.now in
    let two = c.at_term.new.work in
    let grows = grown_trans h old c.same_is_equal.new.work two c.same_is_equal.ensures.grows c.at_term.ensures.grows in
    subst (λ t. LineHasOnly two c.args.size (t ∷ [])) (sym (same_term_grown h old two c.args.piece.equation grows.grows c.requires.piece.equation.inside)) (only_grown h old two c.args.size (term_at old.bank c.args.piece.equation ∷ []) c.requires.stands grows.grows c.requires.size)

pub allowed_line-requires-clause-part : goal.allowed_line-requires-clause-part
allowed_line-requires-clause-part c =
    let h = c.args.history.now in
    let one = c.same_is_equal.new.work in
    let two = c.at_term.new.work in
    let v = c.args.piece.variable in
    let here = term_grown h c.args.work.now one v c.requires.stands c.same_is_equal.ensures.grows.grows c.requires.piece.variable.inside in
    subst (λ t. LineHasOnly two c.in_ok-same.same (not_term (term_at two.bank c.args.piece.allowed) ∷ equal_term t t ∷ [])) (sym (same_term_grown h one two v c.at_term.ensures.grows.grows here))
    (same_made one two (term_at one.bank v) (term_at two.bank c.args.piece.allowed) c.in_ok-law.law c.in_ok-same.same c.in_ok-law.ensures.line c.in_ok-same.ensures.line)

pub returns-in_err-same-clause-grows : goal.returns-in_err-same-clause-grows
returns-in_err-same-clause-grows c = grown_trans c.args.history.now c.args.work.now c.same_is_equal.new.work c.at_term.new.work c.same_is_equal.ensures.grows c.at_term.ensures.grows

pub returns-clause-grows : goal.returns-clause-grows
returns-clause-grows c = three_steps c.args.history.now c.args.work.now c.same_is_equal.new.work c.at_term.new.work c.allowed_line.new.work c.same_is_equal.ensures.grows c.at_term.ensures.grows c.allowed_line.ensures.grows

pub returns-clause-line : goal.returns-clause-line
returns-clause-line c =
    let h = c.args.history.now in
    let w0 = c.args.work.now in
    let w2 = c.at_term.new.work in
    let new = c.allowed_line.new.work in
    let p = c.args.piece in
    let k = c.requires.piece in
    let grows = grown_trans h w0 c.same_is_equal.new.work w2 c.same_is_equal.ensures.grows c.at_term.ensures.grows in
    for_ok c.allowed_line.result (λ n. LineHasOnly new n (not_term (term_at w2.bank p.allowed) ∷ is_smaller (term_at w2.bank p.variable) (term_at w2.bank p.object) ∷ [])) (λ n. LineHasOnly new n (not_term (term_at w0.bank p.allowed) ∷ is_smaller (term_at w0.bank p.variable) (term_at w0.bank p.object) ∷ [])) (λ n line.
    smaller_moved h w0 w2 c.requires.stands grows.grows new n not_term p.allowed p.variable p.object k.allowed k.variable k.object line) c.allowed_line.ensures.line
