use Rattle.std.proofs.Common.{◌≡◌, ◌≤◌, ◌+◌, ◌-◌, ◌∷◌, ◌∙◌, [], ap, length, arith, sym, subst, vec_len}
use Rattle.std.specs.Prelude.{slice_get}
use Rattle.nq_logic.specs.Terms.{Function}
use Rattle.nq_logic.specs.Histories.{Shell}
use Rattle.nq_logic.specs.Shells.{made}
use Rattle.nq_logic.specs.Sizes.{depth_of}
use Rattle.nq_bank.specs.Content.{term_at}
use Rattle.nq_bank.specs.Shells.{part_at, shell_at}
use Rattle.nq_rule.proofs.Made.{for_ok}
use Rattle.nq_arith.specs.Nests.{is_smaller}
use Rattle.nq_lines.specs.Lines.{LineHasOnly}
use Rattle.nq_replay.proofs.UncountedLemmas.{grown_refl, grown_trans}
use Rattle.nq_part_lines.specs.Defaults.{truth_term}
use Rattle.nq_part_lines.specs.Known.{row_room}
use Rattle.nq_part_lines.specs.Objects.{IsAccessed, IsSized}
use Rattle.nq_part_lines.specs.Wholes.{part_name}
use Rattle.nq_part_lines.proofs.DefaultedLemmas.{defaulted_same}
use Rattle.nq_part_lines.proofs.KnownGrowth.{accessed_grown, known_grown, piece_at, shell_same, shell_stands, sized_grown, smaller_moved}
use Rattle.nq_part_lines.proofs.PartLemmas.{object_low, part_named, part_read, parts_many}
use Rattle.nq_part_lines.proofs.defaulted.truth_default_line.Goals as goal

pub smaller_default-requires-clause-part : goal.smaller_default-requires-clause-part
smaller_default-requires-clause-part c = part_named c.args.work.now.bank c.args.shell.now.parts.items c.args.place c.index-part.result.now c.requires.place c.index-part.ensures c.requires.shell.parts

pub smaller_default-requires-clause-restricted : goal.smaller_default-requires-clause-restricted
smaller_default-requires-clause-restricted c =
    let w = c.args.work.now in
    let p = c.index-part.result.now in
    c.requires.restricted (part_at w.bank p) (part_read w.bank c.args.shell.now.parts.items c.args.place p c.requires.place c.index-part.ensures)

pub smaller_default-requires-clause-default : goal.smaller_default-requires-clause-default
smaller_default-requires-clause-default c =
    let w = c.args.work.now in
    let p = c.index-part.result.now in
    c.requires.default (part_at w.bank p) (part_read w.bank c.args.shell.now.parts.items c.args.place p c.requires.place c.index-part.ensures)

pub smaller_default-requires-clause-few : goal.smaller_default-requires-clause-few
smaller_default-requires-clause-few c =
    let w = c.args.work.now in
    let p = c.index-part.result.now in
    (c.requires.known.parts c.args.place (part_at w.bank p) (part_read w.bank c.args.shell.now.parts.items c.args.place p c.requires.place c.index-part.ensures)).few

pub smaller_default-requires-clause-piece : goal.smaller_default-requires-clause-piece
smaller_default-requires-clause-piece c =
    let w = c.args.work.now in
    let items = c.args.shell.now.parts.items in
    let s = shell_at w.bank c.args.shell.now in
    let many : length s.parts ≡ length items = parts_many w.bank items in
    let below = c.requires.place in
    let counted : c.len.result ≡ vec_len c.args.shell.now.parts = c.len.ensures in
    let count : length s.parts ≡ c.args.place + (c.len.result - c.args.place - 1) + 1 = omega (arith, many, below, counted, c.args.shell.now.parts.ok.0) in
    piece_at c.args.history.now w w c.requires.stands (grown_refl c.args.history.now w c.requires.stands).grows s c.args.place (c.len.result - c.args.place - 1) c.args.sized count c.requires.sized

pub smaller_default-requires-clause-size : goal.smaller_default-requires-clause-size
smaller_default-requires-clause-size c = c.requires.sized.line

pub smaller_default-requires-clause-object_low : goal.smaller_default-requires-clause-object_low
smaller_default-requires-clause-object_low c =
    subst (λ t. depth_of t ≤ row_room) (sym c.requires.sized.object_is) (object_low (shell_at c.args.work.now.bank c.args.shell.now) c.requires.known.size.low.0)

pub smaller_default-requires-clause-allowed_low : goal.smaller_default-requires-clause-allowed_low
smaller_default-requires-clause-allowed_low c =
    let w = c.args.work.now in
    let p = c.index-part.result.now in
    let there = part_read w.bank c.args.shell.now.parts.items c.args.place p c.requires.place c.index-part.ensures in
    subst (λ t. depth_of t ≤ row_room) (sym (c.requires.sized.allowed_is (part_at w.bank p) there)) (c.requires.known.parts c.args.place (part_at w.bank p) there).wrong.low.0

pub smaller_default-requires-clause-allowed_is : goal.smaller_default-requires-clause-allowed_is
smaller_default-requires-clause-allowed_is c =
    let w = c.args.work.now in
    let p = c.index-part.result.now in
    c.requires.sized.allowed_is (part_at w.bank p) (part_read w.bank c.args.shell.now.parts.items c.args.place p c.requires.place c.index-part.ensures)

pub smaller_default-requires-clause-variable_is : goal.smaller_default-requires-clause-variable_is
smaller_default-requires-clause-variable_is c = c.requires.sized.variable_is

pub line_of_default-requires-clause-shell : goal.line_of_default-requires-clause-shell
line_of_default-requires-clause-shell c = shell_stands c.args.history.now c.args.work.now c.smaller_default.new.work c.requires.stands c.smaller_default.ensures.grows.grows c.args.shell.now c.requires.shell

pub line_of_default-requires-clause-known : goal.line_of_default-requires-clause-known
line_of_default-requires-clause-known c = known_grown c.args.history.now c.args.work.now c.smaller_default.new.work c.requires.stands c.smaller_default.ensures.grows.grows c.args.shell.now c.requires.shell c.requires.known

pub line_of_default-requires-clause-sized : goal.line_of_default-requires-clause-sized
line_of_default-requires-clause-sized c =
    let h = c.args.history.now in
    let w0 = c.args.work.now in
    let w1 = c.smaller_default.new.work in
    let grows = c.smaller_default.ensures.grows.grows in
    let same = shell_same h w0 w1 c.requires.stands grows c.args.shell.now c.requires.shell in
    subst (λ s. IsSized h w1 s c.args.place c.args.sized) (sym same) (sized_grown h w0 w1 c.requires.stands grows (shell_at w0.bank c.args.shell.now) c.args.place c.args.sized c.requires.sized)

pub line_of_default-requires-clause-taken : goal.line_of_default-requires-clause-taken
line_of_default-requires-clause-taken c =
    let h = c.args.history.now in
    let w0 = c.args.work.now in
    let w1 = c.smaller_default.new.work in
    let grows = c.smaller_default.ensures.grows.grows in
    let same = shell_same h w0 w1 c.requires.stands grows c.args.shell.now c.requires.shell in
    subst (λ s. IsAccessed h w1 s c.args.place c.args.taken) (sym same) (accessed_grown h w0 w1 c.requires.stands grows (shell_at w0.bank c.args.shell.now) c.args.place c.args.taken c.requires.taken)

pub line_of_default-requires-clause-small : goal.line_of_default-requires-clause-small
line_of_default-requires-clause-small c q e =
    let h = c.args.history.now in
    let w0 = c.args.work.now in
    let w1 = c.smaller_default.new.work in
    let grows = c.smaller_default.ensures.grows.grows in
    let same = shell_same h w0 w1 c.requires.stands grows c.args.shell.now c.requires.shell in
    let there = ap (λ (s : Shell). slice_get s.parts c.args.place) (sym same) ∙ e in
    let name : truth_term c.args.yes ≡ Function q.default = ap Function (sym (c.requires.default q there).is) in
    let object : term_at w0.bank c.args.sized.piece.object ≡ made (shell_at w1.bank c.args.shell.now) = c.requires.sized.object_is ∙ ap made (sym same) in
    defaulted_same h w1 (part_name c.args.place) (truth_term c.args.yes) (Function q.default) (term_at w0.bank c.args.sized.piece.object) (made (shell_at w1.bank c.args.shell.now)) c.in_ok-small.small name object c.in_ok-small.ensures.smaller

pub returns-clause-grows : goal.returns-clause-grows
returns-clause-grows c = grown_trans c.args.history.now c.args.work.now c.smaller_default.new.work c.line_of_default.new.work c.smaller_default.ensures.grows c.line_of_default.ensures.grows

pub returns-clause-line : goal.returns-clause-line
returns-clause-line c =
    let h = c.args.history.now in
    let w0 = c.args.work.now in
    let w1 = c.smaller_default.new.work in
    let new = c.line_of_default.new.work in
    let p = c.args.sized.piece in
    let k = c.requires.sized.piece in
    for_ok c.line_of_default.result (λ n. LineHasOnly new n (term_at w1.bank p.allowed ∷ is_smaller (term_at w1.bank c.args.taken) (term_at w1.bank p.object) ∷ [])) (λ n. LineHasOnly new n (term_at w0.bank p.allowed ∷ is_smaller (term_at w0.bank c.args.taken) (term_at w0.bank p.object) ∷ [])) (λ n line.
    smaller_moved h w0 w1 c.requires.stands c.smaller_default.ensures.grows.grows new n (λ v. v) p.allowed c.args.taken p.object k.allowed c.requires.taken.small k.object line) c.line_of_default.ensures.line
