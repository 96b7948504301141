use Rattle.std.proofs.Common.{◌≡◌, ◌≤◌, ◌∷◌, [], ◌∙◌, Some, refl, sym, subst, arith}
use Rattle.std.specs.Prelude.{slice_get}
use Rattle.nq_logic.specs.Terms.{Term}
use Rattle.nq_logic.specs.Words.{equal_term, not_term}
use Rattle.nq_logic.specs.Ground.{symbols_of}
use Rattle.nq_logic.specs.Histories.{Part, Shell}
use Rattle.nq_logic.specs.Shells.{remade, whole}
use Rattle.nq_logic.specs.Sizes.{depth_of}
use Rattle.nq_arith.specs.Nests.{accessor_of, is_smaller}
use Rattle.nq_bank.specs.declared.shell.Part.{Part as PartOfIds}
use Rattle.nq_bank.specs.Content.{IsIdOf, term_at}
use Rattle.nq_bank.specs.Shells.{part_at, shell_at}
use Rattle.nq_proof.proofs.Tests.{some_same}
use Rattle.nq_rule.proofs.Made.{for_ok}
use Rattle.nq_history.specs.Events.{events_at}
use Rattle.nq_kernel.specs.declared.work.Work.{Work}
use Rattle.nq_lines.specs.Lines.{CutsTo, LineHasOnly}
use Rattle.nq_lines.proofs.LineLemmas.{line_grown, only_grown, only_stands}
use Rattle.nq_lines.proofs.TermLemmas.{same_term_grown, term_grown}
use Rattle.nq_replay.proofs.UncountedLemmas.{grown_trans}
use Rattle.nq_part_lines.specs.Known.{row_room}
use Rattle.nq_part_lines.specs.LawLines.{term_room}
use Rattle.nq_part_lines.specs.Wholes.{MovesTo, WholeLine}
use Rattle.nq_part_lines.proofs.PartCallLemmas.{accessor_in}
use Rattle.nq_part_lines.proofs.PartLemmas.{part_named, part_read}
use Rattle.nq_part_lines.proofs.ReadingLemmas.{small_grown}
use Rattle.nq_part_lines.proofs.RemadeLemmas.{remade_smaller, smaller_told, whole_only}
use Rattle.nq_part_lines.proofs.RoomLemmas.{remade_low, variable_low}
use Rattle.nq_part_lines.proofs.wholes.about_whole.Goals as goal

pub call_on-requires-clause-named : goal.call_on-requires-clause-named
call_on-requires-clause-named c =
    (part_named c.args.work.now.bank c.args.shell.now.parts.items c.args.place c.index.result.now c.requires.place c.index.ensures c.requires.shell.parts).accessor

pub call_on-requires-clause-symbol : goal.call_on-requires-clause-symbol
call_on-requires-clause-symbol c =
    accessor_in c.args.work.now.bank (symbols_of (events_at c.args.work.now.bank c.args.history.now)) c.args.shell.now.parts.items c.args.place c.index.result.now c.requires.known.accessors c.requires.place c.index.ensures

pub call_on-requires-clause-low : goal.call_on-requires-clause-low
call_on-requires-clause-low c =
    let s : Shell = shell_at c.args.work.now.bank c.args.shell.now in
    let low = remade_low s in
    let few : depth_of (remade s) ≤ row_room = omega (arith, low) in
    subst (λ t. depth_of t ≤ row_room) (sym c.requires.again_is) few

pub smaller_term-requires-clause-left : goal.smaller_term-requires-clause-left
smaller_term-requires-clause-left c =
    c.in_ok-taken.ensures.small.inside

pub smaller_term-requires-clause-right : goal.smaller_term-requires-clause-right
smaller_term-requires-clause-right c =
    (small_grown c.args.history.now c.args.work.now c.call_on.new.work c.args.again.object c.requires.stands c.call_on.ensures.grows.grows c.requires.again).inside

pub smaller_term-requires-clause-left_room : goal.smaller_term-requires-clause-left_room
smaller_term-requires-clause-left_room c =
    c.in_ok-taken.ensures.small.room

pub smaller_term-requires-clause-right_room : goal.smaller_term-requires-clause-right_room
smaller_term-requires-clause-right_room c =
    (small_grown c.args.history.now c.args.work.now c.call_on.new.work c.args.again.object c.requires.stands c.call_on.ensures.grows.grows c.requires.again).room

pub returns-in_err-smaller-clause-grows : goal.returns-in_err-smaller-clause-grows
returns-in_err-smaller-clause-grows c =
    (grown_trans c.args.history.now c.args.work.now c.call_on.new.work c.smaller_term.new.work c.call_on.ensures.grows c.smaller_term.ensures.grows)

pub returns-in_err-moved-clause-grows : goal.returns-in_err-moved-clause-grows
returns-in_err-moved-clause-grows c =
    (grown_trans c.args.history.now c.args.work.now c.call_on.new.work c.moved_line.new.work c.call_on.ensures.grows (grown_trans c.args.history.now c.call_on.new.work c.smaller_term.new.work c.moved_line.new.work c.smaller_term.ensures.grows c.moved_line.ensures.grows))

pub returns-clause-grows : goal.returns-clause-grows
returns-clause-grows c =
    (grown_trans c.args.history.now c.args.work.now c.call_on.new.work c.cut.new.work c.call_on.ensures.grows (grown_trans c.args.history.now c.call_on.new.work c.smaller_term.new.work c.cut.new.work c.smaller_term.ensures.grows (grown_trans c.args.history.now c.smaller_term.new.work c.moved_line.new.work c.cut.new.work c.moved_line.ensures.grows c.cut.ensures.grows)))

pub moved_line-requires-clause-smaller : goal.moved_line-requires-clause-smaller
moved_line-requires-clause-smaller c =
    let w0 : Work = c.args.work.now in
    let s : Shell = shell_at w0.bank c.args.shell.now in
    let item : PartOfIds = c.index.result.now in
    let part : Part = part_at w0.bank item in
    let there : slice_get s.parts c.args.place ≡ Some part = part_read w0.bank c.args.shell.now.parts.items c.args.place item c.requires.place c.index.ensures in
    let told : IsIdOf c.smaller_term.new.work.bank c.in_ok-smaller.smaller (is_smaller (accessor_of part (remade s)) (remade s)) =
    smaller_told c.args.history.now w0 c.call_on.new.work c.smaller_term.new.work s part c.args.again.object c.in_ok-taken.taken c.in_ok-smaller.smaller c.call_on.ensures.grows.grows c.requires.again.inside c.requires.again_is c.in_ok-taken.ensures.call c.in_ok-smaller.ensures.smaller in
    record { inside = c.in_ok-smaller.ensures.over; room = subst (λ t. depth_of t ≤ term_room) (sym told.denotes) (remade_smaller s part) }

pub moved_line-requires-clause-taken : goal.moved_line-requires-clause-taken
moved_line-requires-clause-taken c =
    let w0 : Work = c.args.work.now in
    let s : Shell = shell_at w0.bank c.args.shell.now in
    let item : PartOfIds = c.index.result.now in
    let part : Part = part_at w0.bank item in
    let there : slice_get s.parts c.args.place ≡ Some part = part_read w0.bank c.args.shell.now.parts.items c.args.place item c.requires.place c.index.ensures in
    let told : IsIdOf c.smaller_term.new.work.bank c.in_ok-smaller.smaller (is_smaller (accessor_of part (remade s)) (remade s)) =
    smaller_told c.args.history.now w0 c.call_on.new.work c.smaller_term.new.work s part c.args.again.object c.in_ok-taken.taken c.in_ok-smaller.smaller c.call_on.ensures.grows.grows c.requires.again.inside c.requires.again_is c.in_ok-taken.ensures.call c.in_ok-smaller.ensures.smaller in
    record { accessor = part.accessor; object = remade s; other = (c.requires.known.parts c.args.place part there).other; is = told.denotes }

pub moved_line-requires-clause-term : goal.moved_line-requires-clause-term
moved_line-requires-clause-term c =
    small_grown c.args.history.now c.args.work.now c.smaller_term.new.work c.args.x c.requires.stands (grown_trans c.args.history.now c.args.work.now c.call_on.new.work c.smaller_term.new.work c.call_on.ensures.grows c.smaller_term.ensures.grows).grows c.requires.term

pub moved_line-requires-clause-low : goal.moved_line-requires-clause-low
moved_line-requires-clause-low c =
    let is : term_at c.smaller_term.new.work.bank c.args.x ≡ whole = same_term_grown c.args.history.now c.args.work.now c.smaller_term.new.work c.args.x (grown_trans c.args.history.now c.args.work.now c.call_on.new.work c.smaller_term.new.work c.call_on.ensures.grows c.smaller_term.ensures.grows).grows c.requires.term.inside ∙ c.requires.whole in
    let low : depth_of whole ≤ 1 = variable_low _ in
    let few : depth_of whole ≤ row_room = omega (arith, low) in
    subst (λ t. depth_of t ≤ row_room) (sym is) few

pub cut-requires-clause-first : goal.cut-requires-clause-first
cut-requires-clause-first c =
    let w0 : Work = c.args.work.now in
    let s : Shell = shell_at w0.bank c.args.shell.now in
    let item : PartOfIds = c.index.result.now in
    let part : Part = part_at w0.bank item in
    let there : slice_get s.parts c.args.place ≡ Some part = part_read w0.bank c.args.shell.now.parts.items c.args.place item c.requires.place c.index.ensures in
    line_grown c.args.history.now w0 c.moved_line.new.work c.args.again.line c.requires.stands (grown_trans c.args.history.now c.args.work.now c.call_on.new.work c.moved_line.new.work c.call_on.ensures.grows (grown_trans c.args.history.now c.call_on.new.work c.smaller_term.new.work c.moved_line.new.work c.smaller_term.ensures.grows c.moved_line.ensures.grows)).grows (only_stands w0 c.args.again.line _ (c.requires.line part there))

pub cut-requires-clause-second : goal.cut-requires-clause-second
cut-requires-clause-second c =
    let w0 : Work = c.args.work.now in
    let s : Shell = shell_at w0.bank c.args.shell.now in
    let item : PartOfIds = c.index.result.now in
    let part : Part = part_at w0.bank item in
    let there : slice_get s.parts c.args.place ≡ Some part = part_read w0.bank c.args.shell.now.parts.items c.args.place item c.requires.place c.index.ensures in
    let told : IsIdOf c.smaller_term.new.work.bank c.in_ok-smaller.smaller (is_smaller (accessor_of part (remade s)) (remade s)) =
    smaller_told c.args.history.now w0 c.call_on.new.work c.smaller_term.new.work s part c.args.again.object c.in_ok-taken.taken c.in_ok-smaller.smaller c.call_on.ensures.grows.grows c.requires.again.inside c.requires.again_is c.in_ok-taken.ensures.call c.in_ok-smaller.ensures.smaller in
    let w2 : Work = c.smaller_term.new.work in
    let w3 : Work = c.moved_line.new.work in
    let x : term_at w2.bank c.args.x ≡ whole = same_term_grown c.args.history.now w0 w2 c.args.x (grown_trans c.args.history.now c.args.work.now c.call_on.new.work c.smaller_term.new.work c.call_on.ensures.grows c.smaller_term.ensures.grows).grows c.requires.term.inside ∙ c.requires.whole in
    let moves : MovesTo w3 (is_smaller (accessor_of part (remade s)) (remade s)) whole c.in_ok-moved.moved =
    subst (λ (v : Term). MovesTo w3 v whole c.in_ok-moved.moved) told.denotes (subst (λ (v : Term). MovesTo w3 (term_at w2.bank c.in_ok-smaller.smaller) v c.in_ok-moved.moved) x c.in_ok-moved.ensures.line) in
    only_stands w3 c.in_ok-moved.moved _ (moves part.accessor (remade s) refl)

pub cut-requires-clause-term : goal.cut-requires-clause-term
cut-requires-clause-term c =
    term_grown c.args.history.now c.smaller_term.new.work c.moved_line.new.work c.in_ok-smaller.smaller (grown_trans c.args.history.now c.args.work.now c.call_on.new.work c.smaller_term.new.work c.call_on.ensures.grows c.smaller_term.ensures.grows).grows.stands c.moved_line.ensures.grows.grows c.in_ok-smaller.ensures.over

pub returns-clause-line : goal.returns-clause-line
returns-clause-line c =
    let w0 : Work = c.args.work.now in
    let s : Shell = shell_at w0.bank c.args.shell.now in
    let item : PartOfIds = c.index.result.now in
    let part : Part = part_at w0.bank item in
    let there : slice_get s.parts c.args.place ≡ Some part = part_read w0.bank c.args.shell.now.parts.items c.args.place item c.requires.place c.index.ensures in
    let told : IsIdOf c.smaller_term.new.work.bank c.in_ok-smaller.smaller (is_smaller (accessor_of part (remade s)) (remade s)) =
    smaller_told c.args.history.now w0 c.call_on.new.work c.smaller_term.new.work s part c.args.again.object c.in_ok-taken.taken c.in_ok-smaller.smaller c.call_on.ensures.grows.grows c.requires.again.inside c.requires.again_is c.in_ok-taken.ensures.call c.in_ok-smaller.ensures.smaller in
    let w2 : Work = c.smaller_term.new.work in
    let w3 : Work = c.moved_line.new.work in
    let x : term_at w2.bank c.args.x ≡ whole = same_term_grown c.args.history.now w0 w2 c.args.x (grown_trans c.args.history.now c.args.work.now c.call_on.new.work c.smaller_term.new.work c.call_on.ensures.grows c.smaller_term.ensures.grows).grows c.requires.term.inside ∙ c.requires.whole in
    let moves : MovesTo w3 (is_smaller (accessor_of part (remade s)) (remade s)) whole c.in_ok-moved.moved =
    subst (λ (v : Term). MovesTo w3 v whole c.in_ok-moved.moved) told.denotes (subst (λ (v : Term). MovesTo w3 (term_at w2.bank c.in_ok-smaller.smaller) v c.in_ok-moved.moved) x c.in_ok-moved.ensures.line) in
    let w4 : Work = c.cut.new.work in
    let smaller : term_at w3.bank c.in_ok-smaller.smaller ≡ is_smaller (accessor_of part (remade s)) (remade s) = same_term_grown c.args.history.now w2 w3 c.in_ok-smaller.smaller c.moved_line.ensures.grows.grows c.in_ok-smaller.ensures.over ∙ told.denotes in
    for_ok c.cut.result (CutsTo w3 w4 (term_at w3.bank c.in_ok-smaller.smaller) c.args.again.line c.in_ok-moved.moved) (WholeLine w4 s c.args.place) (λ n k q e.
    let one : part ≡ q = some_same part q (sym there ∙ e) in
    let held : LineHasOnly w3 c.args.again.line (is_smaller (accessor_of part (remade s)) (remade s) ∷ []) = only_grown c.args.history.now w0 w3 c.args.again.line _ c.requires.stands (grown_trans c.args.history.now c.args.work.now c.call_on.new.work c.moved_line.new.work c.call_on.ensures.grows (grown_trans c.args.history.now c.call_on.new.work c.smaller_term.new.work c.moved_line.new.work c.smaller_term.ensures.grows c.moved_line.ensures.grows)).grows (c.requires.line part there) in
    subst (λ (p : Part). LineHasOnly w4 n (is_smaller (accessor_of p whole) whole ∷ not_term (equal_term (remade s) whole) ∷ [])) one
    (whole_only w3 w4 s part c.args.again.line c.in_ok-moved.moved n held moves (subst (λ (v : Term). CutsTo w3 w4 v c.args.again.line c.in_ok-moved.moved n) smaller k))) c.cut.ensures.line
