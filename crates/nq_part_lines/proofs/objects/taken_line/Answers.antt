use Rattle.std.proofs.Common.{◌≡◌, sym, subst}
use Rattle.nq_logic.specs.Shells.{made}
use Rattle.nq_bank.specs.Content.{term_at}
use Rattle.nq_bank.specs.Shells.{shell_at}
use Rattle.nq_lines.proofs.LineLemmas.{line_grown, only_stands}
use Rattle.nq_replay.proofs.UncountedLemmas.{grown_trans}
use Rattle.nq_part_lines.specs.Objects.{IsAccessed, IsSized}
use Rattle.nq_part_lines.proofs.KnownGrowth.{accessed_grown, five_steps, four_steps, known_grown, rows_grown, shell_same, shell_stands, sized_grown, three_steps}
use Rattle.nq_part_lines.proofs.PartLemmas.{taken_told}
use Rattle.nq_part_lines.proofs.objects.taken_line.Goals as goal

-- after the line of the size
pub accessor_call-requires-clause-shell : goal.accessor_call-requires-clause-shell
accessor_call-requires-clause-shell c = shell_stands c.args.history.now c.args.work.now c.size_line.new.work c.requires.stands c.size_line.ensures.grows.grows c.args.shell.now c.requires.shell

pub accessor_call-requires-clause-known : goal.accessor_call-requires-clause-known
accessor_call-requires-clause-known c = known_grown c.args.history.now c.args.work.now c.size_line.new.work c.requires.stands c.size_line.ensures.grows.grows c.args.shell.now c.requires.shell c.requires.known

pub accessor_call-requires-clause-object : goal.accessor_call-requires-clause-object
accessor_call-requires-clause-object c = c.in_ok-sized.ensures.sized.piece.object

pub accessor_call-requires-clause-object_is : goal.accessor_call-requires-clause-object_is
accessor_call-requires-clause-object_is c =
    let w0 = c.args.work.now in
    let w1 = c.size_line.new.work in
    subst (λ s. term_at w1.bank c.in_ok-sized.sized.piece.object ≡ made s) (sym (shell_same c.args.history.now w0 w1 c.requires.stands c.size_line.ensures.grows.grows c.args.shell.now c.requires.shell)) c.in_ok-sized.ensures.sized.object_is

-- after the call
pub part_line-requires-clause-shell : goal.part_line-requires-clause-shell
part_line-requires-clause-shell c =
    let grows = grown_trans c.args.history.now c.args.work.now c.size_line.new.work c.accessor_call.new.work c.size_line.ensures.grows c.accessor_call.ensures.grows in
    shell_stands c.args.history.now c.args.work.now c.accessor_call.new.work c.requires.stands grows.grows c.args.shell.now c.requires.shell

pub part_line-requires-clause-known : goal.part_line-requires-clause-known
part_line-requires-clause-known c =
    let grows = grown_trans c.args.history.now c.args.work.now c.size_line.new.work c.accessor_call.new.work c.size_line.ensures.grows c.accessor_call.ensures.grows in
    known_grown c.args.history.now c.args.work.now c.accessor_call.new.work c.requires.stands grows.grows c.args.shell.now c.requires.shell c.requires.known

pub part_line-requires-clause-sized : goal.part_line-requires-clause-sized
part_line-requires-clause-sized c =
    let h = c.args.history.now in
    let w0 = c.args.work.now in
    let w1 = c.size_line.new.work in
    let w2 = c.accessor_call.new.work in
    let grows = grown_trans h w0 w1 w2 c.size_line.ensures.grows c.accessor_call.ensures.grows in
    let z = c.in_ok-sized.sized in
    subst (λ s. IsSized h w2 s c.args.place z) (sym (shell_same h w0 w2 c.requires.stands grows.grows c.args.shell.now c.requires.shell)) (
    sized_grown h w1 w2 c.size_line.ensures.grows.grows.stands c.accessor_call.ensures.grows.grows (shell_at w0.bank c.args.shell.now) c.args.place z c.in_ok-sized.ensures.sized)

pub part_line-requires-clause-taken : goal.part_line-requires-clause-taken
part_line-requires-clause-taken c =
    let h = c.args.history.now in
    let w1 = c.size_line.new.work in
    let w2 = c.accessor_call.new.work in
    let there = shell_stands h c.args.work.now w1 c.requires.stands c.size_line.ensures.grows.grows c.args.shell.now c.requires.shell in
    subst (λ s. IsAccessed h w2 s c.args.place c.in_ok-taken.taken) (sym (shell_same h w1 w2 c.size_line.ensures.grows.grows.stands c.accessor_call.ensures.grows.grows c.args.shell.now there)) c.in_ok-taken.ensures.accessed

-- after the line of a part that is allowed
pub other_line-requires-clause-shell : goal.other_line-requires-clause-shell
other_line-requires-clause-shell c =
    let grows = three_steps c.args.history.now c.args.work.now c.size_line.new.work c.accessor_call.new.work c.part_line.new.work c.size_line.ensures.grows c.accessor_call.ensures.grows c.part_line.ensures.grows in
    shell_stands c.args.history.now c.args.work.now c.part_line.new.work c.requires.stands grows.grows c.args.shell.now c.requires.shell

pub other_line-requires-clause-known : goal.other_line-requires-clause-known
other_line-requires-clause-known c =
    let grows = three_steps c.args.history.now c.args.work.now c.size_line.new.work c.accessor_call.new.work c.part_line.new.work c.size_line.ensures.grows c.accessor_call.ensures.grows c.part_line.ensures.grows in
    known_grown c.args.history.now c.args.work.now c.part_line.new.work c.requires.stands grows.grows c.args.shell.now c.requires.shell c.requires.known

pub other_line-requires-clause-rows : goal.other_line-requires-clause-rows
other_line-requires-clause-rows c =
    let grows = three_steps c.args.history.now c.args.work.now c.size_line.new.work c.accessor_call.new.work c.part_line.new.work c.size_line.ensures.grows c.accessor_call.ensures.grows c.part_line.ensures.grows in
    rows_grown c.args.history.now c.args.work.now c.part_line.new.work c.requires.stands grows.grows c.requires.rows

pub other_line-requires-clause-sized : goal.other_line-requires-clause-sized
other_line-requires-clause-sized c =
    let h = c.args.history.now in
    let w0 = c.args.work.now in
    let w1 = c.size_line.new.work in
    let w3 = c.part_line.new.work in
    let grows = three_steps h w0 w1 c.accessor_call.new.work w3 c.size_line.ensures.grows c.accessor_call.ensures.grows c.part_line.ensures.grows in
    let later = grown_trans h w1 c.accessor_call.new.work w3 c.accessor_call.ensures.grows c.part_line.ensures.grows in
    let z = c.in_ok-sized.sized in
    subst (λ s. IsSized h w3 s c.args.place z) (sym (shell_same h w0 w3 c.requires.stands grows.grows c.args.shell.now c.requires.shell)) (
    sized_grown h w1 w3 c.size_line.ensures.grows.grows.stands later.grows (shell_at w0.bank c.args.shell.now) c.args.place z c.in_ok-sized.ensures.sized)

pub other_line-requires-clause-taken : goal.other_line-requires-clause-taken
other_line-requires-clause-taken c =
    let h = c.args.history.now in
    let w1 = c.size_line.new.work in
    let w2 = c.accessor_call.new.work in
    let w3 = c.part_line.new.work in
    let there = shell_stands h c.args.work.now w1 c.requires.stands c.size_line.ensures.grows.grows c.args.shell.now c.requires.shell in
    let later = grown_trans h w1 w2 w3 c.accessor_call.ensures.grows c.part_line.ensures.grows in
    subst (λ s. IsAccessed h w3 s c.args.place c.in_ok-taken.taken) (sym (shell_same h w1 w3 c.size_line.ensures.grows.grows.stands later.grows c.args.shell.now there)) (
    accessed_grown h w2 w3 c.accessor_call.ensures.grows.grows.stands c.part_line.ensures.grows.grows (shell_at w1.bank c.args.shell.now) c.args.place c.in_ok-taken.taken c.in_ok-taken.ensures.accessed)

-- the cut
pub cut-requires-clause-first : goal.cut-requires-clause-first
cut-requires-clause-first c = only_stands c.other_line.new.work c.in_ok-other.other _ c.in_ok-other.ensures.line

pub cut-requires-clause-second : goal.cut-requires-clause-second
cut-requires-clause-second c =
    line_grown c.args.history.now c.part_line.new.work c.other_line.new.work c.in_ok-part.part c.part_line.ensures.grows.grows.stands c.other_line.ensures.grows.grows (only_stands c.part_line.new.work c.in_ok-part.part _ c.in_ok-part.ensures.line)

pub cut-requires-clause-term : goal.cut-requires-clause-term
cut-requires-clause-term c =
    let h = c.args.history.now in
    let w1 = c.size_line.new.work in
    let w4 = c.other_line.new.work in
    let later = three_steps h w1 c.accessor_call.new.work c.part_line.new.work w4 c.accessor_call.ensures.grows c.part_line.ensures.grows c.other_line.ensures.grows in
    (sized_grown h w1 w4 c.size_line.ensures.grows.grows.stands later.grows (shell_at c.args.work.now.bank c.args.shell.now) c.args.place c.in_ok-sized.sized c.in_ok-sized.ensures.sized).piece.allowed.inside

-- how the work grew
pub returns-in_err-taken-clause-grows : goal.returns-in_err-taken-clause-grows
returns-in_err-taken-clause-grows c = grown_trans c.args.history.now c.args.work.now c.size_line.new.work c.accessor_call.new.work c.size_line.ensures.grows c.accessor_call.ensures.grows

pub returns-in_err-part-clause-grows : goal.returns-in_err-part-clause-grows
returns-in_err-part-clause-grows c = three_steps c.args.history.now c.args.work.now c.size_line.new.work c.accessor_call.new.work c.part_line.new.work c.size_line.ensures.grows c.accessor_call.ensures.grows c.part_line.ensures.grows

pub returns-in_err-other-clause-grows : goal.returns-in_err-other-clause-grows
returns-in_err-other-clause-grows c = four_steps c.args.history.now c.args.work.now c.size_line.new.work c.accessor_call.new.work c.part_line.new.work c.size_line.ensures.grows c.accessor_call.ensures.grows c.part_line.ensures.grows c.other_line.new.work c.other_line.ensures.grows

pub returns-in_err-line-clause-grows : goal.returns-in_err-line-clause-grows
returns-in_err-line-clause-grows c = five_steps c.args.history.now c.args.work.now c.size_line.new.work c.accessor_call.new.work c.part_line.new.work c.size_line.ensures.grows c.accessor_call.ensures.grows c.part_line.ensures.grows c.other_line.new.work c.cut.new.work c.other_line.ensures.grows c.cut.ensures.grows

pub returns-clause-grows : goal.returns-clause-grows
returns-clause-grows c = five_steps c.args.history.now c.args.work.now c.size_line.new.work c.accessor_call.new.work c.part_line.new.work c.size_line.ensures.grows c.accessor_call.ensures.grows c.part_line.ensures.grows c.other_line.new.work c.cut.new.work c.other_line.ensures.grows c.cut.ensures.grows

pub returns-clause-taken : goal.returns-clause-taken
returns-clause-taken c =
    let h = c.args.history.now in
    let w0 = c.args.work.now in
    let w1 = c.size_line.new.work in
    let w2 = c.accessor_call.new.work in
    let w3 = c.part_line.new.work in
    let w4 = c.other_line.new.work in
    let w5 = c.cut.new.work in
    let s = shell_at w0.bank c.args.shell.now in
    let place = c.args.place in
    let z = c.in_ok-sized.sized in
    let stands = c.size_line.ensures.grows.grows.stands in
    let to3 = grown_trans h w1 w2 w3 c.accessor_call.ensures.grows c.part_line.ensures.grows in
    let to4 = grown_trans h w1 w3 w4 to3 c.other_line.ensures.grows in
    let to5 = grown_trans h w1 w4 w5 to4 c.cut.ensures.grows in
    let sized = c.in_ok-sized.ensures.sized in
    let called : IsAccessed h w2 s place c.in_ok-taken.taken = subst (λ s. IsAccessed h w2 s place c.in_ok-taken.taken) (shell_same h w0 w1 c.requires.stands c.size_line.ensures.grows.grows c.args.shell.now c.requires.shell) c.in_ok-taken.ensures.accessed in
    taken_told h w2 w3 w4 w5 s place z c.in_ok-taken.taken c.in_ok-part.part c.in_ok-other.other c.in_ok-line.line c.part_line.ensures.grows.grows.stands c.other_line.ensures.grows.grows
    (sized_grown h w1 w2 stands c.accessor_call.ensures.grows.grows s place z sized) (sized_grown h w1 w3 stands to3.grows s place z sized) (sized_grown h w1 w4 stands to4.grows s place z sized) (sized_grown h w1 w5 stands to5.grows s place z sized)
    called (accessed_grown h w2 w3 c.accessor_call.ensures.grows.grows.stands c.part_line.ensures.grows.grows s place c.in_ok-taken.taken called)
    c.in_ok-part.ensures.line c.in_ok-other.ensures.line c.in_ok-line.ensures.line
