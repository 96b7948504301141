use Rattle.std.proofs.Common.{Some}
use Rattle.nq_bank.specs.Content.{term_at}
use Rattle.nq_kernel.proofs.GrowingLemmas.{WorkGrows-trans}
use Rattle.nq_lines.proofs.LineLemmas.{line_grown, only_stands}
use Rattle.nq_lines.proofs.TermLemmas.{term_grown}
use Rattle.nq_moves.proofs.FertilizingLemmas.{numeral_stays}
use Rattle.nq_moves.proofs.CrossedLemmas.{uncrossed}
use Rattle.nq_moves.proofs.SwappedLemmas.{swapping_grown, goal_in_grown, call_place_grown, closed_same}
use Rattle.nq_moves.proofs.crossing.close_crossed.Goals as goal

pub swap_by-requires-clause-literal : goal.swap_by-requires-clause-literal
swap_by-requires-clause-literal c = c.requires.swapped.swapping.reading.literal

pub swap_by-requires-clause-left : goal.swap_by-requires-clause-left
swap_by-requires-clause-left c = c.requires.swapped.swapping.reading.from

pub swap_by-requires-clause-right : goal.swap_by-requires-clause-right
swap_by-requires-clause-right c = c.requires.swapped.swapping.reading.into

pub swap_by-requires-clause-denies : goal.swap_by-requires-clause-denies
swap_by-requires-clause-denies c = c.requires.swapped.swapping.reading.denies

pub swap_by-requires-clause-numerals : goal.swap_by-requires-clause-numerals
swap_by-requires-clause-numerals c = λ n small. numeral_stays (term_at c.args.work.now.bank c.args.r.from) (term_at c.args.work.now.bank c.args.r.into) n c.requires.swapped.swapping.no_value small

pub cross_back-requires-clause-whole : goal.cross_back-requires-clause-whole
cross_back-requires-clause-whole c = term_grown c.args.history.now c.args.work.now c.swap_by.new.work c.args.x.whole c.requires.stands c.swap_by.ensures.grows c.requires.swapped.swapping.crossing_stands.whole

pub cross_back-requires-clause-place : goal.cross_back-requires-clause-place
cross_back-requires-clause-place c =
    call_place_grown c.args.history.now c.args.work.now c.swap_by.new.work c.swap_by.ensures.grows c.args.x.whole c.args.x.place c.requires.swapped.swapping.crossing_stands.whole c.requires.swapped.swapping.crossing_stands.place

pub cross_back-requires-clause-line : goal.cross_back-requires-clause-line
cross_back-requires-clause-line c =
    line_grown c.args.history.now c.args.work.now c.swap_by.new.work c.args.line c.requires.stands c.swap_by.ensures.grows (only_stands c.args.work.now c.args.line c.requires.swapped.child c.requires.swapped.has)

pub returns-in_err-next-clause-grows : goal.returns-in_err-next-clause-grows
returns-in_err-next-clause-grows c = WorkGrows-trans c.args.history.now c.args.work.now c.swap_by.new.work c.cross_back.new.work c.swap_by.ensures.grows c.cross_back.ensures.grows

pub close_exchanged-requires-clause-goal : goal.close_exchanged-requires-clause-goal
close_exchanged-requires-clause-goal c =
    let g = WorkGrows-trans c.args.history.now c.args.work.now c.swap_by.new.work c.cross_back.new.work c.swap_by.ensures.grows c.cross_back.ensures.grows in
    goal_in_grown c.args.history.now c.args.work.now c.cross_back.new.work c.requires.stands g c.args.goal.now c.requires.goal

pub close_exchanged-requires-clause-literal : goal.close_exchanged-requires-clause-literal
close_exchanged-requires-clause-literal c =
    let g = WorkGrows-trans c.args.history.now c.args.work.now c.swap_by.new.work c.cross_back.new.work c.swap_by.ensures.grows c.cross_back.ensures.grows in
    (swapping_grown c.args.history.now c.args.work.now c.cross_back.new.work c.requires.stands g c.args.goal.now c.requires.goal c.args.r (Some c.args.x) c.requires.swapped.child c.requires.swapped.swapping).reading.literal

pub close_exchanged-requires-clause-among : goal.close_exchanged-requires-clause-among
close_exchanged-requires-clause-among c =
    let g = WorkGrows-trans c.args.history.now c.args.work.now c.swap_by.new.work c.cross_back.new.work c.swap_by.ensures.grows c.cross_back.ensures.grows in
    (swapping_grown c.args.history.now c.args.work.now c.cross_back.new.work c.requires.stands g c.args.goal.now c.requires.goal c.args.r (Some c.args.x) c.requires.swapped.child c.requires.swapped.swapping).reading.among

pub close_exchanged-requires-clause-left : goal.close_exchanged-requires-clause-left
close_exchanged-requires-clause-left c =
    let g = WorkGrows-trans c.args.history.now c.args.work.now c.swap_by.new.work c.cross_back.new.work c.swap_by.ensures.grows c.cross_back.ensures.grows in
    (swapping_grown c.args.history.now c.args.work.now c.cross_back.new.work c.requires.stands g c.args.goal.now c.requires.goal c.args.r (Some c.args.x) c.requires.swapped.child c.requires.swapped.swapping).reading.from

pub close_exchanged-requires-clause-right : goal.close_exchanged-requires-clause-right
close_exchanged-requires-clause-right c =
    let g = WorkGrows-trans c.args.history.now c.args.work.now c.swap_by.new.work c.cross_back.new.work c.swap_by.ensures.grows c.cross_back.ensures.grows in
    (swapping_grown c.args.history.now c.args.work.now c.cross_back.new.work c.requires.stands g c.args.goal.now c.requires.goal c.args.r (Some c.args.x) c.requires.swapped.child c.requires.swapped.swapping).reading.into

pub close_exchanged-requires-clause-denies : goal.close_exchanged-requires-clause-denies
close_exchanged-requires-clause-denies c =
    let g = WorkGrows-trans c.args.history.now c.args.work.now c.swap_by.new.work c.cross_back.new.work c.swap_by.ensures.grows c.cross_back.ensures.grows in
    (swapping_grown c.args.history.now c.args.work.now c.cross_back.new.work c.requires.stands g c.args.goal.now c.requires.goal c.args.r (Some c.args.x) c.requires.swapped.child c.requires.swapped.swapping).reading.denies

pub close_exchanged-requires-clause-numerals : goal.close_exchanged-requires-clause-numerals
close_exchanged-requires-clause-numerals c =
    let g = WorkGrows-trans c.args.history.now c.args.work.now c.swap_by.new.work c.cross_back.new.work c.swap_by.ensures.grows c.cross_back.ensures.grows in
    let s = swapping_grown c.args.history.now c.args.work.now c.cross_back.new.work c.requires.stands g c.args.goal.now c.requires.goal c.args.r (Some c.args.x) c.requires.swapped.child c.requires.swapped.swapping in
    λ n small. numeral_stays (term_at c.cross_back.new.work.bank c.args.r.from) (term_at c.cross_back.new.work.bank c.args.r.into) n s.no_value small

pub close_exchanged-requires-clause-line : goal.close_exchanged-requires-clause-line
close_exchanged-requires-clause-line c =
    uncrossed c.args.history.now c.args.work.now c.swap_by.new.work c.cross_back.new.work c.requires.stands c.swap_by.ensures.grows c.cross_back.ensures.grows c.args.goal.now c.requires.goal c.args.r c.args.x c.in_ok-swap.swap c.args.line c.in_ok-next.next c.requires.swapped.child c.requires.swapped.swapping c.requires.swapped.has c.in_ok-swap.ensures.hypothesis c.in_ok-swap.ensures.from c.in_ok-swap.ensures.into c.in_ok-next.ensures.line

pub returns-clause-line : goal.returns-clause-line
returns-clause-line c =
    let g = WorkGrows-trans c.args.history.now c.args.work.now c.swap_by.new.work c.cross_back.new.work c.swap_by.ensures.grows c.cross_back.ensures.grows in
    closed_same c.args.history.now c.args.work.now c.cross_back.new.work c.requires.stands g c.args.goal.now c.requires.goal c.close_exchanged.new.work c.close_exchanged.result c.close_exchanged.ensures.line

pub returns-clause-grows : goal.returns-clause-grows
returns-clause-grows c =
    let g = WorkGrows-trans c.args.history.now c.args.work.now c.swap_by.new.work c.cross_back.new.work c.swap_by.ensures.grows c.cross_back.ensures.grows in
    WorkGrows-trans c.args.history.now c.args.work.now c.cross_back.new.work c.close_exchanged.new.work g c.close_exchanged.ensures.grows
