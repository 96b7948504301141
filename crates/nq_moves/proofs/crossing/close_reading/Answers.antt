use Rattle.std.proofs.Common.{subst}
use Rattle.nq_bank.specs.Content.{term_at}
use Rattle.nq_moves.specs.Swapped.{IsSwapping, HasSwapped}
use Rattle.nq_moves.proofs.FertilizingLemmas.{numeral_stays}
use Rattle.nq_moves.proofs.CrossedLemmas.{rest_line}
use Rattle.nq_moves.proofs.crossing.close_reading.Goals as goal

pub close_exchanged-requires-clause-literal : goal.close_exchanged-requires-clause-literal
close_exchanged-requires-clause-literal c = c.requires.swapped.swapping.reading.literal

pub close_exchanged-requires-clause-among : goal.close_exchanged-requires-clause-among
close_exchanged-requires-clause-among c = c.requires.swapped.swapping.reading.among

pub close_exchanged-requires-clause-left : goal.close_exchanged-requires-clause-left
close_exchanged-requires-clause-left c = c.requires.swapped.swapping.reading.from

pub close_exchanged-requires-clause-right : goal.close_exchanged-requires-clause-right
close_exchanged-requires-clause-right c = c.requires.swapped.swapping.reading.into

pub close_exchanged-requires-clause-denies : goal.close_exchanged-requires-clause-denies
close_exchanged-requires-clause-denies c = c.requires.swapped.swapping.reading.denies

pub close_exchanged-requires-clause-numerals : goal.close_exchanged-requires-clause-numerals
close_exchanged-requires-clause-numerals c = λ n small. numeral_stays (term_at c.args.work.now.bank c.args.r.from) (term_at c.args.work.now.bank c.args.r.into) n c.requires.swapped.swapping.no_value small

pub close_exchanged-requires-clause-line : goal.close_exchanged-requires-clause-line
close_exchanged-requires-clause-line c =
    let s = c.requires.swapped in
    rest_line c.args.history.now c.args.work.now c.args.goal.now c.args.r s.child c.args.line (subst (λ o. IsSwapping c.args.history.now c.args.work.now c.args.goal.now c.args.r o s.child) c.in-None.is s.swapping) s.has

pub close_crossed-requires-clause-swapped : goal.close_crossed-requires-clause-swapped
close_crossed-requires-clause-swapped c = subst (λ o. HasSwapped c.args.history.now c.args.work.now c.args.goal.now c.args.r o c.args.line) c.in-Some.is c.requires.swapped
