use Rattle.std.proofs.Common.{◌≡◌, ap, sym, subst, arith}
use Rattle.std.specs.Prelude.{is_some, ◌-◌}
use Rattle.nq_bank.specs.Content.{term_at}
use Rattle.nq_shell_parts.specs.Summands.{IsSum, right_of}
use Rattle.nq_part_lines.proofs.ReadingLemmas.{first_sum, found, later_sum, left_there, right_there}
use Rattle.nq_part_lines.proofs.reading.+summand_at.Goals as goal

pub small_argument-rest-requires-clause-place : goal.small_argument-rest-requires-clause-place
small_argument-rest-requires-clause-place t c =
    let b = c.args.work.now.bank in
    let s = term_at b c.args.sum in
    let later = later_sum c.args.place c.args.more s c.if-place-gt0.true c.requires.sum in
    ap is_some (right_there s later.0)

pub summand_at-requires : goal.summand_at-requires
summand_at-requires t c =
    let b = c.args.work.now.bank in
    let s = term_at b c.args.sum in
    let later = later_sum c.args.place c.args.more s c.if-place-gt0.true c.requires.sum in
    let rest : term_at b c.small_argument-rest.result ≡ right_of s = found 2 s (right_of s) (term_at b c.small_argument-rest.result) (right_there s later.0) c.small_argument-rest.ensures.argument in
    let more = c.if-place-gt0.true in
    (omega (arith, more), (c.small_argument-rest.ensures.small, subst (IsSum (c.args.place - 1) c.args.more) (sym rest) later.1))

pub small_argument-requires-clause-place : goal.small_argument-requires-clause-place
small_argument-requires-clause-place t c =
    let b = c.args.work.now.bank in
    let s = term_at b c.args.sum in
    let plus = first_sum c.args.place c.args.more s c.if-place-gt0.false c.if-more-gt0.true c.requires.sum in
    ap is_some (left_there s plus)
