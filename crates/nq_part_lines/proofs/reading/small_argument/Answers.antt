use Rattle.std.proofs.Common.{◌≤◌, arith}
use Rattle.nq_logic.specs.Sizes.{depth_of}
use Rattle.nq_bank.specs.Content.{term_at}
use Rattle.nq_logic.specs.Ground.{symbols_of}
use Rattle.nq_history.specs.Events.{events_at}
use Rattle.nq_lines.proofs.ArgumentLemmas.{argument_over}
use Rattle.nq_part_lines.specs.LawLines.{term_room}
use Rattle.nq_part_lines.proofs.ReadingLemmas.{argument_low}
use Rattle.nq_part_lines.proofs.reading.small_argument.Goals as goal

pub returns-clause-small : goal.returns-clause-small
returns-clause-small c =
    let w = c.args.work.now in
    let t = term_at w.bank c.args.t in
    let a = term_at w.bank c.argument_at.result in
    let low : depth_of a ≤ depth_of t = argument_low c.args.place t a c.argument_at.ensures.argument in
    let room : depth_of t ≤ term_room = c.requires.term.room in
    record {
      inside = record { stands = c.argument_at.ensures.stands; over = argument_over (symbols_of (events_at w.bank c.args.history.now)) t c.args.place a c.requires.term.inside.over c.argument_at.ensures.argument };
      room = omega (arith, low, room);
    }
