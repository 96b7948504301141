use Rattle.std.proofs.Common.{subst}
use Rattle.std.specs.Io.KnownBytes.{Appends}
use Rattle.nq_io.specs.Told.{AppendsPart}
use Rattle.nq_check.proofs.PassingLemmas.{line_moves, line_stops, line_claims, line_cut}
use Rattle.nq_check.proofs.checker.Checker.take_whole_line.Goals as goal

pub returns-in-Moves-clause-taken : goal.returns-in-Moves-clause-taken
returns-in-Moves-clause-taken g c =
    λ rest. line_moves c.args.self.now c.args.bytes.now c.requires.free c.take_line.new.self rest (g.O.Sink.written c.args.out.now) (rw c.in-Moves.is at c.in-Ok.ensures)

pub returns-in-Fails-clause-taken : goal.returns-in-Fails-clause-taken
returns-in-Fails-clause-taken g c =
    λ rest. line_stops c.args.self.now c.args.bytes.now c.requires.free c.take_line.new.self rest c.in-Fails.why (g.O.Sink.written c.args.out.now) c.requires.ready (rw c.in-Fails.is at c.in-Ok.ensures)

pub returns-in-Ok-write_text-clause-taken : goal.returns-in-Ok-write_text-clause-taken
returns-in-Ok-write_text-clause-taken g c =
    λ rest. line_claims c.args.self.now c.args.bytes.now c.requires.free c.take_line.new.self rest c.in-Establishes.text.items (g.O.Sink.written c.args.out.now) (g.O.Sink.written c.write_text.new.out) c.requires.ready
    (rw c.in-Establishes.is at c.in-Ok.ensures) (subst (Appends (g.O.Sink.written c.args.out.now) (g.O.Sink.written c.write_text.new.out)) c.as_slice.ensures.value c.in-Ok-write_text.ensures.ok)

pub returns-clause-interrupted : goal.returns-clause-interrupted
returns-clause-interrupted g c =
    λ rest. line_cut c.args.self.now c.args.bytes.now c.requires.free c.take_line.new.self rest c.in-Establishes.text.items (g.O.Sink.written c.args.out.now) (g.O.Sink.written c.write_text.new.out)
    (rw c.in-Establishes.is at c.in-Ok.ensures) (subst (AppendsPart (g.O.Sink.written c.args.out.now) (g.O.Sink.written c.write_text.new.out)) c.as_slice.ensures.value c.in-Err-write_text.ensures.err)
