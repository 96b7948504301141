use Rattle.std.proofs.Common.{◌+◌, ◌<◌, ◌≤◌, ◌^◌, length, take, ap, subst, arith}
use Rattle.std.specs.Io.KnownBytes.{Consumes}
use Rattle.nq_log.specs.Logs.{step}
use Rattle.nq_check.specs.Checking.{Progress}
use Rattle.nq_check.proofs.CheckingLemmas.{unread, ended, too_long, goes_on, stops, cut_off, broken}
use Rattle.nq_check.proofs.checking.judge_text.Goals as goal

pub returns-in-Err-clause-judges : goal.returns-in-Err-clause-judges
returns-in-Err-clause-judges g c =
    unread c.args.checker.now c.requires.start c.pieces.checker c.pieces.unfinished.items c.pieces.taken _ _ _ _ c.pieces.invariant.0 _ (c.right_claims.ensures.narrow step (λ s line taken e. e)) c.in-Err.ensures.kept

pub returns-then-count-eq0-clause-judges : goal.returns-then-count-eq0-clause-judges
returns-then-count-eq0-clause-judges g c =
    let none = ap (λ n. take n c.read_bytes.new.buffer) c.if-count-eq0.true in
    ended c.args.checker.now c.requires.start c.pieces.checker c.pieces.unfinished.items c.pieces.taken _ _ _ _ c.pieces.invariant.0 _ c.answer_at_end.result (c.right_claims.ensures.narrow step (λ s line taken e. e))
    c.requires.none c.answer_at_end.ensures (subst (Consumes (g.S.Source.left c.pieces.src) (g.S.Source.left c.read_bytes.new.src)) none c.in-Ok.ensures.taken) (c.in-Ok.ensures.end c.if-count-eq0.true)

pub returns-then-taken-eq-LIMIT-clause-judges : goal.returns-then-taken-eq-LIMIT-clause-judges
returns-then-taken-eq-LIMIT-clause-judges g c =
    let some : 0 < length (take c.in-Ok.count c.read_bytes.new.buffer) = omega (arith, c.in-Ok.ensures.count, c.if-count-eq0.false) in
    too_long c.args.checker.now c.requires.start c.pieces.checker c.pieces.unfinished.items c.pieces.taken _ _ _ _ c.pieces.invariant.0 _ (take c.in-Ok.count c.read_bytes.new.buffer) (c.right_claims.ensures.narrow step (λ s line taken e. e))
    c.in-Ok.ensures.taken some c.if-taken-eq-LIMIT.true

pub pieces-preserved : goal.pieces-preserved
pieces-preserved g c =
    let counted = c.in-Ok.ensures.count in
    let most = c.in-Ok.ensures.most in
    let known = c.pieces.invariant.0.within in
    let within : c.pieces.taken + length (take c.in-Ok.count c.read_bytes.new.buffer) ≤ 2 ^ 62 = omega (arith, counted, most, c.room_at-room.ensures.within, c.if-taken-eq-LIMIT.false, known) in
    let both = rw c.in-Ok-None.field-0-is at c.in-Ok-None.ensures.taken in
    let next = goes_on c.args.checker.now c.requires.start c.pieces.checker c.pieces.unfinished.items c.pieces.taken _ _ _ _ c.pieces.invariant.0 _ c.take_piece.new.self c.take_piece.new.unfinished.items
    (take c.in-Ok.count c.read_bytes.new.buffer) (g.O.Sink.written c.take_piece.new.out) c.in-Ok.ensures.taken within both.0 both.1 in (
      subst (λ n. Progress c.args.checker.now c.take_piece.new.self c.take_piece.new.unfinished.items n (g.S.Source.left c.args.src.now) (g.S.Source.left c.read_bytes.new.src) (g.O.Sink.written c.args.out.now) (g.O.Sink.written c.take_piece.new.out))
          (ap (λ n. c.pieces.taken + n) counted) next,
      omega (arith, c.pieces.invariant.1, c.read_bytes.ensures.cause.later),
      omega (arith, c.pieces.invariant.2, c.take_piece.ensures.later),
    )

pub returns-in-Ok-Some-clause-judges : goal.returns-in-Ok-Some-clause-judges
returns-in-Ok-Some-clause-judges g c =
    let counted = c.in-Ok.ensures.count in
    let most = c.in-Ok.ensures.most in
    let known = c.pieces.invariant.0.within in
    let within : c.pieces.taken + length (take c.in-Ok.count c.read_bytes.new.buffer) ≤ 2 ^ 62 = omega (arith, counted, most, c.room_at-room.ensures.within, c.if-taken-eq-LIMIT.false, known) in
    let stop = rw c.in-Ok-Some.field-0-is at c.in-Ok-Some.ensures.taken in
    stops c.args.checker.now c.requires.start c.pieces.checker c.pieces.unfinished.items c.pieces.taken _ _ _ _ c.pieces.invariant.0 _ c.take_piece.new.self
    (take c.in-Ok.count c.read_bytes.new.buffer) c.in-Ok-Some.why (g.O.Sink.written c.take_piece.new.out) (c.right_claims.ensures.narrow step (λ s line taken e. e)) c.in-Ok.ensures.taken within stop

pub returns-in-Err-take_piece-clause-judges : goal.returns-in-Err-take_piece-clause-judges
returns-in-Err-take_piece-clause-judges g c =
    let cut = cut_off c.args.checker.now c.requires.start c.pieces.checker c.pieces.unfinished.items c.pieces.taken _ _ _ _ c.pieces.invariant.0 _ (take c.in-Ok.count c.read_bytes.new.buffer) (g.O.Sink.written c.take_piece.new.out)
    (c.right_claims.ensures.narrow step (λ s line taken e. e)) c.in-Ok.ensures.taken c.in-Err-take_piece.ensures.interrupted in
    broken _ _ _ c.take_piece.result c.in-Err-take_piece.fault c.in-Err-take_piece.is c.take_piece.ensures.no_read c.take_piece.ensures.no_length cut
