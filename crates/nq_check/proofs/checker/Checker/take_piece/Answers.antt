use Rattle.std.proofs.Common.{ℕ, List, ◌∷◌, ◌++◌, sym, subst, ◌∙◌, arith}
use Rattle.nq_log.specs.Blocks.{HasNoLineFeed}
use Rattle.nq_check.specs.declared.verdict.Refusal.TheVariants as refusal
use Rattle.nq_check.specs.Passing.{Passed}
use Rattle.nq_check.proofs.PassingLemmas.{mid_is, extended, Passed-trans, Stopped-after, Stopped-past, Interrupted-after, Interrupted-none}
use Rattle.nq_check.proofs.checker.Checker.take_piece.Goals as goal

pub returns-then-is_err-clause-interrupted : goal.returns-then-is_err-clause-interrupted
returns-then-is_err-clause-interrupted g c =
    Interrupted-after c.args.self.now c.lines.self _ _ _ _ _ c.lines.invariant.0 (Interrupted-none c.lines.self _ (g.O.Sink.written c.lines.out))

pub lines-preserved : goal.lines-preserved
lines-preserved g c =
    let grown = extended c.extend_from_slice.result c.extend_from_slice.new.self.items (c.lines.unfinished.items ++ c.in-Some.cut.line.now) _ c.extend_from_slice.ensures.items (sym c.is_err.ensures.value ∙ c.if-is_err.false) in
    let mid = mid_is c.lines.unfinished.items c.lines.rest.now c.in-Some.cut.line.now c.in-Some.cut.rest.now c.extend_from_slice.new.self.items c.as_slice.result.now c.in-Some.ensures.1 grown c.as_slice.ensures.value in
    let line = rw c.in-Ok-None.field-0-is at c.in-Ok-None.ensures.taken in
    let before = subst (λ (m : List ℕ). Passed c.args.self.now c.lines.self (c.args.unfinished.now.items ++ c.args.piece.now) m (g.O.Sink.written c.args.out.now) (g.O.Sink.written c.lines.out)) mid c.lines.invariant.0 in
    let passed = Passed-trans c.args.self.now c.lines.self c.take_whole_line.new.self (c.args.unfinished.now.items ++ c.args.piece.now) (c.as_slice.result.now ++ (10 ∷ c.in-Some.cut.rest.now)) c.in-Some.cut.rest.now
    (g.O.Sink.written c.args.out.now) (g.O.Sink.written c.lines.out) (g.O.Sink.written c.take_whole_line.new.out) before (line c.in-Some.cut.rest.now) in (
      subst (λ (u : List ℕ). Passed c.args.self.now c.take_whole_line.new.self (c.args.unfinished.now.items ++ c.args.piece.now) (u ++ c.in-Some.cut.rest.now) (g.O.Sink.written c.args.out.now) (g.O.Sink.written c.take_whole_line.new.out)) (sym c.clear.ensures.items) passed,
      subst HasNoLineFeed (sym c.clear.ensures.items) tt,
      omega (arith, c.lines.invariant.2, c.take_whole_line.ensures.later),
    )

pub returns-in-Ok-Some-clause-taken : goal.returns-in-Ok-Some-clause-taken
returns-in-Ok-Some-clause-taken g c =
    let grown = extended c.extend_from_slice.result c.extend_from_slice.new.self.items (c.lines.unfinished.items ++ c.in-Some.cut.line.now) _ c.extend_from_slice.ensures.items (sym c.is_err.ensures.value ∙ c.if-is_err.false) in
    let mid = mid_is c.lines.unfinished.items c.lines.rest.now c.in-Some.cut.line.now c.in-Some.cut.rest.now c.extend_from_slice.new.self.items c.as_slice.result.now c.in-Some.ensures.1 grown c.as_slice.ensures.value in
    let line = rw c.in-Ok-Some.field-0-is at c.in-Ok-Some.ensures.taken in
    let before = subst (λ (m : List ℕ). Passed c.args.self.now c.lines.self (c.args.unfinished.now.items ++ c.args.piece.now) m (g.O.Sink.written c.args.out.now) (g.O.Sink.written c.lines.out)) mid c.lines.invariant.0 in
    Stopped-after c.args.self.now c.lines.self c.take_whole_line.new.self (c.args.unfinished.now.items ++ c.args.piece.now) (c.as_slice.result.now ++ (10 ∷ c.in-Some.cut.rest.now)) c.in-Ok-Some.why
    (g.O.Sink.written c.args.out.now) (g.O.Sink.written c.lines.out) (g.O.Sink.written c.take_whole_line.new.out) before (line c.in-Some.cut.rest.now)

pub returns-in-Err-clause-interrupted : goal.returns-in-Err-clause-interrupted
returns-in-Err-clause-interrupted g c =
    let grown = extended c.extend_from_slice.result c.extend_from_slice.new.self.items (c.lines.unfinished.items ++ c.in-Some.cut.line.now) _ c.extend_from_slice.ensures.items (sym c.is_err.ensures.value ∙ c.if-is_err.false) in
    let mid = mid_is c.lines.unfinished.items c.lines.rest.now c.in-Some.cut.line.now c.in-Some.cut.rest.now c.extend_from_slice.new.self.items c.as_slice.result.now c.in-Some.ensures.1 grown c.as_slice.ensures.value in
    let before = subst (λ (m : List ℕ). Passed c.args.self.now c.lines.self (c.args.unfinished.now.items ++ c.args.piece.now) m (g.O.Sink.written c.args.out.now) (g.O.Sink.written c.lines.out)) mid c.lines.invariant.0 in
    Interrupted-after c.args.self.now c.lines.self (c.args.unfinished.now.items ++ c.args.piece.now) (c.as_slice.result.now ++ (10 ∷ c.in-Some.cut.rest.now))
    (g.O.Sink.written c.args.out.now) (g.O.Sink.written c.lines.out) (g.O.Sink.written c.take_whole_line.new.out) before (c.in-Err.ensures.interrupted c.in-Some.cut.rest.now)

pub returns-then-is_err-2-clause-interrupted : goal.returns-then-is_err-2-clause-interrupted
returns-then-is_err-2-clause-interrupted g c =
    Interrupted-after c.args.self.now c.lines.self _ _ _ _ _ c.lines.invariant.0 (Interrupted-none c.lines.self _ (g.O.Sink.written c.lines.out))

pub returns-then-is_past_end-clause-taken : goal.returns-then-is_past_end-clause-taken
returns-then-is_past_end-clause-taken g c =
    let grown = extended c.extend_from_slice-2.result c.extend_from_slice-2.new.self.items (c.lines.unfinished.items ++ c.lines.rest.now) _ c.extend_from_slice-2.ensures.items (sym c.is_err-2.ensures.value ∙ c.if-is_err-2.false) in
    let past = c.is_past_end.ensures.past c.if-is_past_end.true in
    Stopped-after c.args.self.now c.lines.self c.lines.self (c.args.unfinished.now.items ++ c.args.piece.now) (c.lines.unfinished.items ++ c.lines.rest.now) refusal.Malformed
    (g.O.Sink.written c.args.out.now) (g.O.Sink.written c.lines.out) (g.O.Sink.written c.lines.out) c.lines.invariant.0
    (Stopped-past c.lines.self (c.lines.unfinished.items ++ c.lines.rest.now) (g.O.Sink.written c.lines.out) past.0 (λ none. past.1 (c.as_slice-2.ensures.value ∙ grown ∙ none)))
