-- The hypotheses so far are those of the last case.
use Rattle.std.proofs.Common.{take}
use Rattle.nq_logic.specs.Terms.{Each}
use Rattle.nq_proof.specs.Rules.{CaseLines}
use Rattle.nq_rule.specs.Inductions.{hypotheses_at}
use Rattle.nq_block.specs.Writing.{Frame, CanSuppose, IsWriting, IsCounted, with_case, with_hypotheses}
use Rattle.nq_block.proofs.writer.Writer.hypotheses.Given as goal

abbrev pub invariant-loop-step : goal.invariant-loop-step
invariant-loop-step l =
    record {
      counted : IsCounted l.self;
      writing : (frame : Frame) (c : CaseLines) → IsWriting l.bank (with_case frame c) l.fn.self → Each (CanSuppose frame.history frame.clauses) (hypotheses_at l.bank l.steps) →
          IsWriting l.bank (with_case frame (with_hypotheses c (hypotheses_at l.bank (take l.step-index l.steps)))) l.self;
    }
