-- The cases so far wait.
use Rattle.std.proofs.Common.{◌≡◌, [], take}
use Rattle.nq_logic.specs.Terms.{Each}
use Rattle.nq_rule.specs.Inductions.{cases_at}
use Rattle.nq_block.specs.Writing.{Frame, CanDistinguish, IsWriting, IsCounted}
use Rattle.nq_block.proofs.writer.Writer.induction.Given as goal

abbrev pub invariant-loop-case : goal.invariant-loop-case
invariant-loop-case l =
    record {
      counted : IsCounted l.self;
      writing : (frame : Frame) → IsWriting l.bank frame l.fn.self → frame.cases ≡ [] → Each (CanDistinguish frame.history frame.clauses) (cases_at l.bank l.cases) →
          IsWriting l.bank (record frame { cases = cases_at l.bank (take l.case-index l.cases) }) l.self;
    }
