use Rattle.std.proofs.Common.{◌≡◌, ◌+◌, ◌*◌, ◌++◌, take}
use Rattle.nq_bank.specs.Content.{terms_at}
use Rattle.nq_print.specs.Pieces.{arguments_text}
use Rattle.nq_print.specs.Known.{HasAnswers}
use Rattle.nq_print.proofs.writing.+terms.Given as goal

abbrev pub decreases-write_under : goal.decreases-write_under
decreases-write_under l = 3 * l.t.0 + 2

abbrev pub decreases-write_plain : goal.decreases-write_plain
decreases-write_plain l = 3 * l.t.0 + 1

abbrev pub decreases-write_call : goal.decreases-write_call
decreases-write_call l = 3 * l.t.0

-- the function and the arguments so far
abbrev pub invariant-write_call-loop-argument : goal.invariant-write_call-loop-argument
invariant-write_call-loop-argument l =
    record {
      text : l.out.items ≡ l.initial.out.items ++ arguments_text (terms_at l.bank (take l.argument-index l.argument-items));
      answers : HasAnswers l.bank l.known;
    }
