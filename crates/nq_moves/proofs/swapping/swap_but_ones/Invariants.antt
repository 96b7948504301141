-- The literals so far are swapped, in work that only grows.
use Rattle.std.proofs.Common.{◌≡◌, Some, take, map}
use Rattle.std.specs.Prelude.{All}
use Rattle.nq_bank.specs.Content.{terms_at}
use Rattle.nq_kernel.specs.Growing.{WorkGrows}
use Rattle.nq_lines.specs.Lines.{IsTermIn}
use Rattle.nq_moves.specs.Swapped.{reading_at, swapped_literal}
use Rattle.nq_moves.proofs.swapping.swap_but_ones.Given as goal

abbrev pub invariant-loop-t : goal.invariant-loop-t
invariant-loop-t l =
    record {
      grows : WorkGrows l.history l.fn.work l.work;
      over : All (IsTermIn l.history l.work) l.made.items;
      done : terms_at l.work.bank l.made.items ≡ map (swapped_literal l.fn.work.bank (reading_at l.fn.work.bank l.r) (Some l.x)) (terms_at l.fn.work.bank (take l.t-index l.terms));
    }
