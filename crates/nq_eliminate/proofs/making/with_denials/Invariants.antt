-- The literals so far are the first and the NOTs of the terms so far.
use Rattle.std.proofs.Common.{◌≡◌, ◌++◌, map, take}
use Rattle.std.specs.Prelude.{All}
use Rattle.nq_logic.specs.Words.{not_term}
use Rattle.nq_bank.specs.Content.{terms_at}
use Rattle.nq_kernel.specs.Growing.{WorkGrows}
use Rattle.nq_lines.specs.Lines.{IsTermIn}
use Rattle.nq_eliminate.proofs.making.with_denials.Given as goal

abbrev pub invariant-loop-t : goal.invariant-loop-t
invariant-loop-t l =
    record {
      grows : WorkGrows l.history l.fn.work l.work;
      over : All (IsTermIn l.history l.work) l.ids.items;
      literals : terms_at l.work.bank l.ids.items ≡ terms_at l.fn.work.bank l.first ++ map not_term (terms_at l.fn.work.bank (take l.t-index l.terms));
    }
