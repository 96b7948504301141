-- The calls so far are those of the parts so far, in work that only grows.
use Rattle.std.proofs.Common.{◌≡◌, take}
use Rattle.std.specs.Prelude.{All}
use Rattle.nq_logic.specs.Shells.{accessed}
use Rattle.nq_bank.specs.Content.{Stands, term_at, terms_at}
use Rattle.nq_bank.specs.Shells.{parts_at}
use Rattle.nq_kernel.specs.Growing.{WorkGrows}
use Rattle.nq_eliminate.proofs.shells.calls_on.Given as goal

abbrev pub invariant-loop-part : goal.invariant-loop-part
invariant-loop-part l =
    record {
      grows : WorkGrows l.history l.fn.work l.work;
      stand : All (Stands l.work.bank) l.calls.items;
      calls : terms_at l.work.bank l.calls.items ≡ accessed (term_at l.fn.work.bank l.t) (parts_at l.fn.work.bank (take l.part-index l.parts));
    }
