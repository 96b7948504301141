-- The cases so far.
use Rattle.std.proofs.Common.{◌≡◌, map, take}
use Rattle.std.specs.Prelude.{All}
use Rattle.nq_bank.specs.Content.{terms_at}
use Rattle.nq_kernel.specs.Growing.{WorkGrows}
use Rattle.nq_induct.specs.Claims.{any_of}
use Rattle.nq_induct.specs.Goals.{IsShownCase}
use Rattle.nq_induct.proofs.closing.shown_cases.Given as goal

abbrev pub invariant-loop-place : goal.invariant-loop-place
invariant-loop-place l =
    record {
      grows : WorkGrows l.history l.fn.work l.work;
      cases : All (IsShownCase l.history l.work l.scheme.measure (any_of (terms_at l.fn.work.bank l.goal))) l.cases.items;
      tests : map (λ c. c.test) l.cases.items ≡ map (λ c. c.test) (take l.place l.scheme.cases.items);
    }
