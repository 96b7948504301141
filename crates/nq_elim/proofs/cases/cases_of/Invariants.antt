-- The cases so far are those of the literals so far, in work that only grows.
use Rattle.std.proofs.Common.{◌≡◌, map, take}
use Rattle.std.specs.Prelude.{All}
use Rattle.nq_kernel.specs.Growing.{WorkGrows}
use Rattle.nq_elim.specs.Cases.{CaseStands}
use Rattle.nq_elim.proofs.cases.cases_of.Given as goal

abbrev pub invariant-loop-literal : goal.invariant-loop-literal
invariant-loop-literal l =
    record {
      grows : WorkGrows l.history l.fn.work l.work;
      stand : All (CaseStands l.history l.work) l.cases.items;
      literals : map (λ c. c.literal) l.cases.items ≡ take l.literal-index l.literals;
    }
