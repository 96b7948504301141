-- Each call so far has its line.
use Rattle.std.proofs.Common.{take}
use Rattle.nq_kernel.specs.Growing.{WorkGrows}
use Rattle.nq_measures.specs.Trials.{IsSearching, AreFallLines}
use Rattle.nq_measures.proofs.falls.find_falls.Given as goal

abbrev pub invariant-loop-site : goal.invariant-loop-site
invariant-loop-site g l =
    record {
      grows : WorkGrows l.history l.fn.work l.work;
      searching : IsSearching (g.P.Prover.has_learnt l.prover) l.history l.work;
      falls : AreFallLines l.work l.f l.formals l.measure (take l.site-index l.sites) l.falls.items;
    }
