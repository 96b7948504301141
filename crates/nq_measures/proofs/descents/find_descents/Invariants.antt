-- Each call so far has its line.
use Rattle.std.proofs.Common.{take}
use Rattle.nq_replay.specs.Uncounted.{GrowsUncounted}
use Rattle.nq_measures.specs.Trials.{AreFallLines}
use Rattle.nq_measures.proofs.descents.find_descents.Given as goal

abbrev pub invariant-loop-site : goal.invariant-loop-site
invariant-loop-site l =
    record {
      grows : GrowsUncounted l.history l.fn.work l.work;
      falls : AreFallLines l.work l.f l.formals l.measure (take l.site-index l.sites) l.falls.items;
    }
