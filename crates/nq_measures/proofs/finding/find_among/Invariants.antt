-- None so far is the size of a variable in which the definition is structural.
use Rattle.std.proofs.Common.{take}
use Rattle.std.specs.Prelude.{All}
use Rattle.nq_kernel.specs.Growing.{WorkGrows}
use Rattle.nq_measures.specs.Trials.{AreLeftAt, IsSearching, IsNotStructural}
use Rattle.nq_measures.proofs.finding.find_among.Given as goal

abbrev pub invariant-loop-place : goal.invariant-loop-place
invariant-loop-place g l =
    record {
      grows : WorkGrows l.history l.fn.work l.work;
      searching : IsSearching (g.P.Prover.has_learnt l.prover) l.history l.work;
      none : All (λ m. IsNotStructural l.history l.fn.work.bank l.formals m l.sites) (take l.place l.tried);
      left : AreLeftAt l.fn.work.bank l.work l.f l.formals l.sites (take l.place l.tried) l.left.items;
    }
