use Rattle.std.proofs.Common.{ap, subst, sym, ◌∙◌, map}
use Rattle.std.specs.Prelude.{All}
use Rattle.nq_proof.specs.Clauses.{distinct}
use Rattle.nq_waterfall.specs.Ready.{IsGoalIn}
use Rattle.nq_waterfall.specs.Trails.{goals_at}
use Rattle.nq_legal.proofs.ThinningLemmas.{simplified_thin}
use Rattle.nq_legal.proofs.thinning.thinned.Goals as goal

pub without_copies-requires : goal.without_copies-requires
without_copies-requires c = subst (All (λ g. IsGoalIn c.args.history.now c.args.work.now g.items)) (sym c.as_slice.ensures.value) c.requires.nexts

pub returns-clause-simplified : goal.returns-clause-simplified
returns-clause-simplified c =
    simplified_thin c.args.history.now c.args.work.now _ c.args.simplified c.in_ok-nexts.nexts c.requires (c.in_ok-nexts.ensures.goals ∙ ap (λ gs. map distinct (goals_at c.args.work.now.bank gs)) c.as_slice.ensures.value) c.in_ok-nexts.ensures.inside
