use Rattle.std.proofs.Common.{◌∙◌, ap, subst, sym}
use Rattle.std.specs.Prelude.{All}
use Rattle.nq_kernel.proofs.GrowingLemmas.{WorkGrows-refl}
use Rattle.nq_waterfall.specs.Ready.{IsGoalIn}
use Rattle.nq_waterfall.specs.Trails.{goals_at}
use Rattle.nq_legal.proofs.eliminating.eliminated.Goals as goal

pub eliminate_below-requires-clause-goals : goal.eliminate_below-requires-clause-goals
eliminate_below-requires-clause-goals c = ap (goals_at c.args.work.now.bank) c.as_slice.ensures.value ∙ c.in-Ok.ensures.goals c.args.work.now.bank

pub eliminate_below-requires-clause-above : goal.eliminate_below-requires-clause-above
eliminate_below-requires-clause-above c =
    subst (All (λ g. IsGoalIn c.args.history.now c.args.work.now g.items)) (sym c.as_slice.ensures.value) (c.in-Ok.ensures.inside c.args.history.now c.args.work.now c.requires.path_in)

pub returns-in-Err-clause-grows : goal.returns-in-Err-clause-grows
returns-in-Err-clause-grows c = WorkGrows-refl c.args.history.now c.args.work.now c.requires.ready.stands
