use Rattle.std.proofs.Common.{◌<◌, sym, ◌∙◌, subst}
use Rattle.nq_logic.specs.Terms.{Term}
use Rattle.nq_logic.specs.Sizes.{depth_of, depth_limit}
use Rattle.nq_abbrev.proofs.ScopeLemmas.{deep_bound}
use Rattle.nq_abbrev.proofs.scope.variable.Goals as goal

pub returns-in-None-clause-deep : goal.returns-in-None-clause-deep
returns-in-None-clause-deep c =
    λ e.
    subst (λ (t : Term). depth_limit < depth_of t) (sym c.loop-binding.invariant) (deep_bound c.args.bank.now c.args.scope.now c.loop-binding.binding-index _ c.args.name.now c.loop-binding-test.true (sym c.eq.ensures ∙ c.if-eq.true) c.in-None.is)
