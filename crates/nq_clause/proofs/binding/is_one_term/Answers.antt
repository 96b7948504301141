use Rattle.std.proofs.Common.{ap}
use Rattle.nq_bank.specs.Content.{Content}
use Rattle.nq_clause.specs.Binding.{bound_at}
use Rattle.nq_clause.proofs.BoundLemmas.{one_bound}
use Rattle.nq_clause.proofs.binding.is_one_term.Goals as goal

pub returns : goal.returns
returns c =
    let bank : Content = c.args.bank.now in (
      λ h. ap (bound_at bank) (c.is_same_bound.ensures.0 h),
      λ e. c.is_same_bound.ensures.1 (one_bound bank c.args.left c.args.right c.is_sound.ensures c.requires.left c.requires.right e),
    )
