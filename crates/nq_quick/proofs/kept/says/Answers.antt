use Rattle.std.proofs.Common.{ap}
use Rattle.std.specs.Option.{option_map}
use Rattle.nq_bank.specs.Content.{terms_at}
use Rattle.nq_quick.proofs.kept.says.Goals as goal

pub returns : goal.returns
returns c =
    λ e. record {
      literals = terms_at c.args.work.now.bank c.clause_over-literals.result.now;
      stands = ap (option_map (terms_at c.args.work.now.bank)) c.clause_over-literals.ensures.clause;
      only = c.are_literals.ensures e;
    }
