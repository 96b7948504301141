use Rattle.std.proofs.lemmas.Result.{on_ok_weaker}
use Rattle.nq_block.proofs.Keeping.{fits}
use Rattle.nq_block.proofs.RuleLemmas.{second_split_written}
use Rattle.nq_block.proofs.writer.Writer.second_split.Goals as goal

pub returns-clause-rule : goal.returns-clause-rule
returns-clause-rule c =
    λ bank frame clause v none over concluded low.
    on_ok_weaker c.put.result (λ adds. second_split_written bank frame c.args.self.now c.put.new.self clause v low c.args.line c.args.literal (fits c.args.line c.ranges.line) (fits c.args.literal c.ranges.literal) concluded adds) c.put.ensures.line
