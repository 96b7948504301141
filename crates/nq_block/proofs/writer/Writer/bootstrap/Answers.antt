use Rattle.std.proofs.lemmas.Result.{on_ok_weaker}
use Rattle.nq_block.proofs.ClosingLines.{bootstrap_closed}
use Rattle.nq_block.proofs.writer.Writer.bootstrap.Goals as goal

pub returns : goal.returns
returns c = λ bank frame v alone parts cases can. on_ok_weaker c.put.result (λ adds. bootstrap_closed bank frame c.args.self.now c.put.new.self v alone parts cases adds) c.put.ensures.line
