use Rattle.std.proofs.lemmas.Result.{on_ok_weaker}
use Rattle.std.proofs.Common.{[], ◌∷◌}
use Rattle.nq_logtext.specs.Lines.{spelling}
use Rattle.nq_logtext.specs.Views.{view}
use Rattle.nq_block.proofs.Keeping.{longer}
use Rattle.nq_block.proofs.writer.Writer.put.Goals as goal

pub returns-clause-counted : goal.returns-clause-counted
returns-clause-counted c =
    λ counted.
    on_ok_weaker c.extend_from_slice.result
    (λ added. longer c.args.self.now.count c.args.self.now.text c.write_line.new.out c.extend_from_slice.new.self (spelling (view c.args.line)) (10 ∷ []) counted c.in_ok-write_line.ensures.ok added)
    c.extend_from_slice.ensures.ok
