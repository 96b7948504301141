use Rattle.std.proofs.Common.{◌∙◌}
use Rattle.nq_block.proofs.TermLemmas.{on_ok_three, new_variable}
use Rattle.nq_block.proofs.writer.Writer.variable.Goals as goal

pub returns-clause-writing : goal.returns-clause-writing
returns-clause-writing c =
    λ frame v is.
    on_ok_three c.put_variable.result
    (λ adds same updates. new_variable c.args.bank.now frame c.args.self.now c.put_variable.new.self v c.args.s c.in_ok-name.name (c.in_ok-name.ensures ∙ c.text.ensures.value) is adds same updates)
    c.put_variable.ensures.adds c.put_variable.ensures.terms c.put_variable.ensures.variables
