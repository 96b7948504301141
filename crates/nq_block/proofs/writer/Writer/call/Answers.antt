use Rattle.std.proofs.Common.{◌∙◌}
use Rattle.nq_block.proofs.TermLemmas.{on_ok_three, new_call}
use Rattle.nq_block.proofs.writer.Writer.call.Goals as goal

pub returns-clause-writing : goal.returns-clause-writing
returns-clause-writing c =
    λ frame v over.
    on_ok_three c.put_term.result
    (λ adds updates same. new_call c.args.bank.now frame c.args.self.now c.put_term.new.self v c.args.t c.args.function c.args.arguments.now c.in_ok-function.function c.in_ok-arguments.arguments.items (c.in_ok-function.ensures ∙ c.text.ensures.value)
    c.in_ok-arguments.ensures c.requires.stands c.requires.call c.requires.written over adds updates same)
    c.put_term.ensures.adds c.put_term.ensures.terms c.put_term.ensures.variables
