use Rattle.nq_block.proofs.TermLemmas.{on_ok_two, shared_number}
use Rattle.nq_block.proofs.writer.Writer.variable_term.Goals as goal

pub returns-clause-writing : goal.returns-clause-writing
returns-clause-writing c =
    λ frame v is.
    on_ok_two c.share.result (λ updates rest. shared_number c.args.bank.now frame c.variable.new.self c.share.new.self (c.in_ok-variable.ensures.writing frame v is) c.args.t c.args.s c.requires.variable c.in_ok-variable.ensures.written updates rest)
    c.share.ensures.terms c.share.ensures.rest
