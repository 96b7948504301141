use Rattle.std.proofs.Common.{ap, subst, sym}
use Rattle.std.proofs.lemmas.Result.{on_ok_weaker}
use Rattle.nq_block.proofs.Keeping.{fits}
use Rattle.nq_proof.specs.Rules.{Replace}
use Rattle.nq_bank.specs.Content.{term_at}
use Rattle.nq_block.specs.Writing.{Concludes}
use Rattle.nq_block.proofs.RuleLemmas.{replace_written}
use Rattle.nq_block.proofs.writer.Writer.replaced.Goals as goal

pub returns-clause-rule : goal.returns-clause-rule
returns-clause-rule c =
    λ frame clause v none over concluded low.
    let same = ap (λ side. Replace c.args.line c.args.literal c.args.path.now (term_at c.args.bank.now c.args.t) side) c.sign_of.ensures in
    on_ok_weaker c.put.result
    (λ adds. replace_written c.args.bank.now frame c.term.new.self c.put.new.self clause (c.in_ok-term.ensures.writing frame v over.terms.0) low c.args.line c.args.literal c.args.path.now c.in_ok-path.path.items c.args.t c.number-term.result c.sign_of.result
    (fits c.args.line c.ranges.line) (fits c.args.literal c.ranges.literal) c.in_ok-path.ensures.fit c.in_ok-path.ensures.items c.in_ok-term.ensures.written c.number-term.ensures (subst (λ rule. Concludes frame rule clause) (sym same) concluded) adds)
    c.put.ensures.line
