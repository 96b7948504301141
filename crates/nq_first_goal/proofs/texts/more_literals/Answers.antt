use Rattle.std.proofs.Common.{arith}
use Rattle.nq_first_goal.proofs.TextLemmas.{literal_put}
use Rattle.nq_first_goal.proofs.texts.more_literals.Goals as goal

pub loop-literal-preserved : goal.loop-literal-preserved
loop-literal-preserved c =
    literal_put c.args.bank.now c.args.literals.now c.loop-literal.literal-index (record { 0 = 0 }) c.args.text.now.items c.loop-literal.text.items c.extend_from_slice.new.self.items c.print_term.new.out.items
    (omega (arith, c.loop-literal-test)) c.loop-literal.invariant c.in_ok-extend_from_slice.ensures.items c.in_ok-print_term.ensures.ok
