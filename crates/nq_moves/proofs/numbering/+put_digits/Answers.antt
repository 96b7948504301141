use Rattle.std.proofs.Common.{arith}
use Rattle.nq_steps.proofs.MakingLemmas.{digits_put}
use Rattle.nq_moves.proofs.numbering.+put_digits.Goals as goal

pub returns : goal.returns
returns t c =
    λ places one most.
    digits_put places c.args.n c.args.text.now.items c.put_digits.new.text.items c.push-2.new.self.items (omega (arith, c.if-n-lt10.false)) most c.in_ok-put_digits.ensures c.in_ok-push-2.ensures.items
