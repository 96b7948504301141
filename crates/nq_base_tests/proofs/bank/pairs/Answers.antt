use Rattle.nq_bank.proofs.Growth.{Grows-refl, Grows-trans}
use Rattle.nq_base_tests.proofs.bank.pairs.Goals as goal

pub loop-i-init : goal.loop-i-init
loop-i-init c = Grows-refl c.args.bank.now

pub loop-i-preserved : goal.loop-i-preserved
loop-i-preserved c = Grows-trans c.args.bank.now c.loop-i.bank c.pair_number-sum.new.bank c.loop-i.invariant c.pair_number-sum.ensures
