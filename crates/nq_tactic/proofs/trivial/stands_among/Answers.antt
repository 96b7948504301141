use Rattle.nq_tactic.proofs.LineLemmas.{among_get}
use Rattle.nq_tactic.proofs.trivial.stands_among.Goals as goal

pub returns-then-u-t : goal.returns-then-u-t
returns-then-u-t c = λ _. among_get c.args.terms.now c.loop-u.u-index c.args.t (record { 0 = 0 }) c.loop-u-test.true c.if-u-t.true
