use Rattle.std.proofs.Common.{sym, subst}
use Rattle.nq_rule.specs.Inductions.{HypothesisStands}
use Rattle.nq_kernel.proofs.inductions.measure_falls.Goals as goal

pub falls_at-requires-clause-step : goal.falls_at-requires-clause-step
falls_at-requires-clause-step c = subst (HypothesisStands c.args.bank.now) (sym c.step-item.is) (c.requires.steps c.loop-step.step-index c.step-item.result c.loop-step-test.true)
