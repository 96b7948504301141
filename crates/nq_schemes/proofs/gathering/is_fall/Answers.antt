use Rattle.std.proofs.Common.{◌∙◌, sym}
use Rattle.nq_rule.specs.Inductions.{fall_literals}
use Rattle.nq_schemes.proofs.MadeLemmas.{tested_only}
use Rattle.nq_schemes.proofs.gathering.is_fall.Goals as goal

pub returns-in-Ok-clause-falls : goal.returns-in-Ok-clause-falls
returns-in-Ok-clause-falls c = λ yes. tested_only c.args.work.now c.args.line c.clause_over-clause.result.now (fall_literals c.args.work.now.bank c.args.measure c.args.test c.args.pairs.now) c.clause_over-clause.ensures.clause (sym c.in-Ok.ensures ∙ yes)
