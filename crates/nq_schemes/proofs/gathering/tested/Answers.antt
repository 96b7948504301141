use Rattle.std.proofs.Common.{List, sym, subst}
use Rattle.nq_clause.specs.declared.substitution.Pair.{Pair}
use Rattle.nq_rule.specs.Inductions.{fall_literals}
use Rattle.nq_lines.specs.Instances.{ArePairsIn}
use Rattle.nq_lines.specs.Lines.{LineHasOnly}
use Rattle.nq_schemes.proofs.gathering.tested.Goals as goal

pub is_fall-requires-clause-pairs : goal.is_fall-requires-clause-pairs
is_fall-requires-clause-pairs c = subst (ArePairsIn c.args.history.now c.args.work.now) (sym c.as_slice.ensures.value) c.requires.step.pairs

pub returns-then-falls-clause-step : goal.returns-then-falls-clause-step
returns-then-falls-clause-step c = record { pairs = c.requires.step.pairs; falls = subst (λ (ps : List Pair). LineHasOnly c.args.work.now c.args.step.line (fall_literals c.args.work.now.bank c.args.basis.now.measure c.args.test ps)) c.as_slice.ensures.value (c.in_ok-falls.ensures.falls c.if-falls.true) }
