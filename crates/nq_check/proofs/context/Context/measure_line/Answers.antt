use Rattle.std.proofs.Common.{sym, ◌∙◌}
use Rattle.nq_check.specs.Contexts.{state_of}
use Rattle.nq_check.proofs.FunctionLemmas.{measure_denied, measure_goes_on}
use Rattle.nq_check.proofs.context.Context.measure_line.Goals as goal

pub returns-then-not-stand_for : goal.returns-then-not-stand_for
returns-then-not-stand_for c = measure_denied (state_of c.args.self.now) c.args.measure c.args.ordinal c.args.lines.now (sym c.stand_for.ensures ∙ c.if-not-stand_for.true)

pub returns : goal.returns
returns c = measure_goes_on c.args.self.now c.args.measure c.args.ordinal c.args.lines.now c.in_ok-falls.falls c.requires (sym c.stand_for.ensures ∙ c.if-not-stand_for.false) c.in_ok-falls.ensures.items
