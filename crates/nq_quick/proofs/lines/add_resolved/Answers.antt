use Rattle.nq_bank.specs.Content.{term_at}
use Rattle.nq_quick.proofs.LineLemmas.{resolved_true, resolved_false}
use Rattle.nq_quick.proofs.lines.add_resolved.Goals as goal

pub returns-then-value-clause-line : goal.returns-then-value-clause-line
returns-then-value-clause-line c = resolved_true c.args.work.now c.add_cut.new.work c.add_cut.result c.args.value (term_at c.args.work.now.bank c.args.t) c.args.line c.args.other c.if-value.true c.add_cut.ensures.line

pub returns-else-value-clause-line : goal.returns-else-value-clause-line
returns-else-value-clause-line c = resolved_false c.args.work.now c.add_cut-else-value.new.work c.add_cut-else-value.result c.args.value (term_at c.args.work.now.bank c.args.t) c.args.line c.args.other c.if-value.false c.add_cut-else-value.ensures.line
