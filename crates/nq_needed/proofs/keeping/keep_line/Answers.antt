use Rattle.nq_kernel.proofs.GrowingLemmas.{WorkGrows-refl}
use Rattle.nq_needed.proofs.keeping.keep_line.Goals as goal

pub returns-then-not-stands : goal.returns-then-not-stands
returns-then-not-stands c = WorkGrows-refl c.args.history.now c.args.kept.now c.requires.stands

pub keep_rule-requires-clause-rule : goal.keep_rule-requires-clause-rule
keep_rule-requires-clause-rule c = c.requires.rules.stand c.args.line c.rule.result.now c.rule.ensures

pub keep_rule-requires-clause-over : goal.keep_rule-requires-clause-over
keep_rule-requires-clause-over c = c.requires.rules.over c.args.line c.rule.result.now c.rule.ensures
