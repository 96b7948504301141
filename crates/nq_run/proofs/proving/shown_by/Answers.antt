use Rattle.std.proofs.Common.{sym, ◌∙◌}
use Rattle.nq_run.proofs.ProvingLemmas.{stands_for_itself}
use Rattle.nq_run.proofs.proving.shown_by.Goals as goal

pub returns-then-not-logging : goal.returns-then-not-logging
returns-then-not-logging c = stands_for_itself c.args.history.now c.args.work c.args.found

pub in_fewer_lines-requires-clause-line : goal.in_fewer_lines-requires-clause-line
in_fewer_lines-requires-clause-line c = sym c.line_in.ensures ∙ c.in-Some.is

pub returns-in-None : goal.returns-in-None
returns-in-None c = stands_for_itself c.args.history.now c.args.work c.args.found
