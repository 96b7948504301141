use Rattle.nq_run.proofs.SessionLemmas.{no_lines, no_rules}
use Rattle.nq_run.proofs.shell_events.block_of_shell.Goals as goal

pub block_of-requires-clause-legal : goal.block_of-requires-clause-legal
block_of-requires-clause-legal c = no_lines c.args.bank.now c.args.history.now c.new-log.result c.new-log.ensures

pub block_of-requires-clause-over : goal.block_of-requires-clause-over
block_of-requires-clause-over c = no_rules c.args.bank.now c.args.history.now c.new-log.result c.new-log.ensures
