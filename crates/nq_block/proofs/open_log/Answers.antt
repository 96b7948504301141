use Rattle.nq_block.proofs.OpenLaws.{log_begins_law, block_follows_law, log_ends_law}
use Rattle.nq_block.proofs.open_log.Goals as goal

pub returns-clause-begins : goal.returns-clause-begins
returns-clause-begins c = log_begins_law

pub returns-clause-follows : goal.returns-clause-follows
returns-clause-follows c = block_follows_law

pub returns-clause-ends : goal.returns-clause-ends
returns-clause-ends c = log_ends_law
