use Rattle.nq_logic.proofs.ShellRows.{one_clause_for_row_law, base_rows_need_base_law}
use Rattle.nq_logic.proofs.histories.shell_rows_are_single.Goals as goal

pub returns-clause-single : goal.returns-clause-single
returns-clause-single c = one_clause_for_row_law

pub returns-clause-base : goal.returns-clause-base
returns-clause-base c = base_rows_need_base_law
