use Rattle.nq_block.proofs.SymbolLaws.{symbols_begin_law, symbols_grow_law, symbols_stay_law}
use Rattle.nq_block.proofs.spelled_names.Goals as goal

pub returns-clause-begins : goal.returns-clause-begins
returns-clause-begins c = symbols_begin_law

pub returns-clause-grows : goal.returns-clause-grows
returns-clause-grows c = symbols_grow_law

pub returns-clause-stays : goal.returns-clause-stays
returns-clause-stays c = symbols_stay_law
