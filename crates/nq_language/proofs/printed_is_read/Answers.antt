use Rattle.nq_language.proofs.PrintedForms.{printed_is_read as any}
use Rattle.nq_language.proofs.PrintedSymbols.{printed_over_symbols as over_symbols}
use Rattle.nq_language.proofs.printed_is_read.Goals as goal

pub returns-clause-any : goal.returns-clause-any
returns-clause-any c = any

pub returns-clause-over_symbols : goal.returns-clause-over_symbols
returns-clause-over_symbols c = over_symbols
