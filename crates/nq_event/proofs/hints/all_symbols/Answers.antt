use Rattle.std.proofs.Common.{[]}
use Rattle.nq_events.specs.Parts.{symbol_in}
use Rattle.nq_event.proofs.ReadLemmas.{all_read, not_all_read}
use Rattle.nq_event.proofs.hints.all_symbols.Goals as goal

pub returns-then-are_symbols : goal.returns-then-are_symbols
returns-then-are_symbols c = all_read symbol_in [] c.args.forms.now c.are_symbols.result c.are_symbols.ensures c.if-are_symbols.true

pub returns-else-are_symbols : goal.returns-else-are_symbols
returns-else-are_symbols c = not_all_read symbol_in c.args.forms.now c.are_symbols.result c.are_symbols.ensures c.if-are_symbols.false
