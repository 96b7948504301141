use Rattle.std.proofs.Common.{[]}
use Rattle.nq_events.specs.Parts.{symbol_in}
use Rattle.nq_sexp.specs.Tree.{tree}
use Rattle.nq_event.proofs.ReadLemmas.{list_read, list_unread}
use Rattle.nq_event.proofs.lists.symbols_of.Goals as goal

pub returns-then-are_symbols : goal.returns-then-are_symbols
returns-then-are_symbols c = list_read symbol_in [] (tree c.args.form.now) c.in_ok-forms.forms.now c.are_symbols.result c.in_ok-forms.ensures c.are_symbols.ensures c.if-are_symbols.true

pub returns-else-are_symbols : goal.returns-else-are_symbols
returns-else-are_symbols c = list_unread symbol_in (tree c.args.form.now) c.in_ok-forms.forms.now c.are_symbols.result c.in_ok-forms.ensures c.are_symbols.ensures c.if-are_symbols.false
