use Rattle.nq_events.specs.WrittenHints.{hint_in}
use Rattle.nq_event.specs.Hints.{no_hint}
use Rattle.nq_sexp.specs.Tree.{tree}
use Rattle.nq_event.proofs.ReadLemmas.{list_read, list_unread}
use Rattle.nq_event.proofs.hints.hints_of.Goals as goal

pub returns-then-are_hints : goal.returns-then-are_hints
returns-then-are_hints c = list_read hint_in no_hint (tree c.args.form.now) c.in_ok-forms.forms.now c.are_hints.result c.in_ok-forms.ensures c.are_hints.ensures c.if-are_hints.true

pub returns-else-are_hints : goal.returns-else-are_hints
returns-else-are_hints c = list_unread hint_in (tree c.args.form.now) c.in_ok-forms.forms.now c.are_hints.result c.in_ok-forms.ensures c.are_hints.ensures c.if-are_hints.false
