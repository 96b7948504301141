use Rattle.nq_events.specs.Parts.{type_in, Meta}
use Rattle.nq_sexp.specs.Tree.{tree}
use Rattle.nq_event.proofs.ReadLemmas.{list_read, list_unread}
use Rattle.nq_event.proofs.parts.types_of.Goals as goal

pub returns-then-are_types : goal.returns-then-are_types
returns-then-are_types c = list_read type_in Meta (tree c.args.form.now) c.in_ok-forms.forms.now c.are_types.result c.in_ok-forms.ensures c.are_types.ensures c.if-are_types.true

pub returns-else-are_types : goal.returns-else-are_types
returns-else-are_types c = list_unread type_in (tree c.args.form.now) c.in_ok-forms.forms.now c.are_types.result c.in_ok-forms.ensures c.are_types.ensures c.if-are_types.false
