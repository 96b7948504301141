use Rattle.nq_events.specs.Parts.{part_in}
use Rattle.nq_event.specs.Shapes.{no_part}
use Rattle.nq_sexp.specs.Tree.{tree}
use Rattle.nq_event.proofs.ReadLemmas.{list_read, list_unread}
use Rattle.nq_event.proofs.shells.any_parts_of.Goals as goal

pub returns-then-are_parts : goal.returns-then-are_parts
returns-then-are_parts c = list_read part_in no_part (tree c.args.form.now) c.in_ok-forms.forms.now c.are_parts.result c.in_ok-forms.ensures c.are_parts.ensures c.if-are_parts.true

pub returns-else-are_parts : goal.returns-else-are_parts
returns-else-are_parts c = list_unread part_in (tree c.args.form.now) c.in_ok-forms.forms.now c.are_parts.result c.in_ok-forms.ensures c.are_parts.ensures c.if-are_parts.false
