use Rattle.nq_events.specs.Parts.{measure_in}
use Rattle.nq_event.specs.Shapes.{no_measure}
use Rattle.nq_sexp.specs.Tree.{tree}
use Rattle.nq_event.proofs.ReadLemmas.{list_read, list_unread}
use Rattle.nq_event.proofs.parts.measures_of.Goals as goal

pub returns-then-are_measures : goal.returns-then-are_measures
returns-then-are_measures c = list_read measure_in no_measure (tree c.args.form.now) c.in_ok-forms.forms.now c.are_measures.result c.in_ok-forms.ensures c.are_measures.ensures c.if-are_measures.true

pub returns-else-are_measures : goal.returns-else-are_measures
returns-else-are_measures c = list_unread measure_in (tree c.args.form.now) c.in_ok-forms.forms.now c.are_measures.result c.in_ok-forms.ensures c.are_measures.ensures c.if-are_measures.false
