use Rattle.nq_form.proofs.Widths.{lists_are_narrow}
use Rattle.nq_form.proofs.lists_are_narrow.Goals as goal

pub returns : goal.returns
returns c = lists_are_narrow
