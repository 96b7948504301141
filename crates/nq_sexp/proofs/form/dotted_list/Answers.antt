use Rattle.nq_sexp.proofs.Trees.{tree-dotted_list}
use Rattle.nq_sexp.proofs.form.dotted_list.Goals as goal

pub returns : goal.returns
returns c = tree-dotted_list _ _ _ _ c.in_ok-items.ensures c.in_ok-tail.ensures
