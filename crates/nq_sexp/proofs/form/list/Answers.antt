use Rattle.nq_sexp.proofs.Trees.{tree-list}
use Rattle.nq_sexp.proofs.form.list.Goals as goal

pub returns : goal.returns
returns c = tree-list _ _ c.in_ok-items.ensures
