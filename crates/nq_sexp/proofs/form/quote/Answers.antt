use Rattle.std.proofs.Common.{ap, ◌∙◌}
use Rattle.nq_form.specs.Form.{quoted}
use Rattle.nq_sexp.specs.Tree.{tree}
use Rattle.nq_sexp.specs.declared.Sexp.{Sexp}
use Rattle.nq_sexp.proofs.Trees.{tree-Quote}
use Rattle.nq_sexp.proofs.form.quote.Goals as goal

pub returns : goal.returns
returns c = tree-Quote _ ∙ ap (λ (z : Sexp). quoted (tree z)) c.in_ok-inner.ensures
