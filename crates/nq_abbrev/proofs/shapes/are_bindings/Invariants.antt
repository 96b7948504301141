use Rattle.std.proofs.Common.{◌≡◌, drop}
use Rattle.nq_form.specs.Form.{end}
use Rattle.nq_language.specs.Refusals.{are_bindings}
use Rattle.nq_sexp.specs.Tree.{trees}
use Rattle.nq_abbrev.proofs.shapes.are_bindings.Given as goal

abbrev pub invariant-loop-form : goal.invariant-loop-form
invariant-loop-form l = are_bindings (trees l.forms end) ≡ are_bindings (trees (drop l.form-index l.forms) end)
