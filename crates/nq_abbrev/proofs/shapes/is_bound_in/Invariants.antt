use Rattle.std.proofs.Common.{◌≡◌, drop}
use Rattle.nq_form.specs.Form.{end}
use Rattle.nq_language.specs.Refusals.{is_bound_in}
use Rattle.nq_sexp.specs.Tree.{trees}
use Rattle.nq_abbrev.specs.Pairs.{name_at}
use Rattle.nq_abbrev.proofs.shapes.is_bound_in.Given as goal

abbrev pub invariant-loop-form : goal.invariant-loop-form
invariant-loop-form l = is_bound_in (name_at l.name) (trees l.forms end) ≡ is_bound_in (name_at l.name) (trees (drop l.form-index l.forms) end)
