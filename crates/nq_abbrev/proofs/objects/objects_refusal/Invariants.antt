use Rattle.std.proofs.Common.{◌≡◌, drop}
use Rattle.nq_form.specs.Form.{end}
use Rattle.nq_language.specs.Refusals.{objects_met}
use Rattle.nq_sexp.specs.Tree.{trees}
use Rattle.nq_abbrev.proofs.objects.objects_refusal.Given as goal

abbrev pub invariant-loop-form : goal.invariant-loop-form
invariant-loop-form l = objects_met (trees l.forms end) ≡ objects_met (trees (drop l.form-index l.forms) end)
