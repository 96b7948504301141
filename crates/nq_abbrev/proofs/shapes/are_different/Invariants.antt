use Rattle.std.proofs.Common.{◌≡◌, length}
use Rattle.nq_form.specs.Form.{end}
use Rattle.nq_language.specs.Refusals.{are_different}
use Rattle.nq_sexp.specs.Tree.{trees}
use Rattle.nq_abbrev.proofs.shapes.are_different.Given as goal

abbrev pub decreases-loop-rest : goal.decreases-loop-rest
decreases-loop-rest l = length l.rest

abbrev pub invariant-loop-rest : goal.invariant-loop-rest
invariant-loop-rest l = are_different (trees l.initial.rest end) ≡ are_different (trees l.rest end)
