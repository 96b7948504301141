use Rattle.std.proofs.Common.{◌≡◌, drop}
use Rattle.nq_language.specs.Refusals.{object_met, objects_met}
use Rattle.nq_sexp.specs.Tree.{tree, trees, tail_of}
use Rattle.nq_abbrev.proofs.objects.+object_refusal.Given as goal

abbrev pub decreases-object_refusal : goal.decreases-object_refusal
decreases-object_refusal l = goal.size-object_refusal l

-- it depends on what is left of the list
abbrev pub invariant-loop-item : goal.invariant-loop-item
invariant-loop-item l = object_met (tree l.form) ≡ objects_met (trees (drop l.item-index l.item-items) (tail_of l.tail))
