-- Goals without copies of literals.
use Rattle.std.proofs.Common.{◌≡◌, List, Some, ap, ◌∙◌}
use Rattle.nq_logic.specs.Terms.{Term}
use Rattle.nq_bank.specs.declared.node.TermId.{TermId}
use Rattle.nq_bank.specs.Content.{Content, terms_at}
use Rattle.nq_proof.specs.Clauses.{distinct}
use Rattle.nq_rule.specs.Conclusions.{Concludes}
use Rattle.nq_goals.specs.Moves.{IsWithoutCopies}

by_some : (a b : List Term) → Some a ≡ Some b → a ≡ b
by_some a b e = cc

-- a goal that is its own clause has no copies
pub same_clause : (bank : Content) (goal ids : List TermId) → Concludes bank ids (Some (distinct (terms_at bank goal))) → ids ≡ goal → IsWithoutCopies (terms_at bank goal)
same_clause bank goal ids k e = by_some (distinct (terms_at bank goal)) (terms_at bank ids) k.concluded ∙ ap (terms_at bank) e
