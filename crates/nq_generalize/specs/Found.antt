-- Terms that are generalized, and what their GEN leads to.
use Rattle.std.specs.Prelude.{◌≡◌, false, List, [], All, Vec}
use Rattle.std.specs.declared.alloc.Global.{Global}
use Rattle.nq_logic.specs.Terms.{Term}
use Rattle.nq_logic.specs.Histories.{History}
use Rattle.nq_logic.specs.Values.{is_value}
use Rattle.nq_bank.specs.declared.node.TermId.{TermId}
use Rattle.nq_bank.specs.Content.{Content, Stands, term_at, terms_at}
use Rattle.nq_proof.specs.Clauses.{distinct}
use Rattle.nq_events.specs.Events.{Hints}
use Rattle.nq_goals.specs.Generalizing.{GeneralizeCandidate, GeneralizeMove}
use Rattle.nq_moves.specs.declared.moved.Moved.{Moved}
use Rattle.nq_moves.specs.Found.{goals_at}

-- candidates of the goal, at least one and each once
pub record AreChosen (bank : Content) (h : History) (hints : Hints) (goal terms : List TermId) : Type 0 where
  pub some : terms ≡ [] → ⊥
  pub each : All (λ t. GeneralizeCandidate h hints (terms_at bank goal) (term_at bank t)) terms
  pub values : All (λ t. is_value (term_at bank t) ≡ false) terms
  pub stand : All (Stands bank) terms
  pub apart : distinct (terms_at bank terms) ≡ terms_at bank terms

-- the move leads from the goal on the path to the goals of a GEN
pub record Generalizes (h : History) (hints : Hints) (old new : Content) (path : List (Vec TermId Global)) (goal : List TermId) (moved : Moved) : Type 0 where
  pub leads : GeneralizeMove h hints (goals_at old path) (terms_at old goal) (goals_at new moved.children.items)
