-- An induction from a first goal.
use Rattle.std.proofs.Common.{◌≡◌, List, [], ◌∷◌, lit<}
use Rattle.std.specs.Prelude.{Option, Some, None, IfSome}
use Rattle.nq_logic.specs.Terms.{Term}
use Rattle.nq_logic.specs.Histories.{History}
use Rattle.nq_bank.specs.Content.{Content, term_at}
use Rattle.nq_events.specs.Events.{Hints}
use Rattle.nq_goals.specs.Moves.{IsMove}
use Rattle.nq_goals.specs.declared.kinds.MoveKind.TheVariants.{Ind}
use Rattle.nq_tracer.specs.declared.nexts.Nexts.{Nexts}
use Rattle.nq_tracer.specs.Leads.{IsDue, IsInduction}
use Rattle.nq_tracer.proofs.LeadLemmas.{induction_moves}

pub moves_found : (h : History) (hints : Hints) (goal : List Term) (new : Content) (found : Option Nexts) → IsDue h hints goal → IfSome found (λ n. IsInduction h goal (term_at new n.base) (term_at new n.step))
    → IfSome found (λ n. IsMove h hints [] Ind goal ((term_at new n.base ∷ []) ∷ (term_at new n.step ∷ []) ∷ []))
moves_found h hints goal new None due leads = tt
moves_found h hints goal new (Some n) due leads = induction_moves h hints [] goal (term_at new n.base) (term_at new n.step) due (λ s. s.inducted) (lit< tt) leads
