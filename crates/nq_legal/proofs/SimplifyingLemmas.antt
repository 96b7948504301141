-- Simplifications to goals in normal form.
use Rattle.std.proofs.Common.{◌≡◌, List, [], ◌∷◌, refl, sym, ap, subst}
use Rattle.nq_logic.specs.Formulas.{Formula, implies, conjunction, clause}
use Rattle.nq_logic.specs.Histories.{History}
use Rattle.nq_logic.specs.Derivations.{Derivable}
use Rattle.nq_bank.specs.declared.node.TermId.{TermId}
use Rattle.nq_bank.specs.Content.{terms_at}
use Rattle.nq_bank.proofs.Growth.{terms_at-grown}
use Rattle.nq_proof.specs.Clauses.{Clause}
use Rattle.nq_history.specs.declared.entry.Entry.{Entry}
use Rattle.nq_history.specs.declared.hints.Hints.{Hints}
use Rattle.nq_history.specs.Events.{events_at}
use Rattle.nq_event.specs.EventsAt.{hints_at}
use Rattle.nq_kernel.specs.declared.work.Work.{Work}
use Rattle.nq_kernel.specs.declared.verdict.MoveKind.TheVariants as kind
use Rattle.nq_cases.specs.Simplifying as cases
use Rattle.nq_goals.specs.Moves.{simplifies}
use Rattle.nq_goals.specs.Simplifying.{Simplifies, clauses}
use Rattle.nq_simplify.specs.Laws.{WaysSimplify}
use Rattle.nq_simplify.specs.Ways.{LeadsTo}
use Rattle.nq_simplify.specs.Simplified.{IsSimplified}
use Rattle.nq_simplify.specs.declared.steps.Simplified.{Simplified}
use Rattle.nq_simplify.proofs.SimplifiedLemmas.{simplified_grown}
use Rattle.nq_waterfall.specs.Ready.{CanMove, IsGoalIn}
use Rattle.nq_waterfall.specs.Trails.{goals_at}
use Rattle.nq_waterfall.proofs.HoldingLemmas.{goal_over}
use Rattle.nq_waterfall.proofs.SameLemmas.{goal_stands}
use Rattle.nq_legal.specs.declared.way.Way.TheVariants as way
use Rattle.nq_legal.specs.Legal.{IsLegal}
use Rattle.nq_legal.specs.Plain.{ArePlain}

clauses_same : (cs : List Clause) → cases.clauses cs ≡ clauses cs
clauses_same [] = refl
clauses_same (c ∷ cs) = ap (λ (fs : List Formula). clause c ∷ fs) (clauses_same cs)

simplifies_so : (h : History) (goal : Clause) (nexts : List Clause) → cases.Simplifies h goal nexts → Simplifies h goal nexts
simplifies_so h goal nexts s =
    record { each = s.each; together = subst (λ (fs : List Formula). Derivable h (implies (conjunction fs) (clause goal))) (clauses_same nexts) s.together }

-- a simplification to goals in normal form is legal, whatever stands above
pub simplification_legal : (history : List Entry) (hints : Hints) (work : Work) (goal : List TermId) (s : Simplified) → WaysSimplify → CanMove history hints work → IsGoalIn history work goal →
    IsSimplified history work (terms_at work.bank goal) s → ArePlain (events_at work.bank history) (hints_at work.bank hints) (goals_at work.bank s.nexts.items) →
    IsLegal history hints work goal (record { kind = kind.Simp; nexts = s.nexts; way = way.Simplified s.way })
simplification_legal history hints work goal s law ready goal_in h plain =
    λ path. record {
      move =
          simplifies (terms_at work.bank goal) (goals_at work.bank s.nexts.items)
          (simplifies_so (events_at work.bank history) (terms_at work.bank goal) (goals_at work.bank s.nexts.items)
          (law history work s.way (terms_at work.bank goal) (goals_at work.bank s.nexts.items) ready.holds (goal_over history work goal goal_in) h.way h.leads))
          plain.normal plain.once;
      nexts_in = h.nexts;
      way_back = λ later grows.
          let there : IsSimplified history later (terms_at work.bank goal) s = simplified_grown history work later ready.stands grows (terms_at work.bank goal) s h in (
            there.way,
            subst (λ (g : Clause). LeadsTo later s.way g (goals_at later.bank s.nexts.items)) (sym (terms_at-grown work.bank later.bank goal grows.bank (goal_stands history work goal goal_in))) there.leads,
          );
    }
