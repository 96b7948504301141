-- Inductions that are legal.
use Rattle.std.proofs.Common.{◌≡◌, ◌∙◌, ◌∷◌, [], List, Option, Some, ap, sym, subst}
use Rattle.std.specs.Prelude.{All, IfSome, Vec}
use Rattle.std.specs.declared.alloc.Global.{Global}
use Rattle.nq_logic.specs.Terms.{Term}
use Rattle.nq_bank.specs.declared.node.TermId.{TermId}
use Rattle.nq_bank.specs.Content.{Stands, term_at, terms_at}
use Rattle.nq_bank.proofs.Growth.{term_at-grown}
use Rattle.nq_history.specs.declared.entry.Entry.{Entry}
use Rattle.nq_history.specs.declared.hints.Hints.{Hints}
use Rattle.nq_history.specs.Events.{events_at}
use Rattle.nq_event.specs.EventsAt.{hints_at}
use Rattle.nq_events.specs.Events as model
use Rattle.nq_logic.specs.Histories.{History}
use Rattle.nq_kernel.specs.declared.work.Work.{Work}
use Rattle.nq_kernel.specs.declared.verdict.MoveKind.TheVariants as kind
use Rattle.nq_kernel.specs.Growing.{WorkGrows}
use Rattle.nq_kernel.specs.Over.{TermIsIn}
use Rattle.nq_lines.specs.Lines.{IsTermIn}
use Rattle.nq_goals.specs.Inducting.{scheme_calls, suggesting_in}
use Rattle.nq_goals.specs.Moves.{StartsInduction, inducts}
use Rattle.nq_goals.specs.Normal.{IsNormal}
use Rattle.nq_goals.specs.Paths.{Above}
use Rattle.nq_goals.specs.Spent.{IsFalse}
use Rattle.nq_waterfall.specs.declared.trail.Ancestor.{Ancestor}
use Rattle.nq_waterfall.specs.Ready.{CanMove, IsGoalIn}
use Rattle.nq_waterfall.specs.Trails.{above_at, goals_at, AncestorStands}
use Rattle.nq_waterfall.specs.Turns.{IsLead}
use Rattle.nq_waterfall.proofs.SameLemmas.{goal_stands, scene_grown}
use Rattle.nq_legal.specs.declared.way.Way.TheVariants as way
use Rattle.nq_legal.specs.declared.form.Form.TheVariants.{Normal}
use Rattle.nq_legal.specs.Forms.{IsForm}
use Rattle.nq_legal.specs.Inducting.{IsInductionBy}
use Rattle.nq_legal.specs.Leaving.{IsToHint, IsToInduct}
use Rattle.nq_legal.specs.Legal.{IsWay, NormalAt}

-- an induction to these goals is legal
pub induction_leads : (history : List Entry) (hints : Hints) (work : Work) (path : List Ancestor) (goal : List TermId) (nexts : Vec (Vec TermId Global) Global) → NormalAt work.bank history hints goal →
    StartsInduction (events_at work.bank history) (hints_at work.bank hints) (above_at work.bank path) (terms_at work.bank goal) →
    IsInductionBy (events_at work.bank history) (scheme_calls (events_at work.bank history) (hints_at work.bank hints) (above_at work.bank path) (terms_at work.bank goal)) (terms_at work.bank goal) (goals_at work.bank nexts.items) → All (λ next. IsGoalIn history work next.items) nexts.items →
    IsLead IsWay history hints work path goal (record { kind = kind.Ind; nexts = nexts; way = way.Inducted })
induction_leads history hints work path goal nexts normal starts i inside =
    record {
      move = inducts (terms_at work.bank goal) (goals_at work.bank nexts.items) normal starts (record { scheme = i.scheme; suggested = i.suggested; next = i.next });
      nexts_in = inside;
      way_back = λ later grows. tt;
    }

-- where an induction may start, it may start still
pub record MayStart (h : History) (hints : model.Hints) (above : Above) (goal : List Term) : Type 0 where
  pub starts : StartsInduction h hints above goal
  pub calls : scheme_calls h hints above goal ≡ suggesting_in h goal

pub start_grown : (history : List Entry) (hints : Hints) (old new : Work) (path : List Ancestor) (goal : List TermId) → CanMove history hints old → WorkGrows history old new → All (AncestorStands old.bank) path → IsGoalIn history old goal →
    IsToInduct old.bank history hints path goal → IsToInduct new.bank history hints path goal
start_grown history hints old new path goal ready grows above goal_in to =
    let there : MayStart (events_at new.bank history) (hints_at new.bank hints) (above_at new.bank path) (terms_at new.bank goal) = scene_grown history hints old new path goal MayStart ready grows above (goal_stands history old goal goal_in) (record { starts = to.starts; calls = to.calls }) in
    record { starts = there.starts; calls = there.calls }

-- the same by the call of a hint
pub record MayStartBy (call : Term) (h : History) (hints : model.Hints) (above : Above) (goal : List Term) : Type 0 where
  pub starts : StartsInduction h hints above goal
  pub calls : scheme_calls h hints above goal ≡ call ∷ []

pub hint_grown : (history : List Entry) (hints : Hints) (old new : Work) (path : List Ancestor) (goal : List TermId) (call : TermId) → CanMove history hints old → WorkGrows history old new → All (AncestorStands old.bank) path → IsGoalIn history old goal →
    Stands old.bank call → IsToHint old.bank history hints path goal call → IsToHint new.bank history hints path goal call
hint_grown history hints old new path goal call ready grows above goal_in stands to =
    let there : MayStartBy (term_at old.bank call) (events_at new.bank history) (hints_at new.bank hints) (above_at new.bank path) (terms_at new.bank goal) =
    scene_grown history hints old new path goal (MayStartBy (term_at old.bank call)) ready grows above (goal_stands history old goal goal_in) (record { starts = to.starts; calls = to.calls }) in
    record { hint = to.hint; starts = there.starts; calls = there.calls ∙ ap (λ (u : Term). u ∷ []) (sym (term_at-grown old.bank new.bank call grows.bank stands)) }

-- the call of a hint stands, over the functions of the history
pub hint_in : (history : List Entry) (hints : Hints) (work : Work) (call : TermId) → CanMove history hints work → hints.induct ≡ Some call → IsTermIn history work call
hint_in history hints work call ready is =
    record {
      stands = subst (λ (o : Option TermId). IfSome o (Stands work.bank)) is ready.hints_stand.induct;
      over = subst (λ (o : Option TermId). IfSome o (λ t. TermIsIn work.bank history t)) is ready.hints_in.induct;
    }

-- an induction by some calls is one by these
pub by_calls : (h : History) (calls these goal : List Term) (nexts : List (List Term)) → these ≡ calls → IsInductionBy h calls goal nexts → IsInductionBy h these goal nexts
by_calls h calls these goal nexts same i = subst (λ (ts : List Term). IsInductionBy h ts goal nexts) (sym same) i

-- a goal that is in normal form and not false is so still
pub record IsOpen (h : History) (hints : model.Hints) (above : Above) (goal : List Term) : Type 0 where
  pub normal : IsNormal h hints goal
  pub not_false : IsFalse h goal → ⊥

pub form_grown : (history : List Entry) (hints : Hints) (old new : Work) (path : List Ancestor) (goal : List TermId) → CanMove history hints old → WorkGrows history old new → All (AncestorStands old.bank) path → IsGoalIn history old goal →
    IsForm old.bank history hints path goal Normal → IsForm new.bank history hints path goal Normal
form_grown history hints old new path goal ready grows above goal_in f =
    let there : IsOpen (events_at new.bank history) (hints_at new.bank hints) (above_at new.bank path) (terms_at new.bank goal) = scene_grown history hints old new path goal IsOpen ready grows above (goal_stands history old goal goal_in) (record { normal = f.0; not_false = f.1 }) in
    (there.normal, there.not_false)
