-- Goals that are judged over a bank.
use Rattle.std.proofs.Common.{◌≡◌, ◌∙◌, ◌≤◌, length, Bool, true, false, refl, Option, Some, None, List, [], ◌∷◌, map, ap, sym, subst, arith}
use Rattle.std.specs.Prelude.{All, IsTrue, ◌↔◌, MatchOption, Vec}
use Rattle.std.specs.declared.alloc.Global.{Global}
use Rattle.nq_logic.specs.Terms.{Term, Each}
use Rattle.nq_logic.specs.Histories.{History}
use Rattle.nq_bank.specs.declared.node.TermId.{TermId}
use Rattle.nq_bank.specs.Content.{Content, Grows, Stands, term_at, terms_at}
use Rattle.nq_bank.proofs.NodesLemmas.{All-head, All-tail}
use Rattle.nq_proof.specs.Rules.{pair_terms}
use Rattle.nq_history.specs.declared.entry.Entry.{Entry}
use Rattle.nq_history.specs.declared.hints.Hints.{Hints}
use Rattle.nq_history.specs.declared.hints.Instance.{Instance}
use Rattle.nq_history.specs.Events.{events_at, HistoryStands}
use Rattle.nq_history.proofs.HistoryLemmas.{events_at-grown}
use Rattle.nq_history.proofs.Lists.{All-cons, All-none}
use Rattle.nq_clause.specs.declared.substitution.Pair.{Pair}
use Rattle.nq_kernel.specs.declared.rule.Line.{Line}
use Rattle.nq_kernel.specs.declared.work.Work.{Work}
use Rattle.nq_kernel.specs.Growing.{PrescriptionStands, WorkStands}
use Rattle.nq_kernel.specs.Hints.{HintsAreIn, PairIsIn}
use Rattle.nq_kernel.specs.Meaning.{IsOver as LogIsOver}
use Rattle.nq_kernel.specs.Over.{TermIsIn}
use Rattle.nq_kernel.specs.Ready.{IsReady}
use Rattle.nq_comment.specs.declared.step.Cause.{Cause}
use Rattle.nq_comment.specs.declared.step.ShownStep.{ShownStep}
use Rattle.nq_comment.specs.ReportViews.{steps_of}
use Rattle.nq_comment.specs.declared.step.Cause.TheVariants.{False, NoInduction, Loop, Forbidden, Depth}
use Rattle.nq_history.specs.Hints.{HintsStand}
use Rattle.nq_events.specs.Events as model
use Rattle.nq_event.proofs.HintSumLemmas.{hints_same}
use Rattle.nq_event.specs.EventsAt.{hints_at, instance_at, pair_at}
use Rattle.nq_goals.specs.Hints.{first_goal}
use Rattle.nq_goals.specs.Spent.{IsFalse, IsSpent}
use Rattle.nq_goals.specs.declared.kinds.Cause.TheVariants as goals
use Rattle.nq_ground_goals.specs.Literals.{IsLiteral}
use Rattle.nq_goals.proofs.SolverLaws.{solver_laws}
use Rattle.nq_comment.specs.Reports.{ShownStep as ToldStep}
use Rattle.nq_answers.specs.Shown.{ShowsTree}
use Rattle.nq_first_goal.specs.declared.judging.Judged.{Judged}
use Rattle.nq_first_goal.specs.Judging.{GoalFailsBy, IsCauseOf, IsJudged, cause_if, failing, is_left, steps_unless, unless}
use Rattle.nq_uses.proofs.Overs.{IsOver, first_goal_over}

-- ---- work on a bank

log_over : (bank : Content) (log : List Line) → log ≡ [] → LogIsOver bank log
log_over bank log none = subst (LogIsOver bank) (sym none) (record { stand = λ i d below. absurd (omega (arith, below)) })

-- with no line yet
pub work_stands : (history : List Entry) (bank : Content) (work : Work) → HistoryStands bank history → work.bank ≡ bank → work.log ≡ [] → work.known.items ≡ [] → WorkStands history work
work_stands history bank work stands bank_is none unknown =
    record {
      log = log_over work.bank work.log none;
      history = subst (λ (b : Content). HistoryStands b history) (sym bank_is) stands;
      known = subst (All (PrescriptionStands work.bank work.log)) (sym unknown) (λ i d below. absurd (omega (arith, below)));
    }

-- ---- literals

-- the pairs of the instances that hints name are over the history
pairs_over : (bank : Content) (history : List Entry) (pairs : List Pair) → All (PairIsIn bank history) pairs → Each (IsOver (events_at bank history)) (pair_terms (map (pair_at bank) pairs))
pairs_over bank history [] all = tt
pairs_over bank history (p ∷ pairs) all = ((All-head (PairIsIn bank history) p pairs all).term, pairs_over bank history pairs (All-tail (PairIsIn bank history) p pairs all))

instances_over : (bank : Content) (history : List Entry) (instances : List Instance) → All (λ i. All (PairIsIn bank history) i.pairs.items) instances
    → Each (λ (i : model.Instance). Each (IsOver (events_at bank history)) (pair_terms i.pairs)) (map (instance_at bank) instances)
instances_over bank history [] all = tt
instances_over bank history (i ∷ instances) all = (
  pairs_over bank history i.pairs.items (All-head (λ (i : Instance). All (PairIsIn bank history) i.pairs.items) i instances all),
  instances_over bank history instances (All-tail (λ (i : Instance). All (PairIsIn bank history) i.pairs.items) i instances all),
)

literals_by : (bank : Content) (history : List Entry) (ids : List TermId) → All (Stands bank) ids → Each (IsOver (events_at bank history)) (terms_at bank ids) → All (IsLiteral bank history) ids
literals_by bank history [] stand over = All-none (IsLiteral bank history)
literals_by bank history (t ∷ ids) stand over =
    All-cons (IsLiteral bank history) t ids (record { stands = All-head (Stands bank) t ids stand; over = over.0 }) (literals_by bank history ids (All-tail (Stands bank) t ids stand) over.1)

module _ (bank later : Content) (history : List Entry) (hints : Hints) (goal : TermId) (stands : HistoryStands bank history) (grows : Grows bank later) where
  abbrev h : History
  h = events_at bank history

  events_kept : events_at later history ≡ h
  events_kept = events_at-grown bank later grows history stands.entries

  pub ready_kept : IsReady h → IsReady (events_at later history)
  ready_kept ready = subst IsReady (sym events_kept) ready

  -- the literals of the first goal
  pub literals_are : (ids : List TermId) → IsReady h → HintsAreIn bank history hints → TermIsIn bank history goal → All (Stands later) ids → terms_at later ids ≡ first_goal h (hints_at bank hints) (term_at bank goal)
      → All (IsLiteral later history) ids
  literals_are ids ready hints_in over stand are =
      let each : Each (IsOver h) (terms_at later ids) =
      subst (Each (IsOver h)) (sym are) (first_goal_over h (hints_at bank hints) (term_at bank goal) ready (instances_over bank history hints.instances.items hints_in.instances) over) in
      literals_by later history ids stand (subst (λ (k : History). Each (IsOver k) (terms_at later ids)) (sym events_kept) each)

  -- what was told of them is told of the first goal
  pub judged_before : (ids : List TermId) (told given : Judged) → HintsStand bank hints → terms_at later ids ≡ first_goal h (hints_at bank hints) (term_at bank goal)
      → IsJudged (events_at later history) (hints_at later hints) (terms_at later ids) told → given.text ≡ told.text → given.cause ≡ told.cause → given.steps ≡ told.steps
      → IsJudged h (hints_at bank hints) (first_goal h (hints_at bank hints) (term_at bank goal)) given
  judged_before ids told given stand are judged text same steps =
      let kept : IsJudged h (hints_at bank hints) (terms_at later ids) told =
      subst (λ (k : model.Hints). IsJudged h k (terms_at later ids) told) (hints_same bank later grows hints stand) (subst (λ (k : History). IsJudged k (hints_at later hints) (terms_at later ids) told) events_kept judged) in
      let here : IsJudged h (hints_at bank hints) (first_goal h (hints_at bank hints) (term_at bank goal)) told = subst (λ (ts : List Term). IsJudged h (hints_at bank hints) ts told) are kept in
      record {
        text = ap (λ v. v.items) text ∙ here.text;
        cause =
            let first : List Term = first_goal h (hints_at bank hints) (term_at bank goal) in
            subst (λ (s : Vec ShownStep Global). MatchOption given.cause (IsFalse h first → ⊥) (IsCauseOf h (hints_at bank hints) first (steps_of s.items))) (sym steps)
            (subst (λ (o : Option Cause). MatchOption o (IsFalse h first → ⊥) (IsCauseOf h (hints_at bank hints) first (steps_of told.steps.items))) (sym same) here.cause);
      }

-- a first goal that is left over is a tree without a step
no_step : (h : History) (hints : model.Hints) (goal : List Term) → IsSpent h hints [] goal goals.NoInduction → ShowsTree h hints goal [] NoInduction
no_step h hints goal spent = record {
  steps = [];
  tree = solver_laws.failed h hints goal [] goals.NoInduction (solver_laws.spent h hints [] goal 0 [] goals.NoInduction spent);
  shown_is = refl;
}

-- the cause and the steps, by the two tests and by the steps that were found
pub cause_told : (h : History) (hints : model.Hints) (goal : List Term) (falsity stuck : Bool) (found : List ToldStep) → IsTrue falsity ↔ IsFalse h goal
    → (stuck ≡ true → (IsFalse h goal → ⊥) → IsSpent h hints [] goal goals.NoInduction) → GoalFailsBy h hints goal found
    → MatchOption (cause_if falsity (is_left stuck found)) (IsFalse h goal → ⊥) (IsCauseOf h hints goal (steps_unless falsity stuck found))
cause_told h hints goal true stuck found tells spent fails = (tells.0 refl, refl)
cause_told h hints goal false stuck found tells spent fails = by_tests stuck found spent fails
  where
    open_goal : IsFalse h goal → ⊥
    open_goal f = let yes : false ≡ true = tells.1 f in absurd cc

    some_step : (step : ToldStep) (steps : List ToldStep) → step ∷ steps ≡ [] → ⊥
    some_step step steps e = cc

    by_tests : (stuck : Bool) (found : List ToldStep) → (stuck ≡ true → (IsFalse h goal → ⊥) → IsSpent h hints [] goal goals.NoInduction) → GoalFailsBy h hints goal found
        → MatchOption (cause_if false (is_left stuck found)) (IsFalse h goal → ⊥) (IsCauseOf h hints goal (steps_unless false stuck found))
    by_tests true [] spent fails = record { not_false = open_goal; tree = no_step h hints goal (spent refl open_goal) }
    by_tests true (step ∷ steps) spent fails = record { not_false = open_goal; tree = no_step h hints goal (spent refl open_goal) }
    by_tests false [] spent fails = open_goal
    by_tests false (step ∷ steps) spent fails = record { not_false = open_goal; tree = fails (some_step step steps) }

-- with a step a goal is left over
pub some_left : (stuck : Bool) (found : List ShownStep) → 1 ≤ length found → true ≡ is_left stuck (steps_of found)
some_left stuck [] some = absurd (omega (arith, some))
some_left stuck (step ∷ steps) some = refl

unless_told : (h : History) (hints : model.Hints) (goal : List Term) (steps : List ToldStep) (cause : Cause) (proved : Bool) → (IsFalse h goal → ⊥) → IsCauseOf h hints goal steps cause
    → MatchOption (unless proved cause) (IsFalse h goal → ⊥) (IsCauseOf h hints goal steps)
unless_told h hints goal steps cause true open_goal told = open_goal
unless_told h hints goal steps cause false open_goal told = told

-- what is told still holds where moves proved the lemma
pub still_told : (h : History) (hints : model.Hints) (goal : List Term) (steps : List ToldStep) (known : Option Cause) (proved : Bool) → MatchOption known (IsFalse h goal → ⊥) (IsCauseOf h hints goal steps)
    → MatchOption (failing known proved) (IsFalse h goal → ⊥) (IsCauseOf h hints goal steps)
still_told h hints goal steps None proved told = told
still_told h hints goal steps (Some False) proved told = told
still_told h hints goal steps (Some NoInduction) proved told = unless_told h hints goal steps NoInduction proved told.not_false told
still_told h hints goal steps (Some Loop) proved told = unless_told h hints goal steps Loop proved told.not_false told
still_told h hints goal steps (Some Forbidden) proved told = unless_told h hints goal steps Forbidden proved told.not_false told
still_told h hints goal steps (Some Depth) proved told = unless_told h hints goal steps Depth proved told.not_false told
