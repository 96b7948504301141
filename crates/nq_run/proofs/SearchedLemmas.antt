-- Lemmas in no fragment.
use Rattle.std.proofs.Common.{◌≡◌, Bool, true, ℕ, List, [], ◌∷◌, ◌++◌, refl, sym, ap, subst, inl, inr}
use Rattle.std.specs.Prelude.{IfOk, MatchOption, Option, Result, None, Some, Vec}
use Rattle.std.specs.declared.alloc.AllocError.{AllocError}
use Rattle.std.specs.declared.alloc.Global.{Global}
use Rattle.nq_logic.specs.Terms.{Name, Term}
use Rattle.nq_logic.specs.Formulas.{holds}
use Rattle.nq_logic.specs.Derivations.{Derivable}
use Rattle.nq_logic.specs.Histories.{History, RuleClass}
use Rattle.nq_logic.specs.Histories as logic
use Rattle.nq_form.specs.Form.{Form}
use Rattle.nq_bank.specs.declared.node.Mark.{Mark}
use Rattle.nq_log.specs.States.{Adds}
use Rattle.nq_block.specs.Blocks.{IsBlock}
use Rattle.nq_comment.specs.Reports.{Answer, Failed, OutOfSteps, ProvedFrom, ShownStep as ToldStep}
use Rattle.nq_comment.specs.ReportViews.{answer_of, steps_of}
use Rattle.nq_comment.specs.declared.step.Cause.{Cause}
use Rattle.nq_comment.specs.declared.step.Cause.TheVariants.{False, NoInduction, Loop, Forbidden, Depth}
use Rattle.nq_comment.specs.declared.step.ShownStep.{ShownStep}
use Rattle.nq_comment.specs.declared.answer.FormAnswer.TheVariants as answers
use Rattle.nq_events.specs.Events as model
use Rattle.nq_fragments.specs.Fragments.{IsInNoFragment}
use Rattle.nq_goals.specs.Hints.{first_goal}
use Rattle.nq_goals.specs.Spent.{IsFalse}
use Rattle.nq_first_goal.specs.Judging.{IsCauseOf, IsJudged, failing}
use Rattle.nq_first_goal.specs.declared.judging.Judged.{Judged}
use Rattle.nq_first_goal.proofs.Judgements.{still_told}
use Rattle.nq_kernel.specs.declared.verdict.Quick.{Quick}
use Rattle.nq_answers.specs.Goals.{goal_text}
use Rattle.nq_answers.specs.Shown.{ShowsTrace, ShowsTree}
use Rattle.nq_answers.specs.Spending.{IsUsedUp}
use Rattle.nq_answers.specs.Steps.{IsTried, by_falsity, by_want, by_search}
use Rattle.nq_run.specs.HistoryView.{history_of, SessionStands}
use Rattle.nq_run.specs.Outcome.{AreBlocks}
use Rattle.nq_run.specs.Sessions.{IsFoundBy, IsUntaken, TriesLemma, found_claims, way_in}
use Rattle.nq_run.specs.declared.proving.Found.{Found}
use Rattle.nq_run.specs.declared.proving.Found.TheVariants as finding
use Rattle.nq_run.specs.declared.proving.Found.TheVariants.{Fragment, Moves}
use Rattle.nq_run.specs.declared.session.Session.{Session}
use Rattle.nq_run.specs.declared.session.Taken.{Taken}
use Rattle.nq_run.proofs.TakingLemmas.{lemma_left, no_way, proved_on}

pub never_fragment : (result : Found) (line : ℕ) (way : Quick) → result ≡ Fragment line way → way_in result ≡ None → ⊥
never_fragment result line way is other = let some : way_in result ≡ Some way = ap way_in is in absurd cc

-- what moves prove is derivable
pub moved_derivable : (limit : ℕ) (h : History) (t : Term) (result : Found) (line : ℕ) → result ≡ Moves line → IsFoundBy limit h t result → Derivable h (holds t)
moved_derivable limit h t result line is found = let here : IsInNoFragment h t × Derivable h (holds t) = subst (IsFoundBy limit h t) is found in here.1

-- where steps ran out all of them are used up
used_up : (limit : ℕ) (h : History) (t : Term) (result : Found) → result ≡ finding.OutOfSteps → IsFoundBy limit h t result → IsUsedUp limit h
used_up limit h t result is found = let here : IsInNoFragment h t × IsUsedUp limit h = subst (IsFoundBy limit h t) is found in here.1

moved_block : (h : History) (name : Name) (t : Term) (result : Found) (line : ℕ) (block : List ℕ) → result ≡ Moves line → AreBlocks h (found_claims name t result) block → IsBlock h (Adds (logic.Lemma name [] t)) block
moved_block h name t result line block is blocks = subst (λ (f : Found). AreBlocks h (found_claims name t f) block) is blocks

module _ (limit : ℕ) (old : Session) (mark : Mark) (form : Form) (name : Name) (classes : List RuleClass) (t : Term) (hints : model.Hints) (judged : Judged) (result : Found) (logging : Bool) where
  abbrev h : History
  h = history_of old

  abbrev first : List Term
  first = first_goal h hints t

  module _ (other : way_in result ≡ None) (found : IsFoundBy limit h t result) (told : IsJudged h hints first judged) (known : Option Cause) (proved : Bool) (known_is : known ≡ failing judged.cause proved) where
    none : IsInNoFragment h t
    none = no_way limit h t result other found

    abbrev shown : List ToldStep
    shown = steps_of judged.steps.items

    left_over : (cause : Cause) → (IsFalse h first → ⊥) → ShowsTree h hints first shown cause → IsTried limit h form hints t (Failed (goal_text first) shown cause)
    left_over cause not_so tree = by_want (record { no_fragment = none; not_false = not_so; steps = shown; cause = cause; told = tree; answer_is = refl })

    by_cause : (cause : Cause) → IsCauseOf h hints first shown cause → IsTried limit h form hints t (Failed (goal_text first) shown cause)
    by_cause False falsity = by_falsity (record { no_fragment = none; falsity = falsity.0; answer_is = ap (λ (s : List ToldStep). Failed (goal_text first) s False) falsity.1 })
    by_cause NoInduction left = left_over NoInduction left.not_false left.tree
    by_cause Loop left = left_over Loop left.not_false left.tree
    by_cause Forbidden left = left_over Forbidden left.not_false left.tree
    by_cause Depth left = left_over Depth left.not_false left.tree

    told_by : (o : Option Cause) → known ≡ o → MatchOption o (IsFalse h first → ⊥) (IsCauseOf h hints first shown)
    told_by o is =
        subst (λ (o : Option Cause). MatchOption o (IsFalse h first → ⊥) (IsCauseOf h hints first shown)) is
        (subst (λ (o : Option Cause). MatchOption o (IsFalse h first → ⊥) (IsCauseOf h hints first shown)) (sym known_is) (still_told h hints first shown judged.cause proved told.cause))

    -- a goal is left over
    pub failed : (cause : Cause) (r : Taken) → known ≡ Some cause → IsUntaken old mark (answer_of (answers.Failed judged.text judged.steps cause)) r
        → TriesLemma limit old mark form name classes t hints logging r
    failed cause r is kept =
        let answer : Answer = Failed (goal_text first) shown cause in
        let same : answer_of (answers.Failed judged.text judged.steps cause) ≡ answer = ap (λ (x : List ℕ). Failed x shown cause) told.text in
        lemma_left limit old mark form name classes t hints answer logging r refl (by_cause cause (told_by (Some cause) is)) (subst (λ (a : Answer). IsUntaken old mark a r) same kept)

    -- where no cause is told it is not false
    pub not_false : known ≡ None → IsFalse h first → ⊥
    not_false never = told_by None never

    -- steps ran out
    pub ran_out : (r : Taken) → known ≡ None → result ≡ finding.OutOfSteps → IsUntaken old mark OutOfSteps r → TriesLemma limit old mark form name classes t hints logging r
    ran_out r never is kept =
        lemma_left limit old mark form name classes t hints OutOfSteps logging r refl
        (by_search (record { no_fragment = none; not_false = not_false never; found = inr (refl, used_up limit h t result is found) })) kept

    -- moves proved it
    pub moved : (o : Result Taken AllocError) (line : ℕ) (steps : Vec ShownStep Global) (block : List ℕ) → known ≡ None → result ≡ Moves line → ShowsTrace h hints first (steps_of steps.items)
        → (logging ≡ true → AreBlocks h (found_claims name t result) block)
        → IfOk o (λ r. history_of r.session ≡ h ++ logic.Lemma name classes t ∷ []) → IfOk o (λ r. SessionStands r.session)
        → IfOk o (λ r. r.session.bank ≡ old.bank) → IfOk o (λ r. r.answer ≡ answers.ProvedFrom judged.text steps) → IfOk o (λ r. r.block ≡ block) → IfOk o (TriesLemma limit old mark form name classes t hints logging)
    moved o line steps block never is trace text later stands bank says written =
        let answer : Answer = ProvedFrom (goal_text first) (steps_of steps.items) in
        let same : answer_of (answers.ProvedFrom judged.text steps) ≡ answer = ap (λ (x : List ℕ). ProvedFrom x (steps_of steps.items)) told.text in
        proved_on limit o old mark form name classes t hints (answers.ProvedFrom judged.text steps) answer logging block refl
        (by_search (record { no_fragment = none; not_false = not_false never; found = inl (record { shown = moved_derivable limit h t result line is found; steps = steps_of steps.items; told = trace; answer_is = refl }) }))
        later stands bank says same written (λ on. moved_block h name t result line block is (text on))
