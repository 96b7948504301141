-- The ways that lead goals on, however the work grows, and lines of their goals.
use Rattle.std.proofs.Common.{◌≡◌, ◌∙◌, ◌<◌, ◌+◌, ℕ, zero, suc, List, [], ◌∷◌, length, get_or, refl, sym, ap, subst, arith}
use Rattle.std.specs.Prelude.{All, IfSome, Option, Some, None, Vec}
use Rattle.std.specs.declared.alloc.Global.{Global}
use Rattle.nq_bank.specs.declared.node.TermId.{TermId}
use Rattle.nq_bank.specs.Content.{Stands, terms_at}
use Rattle.nq_proof.specs.Clauses.{Clause}
use Rattle.nq_history.specs.declared.entry.Entry.{Entry}
use Rattle.nq_kernel.specs.declared.work.Work.{Work}
use Rattle.nq_kernel.specs.Growing.{WorkStands, WorkGrows}
use Rattle.nq_kernel.specs.Over.{TermIsIn}
use Rattle.nq_lines.specs.Lines.{IsTermIn, LineHasOnly}
use Rattle.nq_lines.proofs.LineLemmas.{only_grown}
use Rattle.nq_elim.specs.declared.making.Elimination.{Elimination}
use Rattle.nq_elim.specs.Eliminations.{IsEliminationWay}
use Rattle.nq_elim.proofs.WayLemmas.{eliminations_last}
use Rattle.nq_induct.specs.Goals as induct
use Rattle.nq_induct.specs.Schemes.{IsSchemeIn}
use Rattle.nq_induct.specs.declared.scheme.Scheme.{Scheme}
use Rattle.nq_induct.proofs.GrownLemmas as grown
use Rattle.nq_moves.specs.declared.moved.Moved.{Moved}
use Rattle.nq_moves.specs.Dropped.{HoldChildren}
use Rattle.nq_moves.specs.Ways.{IsMove}
use Rattle.nq_moves.proofs.WayLemmas.{way_lasts}
use Rattle.nq_search.specs.declared.plan.Plan.{Plan}
use Rattle.nq_search.specs.declared.tactic.Led.{Led}
use Rattle.nq_search.specs.Goals.{HaveLines, IsGoalIn, goals_at}
use Rattle.nq_search.specs.Searching.{IsLed}
use Rattle.nq_search.proofs.SearchingLemmas.{goal_grown, same_goal, same_goals}
use Rattle.nq_simplify.specs.declared.steps.Simplified.{Simplified}
use Rattle.nq_simplify.specs.Simplified.{IsSimplified}
use Rattle.nq_tactic.specs.declared.way.Way.TheVariants as way
use Rattle.nq_tactic.specs.Ways.{IsInduction, IsWay, nexts_of}
use Rattle.nq_tactic.proofs.TacticLemmas.{way_later}

-- lines of goals, as each way back asks for them
pub hold_children : (work : Work) (goals : List Clause) (lines : List ℕ) → HaveLines work goals lines → HoldChildren work goals lines
hold_children work [] [] h = tt
hold_children work [] (n ∷ lines) h = absurd h
hold_children work (g ∷ goals) [] h = absurd h
hold_children work (g ∷ goals) (n ∷ lines) h = (h.0, hold_children work goals lines h.1)

counted_lines : (work : Work) (goals : List Clause) (lines : List ℕ) → HaveLines work goals lines → length lines ≡ length goals
counted_lines work [] [] h = refl
counted_lines work [] (n ∷ lines) h = absurd h
counted_lines work (g ∷ goals) [] h = absurd h
counted_lines work (g ∷ goals) (n ∷ lines) h = ap suc (counted_lines work goals lines h.1)

line_of_goal : (work : Work) (goals : List Clause) (lines : List ℕ) → HaveLines work goals lines → (k : ℕ) → k < length goals → LineHasOnly work (get_or lines k 0) (get_or goals k [])
line_of_goal work [] [] h k below = absurd (omega (arith, below))
line_of_goal work [] (n ∷ lines) h k below = absurd h
line_of_goal work (g ∷ goals) [] h k below = absurd h
line_of_goal work (g ∷ goals) (n ∷ lines) h zero below = h.0
line_of_goal work (g ∷ goals) (n ∷ lines) h (suc k) below = line_of_goal work goals lines h.1 k (omega (arith, below))

pub are_shown : (work : Work) (goals : List Clause) (lines : List ℕ) → HaveLines work goals lines → induct.AreShown work goals lines
are_shown work goals lines h = record { count = counted_lines work goals lines h; each = line_of_goal work goals lines h }

-- each way leads its goal on
module _ (history : List Entry) (work : Work) (goal : List TermId) (stands : WorkStands history work) (inside : IsGoalIn history work goal) where
  pub move_leads : (m : Moved) (plan : Plan) → IsMove history work goal m → IsLed nexts_of IsWay history work goal (record { way = way.Moved m; plan = plan })
  move_leads m plan h = record { nexts_in = h.children_in; way_back = λ later grows. way_lasts history work later stands grows goal inside m h.way }

  pub elimination_leads : (e : Elimination) (plan : Plan) → IsEliminationWay history work goal e → IsLed nexts_of IsWay history work goal (record { way = way.Eliminated e; plan = plan })
  elimination_leads e plan h = record { nexts_in = h.nexts_in; way_back = λ later grows. eliminations_last history work later goal e stands grows inside h }

  pub line_leads : (n : ℕ) (plan : Plan) → LineHasOnly work n (terms_at work.bank goal) → IsLed nexts_of IsWay history work goal (record { way = way.Refuted n; plan = plan })
  line_leads n plan h =
      record {
        nexts_in = λ k d below. absurd (omega (arith, below));
        way_back = λ later grows.
            subst (λ (g : Clause). LineHasOnly later n g) (sym (same_goal history work later stands grows goal inside))
            (only_grown history work later n (terms_at work.bank goal) stands grows h);
      }

-- the goals of an induction lead on
module _ (history : List Entry) (old new : Work) (goal : List TermId) (stands : WorkStands history old) (up : WorkGrows history old new) (inside : IsGoalIn history old goal) (s : Scheme) (scheme : IsSchemeIn history old s) (some : 0 < length goal) where
  pub induction_leads : (nexts : Vec (Vec TermId Global) Global) (plan : Plan) → goals_at new.bank nexts.items ≡ induct.goals_at old.bank s goal → All (λ next. IsGoalIn history new next.items) nexts.items →
      IsLed nexts_of IsWay history new goal (record { way = way.Inducted (record { scheme = s; nexts = nexts }); plan = plan })
  induction_leads nexts plan leads over =
      record {
        nexts_in = over;
        way_back = λ later grows.
            let stay : goals_at later.bank nexts.items ≡ goals_at new.bank nexts.items = same_goals history new later up.stands grows nexts.items over in
            let lasts : IsSchemeIn history new s = grown.scheme_grown history old new stands up s scheme in
            let first : induct.goals_at new.bank s goal ≡ induct.goals_at old.bank s goal = grown.same_goals history old new stands up s goal scheme inside in
            let there : IsGoalIn history new goal = goal_grown history old new stands up goal inside in
            let second : induct.goals_at later.bank s goal ≡ induct.goals_at new.bank s goal = grown.same_goals history new later up.stands grows s goal lasts there in
            record { scheme = grown.scheme_grown history new later up.stands grows s lasts; some = some; leads = stay ∙ leads ∙ sym (second ∙ first) };
      }

-- a simplification leads on
pub simplification_leads : (history : List Entry) (old new : Work) (goal : List TermId) (s : Simplified) (plan : Plan) → WorkStands history old → WorkGrows history old new → IsGoalIn history old goal →
    IsSimplified history new (terms_at old.bank goal) s → IsLed nexts_of IsWay history new goal (record { way = way.Simplified s; plan = plan })
simplification_leads history old new goal s plan stands grows inside h =
    record { nexts_in = h.nexts; way_back = λ later grows_on. way_later history old new later goal s stands grows grows_on inside h }

-- the call that hints name is a term
pub hint_in : (history : List Entry) (work : Work) (o : Option TermId) → IfSome o (Stands work.bank) → IfSome o (TermIsIn work.bank history) → IfSome o (IsTermIn history work)
hint_in history work None h k = tt
hint_in history work (Some t) h k = record { stands = h; over = k }
