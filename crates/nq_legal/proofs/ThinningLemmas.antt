-- Goals without copies of literals serve in the place of those with them.
use Rattle.std.proofs.Common.{◌≡◌, ◌≤◌, ◌+◌, ℕ, List, [], ◌∷◌, ◌++◌, map, length, take, sym, ap, ap₂, ◌∙◌, subst, inl, inr}
use Rattle.std.specs.Prelude.{All, Some, Vec, slice_get}
use Rattle.std.specs.declared.alloc.Global.{Global}
use Rattle.std.proofs.lemmas.List.{map-append, take_all}
use Rattle.std.proofs.lemmas.List.Elements.{All-push}
use Rattle.nq_logic.specs.Terms.{Term, IsAmong}
use Rattle.nq_logic.specs.Words.{not_term}
use Rattle.nq_bank.specs.declared.node.TermId.{TermId}
use Rattle.nq_bank.specs.Content.{Stands, terms_at}
use Rattle.nq_proof.specs.Clauses.{Clause, distinct}
use Rattle.nq_proof.proofs.Tests.{distinct_in}
use Rattle.nq_history.specs.declared.entry.Entry.{Entry}
use Rattle.nq_kernel.specs.declared.work.Work.{Work}
use Rattle.nq_lines.specs.Lines.{AreAmong}
use Rattle.nq_lines.proofs.LineLemmas.{from_distinct, only_more}
use Rattle.nq_moves.proofs.ClosingLemmas.{some_in}
use Rattle.nq_simplify.specs.declared.way.Way.{Way}
use Rattle.nq_simplify.specs.declared.steps.Simplified.{Simplified}
use Rattle.nq_simplify.specs.Simplified.{IsSimplified}
use Rattle.nq_simplify.specs.Ways.{IsKept, InGoal, IsFalse, IsThinned, LeadsTo, Leaves, Shows, Turns, Divides}
use Rattle.nq_waterfall.specs.Ready.{IsGoalIn}
use Rattle.nq_waterfall.specs.Trails.{goals_at}
use Rattle.nq_waterfall.proofs.SolvingLemmas.{map_pushed, take_next}

module _ (work : Work) where
  kept_thin : (next : List Term) (p : Term) → IsKept work next p → IsKept work (distinct next) p
  kept_thin next p (InGoal m) = InGoal (distinct_in p next m)
  kept_thin next p (IsFalse n line) = IsFalse n (only_more work n (not_term p ∷ next) (not_term p ∷ distinct next) more line)
    where
      more : AreAmong (not_term p ∷ next) (not_term p ∷ distinct next)
      more t (inl e) = inl e
      more t (inr m) = inr (distinct_in t next m)

  thin_more : (goal next : List Term) → IsThinned work goal next → IsThinned work goal (distinct next)
  thin_more goal next t = record { less = λ u m. t.less u (from_distinct u next m); kept = λ p m. kept_thin next p (t.kept p m) }

  -- a way leads to the goals without copies
  leads_thin : (way : Way) (goal : List Term) (nexts : List Clause) → LeadsTo work way goal nexts → LeadsTo work way goal (map distinct nexts)
  leads_thin _ _ _ (Leaves goal next t) = Leaves goal (distinct next) (thin_more goal next t)
  leads_thin _ _ _ (Shows n goal line) = Shows n goal line
  leads_thin _ _ _ (Turns a b n p w goal next nexts r rest) = Turns a b n p w goal next (map distinct nexts) r (leads_thin w next nexts rest)
  leads_thin _ _ _ (Divides t p q v w goal first second some others one two left right) =
      subst (LeadsTo work _ goal) (sym (map-append distinct some others))
      (Divides t p q v w goal first second (map distinct some) (map distinct others) one two (leads_thin v first some left) (leads_thin w second others right))

-- so does the simplification
pub simplified_thin : (history : List Entry) (work : Work) (goal : List Term) (s : Simplified) (nexts : Vec (Vec TermId Global) Global) → IsSimplified history work goal s → goals_at work.bank nexts.items ≡ map distinct (goals_at work.bank s.nexts.items)
    → All (λ c. IsGoalIn history work c.items) nexts.items → IsSimplified history work goal (record { way = s.way; nexts = nexts })
simplified_thin history work goal s nexts h thin inside =
    record { way = h.way; nexts = inside; leads = subst (LeadsTo work s.way goal) (sym thin) (leads_thin work s.way goal (goals_at work.bank s.nexts.items) h.leads) }

-- one goal more
pub thin_pushed : (work : Work) (goals before after : List (Vec TermId Global)) (i : ℕ) (item one : Vec TermId Global) → slice_get goals i ≡ Some item → terms_at work.bank one.items ≡ distinct (terms_at work.bank item.items) → after ≡ before ++ one ∷ []
    → goals_at work.bank before ≡ map distinct (goals_at work.bank (take i goals)) → goals_at work.bank after ≡ map distinct (goals_at work.bank (take (i + 1) goals))
thin_pushed work goals before after i item one at same whole so_far =
    ap (goals_at work.bank) whole ∙ map_pushed (λ (g : Vec TermId Global). terms_at work.bank g.items) before one ∙
    ap₂ (λ (gs : List Clause) (c : Clause). gs ++ c ∷ []) so_far same ∙
    sym (ap (λ (gs : List (Vec TermId Global)). map distinct (goals_at work.bank gs)) (take_next goals i item at) ∙
    ap (map distinct) (map_pushed (λ (g : Vec TermId Global). terms_at work.bank g.items) (take i goals) item) ∙
    map_pushed distinct (goals_at work.bank (take i goals)) (terms_at work.bank item.items))

pub thin_whole : (work : Work) (goals after : List (Vec TermId Global)) (i : ℕ) → length goals ≤ i → goals_at work.bank after ≡ map distinct (goals_at work.bank (take i goals)) → goals_at work.bank after ≡ map distinct (goals_at work.bank goals)
thin_whole work goals after i past e = e ∙ ap (λ (gs : List (Vec TermId Global)). map distinct (goals_at work.bank gs)) (take_all i goals past)

-- its literals are in
pub thin_inside : (history : List Entry) (work : Work) (ids thin : List TermId) → IsGoalIn history work ids → All (Stands work.bank) thin → terms_at work.bank thin ≡ distinct (terms_at work.bank ids) → IsGoalIn history work thin
thin_inside history work ids thin here stand is = some_in history work ids thin here stand (λ t m. from_distinct t (terms_at work.bank ids) (subst (IsAmong t) is m))

pub inside_more : (history : List Entry) (work : Work) (before after : List (Vec TermId Global)) (one : Vec TermId Global) → after ≡ before ++ one ∷ [] → All (λ g. IsGoalIn history work g.items) before → IsGoalIn history work one.items
    → All (λ g. IsGoalIn history work g.items) after
inside_more history work before after one whole all here = subst (All (λ (g : Vec TermId Global). IsGoalIn history work g.items)) (sym whole) (All-push (λ (g : Vec TermId Global). IsGoalIn history work g.items) before one all here)
