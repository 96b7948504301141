-- What simplifications and instances come to, over ids.
use Rattle.std.proofs.Common.{◌≡◌, ◌<◌, ◌+◌, ℕ, zero, suc, List, [], ◌∷◌, map, length, get_or, inl, inr, refl, sym, ap, subst, arith}
use Rattle.std.specs.Prelude.{All, IfSome, IsSome, IsTrue, Option, Some, None, Result, Ok, Err, IfOk, Vec}
use Rattle.std.specs.declared.alloc.Global.{Global}
use Rattle.nq_logic.specs.Terms.{Term, Each}
use Rattle.nq_logic.specs.Words.{not_term}
use Rattle.nq_logic.specs.Ground.{symbols_of}
use Rattle.nq_bank.specs.declared.node.TermId.{TermId}
use Rattle.nq_bank.specs.Content.{Content, terms_at}
use Rattle.nq_bank.proofs.NodesLemmas.{All-head, All-tail}
use Rattle.nq_proof.specs.Clauses.{Clause}
use Rattle.nq_proof.specs.Rules.{is_substitution, pair_terms}
use Rattle.nq_clause.specs.declared.substitution.Pair.{Pair}
use Rattle.nq_clause.specs.Substitution.{PairStands, substitution_at}
use Rattle.nq_history.specs.declared.entry.Entry.{Entry}
use Rattle.nq_history.specs.Events.{events_at}
use Rattle.nq_kernel.specs.declared.work.Work.{Work}
use Rattle.nq_kernel.specs.declared.work.Stop.{Stop}
use Rattle.nq_kernel.specs.Growing.{WorkStands, WorkGrows, LineStands, LineHolds}
use Rattle.nq_kernel.specs.Hints.{PairIsIn}
use Rattle.nq_kernel.specs.Over.{IsVariable, IsTermOf, pair_names}
use Rattle.nq_kernel.proofs.GrowingLemmas.{WorkGrows-trans}
use Rattle.nq_lines.specs.Lines.{LineHasOnly, IsTermIn, CutsTo}
use Rattle.nq_lines.specs.declared.facts.Fact.{Fact}
use Rattle.nq_lines.specs.Facts.{IsFact}
use Rattle.nq_lines.specs.Instances.{ArePairsIn}
use Rattle.nq_search.specs.Searching.{IsFound}
use Rattle.nq_search.specs.Goals.{CanSearch, HaveLines, IsGoalIn, goals_at}
use Rattle.nq_search.proofs.SearchingLemmas.{same_goal}
use Rattle.nq_simplify.specs.declared.steps.Simplified.{Simplified}
use Rattle.nq_simplify.specs.declared.way.Way.{Way}
use Rattle.nq_simplify.specs.Ways.{HaveOnly, LeadsTo, ClosesTo, goal_count}
use Rattle.nq_simplify.specs.Simplified.{IsSimplified}
use Rattle.nq_simplify.proofs.WayLemmas.{counted}
use Rattle.nq_simplify.proofs.SimplifiedLemmas.{simplified_grown}

-- what an answer says, said otherwise
pub if_ok : {X : Type 0} (r : Result X Stop) (P Q : X → Type 0) → ((x : X) → P x → Q x) → IfOk r P → IfOk r Q
if_ok (Ok x) P Q f h = f x h
if_ok (Err e) P Q f h = h

-- a simplification serves however the work grows
pub way_later : (history : List Entry) (old new later : Work) (goal : List TermId) (s : Simplified) → WorkStands history old → WorkGrows history old new → WorkGrows history new later → IsGoalIn history old goal →
    IsSimplified history new (terms_at old.bank goal) s → IsSimplified history later (terms_at later.bank goal) s
way_later history old new later goal s stands first second inside h =
    let both : WorkGrows history old later = WorkGrows-trans history old new later first second in
    subst (λ (g : Clause). IsSimplified history later g s) (sym (same_goal history old later stands both goal inside)) (simplified_grown history new later first.stands second (terms_at old.bank goal) s h)

only_lines : (work : Work) (goals : List Clause) (lines : List ℕ) → HaveLines work goals lines → HaveOnly work lines goals
only_lines work [] [] h = tt
only_lines work [] (n ∷ lines) h = absurd h
only_lines work (g ∷ goals) [] h = absurd h
only_lines work (g ∷ goals) (n ∷ lines) h = (h.0, only_lines work goals lines h.1)

same_count : (work : Work) (goals : List Clause) (lines : List ℕ) → HaveLines work goals lines → length lines ≡ length goals
same_count work [] [] h = refl
same_count work [] (n ∷ lines) h = absurd h
same_count work (g ∷ goals) [] h = absurd h
same_count work (g ∷ goals) (n ∷ lines) h = ap suc (same_count work goals lines h.1)

stands_alone : (work : Work) (n : ℕ) (these : Clause) → LineHasOnly work n these → LineStands work n
stands_alone work n these h = subst IsSome (sym h.stands) refl

first_stands : (work : Work) (n : ℕ) (lines : List ℕ) → LineStands work n → All (LineStands work) lines → All (LineStands work) (n ∷ lines)
first_stands work n lines first rest = at
  where
    at : (k d : ℕ) → k < length (n ∷ lines) → LineStands work (get_or (n ∷ lines) k d)
    at zero d below = first
    at (suc k) d below = rest k d (omega (arith, below))

pub lines_stand : (work : Work) (goals : List Clause) (lines : List ℕ) → HaveLines work goals lines → All (LineStands work) lines
lines_stand work [] [] h = λ k d below. absurd (omega (arith, below))
lines_stand work [] (n ∷ lines) h = absurd h
lines_stand work (g ∷ goals) [] h = absurd h
lines_stand work (g ∷ goals) (n ∷ lines) h = first_stands work n lines (stands_alone work n g h.0) (lines_stand work goals lines h.1)

pub way_counted : (work : Work) (w : Way) (goal : Clause) (goals : List Clause) (lines : List ℕ) → LeadsTo work w goal goals → HaveLines work goals lines → length lines ≡ goal_count w
way_counted work w goal goals lines leads h =
    let a = same_count work goals lines h in
    let b = counted work w goal goals leads in
    omega (arith, a, b)

-- the line of a simplified goal
pub way_closed : (old new : Work) (w : Way) (goal : Clause) (goals : List Clause) (lines : List ℕ) (r : Result ℕ Stop) → LeadsTo old w goal goals → HaveLines old goals lines →
    IfOk r (λ n. ClosesTo old new w lines n) → IfOk r (λ n. LineHasOnly new n goal)
way_closed old new w goal goals lines r leads h closes =
    if_ok r (λ n. ClosesTo old new w lines n) (λ n. LineHasOnly new n goal) (λ n closed. closed goal goals leads (only_lines old goals lines h)) closes

-- pairs over the history's functions, with distinct variables
module _ (history : List Entry) (work : Work) where
  terms_in : (pairs : List Pair) → All (PairIsIn work.bank history) pairs → Each (IsTermOf IsVariable (symbols_of (events_at work.bank history))) (pair_terms (substitution_at work.bank pairs))
  terms_in [] k = tt
  terms_in (p ∷ pairs) k = ((All-head (PairIsIn work.bank history) p pairs k).term, terms_in pairs (All-tail (PairIsIn work.bank history) p pairs k))

  names_in : (pairs : List Pair) → All (PairIsIn work.bank history) pairs → Each IsVariable (pair_names (substitution_at work.bank pairs))
  names_in [] k = tt
  names_in (p ∷ pairs) k = ((All-head (PairIsIn work.bank history) p pairs k).variable, names_in pairs (All-tail (PairIsIn work.bank history) p pairs k))

  pub pairs_in : (pairs : List Pair) → All (PairStands work.bank) pairs → All (PairIsIn work.bank history) pairs → IsTrue (is_substitution (substitution_at work.bank pairs)) → ArePairsIn history work pairs
  pairs_in pairs stand inside distinct = record { stand = stand; distinct = distinct; terms = terms_in pairs inside; names = names_in pairs inside }

-- the facts of hints, and lines under their denials
pub some_fact : (history : List Entry) (work : Work) (found : Option Fact) (f : Fact) → found ≡ Some f → IfSome found (IsFact history work) → IsFact history work f
some_fact history work found f is k = subst (λ o. IfSome o (IsFact history work)) is k

pub front_in : (history : List Entry) (work : Work) (t : TermId) (goal all : List TermId) → all ≡ t ∷ goal → IsTermIn history work t → IsGoalIn history work goal → IsGoalIn history work all
front_in history work t goal all is first rest = subst (IsGoalIn history work) (sym is) at
  where
    at : (k : ℕ) (d : TermId) → k < length (t ∷ goal) → IsTermIn history work (get_or (t ∷ goal) k d)
    at zero d below = first
    at (suc k) d below = rest k d (omega (arith, below))

-- what is said of a goal in earlier work
pub found_before : (work : Work) (there here : Clause) (r : Result (Option ℕ) Stop) → there ≡ here → IfOk r (IsFound work there) → IfOk r (IsFound work here)
found_before work there here r same h = subst (λ (c : Clause). IfOk r (IsFound work c)) same h

-- the line of a goal, from the line of the goal beside the denial of a fact and the fact's own line
pub fact_cut : (old new : Work) (f : Fact) (t : Term) (all goal : Clause) (found : Option ℕ) (line n : ℕ) → all ≡ not_term t ∷ goal → found ≡ Some line → IsFound old all found → LineHolds old f.line (t ∷ []) →
    CutsTo old new t f.line line n → LineHasOnly new n goal
fact_cut old new f t all goal found line n all_is found_is k holds cuts =
    let second : LineHasOnly old line (not_term t ∷ goal) = subst (λ (c : Clause). LineHasOnly old line c) all_is (subst (IsFound old all) found_is k) in
    cuts goal (record { literals = t ∷ []; stands = holds; only = λ u m. elim m [ inl e ↦ inl e | inr k ↦ absurd k ] }) second

pub found_stands : (work : Work) (all : Clause) (found : Option ℕ) (line : ℕ) → found ≡ Some line → IsFound work all found → LineStands work line
found_stands work all found line is k = stands_alone work line all (subst (IsFound work all) is k)

pub fact_stands : (work : Work) (n : ℕ) (c : Clause) → LineHolds work n c → LineStands work n
fact_stands work n c h = subst IsSome (sym h) refl
