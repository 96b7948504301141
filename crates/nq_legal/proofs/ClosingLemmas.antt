-- Lines of goals to which a move led, as the ways back ask for them.
use Rattle.std.proofs.Common.{◌≡◌, ◌<◌, ℕ, zero, suc, List, [], ◌∷◌, length, get_or, refl, sym, ap, subst, arith}
use Rattle.std.specs.Prelude.{All, IfSome, IsSome, Option, None, Some, Result, Ok, Err, IfOk}
use Rattle.nq_proof.specs.Clauses.{Clause}
use Rattle.nq_kernel.specs.declared.work.Work.{Work}
use Rattle.nq_kernel.specs.declared.work.Stop.{Stop}
use Rattle.nq_kernel.specs.Growing.{LineStands}
use Rattle.nq_lines.specs.Lines.{LineHasOnly}
use Rattle.nq_moves.specs.Dropped.{HoldChildren}
use Rattle.nq_simplify.specs.declared.way.Way.{Way}
use Rattle.nq_simplify.specs.Ways.{HaveOnly, LeadsTo, ClosesTo, goal_count}
use Rattle.nq_simplify.proofs.WayLemmas.{counted}
use Rattle.nq_waterfall.specs.Turns.{HaveLines}

pub hold_children : (work : Work) (goals : List Clause) (lines : List ℕ) → HaveLines work goals lines → HoldChildren work goals lines
hold_children work [] [] h = tt
hold_children work [] (n ∷ lines) h = absurd h
hold_children work (g ∷ goals) [] h = absurd h
hold_children work (g ∷ goals) (n ∷ lines) h = (h.0, hold_children work goals lines h.1)

only_lines : (work : Work) (goals : List Clause) (lines : List ℕ) → HaveLines work goals lines → HaveOnly work lines goals
only_lines work [] [] h = tt
only_lines work [] (n ∷ lines) h = absurd h
only_lines work (g ∷ goals) [] h = absurd h
only_lines work (g ∷ goals) (n ∷ lines) h = (h.0, only_lines work goals lines h.1)

same_count : (work : Work) (goals : List Clause) (lines : List ℕ) → HaveLines work goals lines → length lines ≡ length goals
same_count work [] [] h = refl
same_count work [] (n ∷ lines) h = absurd h
same_count work (g ∷ goals) [] h = absurd h
same_count work (g ∷ goals) (n ∷ lines) h = ap suc (same_count work goals lines h.1)

stands_alone : (work : Work) (n : ℕ) (these : Clause) → LineHasOnly work n these → LineStands work n
stands_alone work n these h = subst IsSome (sym h.stands) refl

first_stands : (work : Work) (n : ℕ) (lines : List ℕ) → LineStands work n → All (LineStands work) lines → All (LineStands work) (n ∷ lines)
first_stands work n lines first rest = at
  where
    at : (k d : ℕ) → k < length (n ∷ lines) → LineStands work (get_or (n ∷ lines) k d)
    at zero d below = first
    at (suc k) d below = rest k d (omega (arith, below))

pub lines_stand : (work : Work) (goals : List Clause) (lines : List ℕ) → HaveLines work goals lines → All (LineStands work) lines
lines_stand work [] [] h = λ k d below. absurd (omega (arith, below))
lines_stand work [] (n ∷ lines) h = absurd h
lines_stand work (g ∷ goals) [] h = absurd h
lines_stand work (g ∷ goals) (n ∷ lines) h = first_stands work n lines (stands_alone work n g h.0) (lines_stand work goals lines h.1)

pub way_counted : (work : Work) (w : Way) (goal : Clause) (goals : List Clause) (lines : List ℕ) → LeadsTo work w goal goals → HaveLines work goals lines → length lines ≡ goal_count w
way_counted work w goal goals lines leads h =
    let a = same_count work goals lines h in
    let b = counted work w goal goals leads in
    omega (arith, a, b)

if_ok : {X : Type 0} (r : Result X Stop) (P Q : X → Type 0) → ((x : X) → P x → Q x) → IfOk r P → IfOk r Q
if_ok (Ok x) P Q f h = f x h
if_ok (Err e) P Q f h = h

-- the line of a simplified goal
pub way_closed : (old new : Work) (w : Way) (goal : Clause) (goals : List Clause) (lines : List ℕ) (r : Result ℕ Stop) → LeadsTo old w goal goals → HaveLines old goals lines →
    IfOk r (λ n. ClosesTo old new w lines n) → IfOk r (λ n. LineHasOnly new n goal)
way_closed old new w goal goals lines r leads h closes =
    if_ok r (λ n. ClosesTo old new w lines n) (λ n. LineHasOnly new n goal) (λ n closed. closed goal goals leads (only_lines old goals lines h)) closes

-- a line that was found of the goal is one of the same goal
pub line_told : (work : Work) (here there : Clause) (found : Option ℕ) (n : ℕ) → there ≡ here → IfSome found (λ n. LineHasOnly work n here) → found ≡ Some n → LineHasOnly work n there
line_told work here there None n e h is = absurd (cc)
line_told work here there (Some m) n e h is =
    let same : m ≡ n = cc in
    subst (λ (k : ℕ). LineHasOnly work k there) same (subst (LineHasOnly work m) (sym e) h)
