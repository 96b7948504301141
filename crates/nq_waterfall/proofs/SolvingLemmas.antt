-- The steps of a solver that goes depth first.
use Rattle.std.proofs.Common.{◌≡◌, ℕ, zero, suc, ◌+◌, ◌<◌, ◌≤◌, Option, Some, None, List, [], ◌∷◌, ◌++◌, length, length-append, take, map, get_or, refl, sym, ap, ap₂, ◌∙◌, subst, inl, inr, arith}
use Rattle.std.specs.Prelude.{All, Vec, slice_get, unwrap_or}
use Rattle.std.specs.Option.{option_map}
use Rattle.std.specs.declared.alloc.Global.{Global}
use Rattle.std.proofs.lemmas.List.{append-nil, append_assoc, get_or-take, length-take}
use Rattle.nq_logic.specs.Terms.{Term}
use Rattle.nq_logic.specs.Histories.{History}
use Rattle.nq_bank.specs.declared.node.TermId.{TermId}
use Rattle.nq_bank.specs.Content.{Content, Stands, terms_at}
use Rattle.nq_bank.proofs.Standing.{All-push}
use Rattle.nq_bank.proofs.NodesLemmas.{All-head, All-tail}
use Rattle.nq_proof.specs.Clauses.{Clause}
use Rattle.nq_history.specs.declared.entry.Entry.{Entry}
use Rattle.nq_history.specs.declared.hints.Hints.{Hints}
use Rattle.nq_history.specs.Events.{events_at}
use Rattle.nq_events.specs.Events as model
use Rattle.nq_kernel.specs.declared.work.Work.{Work}
use Rattle.nq_kernel.specs.Growing.{WorkStands, WorkGrows}
use Rattle.nq_lines.specs.Lines.{LineHasOnly}
use Rattle.nq_lines.proofs.LineLemmas.{only_grown}
use Rattle.nq_kernel.specs.declared.verdict.MoveKind.{MoveKind}
use Rattle.nq_goals.specs.declared.kinds.MoveKind.{MoveKind as GoalKind}
use Rattle.nq_kernel.specs.declared.verdict.Cause.{Cause}
use Rattle.nq_goals.specs.Paths.{Above, passed}
use Rattle.nq_goals.specs.Moves.{IsMove}
use Rattle.nq_goals.specs.Trees.{Step, IsGoalAt}
use Rattle.nq_goals.specs.Forests.{step}
use Rattle.nq_goals.specs.Solving.{LeavesUnsolved, HasTried, first_cause}
use Rattle.nq_goals.proofs.SolverLaws.{solver_laws}
use Rattle.nq_waterfall.specs.Kinds.{goal_kind, goal_cause}
use Rattle.nq_waterfall.specs.declared.trail.Ancestor.{Ancestor}
use Rattle.nq_kernel.specs.declared.verdict.PathStep.{PathStep}
use Rattle.nq_waterfall.specs.declared.trail.Trail.{Trail}
use Rattle.nq_waterfall.specs.declared.solving.Solved.{Solved}
use Rattle.nq_waterfall.specs.declared.solving.Solved.TheVariants.{Proved, Unsolved}
use Rattle.nq_waterfall.specs.declared.solving.Tried.{Tried}
use Rattle.nq_event.specs.EventsAt.{hints_at}
use Rattle.nq_waterfall.specs.Trails.{goals_at, passed_at, above_onto, above_at, steps_at, step_at, AncestorStands, StepStands, TrailStands, IsWithAncestor, IsWithStep}
use Rattle.nq_waterfall.specs.Ready.{CanMove, IsGoalIn, IsPathIn, HoldingLaws}
use Rattle.nq_traces.specs.Traces.{IsOneOf, TraceGoesOn}
use Rattle.nq_waterfall.specs.Turns.{MoveAt, SpentAt, HaveLines}
use Rattle.nq_waterfall.specs.Solved.{LeavesAt, TriedAt, GoesOnAt, IsSolved, TrailGoesOn, IsNextSolved, NextGoesOn, AreClosed, IsNoted, IsCutBack}
use Rattle.nq_traces.proofs.TraceLemmas.{trace_laws_hold}
use Rattle.nq_waterfall.proofs.SameLemmas.{steps_same, goals_same, trail_grown, goal_stands, goals_stand, scene_grown}

pub trace_same : (h : History) (hints : model.Hints) (above : Above) (goal : List Term) (number : ℕ) (steps : List Step) → TraceGoesOn h hints above goal number steps steps
trace_same h hints above goal number steps = record { more = []; whole = sym (append-nil steps); legal = λ first t at. t }

pub same_trail : (history : List Entry) (hints : Hints) (old new : Work) (trail : Trail) (goal : List TermId) (place : ℕ) → WorkGrows history old new → TrailStands old.bank trail → TrailGoesOn history hints new trail trail goal place
same_trail history hints old new trail goal place grows stand =
    record {
      path = refl;
      stands = trail_grown old.bank new.bank grows.bank trail stand;
      trace = trace_same (events_at new.bank history) (hints_at new.bank hints) (above_at new.bank trail.path.items) (terms_at new.bank goal) place (steps_at new.bank trail.trace.items);
    }

pub spent_here : (bank : Content) (history : List Entry) (hints : Hints) (path : List Ancestor) (goal : List TermId) (number : ℕ) (steps : List Step) (cause : Cause) → SpentAt bank history hints path goal cause → LeavesAt bank history hints path goal number steps steps cause
spent_here bank history hints path goal number steps cause spent =
    solver_laws.spent (events_at bank history) (hints_at bank hints) (above_at bank path) (terms_at bank goal) number steps (goal_cause cause) spent

module _ (history : List Entry) (hints : Hints) (old new : Work) (ready : CanMove history hints old) (grows : WorkGrows history old new) (trail : Trail) (stand : TrailStands old.bank trail) (goal : List TermId) (goal_in : IsGoalIn history old goal) where
  pub move_grown : (kind : MoveKind) (nexts : List (Vec TermId Global)) → All (λ next. IsGoalIn history old next.items) nexts → MoveAt old.bank history hints trail.path.items kind goal nexts → MoveAt new.bank history hints trail.path.items kind goal nexts
  move_grown kind nexts nexts_in m =
      scene_grown history hints old new trail.path.items goal (λ h hs a g. IsMove h hs a (goal_kind kind) g (goals_at new.bank nexts)) ready grows stand.path (goal_stands history old goal goal_in)
      (subst (λ ns. IsMove (events_at old.bank history) (hints_at old.bank hints) (above_at old.bank trail.path.items) (goal_kind kind) (terms_at old.bank goal) ns) (sym (goals_same old.bank new.bank grows.bank nexts (goals_stand history old nexts nexts_in))) m)

  pub left_over : (kind : MoveKind) (nexts : List (Vec TermId Global)) (number : ℕ) (before now : List Step) (cause : Cause) → All (λ next. IsGoalIn history old next.items) nexts → MoveAt old.bank history hints trail.path.items kind goal nexts → TriedAt new.bank history hints trail.path.items goal kind number nexts before now (Some cause) → LeavesAt new.bank history hints trail.path.items goal number before now cause
  left_over kind nexts number before now cause nexts_in m tried =
      solver_laws.left_over (events_at new.bank history) (hints_at new.bank hints) (above_at new.bank trail.path.items) (terms_at new.bank goal) (goal_kind kind) number (goals_at new.bank nexts) before now (goal_cause cause) (move_grown kind nexts nexts_in m) tried

  -- what was said of the trail is so however the work grows
  pub trail_after : (later : Trail) (place : ℕ) → TrailGoesOn history hints old trail later goal place → TrailGoesOn history hints new trail later goal place
  trail_after later place t =
      record {
        path = t.path;
        stands = trail_grown old.bank new.bank grows.bank later t.stands;
        trace =
            scene_grown history hints old new trail.path.items goal (λ h hs a g. TraceGoesOn h hs a g place (steps_at new.bank trail.trace.items) (steps_at new.bank later.trace.items)) ready grows stand.path (goal_stands history old goal goal_in) (
            subst (λ s. TraceGoesOn (events_at old.bank history) (hints_at old.bank hints) (above_at old.bank trail.path.items) (terms_at old.bank goal) place s (steps_at new.bank later.trace.items)) (sym (steps_same old.bank new.bank grows.bank trail.trace.items stand.trace)) (
            subst (λ s. TraceGoesOn (events_at old.bank history) (hints_at old.bank hints) (above_at old.bank trail.path.items) (terms_at old.bank goal) place (steps_at old.bank trail.trace.items) s) (sym (steps_same old.bank new.bank grows.bank later.trace.items t.stands.trace)) t.trace));
      }

  -- where all nexts were proved, the steps are as before
  pub steps_after : (later : Trail) (kind : MoveKind) (nexts : List (Vec TermId Global)) (number : ℕ) → TrailStands old.bank later → TriedAt old.bank history hints trail.path.items goal kind number nexts (steps_at old.bank trail.steps.items) (steps_at old.bank later.steps.items) None → steps_at new.bank later.steps.items ≡ steps_at new.bank trail.steps.items
  steps_after later kind nexts number there tried =
      steps_same old.bank new.bank grows.bank later.steps.items there.steps ∙
      (solver_laws.all_proved (events_at old.bank history) (hints_at old.bank hints) (above_at old.bank trail.path.items) (terms_at old.bank goal) (goal_kind kind) number (goals_at old.bank nexts) (steps_at old.bank trail.steps.items) (steps_at old.bank later.steps.items) tried).0 ∙
      sym (steps_same old.bank new.bank grows.bank trail.steps.items stand.steps)

  -- the nexts so far were tried, however the work grows
  pub tried_grown : (later : Trail) (kind : MoveKind) (number : ℕ) (tried : List (Vec TermId Global)) (cause : Option Cause) → All (λ next. IsGoalIn history old next.items) tried → TrailStands old.bank later → TriedAt old.bank history hints trail.path.items goal kind number tried (steps_at old.bank trail.steps.items) (steps_at old.bank later.steps.items) cause → TriedAt new.bank history hints trail.path.items goal kind number tried (steps_at new.bank trail.steps.items) (steps_at new.bank later.steps.items) cause
  tried_grown later kind number tried cause tried_in there t =
      let H : List Clause → List Step → List Step → Type 0 = λ ts b n. HasTried (events_at old.bank history) (hints_at old.bank hints) (above_at old.bank trail.path.items) (terms_at old.bank goal) (goal_kind kind) number ts b n (option_map goal_cause cause) in
      scene_grown history hints old new trail.path.items goal (λ h hs a g. HasTried h hs a g (goal_kind kind) number (goals_at new.bank tried) (steps_at new.bank trail.steps.items) (steps_at new.bank later.steps.items) (option_map goal_cause cause)) ready grows stand.path (goal_stands history old goal goal_in) (
      subst (λ ts. H ts (steps_at new.bank trail.steps.items) (steps_at new.bank later.steps.items)) (sym (goals_same old.bank new.bank grows.bank tried (goals_stand history old tried tried_in))) (
      subst (λ b. H (goals_at old.bank tried) b (steps_at new.bank later.steps.items)) (sym (steps_same old.bank new.bank grows.bank trail.steps.items stand.steps)) (
      subst (λ n. H (goals_at old.bank tried) (steps_at old.bank trail.steps.items) n) (sym (steps_same old.bank new.bank grows.bank later.steps.items there.steps)) t)))

pub map_pushed : {X Y : Type 0} (f : X → Y) (xs : List X) (x : X) → map f (xs ++ x ∷ []) ≡ map f xs ++ f x ∷ []
map_pushed f [] x = refl
map_pushed f (y ∷ xs) x = ap (λ ys. f y ∷ ys) (map_pushed f xs x)

map_taken : {X Y : Type 0} (f : X → Y) (n : ℕ) (xs : List X) → map f (take n xs) ≡ take n (map f xs)
map_taken f zero [] = refl
map_taken f (suc n) [] = refl
map_taken f zero (x ∷ xs) = refl
map_taken f (suc n) (x ∷ xs) = ap (λ ys. f x ∷ ys) (map_taken f n xs)

map_length : {X Y : Type 0} (f : X → Y) (xs : List X) → length (map f xs) ≡ length xs
map_length f [] = refl
map_length f (x ∷ xs) = ap suc (map_length f xs)

take_first : {X : Type 0} (xs ys : List X) → take (length xs) (xs ++ ys) ≡ xs
take_first [] [] = refl
take_first [] (y ∷ ys) = refl
take_first (x ∷ xs) ys = ap (λ zs. x ∷ zs) (take_first xs ys)

pub take_none : {X : Type 0} (xs : List X) → take 0 xs ≡ []
take_none [] = refl
take_none (x ∷ xs) = refl

pub taken : {X : Type 0} (P : X → Type 0) (n : ℕ) (xs : List X) → All P xs → All P (take n xs)
taken P n xs k = λ i d below.
    let count = length-take n xs in
    let short : i < n = omega (arith, count, below) in
    let within : i < length xs = omega (arith, count, below) in
    subst P (sym (get_or-take n xs i d short)) (k i d within)

module _ (bank : Content) (old new : List PathStep) (parent : ℕ) (kind : MoveKind) (goal : List TermId) (with_step : IsWithStep old new parent kind goal) where
  pub pushed_stand : All (StepStands bank) old → All (Stands bank) goal → All (StepStands bank) new
  pushed_stand stand here =
      subst (All (StepStands bank)) (sym with_step.whole) (All-push (StepStands bank) old with_step.last stand (subst (All (Stands bank)) (sym with_step.goal_is) here))

  pub pushed_steps : steps_at bank new ≡ steps_at bank old ++ (step parent (goal_kind kind) (terms_at bank goal) ∷ [])
  pushed_steps =
      ap (steps_at bank) with_step.whole ∙ map_pushed (step_at bank) old with_step.last ∙
      ap (λ p. steps_at bank old ++ step p (goal_kind with_step.last.kind) (terms_at bank with_step.last.goal.items) ∷ []) with_step.parent_is ∙
      ap (λ k. steps_at bank old ++ step parent (goal_kind k) (terms_at bank with_step.last.goal.items) ∷ []) with_step.kind_is ∙
      ap (λ g. steps_at bank old ++ step parent (goal_kind kind) (terms_at bank g) ∷ []) with_step.goal_is

  pub pushed_length : length new ≡ suc (length old)
  pushed_length = ap length with_step.whole ∙ length-append old (with_step.last ∷ []) ∙ omega arith

longer : (bank : Content) (old new : List PathStep) (more : List Step) → steps_at bank new ≡ steps_at bank old ++ more → length old ≤ length new
longer bank old new more e =
    let a = map_length (step_at bank) old in
    let b = map_length (step_at bank) new in
    let c = ap length e in
    let d = length-append (steps_at bank old) more in
    omega (arith, a, b, c, d)

pub steps_within : (history : List Entry) (hints : Hints) (work : Work) (old new : Trail) (goal : List TermId) (number : ℕ) (solved : Solved) → IsSolved history hints work old new goal number solved → length old.steps.items ≤ length new.steps.items
steps_within history hints work old new goal number (Proved line) s = longer work.bank old.steps.items new.steps.items [] (s.1 ∙ sym (append-nil (steps_at work.bank old.steps.items)))
steps_within history hints work old new goal number (Unsolved cause) s = longer work.bank old.steps.items new.steps.items _ s.steps

module _ (history : List Entry) (hints : Hints) (work : Work) (old pushed after final : Trail) (number place count : ℕ) (kind : MoveKind) (next : List TermId) (with_step : IsWithStep old.steps.items pushed.steps.items number kind next) (with_trace : IsWithStep old.trace.items pushed.trace.items place kind next) (path : pushed.path.items ≡ old.path.items) (counted : count ≡ length old.steps.items) (final_path : final.path.items ≡ after.path.items) (final_trace : final.trace.items ≡ after.trace.items) where
  pub next_solved : (n : ℕ) (solved : Solved) → n ≡ length pushed.steps.items → IsSolved history hints work pushed after next n solved → IsCutBack after.steps.items final.steps.items count solved → IsNextSolved history hints work old final number kind next solved
  next_solved n (Proved line) is s cut =
      let B : List PathStep → List Step = steps_at work.bank in
      let pushed_is = pushed_steps work.bank old.steps.items pushed.steps.items number kind next with_step in (
        s.0,
        ap B cut ∙ map_taken (step_at work.bank) count after.steps.items ∙ ap (take count) (s.1 ∙ pushed_is) ∙
            ap (λ k. take k (B old.steps.items ++ (step number (goal_kind kind) (terms_at work.bank next) ∷ []))) (counted ∙ sym (map_length (step_at work.bank) old.steps.items)) ∙
            take_first (B old.steps.items) (step number (goal_kind kind) (terms_at work.bank next) ∷ []),
      )
  next_solved n (Unsolved cause) is s cut =
      let pushed_is = pushed_steps work.bank old.steps.items pushed.steps.items number kind next with_step in
      let L : List Ancestor → ℕ → List Step → List PathStep → Type 0 = λ p m b a. LeavesAt work.bank history hints p next m b (steps_at work.bank a) cause in
      subst (λ p. L p (suc (length old.steps.items)) (steps_at work.bank old.steps.items ++ (step number (goal_kind kind) (terms_at work.bank next) ∷ [])) final.steps.items) path (
      subst (λ m. L pushed.path.items m (steps_at work.bank old.steps.items ++ (step number (goal_kind kind) (terms_at work.bank next) ∷ [])) final.steps.items) (is ∙ pushed_length work.bank old.steps.items pushed.steps.items number kind next with_step) (
      subst (λ b. L pushed.path.items n b final.steps.items) pushed_is (
      subst (λ a. L pushed.path.items n (steps_at work.bank pushed.steps.items) a) (sym cut) s)))

  pub next_trail : (n : ℕ) (solved : Solved) → n ≡ length pushed.trace.items → TrailGoesOn history hints work pushed after next n → IsCutBack after.steps.items final.steps.items count solved → NextGoesOn history hints work old final place kind next
  next_trail n solved is t cut =
      let G : List Ancestor → ℕ → List Step → List PathStep → Type 0 = λ p m b a. TraceGoesOn (events_at work.bank history) (hints_at work.bank hints) (above_at work.bank p) (terms_at work.bank next) m b (steps_at work.bank a) in
      record {
        path = final_path ∙ t.path ∙ path;
        stands = record {
          path = subst (All (AncestorStands work.bank)) (sym final_path) t.stands.path;
          steps = cut_stand solved cut t.stands.steps;
          trace = subst (All (StepStands work.bank)) (sym final_trace) t.stands.trace;
        };
        trace =
            subst (λ p. G p (suc (length old.trace.items)) (steps_at work.bank old.trace.items ++ (step place (goal_kind kind) (terms_at work.bank next) ∷ [])) final.trace.items) path (
            subst (λ m. G pushed.path.items m (steps_at work.bank old.trace.items ++ (step place (goal_kind kind) (terms_at work.bank next) ∷ [])) final.trace.items) (is ∙ pushed_length work.bank old.trace.items pushed.trace.items place kind next with_trace) (
            subst (λ b. G pushed.path.items n b final.trace.items) (pushed_steps work.bank old.trace.items pushed.trace.items place kind next with_trace) (
            subst (λ a. G pushed.path.items n (steps_at work.bank pushed.trace.items) a) (sym final_trace) t.trace)));
      }
    where
      cut_stand : (s : Solved) → IsCutBack after.steps.items final.steps.items count s → All (StepStands work.bank) after.steps.items → All (StepStands work.bank) final.steps.items
      cut_stand (Proved line) e k = subst (All (StepStands work.bank)) (sym e) (taken (StepStands work.bank) count after.steps.items k)
      cut_stand (Unsolved cause) e k = subst (All (StepStands work.bank)) (sym e) k

-- the cause of the first goal that is left over
first_same : (before : Option Cause) (cause : Cause) → Some (first_cause (option_map goal_cause before) (goal_cause cause)) ≡ option_map goal_cause (Some (unwrap_or before cause))
first_same None cause = refl
first_same (Some earlier) cause = refl

above_pushed : (bank : Content) (above : Above) (path : List Ancestor) (a : Ancestor) → above_onto bank above (path ++ a ∷ []) ≡ passed_at bank a ∷ above_onto bank above path
above_pushed bank above [] a = refl
above_pushed bank above (b ∷ path) a = above_pushed bank (passed_at bank b ∷ above) path a

pub above_next : (bank : Content) (old new : List Ancestor) (goal : List TermId) (kind : MoveKind) → IsWithAncestor old new goal kind → above_at bank new ≡ passed (terms_at bank goal) (goal_kind kind) ∷ above_at bank old
above_next bank old new goal by w =
    ap (above_at bank) w.whole ∙ above_pushed bank [] old w.last ∙
    ap (λ g. passed (terms_at bank g) (goal_kind w.last.kind) ∷ above_at bank old) w.goal_is ∙ ap (λ k. passed (terms_at bank goal) (goal_kind k) ∷ above_at bank old) w.kind_is

pub path_pushed : (bank : Content) (old new : List Ancestor) (goal : List TermId) (kind : MoveKind) → IsWithAncestor old new goal kind → All (AncestorStands bank) old → All (Stands bank) goal → All (AncestorStands bank) new
path_pushed bank old new goal by w stand here =
    subst (All (AncestorStands bank)) (sym w.whole) (All-push (AncestorStands bank) old w.last stand (subst (All (Stands bank)) (sym w.goal_is) here))

-- each literal of the goals above is in with a goal more, and where there is none
pub path_in_pushed : (history : List Entry) (work : Work) (old new : List Ancestor) (goal : List TermId) (kind : MoveKind) → IsWithAncestor old new goal kind → IsPathIn history work old → IsGoalIn history work goal → IsPathIn history work new
path_in_pushed history work old new goal kind w above here =
    subst (IsPathIn history work) (sym w.whole) (All-push (λ (a : Ancestor). IsGoalIn history work a.goal.items) old w.last above (subst (IsGoalIn history work) (sym w.goal_is) here))

pub path_in_none : (history : List Entry) (work : Work) (path : List Ancestor) → path ≡ [] → IsPathIn history work path
path_in_none history work path e = subst (IsPathIn history work) (sym e) (λ i d below. absurd (omega (arith, below)))

by_some : {X : Type 0} (a b : X) → Some a ≡ Some b → a ≡ b
by_some a b e = cc

take_suc : {X : Type 0} (xs : List X) (i : ℕ) (x : X) → slice_get xs i ≡ Some x → take (suc i) xs ≡ take i xs ++ x ∷ []
take_suc [] i x e = absurd cc
take_suc (y ∷ xs) zero x e = ap₂ (λ a b. a ∷ b) (by_some y x e) (take_none xs)
take_suc (y ∷ xs) (suc i) x e = ap (λ ys. y ∷ ys) (take_suc xs i x e)

pub take_next : {X : Type 0} (xs : List X) (i : ℕ) (x : X) → slice_get xs i ≡ Some x → take (i + 1) xs ≡ take i xs ++ x ∷ []
take_next xs i x at = ap (λ n. take n xs) (one_more i) ∙ take_suc xs i x at
  where
    one_more : (n : ℕ) → n + 1 ≡ suc n
    one_more n = omega arith

pub found_in : {X : Type 0} (P : X → Type 0) (xs : List X) (k : ℕ) (x : X) → All P xs → slice_get xs k ≡ Some x → P x
found_in P [] k x h e = absurd cc
found_in P (y ∷ xs) zero x h e = subst P (by_some y x e) (All-head P y xs h)
found_in P (y ∷ xs) (suc k) x h e = found_in P xs k x (All-tail P y xs h) e

pub get_at : {X : Type 0} (xs : List X) (i : ℕ) (x : X) → i < length xs → x ≡ get_or xs i x → slice_get xs i ≡ Some x
get_at [] i x below e = absurd (omega (arith, below))
get_at (y ∷ xs) zero x below e = ap Some (sym e)
get_at (y ∷ xs) (suc i) x below e = get_at xs i x (omega (arith, below)) e

-- the element of a turn of a loop
pub turn_at : {X : Type 0} (xs ys : List X) (i : ℕ) (x : X) → ys ≡ xs → i < length ys → x ≡ get_or ys i x → slice_get xs i ≡ Some x
turn_at xs ys i x same below e = ap (λ zs. slice_get zs i) (sym same) ∙ get_at ys i x below e

one_of : (bank : Content) (nexts : List (Vec TermId Global)) (i : ℕ) (next : Vec TermId Global) → slice_get nexts i ≡ Some next → IsOneOf (terms_at bank next.items) (goals_at bank nexts)
one_of bank [] i next e = absurd cc
one_of bank (x ∷ nexts) zero next e = inl (ap (λ v. terms_at bank v.items) (by_some next x (sym e)))
one_of bank (x ∷ nexts) (suc i) next e = inr (one_of bank nexts i next e)

have_more : (work : Work) (goals : List Clause) (lines : List ℕ) (goal : Clause) (line : ℕ) → HaveLines work goals lines → LineHasOnly work line goal → HaveLines work (goals ++ goal ∷ []) (lines ++ line ∷ [])
have_more work [] [] goal line h k = (k, tt)
have_more work [] (n ∷ lines) goal line h k = absurd h
have_more work (g ∷ goals) [] goal line h k = absurd h
have_more work (g ∷ goals) (n ∷ lines) goal line h k = (h.0, have_more work goals lines goal line h.1 k)

have_grown : (history : List Entry) (old new : Work) → WorkStands history old → WorkGrows history old new → (goals : List Clause) (lines : List ℕ) → HaveLines old goals lines → HaveLines new goals lines
have_grown history old new stands grows [] [] h = tt
have_grown history old new stands grows [] (n ∷ lines) h = absurd h
have_grown history old new stands grows (g ∷ goals) [] h = absurd h
have_grown history old new stands grows (g ∷ goals) (n ∷ lines) h = (only_grown history old new n g stands grows h.0, have_grown history old new stands grows goals lines h.1)

closed_grown : (history : List Entry) (old new : Work) → WorkStands history old → WorkGrows history old new → (goals : List Clause) (lines : List ℕ) (cause : Option Cause) → AreClosed old goals lines cause → AreClosed new goals lines cause
closed_grown history old new stands grows goals lines None h = have_grown history old new stands grows goals lines h
closed_grown history old new stands grows goals lines (Some cause) h = tt

closed_more : (work : Work) (goals : List Clause) (lines : List ℕ) (cause : Option Cause) (goal : Clause) (line : ℕ) → AreClosed work goals lines cause → LineHasOnly work line goal → AreClosed work (goals ++ goal ∷ []) (lines ++ line ∷ []) cause
closed_more work goals lines None goal line h k = have_more work goals lines goal line h k
closed_more work goals lines (Some cause) goal line h k = tt

trace_on : (h : History) (hints : model.Hints) (above below : Above) (goal next : List Term) (kind : GoalKind) (nexts : List (List Term)) (place n : ℕ) (first second third : List Step) → below ≡ passed goal kind ∷ above → n ≡ suc (length second) → IsMove h hints above kind goal nexts → IsOneOf next nexts → TraceGoesOn h hints above goal place first second → TraceGoesOn h hints below next n (second ++ (step place kind next ∷ [])) third → TraceGoesOn h hints above goal place first third
trace_on h hints above below goal next kind nexts place n first second third below_is n_is move one t u =
    record {
      more = t.more ++ ((step place kind next ∷ []) ++ u.more);
      whole =
          u.whole ∙ ap (λ s. (s ++ (step place kind next ∷ [])) ++ u.more) t.whole ∙ append_assoc (first ++ t.more) (step place kind next ∷ []) u.more ∙
          append_assoc first t.more ((step place kind next ∷ []) ++ u.more);
      legal = λ c trace at.
          let at_second : IsGoalAt c second place above goal = subst (λ s. IsGoalAt c s place above goal) (sym t.whole) (trace_laws_hold.kept c first t.more place above goal at) in
          let stepped = trace_laws_hold.stepped h hints c second place above goal kind nexts next (t.legal c trace at) at_second move one in
          u.legal c stepped.0
          (subst (λ m. IsGoalAt c (second ++ (step place kind next ∷ [])) m below next) (sym n_is)
          (subst (λ a. IsGoalAt c (second ++ (step place kind next ∷ [])) (suc (length second)) a next) (sym below_is) stepped.1));
    }

module _ (history : List Entry) (hints : Hints) (one two : Work) (ready : CanMove history hints one) (later : CanMove history hints two) (grows : WorkGrows history one two) (laws : HoldingLaws) (first trail after : Trail) (stand : TrailStands one.bank first) (there : TrailStands one.bank trail) (goal : List TermId) (goal_in : IsGoalIn history one goal) (kind : MoveKind) (number place i : ℕ) (nexts : List (Vec TermId Global)) (nexts_in : All (λ next. IsGoalIn history one next.items) nexts) (next : Vec TermId Global) (next_at : slice_get nexts i ≡ Some next) (next_in : IsGoalIn history two next.items) (down : IsWithAncestor first.path.items trail.path.items goal kind) where
  abbrev H : List Clause → List Step → Option Cause → Type 0
  H gs now cause = HasTried (events_at two.bank history) (hints_at two.bank hints) (above_at two.bank first.path.items) (terms_at two.bank goal) (goal_kind kind) number gs (steps_at two.bank first.steps.items) now (option_map goal_cause cause)

  goals_next : goals_at two.bank (take (i + 1) nexts) ≡ goals_at two.bank (take i nexts) ++ terms_at two.bank next.items ∷ []
  goals_next = ap (goals_at two.bank) (take_next nexts i next next_at) ∙ map_pushed (λ g. terms_at two.bank g.items) (take i nexts) next

  pub next_tried : (solved : Solved) (tried more : Tried) → TriedAt one.bank history hints first.path.items goal kind number (take i nexts) (steps_at one.bank first.steps.items) (steps_at one.bank trail.steps.items) tried.cause → IsNextSolved history hints two trail after number kind next.items solved → IsNoted tried more solved → TriedAt two.bank history hints first.path.items goal kind number (take (i + 1) nexts) (steps_at two.bank first.steps.items) (steps_at two.bank after.steps.items) more.cause
  next_tried solved tried more t s noted = subst (λ gs. H gs (steps_at two.bank after.steps.items) more.cause) (sym goals_next) (by_solved solved s noted)
    where
      base : H (goals_at two.bank (take i nexts)) (steps_at two.bank trail.steps.items) tried.cause
      base = tried_grown history hints one two ready grows first stand goal goal_in trail kind number (take i nexts) tried.cause (taken (λ next. IsGoalIn history one next.items) i nexts nexts_in) there t

      by_solved : (solved : Solved) → IsNextSolved history hints two trail after number kind next.items solved → IsNoted tried more solved → H (goals_at two.bank (take i nexts) ++ terms_at two.bank next.items ∷ []) (steps_at two.bank after.steps.items) more.cause
      by_solved (Proved line) s noted =
          subst (H (goals_at two.bank (take i nexts) ++ terms_at two.bank next.items ∷ []) (steps_at two.bank after.steps.items)) (sym noted.1) (
          subst (λ now. H (goals_at two.bank (take i nexts) ++ terms_at two.bank next.items ∷ []) now tried.cause) (sym s.1) (
          solver_laws.proved (events_at two.bank history) (hints_at two.bank hints) (above_at two.bank first.path.items) (terms_at two.bank goal) (goal_kind kind) number (goals_at two.bank (take i nexts)) (steps_at two.bank first.steps.items) (steps_at two.bank trail.steps.items) (option_map goal_cause tried.cause) (terms_at two.bank next.items) base
          (laws.derivable history two next.items line later.holds next_in s.0)))
      by_solved (Unsolved cause) s noted =
          subst (H (goals_at two.bank (take i nexts) ++ terms_at two.bank next.items ∷ []) (steps_at two.bank after.steps.items)) (sym noted) (
          subst (HasTried (events_at two.bank history) (hints_at two.bank hints) (above_at two.bank first.path.items) (terms_at two.bank goal) (goal_kind kind) number (goals_at two.bank (take i nexts) ++ terms_at two.bank next.items ∷ []) (steps_at two.bank first.steps.items) (steps_at two.bank after.steps.items)) (first_same tried.cause cause) (
          solver_laws.unsolved (events_at two.bank history) (hints_at two.bank hints) (above_at two.bank first.path.items) (terms_at two.bank goal) (goal_kind kind) number (goals_at two.bank (take i nexts)) (steps_at two.bank first.steps.items) (steps_at two.bank trail.steps.items) (steps_at two.bank after.steps.items) (option_map goal_cause tried.cause) (goal_cause cause) (terms_at two.bank next.items) base
          (subst (λ a. LeavesUnsolved (events_at two.bank history) (hints_at two.bank hints) a (terms_at two.bank next.items) (suc (length (steps_at two.bank trail.steps.items))) (steps_at two.bank trail.steps.items ++ (step number (goal_kind kind) (terms_at two.bank next.items) ∷ [])) (steps_at two.bank after.steps.items) (goal_cause cause)) (above_next two.bank first.path.items trail.path.items goal kind down)
          (subst (λ n. LeavesUnsolved (events_at two.bank history) (hints_at two.bank hints) (above_at two.bank trail.path.items) (terms_at two.bank next.items) (suc n) (steps_at two.bank trail.steps.items ++ (step number (goal_kind kind) (terms_at two.bank next.items) ∷ [])) (steps_at two.bank after.steps.items) (goal_cause cause)) (sym (map_length (step_at two.bank) trail.steps.items)) s))))

  pub next_closed : (solved : Solved) (tried more : Tried) → AreClosed one (goals_at one.bank (take i nexts)) tried.lines.items tried.cause → IsNextSolved history hints two trail after number kind next.items solved → IsNoted tried more solved → AreClosed two (goals_at two.bank (take (i + 1) nexts)) more.lines.items more.cause
  next_closed solved tried more k s noted = subst (λ gs. AreClosed two gs more.lines.items more.cause) (sym goals_next) (by_solved solved s noted)
    where
      base : AreClosed two (goals_at two.bank (take i nexts)) tried.lines.items tried.cause
      base =
          subst (λ gs. AreClosed two gs tried.lines.items tried.cause) (sym (goals_same one.bank two.bank grows.bank (take i nexts) (goals_stand history one (take i nexts) (taken (λ next. IsGoalIn history one next.items) i nexts nexts_in))))
          (closed_grown history one two ready.stands grows (goals_at one.bank (take i nexts)) tried.lines.items tried.cause k)

      by_solved : (solved : Solved) → IsNextSolved history hints two trail after number kind next.items solved → IsNoted tried more solved → AreClosed two (goals_at two.bank (take i nexts) ++ terms_at two.bank next.items ∷ []) more.lines.items more.cause
      by_solved (Proved line) s noted =
          subst (AreClosed two (goals_at two.bank (take i nexts) ++ terms_at two.bank next.items ∷ []) more.lines.items) (sym noted.1) (
          subst (λ ls. AreClosed two (goals_at two.bank (take i nexts) ++ terms_at two.bank next.items ∷ []) ls tried.cause) (sym noted.0) (
          closed_more two (goals_at two.bank (take i nexts)) tried.lines.items tried.cause (terms_at two.bank next.items) line base s.0))
      by_solved (Unsolved cause) s noted = subst (AreClosed two (goals_at two.bank (take i nexts) ++ terms_at two.bank next.items ∷ []) more.lines.items) (sym noted) tt

  pub next_trace : MoveAt two.bank history hints first.path.items kind goal nexts → GoesOnAt two.bank history hints first.path.items goal place first.trace.items trail.trace.items → NextGoesOn history hints two trail after place kind next.items → GoesOnAt two.bank history hints first.path.items goal place first.trace.items after.trace.items
  next_trace move t u =
      trace_on (events_at two.bank history) (hints_at two.bank hints) (above_at two.bank first.path.items) (above_at two.bank trail.path.items) (terms_at two.bank goal) (terms_at two.bank next.items) (goal_kind kind) (goals_at two.bank nexts) place (suc (length trail.trace.items)) (steps_at two.bank first.trace.items) (steps_at two.bank trail.trace.items) (steps_at two.bank after.trace.items)
      (above_next two.bank first.path.items trail.path.items goal kind down)
      (ap suc (sym (map_length (step_at two.bank) trail.trace.items))) move (one_of two.bank nexts i next next_at) t u.trace

  pub next_down : NextGoesOn history hints two trail after place kind next.items → IsWithAncestor first.path.items after.path.items goal kind
  next_down u = record { last = down.last; whole = u.path ∙ down.whole; goal_is = down.goal_is; kind_is = down.kind_is }
