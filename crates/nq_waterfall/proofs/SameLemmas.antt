-- What goals, ways down and steps stand for stays as the bank grows.
use Rattle.std.proofs.Common.{◌≡◌, ℕ, ◌+◌, ◌≤◌, Option, Some, None, List, [], ◌∷◌, map, get_or, refl, sym, ap, ap₂, ◌∙◌, subst, arith}
use Rattle.std.specs.Prelude.{All, IfSome, Vec, Result, Ok, Err}
use Rattle.std.specs.Option.{option_map}
use Rattle.std.specs.declared.alloc.Global.{Global}
use Rattle.nq_logic.specs.Terms.{Term}
use Rattle.nq_logic.specs.Histories.{History}
use Rattle.nq_bank.specs.declared.node.TermId.{TermId}
use Rattle.nq_bank.specs.declared.node.Sym.{Sym}
use Rattle.nq_bank.specs.Content.{Content, Stands, IsNamed, Grows, term_at, terms_at}
use Rattle.nq_bank.proofs.Growth.{Grows-refl, Stands-grown, IsNamed-grown, text_at-grown, term_at-grown, terms_at-grown}
use Rattle.nq_bank.proofs.Standing.{stand_grown}
use Rattle.nq_bank.proofs.NodesLemmas.{All-head, All-tail}
use Rattle.nq_proof.specs.Clauses.{Clause}
use Rattle.nq_clause.specs.declared.substitution.Pair.{Pair}
use Rattle.nq_clause.specs.Substitution.{PairStands}
use Rattle.nq_clause.proofs.SubstitutionLemmas.{pairs_grown}
use Rattle.nq_history.specs.declared.entry.Entry.{Entry}
use Rattle.nq_history.specs.declared.hints.Instance.{Instance}
use Rattle.nq_history.specs.declared.hints.Hints.{Hints}
use Rattle.nq_history.specs.Events.{events_at}
use Rattle.nq_history.specs.Hints.{HintsStand, InstanceStands}
use Rattle.nq_history.proofs.HistoryLemmas.{events_at-grown}
use Rattle.nq_history.proofs.ShellLemmas.{texts-grown}
use Rattle.nq_steps.proofs.NameLemmas.{AddsSymbols-refl}
use Rattle.nq_events.specs.Events as model
use Rattle.nq_kernel.specs.declared.work.Work.{Work}
use Rattle.nq_kernel.specs.declared.work.Stop.{Stop}
use Rattle.nq_kernel.specs.declared.work.Stop.TheVariants.{OutOfSteps, Memory}
use Rattle.nq_kernel.specs.Growing.{WorkStands, WorkGrows, CountsUp}
use Rattle.nq_kernel.specs.Hints.{HintsAreIn, PairIsIn}
use Rattle.nq_kernel.specs.Over.{IsVariable, TermIsIn}
use Rattle.nq_kernel.proofs.GrowingLemmas.{bank_grows}
use Rattle.nq_lines.proofs.TermLemmas.{term_grown}
use Rattle.nq_goals.specs.Paths.{Above, passed}
use Rattle.nq_goals.specs.Forests.{step}
use Rattle.nq_waterfall.specs.Kinds.{goal_kind}
use Rattle.nq_waterfall.specs.declared.trail.Ancestor.{Ancestor}
use Rattle.nq_kernel.specs.declared.verdict.PathStep.{PathStep}
use Rattle.nq_waterfall.specs.declared.trail.Trail.{Trail}
use Rattle.nq_event.specs.EventsAt.{pair_at, instance_at, hints_at}
use Rattle.nq_waterfall.specs.Trails.{goals_at, passed_at, above_onto, above_at, steps_at, AncestorStands, StepStands, TrailStands}
use Rattle.nq_waterfall.specs.Ready.{CanMove, IsGoalIn, IsPathIn, HoldingLaws}

counts : (history : List Entry) (old new : Work) → WorkStands history old → new ≡ record { bank = old.bank; log = old.log; counter = new.counter; known = old.known } → CountsUp old.counter new.counter → WorkGrows history old new
counts history old new stands same up = subst (WorkGrows history old) (sym same) (bank_grows history old old.bank new.counter stands (Grows-refl old.bank) (AddsSymbols-refl old.bank) up)

-- an entry that was counted, or refused
pub entered : (history : List Entry) (old new : Work) (r : Result (Unit {0}) Stop) → WorkStands history old → new ≡ record { bank = old.bank; log = old.log; counter = new.counter; known = old.known } → (r ≡ Err OutOfSteps → new.counter.used ≡ new.counter.limit) → (r ≡ Err Memory → ⊥) → ((u : Unit {0}) → r ≡ Ok u → new.counter.used ≡ old.counter.used + 1) → new.counter.limit ≡ old.counter.limit → old.counter.used ≤ old.counter.limit → WorkGrows history old new
entered history old new (Ok u) stands same out memory ok limit within = let one = ok u refl in counts history old new stands same (record { used = omega (arith, one); limit = limit })
entered history old new (Err OutOfSteps) stands same out memory ok limit within = let full = out refl in counts history old new stands same (record { used = omega (arith, full, limit, within); limit = limit })
entered history old new (Err Memory) stands same out memory ok limit within = absurd (memory refl)

module _ (old new : Content) (h : Grows old new) where
  pub above_same : (above : Above) (path : List Ancestor) → All (AncestorStands old) path → above_onto new above path ≡ above_onto old above path
  above_same above [] k = refl
  above_same above (a ∷ path) k =
      let here : passed_at new a ≡ passed_at old a = ap (λ c. passed c (goal_kind a.kind)) (terms_at-grown old new a.goal.items h (All-head (AncestorStands old) a path k)) in
      ap (λ p. above_onto new (p ∷ above) path) here ∙ above_same (passed_at old a ∷ above) path (All-tail (AncestorStands old) a path k)

  pub steps_same : (steps : List PathStep) → All (StepStands old) steps → steps_at new steps ≡ steps_at old steps
  steps_same [] k = refl
  steps_same (s ∷ steps) k =
      ap₂ (λ a b. a ∷ b) (ap (λ c. step s.parent (goal_kind s.kind) c) (terms_at-grown old new s.goal.items h (All-head (StepStands old) s steps k))) (steps_same steps (All-tail (StepStands old) s steps k))

  pub goals_same : (goals : List (Vec TermId Global)) → All (λ goal. All (Stands old) goal.items) goals → goals_at new goals ≡ goals_at old goals
  goals_same [] k = refl
  goals_same (goal ∷ goals) k =
      ap₂ (λ a b. a ∷ b) (terms_at-grown old new goal.items h (All-head (λ goal. All (Stands old) goal.items) goal goals k)) (goals_same goals (All-tail (λ goal. All (Stands old) goal.items) goal goals k))

  pub path_grown : (path : List Ancestor) → All (AncestorStands old) path → All (AncestorStands new) path
  path_grown path k = λ i d below. stand_grown old new (get_or path i d).goal.items h (k i d below)

  pub steps_grown : (steps : List PathStep) → All (StepStands old) steps → All (StepStands new) steps
  steps_grown steps k = λ i d below. stand_grown old new (get_or steps i d).goal.items h (k i d below)

  pub trail_grown : (trail : Trail) → TrailStands old trail → TrailStands new trail
  trail_grown trail k = record { path = path_grown trail.path.items k.path; steps = steps_grown trail.steps.items k.steps; trace = steps_grown trail.trace.items k.trace }

  pairs_same : (pairs : List Pair) → All (PairStands old) pairs → map (pair_at new) pairs ≡ map (pair_at old) pairs
  pairs_same [] k = refl
  pairs_same (p ∷ pairs) k =
      let here : PairStands old p = All-head (PairStands old) p pairs k in
      ap₂ (λ a b. a ∷ b) (ap₂ (λ (x : List ℕ) (t : Term). (x, t)) (text_at-grown old new p.variable h here.variable) (term_at-grown old new p.term h here.term)) (pairs_same pairs (All-tail (PairStands old) p pairs k))

  made : List ℕ → List (List ℕ × Term) → model.Instance
  made name pairs = record { name = name; pairs = pairs }

  instances_same : (instances : List Instance) → All (InstanceStands old) instances → map (instance_at new) instances ≡ map (instance_at old) instances
  unfolding made
  instances_same [] k = refl
  instances_same (i ∷ instances) k =
      let here : InstanceStands old i = All-head (InstanceStands old) i instances k in
      ap₂ (λ a b. a ∷ b) (ap₂ made (text_at-grown old new i.name h here.name) (pairs_same i.pairs.items here.pairs)) (instances_same instances (All-tail (InstanceStands old) i instances k))

  term_same : (o : Option TermId) → IfSome o (Stands old) → option_map (term_at new) o ≡ option_map (term_at old) o
  term_same None k = refl
  term_same (Some t) k = ap Some (term_at-grown old new t h k)

  term_stands : (o : Option TermId) → IfSome o (Stands old) → IfSome o (Stands new)
  term_stands None k = tt
  term_stands (Some t) k = Stands-grown old new t h k

  names_grown : (names : List Sym) → All (IsNamed old) names → All (IsNamed new) names
  names_grown names k = λ i d below. IsNamed-grown old new (get_or names i d) h (k i d below)

  pub hints_same : (hints : Hints) → HintsStand old hints → hints_at new hints ≡ hints_at old hints
  hints_same hints k =
      let a = instances_same hints.instances.items k.instances in
      let b = texts-grown old new h hints.enable.items k.enable in
      let c = texts-grown old new h hints.disable.items k.disable in
      let d = terms_at-grown old new hints.expand.items h k.expand in
      let e = term_same hints.induct k.induct in
      let f = texts-grown old new h hints.hands_off.items k.hands_off in
      rw (a, b, c, d, e, f) refl

  pub hints_grown : (hints : Hints) → HintsStand old hints → HintsStand new hints
  hints_grown hints k =
      record {
        instances = λ i d below. let here = k.instances i d below in record { name = IsNamed-grown old new (get_or hints.instances.items i d).name h here.name; pairs = pairs_grown old new (get_or hints.instances.items i d).pairs.items h here.pairs };
        enable = names_grown hints.enable.items k.enable;
        disable = names_grown hints.disable.items k.disable;
        expand = stand_grown old new hints.expand.items h k.expand;
        induct = term_stands hints.induct k.induct;
        hands_off = names_grown hints.hands_off.items k.hands_off;
      }

module _ (history : List Entry) (old new : Work) (stands : WorkStands history old) (grows : WorkGrows history old new) where
  in_grown : (t : TermId) → Stands old.bank t → TermIsIn old.bank history t → TermIsIn new.bank history t
  in_grown t k over = (term_grown history old new t stands grows (record { stands = k; over = over })).over

  pair_grown : (p : Pair) → PairStands old.bank p → PairIsIn old.bank history p → PairIsIn new.bank history p
  pair_grown p k over = record { variable = subst IsVariable (sym (text_at-grown old.bank new.bank p.variable grows.bank k.variable)) over.variable; term = in_grown p.term k.term over.term }

  induct_grown : (o : Option TermId) → IfSome o (Stands old.bank) → IfSome o (TermIsIn old.bank history) → IfSome o (TermIsIn new.bank history)
  induct_grown None k over = tt
  induct_grown (Some t) k over = in_grown t k over

  hints_in_grown : (hints : Hints) → HintsStand old.bank hints → HintsAreIn old.bank history hints → HintsAreIn new.bank history hints
  hints_in_grown hints k over =
      record {
        instances = λ i d below j e within. pair_grown (get_or (get_or hints.instances.items i d).pairs.items j e) ((k.instances i d below).pairs j e within) (over.instances i d below j e within);
        expand = λ i d below. in_grown (get_or hints.expand.items i d) (k.expand i d below) (over.expand i d below);
        induct = induct_grown hints.induct k.induct over.induct;
      }

  pub goal_grown : (goal : List TermId) → IsGoalIn history old goal → IsGoalIn history new goal
  goal_grown goal k = λ i d below. term_grown history old new (get_or goal i d) stands grows (k i d below)

  pub goals_grown : (goals : List (Vec TermId Global)) → All (λ goal. IsGoalIn history old goal.items) goals → All (λ goal. IsGoalIn history new goal.items) goals
  goals_grown goals k = λ i d below. goal_grown (get_or goals i d).items (k i d below)

  pub path_in_grown : (path : List Ancestor) → IsPathIn history old path → IsPathIn history new path
  path_in_grown path k = λ i d below. goal_grown (get_or path i d).goal.items (k i d below)

  pub ready_grown : HoldingLaws → (hints : Hints) → CanMove history hints old → CanMove history hints new
  ready_grown laws hints ready =
      record {
        stands = grows.stands;
        ready = laws.ready old.bank new.bank history stands.history grows.bank ready.ready;
        holds = laws.grown history old new stands ready.ready ready.holds grows;
        hints_stand = hints_grown old.bank new.bank grows.bank hints ready.hints_stand;
        hints_in = hints_in_grown hints ready.hints_stand ready.hints_in;
      }

pub goal_stands : (history : List Entry) (work : Work) (goal : List TermId) → IsGoalIn history work goal → All (Stands work.bank) goal
goal_stands history work goal k = λ i d below. (k i d below).stands

pub goals_stand : (history : List Entry) (work : Work) (goals : List (Vec TermId Global)) → All (λ goal. IsGoalIn history work goal.items) goals → All (λ goal. All (Stands work.bank) goal.items) goals
goals_stand history work goals k = λ i d below j e within. (k i d below j e within).stands

-- What is said of a goal under others, it says still.
pub scene_grown : (history : List Entry) (hints : Hints) (old new : Work) (path : List Ancestor) (goal : List TermId) (P : History → model.Hints → Above → Clause → Type 0) → CanMove history hints old → WorkGrows history old new → All (AncestorStands old.bank) path → All (Stands old.bank) goal → P (events_at old.bank history) (hints_at old.bank hints) (above_at old.bank path) (terms_at old.bank goal) → P (events_at new.bank history) (hints_at new.bank hints) (above_at new.bank path) (terms_at new.bank goal)
scene_grown history hints old new path goal P ready grows above here x =
    subst (λ es. P es (hints_at new.bank hints) (above_at new.bank path) (terms_at new.bank goal)) (sym (events_at-grown old.bank new.bank grows.bank history ready.stands.history.entries)) (
    subst (λ hs. P (events_at old.bank history) hs (above_at new.bank path) (terms_at new.bank goal)) (sym (hints_same old.bank new.bank grows.bank hints ready.hints_stand)) (
    subst (λ a. P (events_at old.bank history) (hints_at old.bank hints) a (terms_at new.bank goal)) (sym (above_same old.bank new.bank grows.bank [] path above)) (
    subst (λ g. P (events_at old.bank history) (hints_at old.bank hints) (above_at old.bank path) g) (sym (terms_at-grown old.bank new.bank goal grows.bank here)) x)))
