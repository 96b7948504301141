-- Moves of GEN and ELIM below other goals.
use Rattle.std.proofs.Common.{◌≡◌, List, [], ◌∷◌, ◌++◌, refl, sym, ap, ap₂, ◌∙◌, subst}
use Rattle.std.specs.Prelude.{All, Vec}
use Rattle.std.specs.declared.alloc.Global.{Global}
use Rattle.std.proofs.lemmas.List.{append_assoc}
use Rattle.nq_logic.specs.Histories.{History}
use Rattle.nq_bank.specs.declared.node.TermId.{TermId}
use Rattle.nq_bank.specs.Content.{Content, terms_at}
use Rattle.nq_bank.proofs.Standing.{All-push}
use Rattle.nq_proof.specs.Clauses.{Clause}
use Rattle.nq_history.specs.declared.entry.Entry.{Entry}
use Rattle.nq_history.specs.declared.hints.Hints.{Hints}
use Rattle.nq_history.specs.Events.{events_at}
use Rattle.nq_event.specs.EventsAt.{hints_at}
use Rattle.nq_events.specs.Events as model
use Rattle.nq_kernel.specs.declared.work.Work.{Work}
use Rattle.nq_kernel.specs.declared.verdict.MoveKind.TheVariants as kind
use Rattle.nq_kernel.specs.Growing.{WorkGrows}
use Rattle.nq_goals.specs.Paths.{Above, goals_above}
use Rattle.nq_goals.specs.Generalizing.{GeneralizeMove, generalizings_of}
use Rattle.nq_goals.specs.Eliminating.{EliminateMove}
use Rattle.nq_goals.specs.Moves.{IsMove, eliminates, generalizes}
use Rattle.nq_eliminate.specs.Instances.{Eliminates}
use Rattle.nq_eliminate.specs.Finding.{HasNoElimination}
use Rattle.nq_moves.specs.declared.moved.Moved.{Moved}
use Rattle.nq_generalize.specs.Found.{Generalizes}
use Rattle.nq_waterfall.specs.Kinds.{goal_kind}
use Rattle.nq_waterfall.specs.declared.trail.Ancestor.{Ancestor}
use Rattle.nq_waterfall.specs.Ready.{CanMove, IsGoalIn, IsPathIn}
use Rattle.nq_waterfall.specs.Trails.{above_at, above_onto, goals_at, passed_at, AncestorStands}
use Rattle.nq_waterfall.specs.Turns.{MoveAt}
use Rattle.nq_waterfall.proofs.SameLemmas.{goal_stands, scene_grown}
use Rattle.nq_waterfall.proofs.SolvingLemmas.{map_pushed}
use Rattle.nq_bank.proofs.NodesLemmas.{All-head, All-tail}
use Rattle.nq_legal.specs.Legal.{NormalAt}

-- what stands above the first of the goals comes last
goals_onto : (bank : Content) (above : Above) (path : List Ancestor) → goals_above (above_onto bank above path) ≡ goals_above (above_onto bank [] path) ++ goals_above above
goals_onto bank above [] = refl
goals_onto bank above (a ∷ path) =
    goals_onto bank (passed_at bank a ∷ above) path ∙
    sym (append_assoc (goals_above (above_onto bank [] path)) (terms_at bank a.goal.items ∷ []) (goals_above above)) ∙
    ap (λ (gs : List Clause). gs ++ goals_above above) (sym (goals_onto bank (passed_at bank a ∷ []) path))

-- the first of the goals comes last
pub goals_pushed : (bank : Content) (a : Ancestor) (path : List Ancestor) (before after : List (Vec TermId Global)) (goal : Vec TermId Global) → goals_at bank before ≡ goals_above (above_at bank path) → goal.items ≡ a.goal.items → after ≡ before ++ goal ∷ []
    → goals_at bank after ≡ goals_above (above_at bank (a ∷ path))
goals_pushed bank a path before after goal rest same whole =
    ap (goals_at bank) whole ∙ map_pushed (λ (g : Vec TermId Global). terms_at bank g.items) before goal ∙
    ap₂ (λ (gs : List Clause) (ts : List TermId). gs ++ terms_at bank ts ∷ []) rest same ∙
    sym (goals_onto bank (passed_at bank a ∷ []) path)

-- each literal of the goals is in where it is so of the way down
pub inside_pushed : (history : List Entry) (work : Work) (a : Ancestor) (path : List Ancestor) (before after : List (Vec TermId Global)) (goal : Vec TermId Global) → (IsPathIn history work path → All (λ g. IsGoalIn history work g.items) before) → goal.items ≡ a.goal.items → after ≡ before ++ goal ∷ []
    → IsPathIn history work (a ∷ path) → All (λ g. IsGoalIn history work g.items) after
inside_pushed history work a path before after goal rest same whole above =
    let P : Vec TermId Global → Type 0 = λ g. IsGoalIn history work g.items in
    let Q : Ancestor → Type 0 = λ b. IsGoalIn history work b.goal.items in
    subst (All P) (sym whole) (All-push P before goal (rest (All-tail Q a path above)) (subst (IsGoalIn history work) (sym same) (All-head Q a path above)))

module _ (history : List Entry) (hints : Hints) (old new : Work) (ready : CanMove history hints old) (grows : WorkGrows history old new) (path : List Ancestor) (stand : All (AncestorStands old.bank) path) (goal : List TermId) (goal_in : IsGoalIn history old goal) where
  -- a GEN below the goals above is legal
  pub generalization_leads : (above : List (Vec TermId Global)) (moved : Moved) → goals_at old.bank above ≡ goals_above (above_at old.bank path) → NormalAt old.bank history hints goal
      → Generalizes (events_at old.bank history) (hints_at old.bank hints) old.bank new.bank above goal moved → MoveAt new.bank history hints path kind.Gen goal moved.children.items
  generalization_leads above moved goals normal g =
      let nexts : List Clause = goals_at new.bank moved.children.items in
      scene_grown history hints old new path goal (λ (h : History) (hs : model.Hints) (a : Above) (c : Clause). IsMove h hs a (goal_kind kind.Gen) c nexts) ready grows stand (goal_stands history old goal goal_in)
      (generalizes (terms_at old.bank goal) nexts normal (subst (λ (gs : List Clause). GeneralizeMove (events_at old.bank history) (hints_at old.bank hints) gs (terms_at old.bank goal) nexts) goals g.leads))

  pub no_generalization : generalizings_of (events_at old.bank history) (hints_at old.bank hints) (terms_at old.bank goal) ≡ [] → generalizings_of (events_at new.bank history) (hints_at new.bank hints) (terms_at new.bank goal) ≡ []
  no_generalization e = scene_grown history hints old new path goal (λ (h : History) (hs : model.Hints) (a : Above) (c : Clause). generalizings_of h hs c ≡ []) ready grows stand (goal_stands history old goal goal_in) e

  -- an ELIM below the goals above is legal
  pub elimination_leads : (above : List (Vec TermId Global)) (moved : Moved) → goals_at old.bank above ≡ goals_above (above_at old.bank path) → NormalAt old.bank history hints goal
      → Eliminates (events_at old.bank history) (hints_at old.bank hints) old.bank new.bank above goal moved → MoveAt new.bank history hints path kind.Elim goal moved.children.items
  elimination_leads above moved goals normal e =
      let nexts : List Clause = goals_at new.bank moved.children.items in
      scene_grown history hints old new path goal (λ (h : History) (hs : model.Hints) (a : Above) (c : Clause). IsMove h hs a (goal_kind kind.Elim) c nexts) ready grows stand (goal_stands history old goal goal_in)
      (eliminates (terms_at old.bank goal) nexts normal (subst (λ (gs : List Clause). EliminateMove (events_at old.bank history) (hints_at old.bank hints) gs (terms_at old.bank goal) nexts) goals e.leads))

  pub no_elimination : HasNoElimination (events_at old.bank history) (hints_at old.bank hints) (terms_at old.bank goal) → HasNoElimination (events_at new.bank history) (hints_at new.bank hints) (terms_at new.bank goal)
  no_elimination e = scene_grown history hints old new path goal (λ (h : History) (hs : model.Hints) (a : Above) (c : Clause). HasNoElimination h hs c) ready grows stand (goal_stands history old goal goal_in) e
