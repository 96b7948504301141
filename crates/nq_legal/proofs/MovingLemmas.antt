-- Moves of SUBST, FERT, GEN and IRR.
use Rattle.std.proofs.Common.{◌≡◌, ◌<◌, ◌≤◌, ◌+◌, ℕ, zero, suc, List, [], ◌∷◌, ◌++◌, map, get_or, length, take, Option, Some, None, refl, sym, ap, ap₂, ◌∙◌, subst, arith}
use Rattle.std.proofs.lemmas.List.{take_all}
use Rattle.std.specs.Prelude.{All, IfOk, MatchOption, Result, Ok, Err, Vec, slice_get}
use Rattle.std.specs.declared.alloc.Global.{Global}
use Rattle.nq_logic.specs.Histories.{History}
use Rattle.nq_bank.specs.declared.node.TermId.{TermId}
use Rattle.nq_bank.specs.Content.{Content, terms_at}
use Rattle.nq_proof.specs.Clauses.{Clause}
use Rattle.nq_history.specs.declared.entry.Entry.{Entry}
use Rattle.nq_history.specs.declared.hints.Hints.{Hints}
use Rattle.nq_history.specs.Events.{events_at}
use Rattle.nq_event.specs.EventsAt.{hints_at}
use Rattle.nq_events.specs.Events as model
use Rattle.nq_kernel.specs.declared.work.Work.{Work}
use Rattle.nq_kernel.specs.declared.work.Stop.{Stop}
use Rattle.nq_kernel.specs.declared.verdict.MoveKind.{MoveKind}
use Rattle.nq_kernel.specs.declared.verdict.MoveKind.TheVariants as kind
use Rattle.nq_kernel.specs.Growing.{WorkStands, WorkGrows}
use Rattle.nq_goals.specs.Paths.{Above, goals_above}
use Rattle.nq_goals.specs.Dropping.{DropMove, droppings_of}
use Rattle.nq_goals.specs.Fertilizing.{FertilizeMove, fertilizings_of}
use Rattle.nq_goals.specs.Substituting.{SubstituteMove, substitutions_of}
use Rattle.nq_goals.specs.Normal.{IsNormal}
use Rattle.nq_goals.specs.Moves.{IsMove, substitutes, fertilizes, drops}
use Rattle.nq_moves.specs.declared.moved.Moved.{Moved}
use Rattle.nq_moves.specs.OfTable.{IsOfTable}
use Rattle.nq_moves.specs.Ways as moves
use Rattle.nq_moves.proofs.WayLemmas.{way_lasts}
use Rattle.nq_waterfall.specs.Kinds.{goal_kind}
use Rattle.nq_waterfall.specs.declared.trail.Ancestor.{Ancestor}
use Rattle.nq_waterfall.specs.Ready.{CanMove, IsGoalIn}
use Rattle.nq_waterfall.specs.Trails.{above_at, goals_at, AncestorStands}
use Rattle.nq_bank.proofs.NodesLemmas.{All-head, All-tail}
use Rattle.nq_waterfall.proofs.SameLemmas.{goal_stands, scene_grown}
use Rattle.nq_waterfall.proofs.SolvingLemmas.{map_pushed, take_next}
use Rattle.nq_waterfall.specs.declared.mover.Lead.{Lead}
use Rattle.nq_legal.specs.declared.way.Way.{Way}
use Rattle.nq_legal.specs.declared.way.Way.TheVariants as way
use Rattle.nq_waterfall.specs.Turns.{IsLead, MoveAt}
use Rattle.nq_legal.specs.Legal.{AreCopies, IsLegal, IsWay, LeadsAnywhere, NormalAt}

terms_of : (bank : Content) (goals : List (Vec TermId Global)) → goals_at bank goals ≡ map (terms_at bank) (map (λ (g : Vec TermId Global). g.items) goals)
terms_of bank [] = refl
terms_of bank (g ∷ goals) = ap (λ (gs : List Clause). terms_at bank g.items ∷ gs) (terms_of bank goals)

-- copies of goals are the same goals
pub same_goals : (bank : Content) (copies goals : List (Vec TermId Global)) → AreCopies copies goals → goals_at bank copies ≡ goals_at bank goals
same_goals bank copies goals e = terms_of bank copies ∙ ap (map (terms_at bank)) e ∙ sym (terms_of bank goals)

heads : (a b : List TermId) (these those : List (List TermId)) → a ∷ these ≡ b ∷ those → a ≡ b
heads a b these those e = cc

tails : (a b : List TermId) (these those : List (List TermId)) → a ∷ these ≡ b ∷ those → these ≡ those
tails a b these those e = cc

apart : (a : List TermId) (these : List (List TermId)) → a ∷ these ≡ [] → ⊥
apart a these e = absurd cc

all_with : (P : List TermId → Type 0) (c : Vec TermId Global) (copies : List (Vec TermId Global)) → P c.items → All (λ goal. P goal.items) copies → All (λ goal. P goal.items) (c ∷ copies)
all_with P c copies first rest = at
  where
    at : (k : ℕ) (d : Vec TermId Global) → k < length (c ∷ copies) → P (get_or (c ∷ copies) k d).items
    at zero d below = first
    at (suc k) d below = rest k d (omega (arith, below))

-- what holds of goals holds of their copies
copies_inside : (P : List TermId → Type 0) (copies goals : List (Vec TermId Global)) → AreCopies copies goals → All (λ goal. P goal.items) goals → All (λ goal. P goal.items) copies
copies_inside P [] goals e all = λ k d below. absurd (omega (arith, below))
copies_inside P (c ∷ copies) [] e all = absurd (apart c.items (map (λ (g : Vec TermId Global). g.items) copies) e)
copies_inside P (c ∷ copies) (g ∷ goals) e all =
    all_with P c copies
    (subst P (sym (heads c.items g.items (map (λ (v : Vec TermId Global). v.items) copies) (map (λ (v : Vec TermId Global). v.items) goals) e)) (All-head (λ goal. P goal.items) g goals all))
    (copies_inside P copies goals (tails c.items g.items (map (λ (v : Vec TermId Global). v.items) copies) (map (λ (v : Vec TermId Global). v.items) goals) e) (All-tail (λ goal. P goal.items) g goals all))

-- a move that can be gone back is legal below these goals
pub moved_below : (history : List Entry) (hints : Hints) (work : Work) (path : List Ancestor) (goal : List TermId) (by : MoveKind) (moved : Moved) (nexts : Vec (Vec TermId Global) Global) → WorkStands history work → IsGoalIn history work goal →
    moves.IsMove history work goal moved → MoveAt work.bank history hints path by goal moved.children.items → AreCopies nexts.items moved.children.items →
    IsLead IsWay history hints work path goal (record { kind = by; nexts = nexts; way = way.Moved moved })
moved_below history hints work path goal by moved nexts stands goal_in m leads same =
    record {
      move =
          subst (λ (gs : List Clause). IsMove (events_at work.bank history) (hints_at work.bank hints) (above_at work.bank path) (goal_kind by) (terms_at work.bank goal) gs) (sym (same_goals work.bank nexts.items moved.children.items same)) leads;
      nexts_in = copies_inside (IsGoalIn history work) nexts.items moved.children.items same m.children_in;
      way_back = λ later grows. (way_lasts history work later stands grows goal goal_in moved m.way, same);
    }

-- and so is one that is legal whatever stands above
pub moved_legal : (history : List Entry) (hints : Hints) (work : Work) (goal : List TermId) (by : MoveKind) (moved : Moved) (nexts : Vec (Vec TermId Global) Global) → WorkStands history work → IsGoalIn history work goal →
    moves.IsMove history work goal moved → LeadsAnywhere work.bank history hints by goal moved.children.items → AreCopies nexts.items moved.children.items →
    IsLegal history hints work goal (record { kind = by; nexts = nexts; way = way.Moved moved })
moved_legal history hints work goal by moved nexts stands goal_in m leads same =
    λ path. moved_below history hints work path goal by moved nexts stands goal_in m (leads path) same

nothing_stands : (bank : Content) → All (AncestorStands bank) []
nothing_stands bank = λ k d below. absurd (omega (arith, below))

module _ (history : List Entry) (hints : Hints) (old new : Work) (ready : CanMove history hints old) (grows : WorkGrows history old new) (goal : List TermId) (goal_in : IsGoalIn history old goal) where
  -- what is said of a goal, whatever stands above it, it says still
  pub grown : (P : History → model.Hints → Clause → Type 0) → P (events_at old.bank history) (hints_at old.bank hints) (terms_at old.bank goal) → P (events_at new.bank history) (hints_at new.bank hints) (terms_at new.bank goal)
  grown P x = scene_grown history hints old new [] goal (λ (h : History) (hs : model.Hints) (a : Above) (g : Clause). P h hs g) ready grows (nothing_stands old.bank) (goal_stands history old goal goal_in) x

  module _ (normal : NormalAt old.bank history hints goal) (moved : Moved) where
    pub substitution_leads : IsOfTable (SubstituteMove (events_at old.bank history)) old.bank new.bank goal moved → LeadsAnywhere new.bank history hints kind.Subst goal moved.children.items
    substitution_leads table = λ path.
        grown (λ (h : History) (hs : model.Hints) (g : Clause). IsMove h hs (above_at new.bank path) (goal_kind kind.Subst) g (goals_at new.bank moved.children.items))
        (substitutes (terms_at old.bank goal) (goals_at new.bank moved.children.items) normal (table.leads (hints_at old.bank hints) (goals_above (above_at new.bank path))))

    pub fertilization_leads : IsOfTable (FertilizeMove (events_at old.bank history)) old.bank new.bank goal moved → LeadsAnywhere new.bank history hints kind.Fert goal moved.children.items
    fertilization_leads table = λ path.
        grown (λ (h : History) (hs : model.Hints) (g : Clause). IsMove h hs (above_at new.bank path) (goal_kind kind.Fert) g (goals_at new.bank moved.children.items))
        (fertilizes (terms_at old.bank goal) (goals_at new.bank moved.children.items) normal (table.leads (hints_at old.bank hints) (goals_above (above_at new.bank path))))

    pub dropping_leads : IsOfTable (DropMove (events_at old.bank history)) old.bank new.bank goal moved → LeadsAnywhere new.bank history hints kind.Irr goal moved.children.items
    dropping_leads table = λ path.
        grown (λ (h : History) (hs : model.Hints) (g : Clause). IsMove h hs (above_at new.bank path) (goal_kind kind.Irr) g (goals_at new.bank moved.children.items))
        (drops (terms_at old.bank goal) (goals_at new.bank moved.children.items) normal (table.leads (hints_at old.bank hints) (goals_above (above_at new.bank path))))

  pub no_substitution : substitutions_of (terms_at old.bank goal) ≡ [] → substitutions_of (terms_at new.bank goal) ≡ []
  no_substitution e = grown (λ (h : History) (hs : model.Hints) (g : Clause). substitutions_of g ≡ []) e

  pub no_fertilization : fertilizings_of (terms_at old.bank goal) ≡ [] → fertilizings_of (terms_at new.bank goal) ≡ []
  no_fertilization e = grown (λ (h : History) (hs : model.Hints) (g : Clause). fertilizings_of g ≡ []) e

  pub no_dropping : droppings_of (events_at old.bank history) (terms_at old.bank goal) ≡ [] → droppings_of (events_at new.bank history) (terms_at new.bank goal) ≡ []
  no_dropping e = grown (λ (h : History) (hs : model.Hints) (g : Clause). droppings_of h g ≡ []) e

  pub normal_grown : NormalAt old.bank history hints goal → NormalAt new.bank history hints goal
  normal_grown n = grown (λ (h : History) (hs : model.Hints) (g : Clause). IsNormal h hs g) n

-- what a call tells where it finds nothing, and where it finds something
pub when_none : {X : Type 0} (o : Option X) (N : Type 0) (P : X → Type 0) → o ≡ None → MatchOption o N P → N
when_none o N P e k = subst (λ x. MatchOption x N P) e k

pub when_some : {X : Type 0} (o : Option X) (N : Type 0) (P : X → Type 0) (x : X) → o ≡ Some x → MatchOption o N P → P x
when_some o N P x e k = subst (λ y. MatchOption y N P) e k

-- one more goal is copied
pub copied_more : (goals copies : List (Vec TermId Global)) (i : ℕ) (item copy : Vec TermId Global) → slice_get goals i ≡ Some item → copy.items ≡ item.items → AreCopies copies (take i goals) → AreCopies (copies ++ copy ∷ []) (take (i + 1) goals)
copied_more goals copies i item copy at same h =
    map_pushed (λ (g : Vec TermId Global). g.items) copies copy ∙
    ap₂ (λ (a : List (List TermId)) (b : List TermId). a ++ b ∷ []) h same ∙
    sym (ap (map (λ (g : Vec TermId Global). g.items)) (take_next goals i item at) ∙ map_pushed (λ (g : Vec TermId Global). g.items) (take i goals) item)

-- all goals are copied
pub copied_whole : (goals copies : List (Vec TermId Global)) (i : ℕ) → length goals ≤ i → AreCopies copies (take i goals) → AreCopies copies goals
copied_whole goals copies i past h = h ∙ ap (map (λ (g : Vec TermId Global). g.items)) (take_all i goals past)

module _ (history : List Entry) (hints : Hints) (work : Work) (path : List Ancestor) (goal : List TermId) where
  -- a legal move is legal below these goals
  pub legal_below : (r : Result (Option (Lead Way)) Stop) (N : Type 0) → IfOk r (λ found. MatchOption found N (IsLegal history hints work goal)) → IfOk r (λ found. MatchOption found N (IsLead IsWay history hints work path goal))
  legal_below (Ok None) N k = k
  legal_below (Ok (Some lead)) N k = k path
  legal_below (Err e) N k = k

  -- where a move finds none, no earlier one finding any
  pub none_then : (r : Result (Option (Lead Way)) Stop) (N M : Type 0) → (N → M) → IfOk r (λ found. MatchOption found N (IsLead IsWay history hints work path goal)) → IfOk r (λ found. MatchOption found M (IsLead IsWay history hints work path goal))
  none_then (Ok None) N M on k = on k
  none_then (Ok (Some lead)) N M on k = k
  none_then (Err e) N M on k = k
