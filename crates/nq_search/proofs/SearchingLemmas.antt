-- What holds of goals, hints and lines as the work grows.
use Rattle.std.proofs.Common.{◌≡◌, ℕ, zero, suc, ◌+◌, ◌<◌, ◌++◌, List, [], ◌∷◌, map, length, get_or, refl, sym, ap, ap₂, ◌∙◌, subst, arith}
use Rattle.std.specs.Prelude.{All, IfSome, Option, Some, None, Vec, slice_get, take}
use Rattle.std.specs.declared.alloc.Global.{Global}
use Rattle.nq_bank.specs.declared.node.TermId.{TermId}
use Rattle.nq_bank.specs.declared.node.Sym.{Sym}
use Rattle.nq_bank.specs.Content.{Content, Stands, IsNamed, Grows, terms_at}
use Rattle.nq_bank.proofs.Growth.{Stands-grown, IsNamed-grown, text_at-grown, terms_at-grown}
use Rattle.nq_bank.proofs.Standing.{stand_grown}
use Rattle.nq_bank.proofs.NodesLemmas.{All-head, All-tail}
use Rattle.nq_proof.specs.Clauses.{Clause}
use Rattle.nq_clause.specs.declared.substitution.Pair.{Pair}
use Rattle.nq_clause.specs.Substitution.{PairStands}
use Rattle.nq_clause.proofs.SubstitutionLemmas.{pairs_grown}
use Rattle.nq_history.specs.declared.entry.Entry.{Entry}
use Rattle.nq_history.specs.declared.hints.Hints.{Hints}
use Rattle.nq_history.specs.Hints.{HintsStand}
use Rattle.nq_kernel.specs.declared.work.Work.{Work}
use Rattle.nq_kernel.specs.Growing.{WorkStands, WorkGrows}
use Rattle.nq_kernel.specs.Hints.{HintsAreIn, PairIsIn}
use Rattle.nq_kernel.specs.Over.{IsVariable, TermIsIn}
use Rattle.nq_kernel.specs.ReadyLaws.{ReadyGrown}
use Rattle.nq_lines.specs.Lines.{LineHasOnly}
use Rattle.nq_lines.proofs.LineLemmas.{only_grown}
use Rattle.nq_lines.proofs.TermLemmas.{term_grown}
use Rattle.nq_search.specs.Goals.{CanSearch, HaveLines, IsGoalIn, goals_at}
use Rattle.nq_search.specs.Searching.{IsFound, AreFound, IsLed}
use Rattle.nq_search.specs.declared.tactic.Led.{Led}

module _ (old new : Content) (h : Grows old new) where
  names_grown : (names : List Sym) → All (IsNamed old) names → All (IsNamed new) names
  names_grown names k = λ i d below. IsNamed-grown old new (get_or names i d) h (k i d below)

  term_stands : (o : Option TermId) → IfSome o (Stands old) → IfSome o (Stands new)
  term_stands None k = tt
  term_stands (Some t) k = Stands-grown old new t h k

  hints_grown : (hints : Hints) → HintsStand old hints → HintsStand new hints
  hints_grown hints k =
      record {
        instances = λ i d below. let here = k.instances i d below in record { name = IsNamed-grown old new (get_or hints.instances.items i d).name h here.name; pairs = pairs_grown old new (get_or hints.instances.items i d).pairs.items h here.pairs };
        enable = names_grown hints.enable.items k.enable;
        disable = names_grown hints.disable.items k.disable;
        expand = stand_grown old new hints.expand.items h k.expand;
        induct = term_stands hints.induct k.induct;
        hands_off = names_grown hints.hands_off.items k.hands_off;
      }

  pub goals_same : (goals : List (Vec TermId Global)) → All (λ goal. All (Stands old) goal.items) goals → goals_at new goals ≡ goals_at old goals
  goals_same [] k = refl
  goals_same (goal ∷ goals) k =
      ap₂ (λ a b. a ∷ b) (terms_at-grown old new goal.items h (All-head (λ goal. All (Stands old) goal.items) goal goals k)) (goals_same goals (All-tail (λ goal. All (Stands old) goal.items) goal goals k))

module _ (history : List Entry) (old new : Work) (stands : WorkStands history old) (grows : WorkGrows history old new) where
  in_grown : (t : TermId) → Stands old.bank t → TermIsIn old.bank history t → TermIsIn new.bank history t
  in_grown t k over = (term_grown history old new t stands grows (record { stands = k; over = over })).over

  pair_grown : (p : Pair) → PairStands old.bank p → PairIsIn old.bank history p → PairIsIn new.bank history p
  pair_grown p k over = record { variable = subst IsVariable (sym (text_at-grown old.bank new.bank p.variable grows.bank k.variable)) over.variable; term = in_grown p.term k.term over.term }

  induct_grown : (o : Option TermId) → IfSome o (Stands old.bank) → IfSome o (TermIsIn old.bank history) → IfSome o (TermIsIn new.bank history)
  induct_grown None k over = tt
  induct_grown (Some t) k over = in_grown t k over

  hints_in_grown : (hints : Hints) → HintsStand old.bank hints → HintsAreIn old.bank history hints → HintsAreIn new.bank history hints
  hints_in_grown hints k over =
      record {
        instances = λ i d below j e within. pair_grown (get_or (get_or hints.instances.items i d).pairs.items j e) ((k.instances i d below).pairs j e within) (over.instances i d below j e within);
        expand = λ i d below. in_grown (get_or hints.expand.items i d) (k.expand i d below) (over.expand i d below);
        induct = induct_grown hints.induct k.induct over.induct;
      }

  pub goal_grown : (goal : List TermId) → IsGoalIn history old goal → IsGoalIn history new goal
  goal_grown goal k = λ i d below. term_grown history old new (get_or goal i d) stands grows (k i d below)

  pub goals_grown : (goals : List (Vec TermId Global)) → All (λ goal. IsGoalIn history old goal.items) goals → All (λ goal. IsGoalIn history new goal.items) goals
  goals_grown goals k = λ i d below. goal_grown (get_or goals i d).items (k i d below)

  pub ready_grown : ReadyGrown → (hints : Hints) → CanSearch history hints old → CanSearch history hints new
  ready_grown law hints ready =
      record {
        stands = grows.stands;
        ready = law old.bank new.bank history stands.history grows.bank ready.ready;
        hints_stand = hints_grown old.bank new.bank grows.bank hints ready.hints_stand;
        hints_in = hints_in_grown hints ready.hints_stand ready.hints_in;
      }

  -- what a goal says stays
  pub same_goal : (goal : List TermId) → IsGoalIn history old goal → terms_at new.bank goal ≡ terms_at old.bank goal
  same_goal goal k = terms_at-grown old.bank new.bank goal grows.bank (λ i d below. (k i d below).stands)

  pub same_goals : (goals : List (Vec TermId Global)) → All (λ goal. IsGoalIn history old goal.items) goals → goals_at new.bank goals ≡ goals_at old.bank goals
  same_goals goals k = goals_same old.bank new.bank grows.bank goals (λ i d below j e within. (k i d below j e within).stands)

  pub have_grown : (goals : List Clause) (lines : List ℕ) → HaveLines old goals lines → HaveLines new goals lines
  have_grown [] [] h = h
  have_grown [] (n ∷ lines) h = h
  have_grown (goal ∷ goals) [] h = h
  have_grown (goal ∷ goals) (n ∷ lines) h = (only_grown history old new n goal stands grows h.0, have_grown goals lines h.1)

pub have_more : (work : Work) (goals : List Clause) (lines : List ℕ) (goal : Clause) (line : ℕ) → HaveLines work goals lines → LineHasOnly work line goal → HaveLines work (goals ++ goal ∷ []) (lines ++ line ∷ [])
have_more work [] [] goal line h k = (k, h)
have_more work [] (n ∷ lines) goal line h k = absurd h
have_more work (g ∷ goals) [] goal line h k = absurd h
have_more work (g ∷ goals) (n ∷ lines) goal line h k = (h.0, have_more work goals lines goal line h.1 k)

by_some : {X : Type 0} (x y : X) → Some y ≡ Some x → y ≡ x
by_some {X = X} x y e = ap (λ o. elim o as (λ o. X) [ None ↦ x | Some z ↦ z ]) e

pub found_in : {X : Type 0} (P : X → Type 0) (xs : List X) (k : ℕ) (x : X) → All P xs → slice_get xs k ≡ Some x → P x
found_in P [] k x h e = absurd cc
found_in P (y ∷ xs) zero x h e = subst P (by_some x y e) (All-head P y xs h)
found_in P (y ∷ xs) (suc k) x h e = found_in P xs k x (All-tail P y xs h) e

get_at : {X : Type 0} (xs : List X) (i : ℕ) (x : X) → i < length xs → x ≡ get_or xs i x → slice_get xs i ≡ Some x
get_at [] i x below e = absurd (omega (arith, below))
get_at (y ∷ xs) zero x below e = ap Some (sym e)
get_at (y ∷ xs) (suc i) x below e = get_at xs i x (omega (arith, below)) e

-- the element of a turn of a loop
pub turn_at : {X : Type 0} (xs ys : List X) (i : ℕ) (x : X) → ys ≡ xs → i < length ys → x ≡ get_or ys i x → slice_get xs i ≡ Some x
turn_at xs ys i x same below e = ap (λ zs. slice_get zs i) (sym same) ∙ get_at ys i x below e

take_suc : {X : Type 0} (xs : List X) (i : ℕ) (x : X) → slice_get xs i ≡ Some x → take (suc i) xs ≡ take i xs ++ x ∷ []
take_suc [] i x e = absurd cc
take_suc (y ∷ xs) zero x e = ap (λ z. z ∷ []) (by_some x y e)
take_suc (y ∷ xs) (suc i) x e = ap (λ ys. y ∷ ys) (take_suc xs i x e)

take_next : {X : Type 0} (xs : List X) (i : ℕ) (x : X) → slice_get xs i ≡ Some x → take (i + 1) xs ≡ take i xs ++ x ∷ []
take_next xs i x at = ap (λ n. take n xs) (one_more i) ∙ take_suc xs i x at
  where
    one_more : (n : ℕ) → n + 1 ≡ suc n
    one_more n = omega arith

map_pushed : {X Y : Type 0} (f : X → Y) (xs : List X) (x : X) → map f (xs ++ x ∷ []) ≡ map f xs ++ f x ∷ []
map_pushed f [] x = refl
map_pushed f (y ∷ xs) x = ap (λ ys. f y ∷ ys) (map_pushed f xs x)

-- the goals of one turn more
pub goals_next : (bank : Content) (goals : List (Vec TermId Global)) (i : ℕ) (goal : Vec TermId Global) → slice_get goals i ≡ Some goal →
    goals_at bank (take (i + 1) goals) ≡ goals_at bank (take i goals) ++ terms_at bank goal.items ∷ []
goals_next bank goals i goal at = ap (goals_at bank) (take_next goals i goal at) ∙ map_pushed (λ g. terms_at bank g.items) (take i goals) goal

-- the line of what was found
pub found_line : (work : Work) (there here : Clause) (found : Option ℕ) (line : ℕ) → there ≡ here → found ≡ Some line → IsFound work there found → LineHasOnly work line here
found_line work there here found line same is k = subst (λ c. LineHasOnly work line c) same (subst (IsFound work there) is k)

pub found_lines : (work : Work) (goals : List Clause) (found : Option (Vec ℕ Global)) (lines : Vec ℕ Global) → found ≡ Some lines → AreFound work goals found → HaveLines work goals lines.items
found_lines work goals found lines is k = subst (AreFound work goals) is k

pub some_led : {Way : Type 0} (nexts_of : Way → List (Vec TermId Global)) (IsWay : List Entry → Work → List TermId → Way → Type 0) (history : List Entry) (work : Work) (goal : List TermId) (found : Option (Led Way)) (led : Led Way) →
    found ≡ Some led → IfSome found (IsLed nexts_of IsWay history work goal) → IsLed nexts_of IsWay history work goal led
some_led nexts_of IsWay history work goal found led is k = subst (λ o. IfSome o (IsLed nexts_of IsWay history work goal)) is k
