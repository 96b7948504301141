-- Goals in which one side of an equation took the other's place.
use Rattle.std.proofs.Common.{◌≡◌, ◌⊎◌, ◌<◌, ◌≤◌, ℕ, zero, suc, Bool, true, false, if◌then◌else◌, Option, Some, None, List, [], ◌∷◌, ◌++◌, length, map, get_or, refl, sym, ap, ◌∙◌, subst, inl, inr, arith}
use Rattle.std.specs.Prelude.{All, IfSome, IsSome, IfOk, Result, unwrap_or}
use Rattle.std.specs.Option.{option_map}
use Rattle.nq_logic.specs.Terms.{Term, IsAmong}
use Rattle.nq_logic.specs.Values.{is_value}
use Rattle.nq_logic.specs.Words.{not_term, equal_term}
use Rattle.nq_logic.specs.Ground.{symbols_of}
use Rattle.nq_bank.specs.declared.node.TermId.{TermId}
use Rattle.nq_bank.specs.Content.{Content, Stands, IsIdOf, term_at, terms_at}
use Rattle.nq_bank.specs.Parts.{parts_of}
use Rattle.nq_bank.proofs.Growth.{Stands-grown, term_at-grown, terms_at-grown}
use Rattle.nq_proof.specs.Clauses.{Clause, literal_at, without, distinct, same_term}
use Rattle.nq_rule.specs.Results.{with_argument}
use Rattle.nq_history.specs.declared.entry.Entry.{Entry}
use Rattle.nq_history.specs.Events.{events_at}
use Rattle.nq_kernel.specs.declared.work.Work.{Work}
use Rattle.nq_kernel.specs.declared.work.Stop.{Stop}
use Rattle.nq_kernel.specs.Growing.{WorkStands, WorkGrows}
use Rattle.nq_lines.specs.Lines.{IsTermIn, AreAmong, LineHasOnly}
use Rattle.nq_lines.proofs.TermLemmas.{term_grown, same_term_grown}
use Rattle.nq_lines.proofs.LineLemmas.{from_distinct}
use Rattle.nq_lines.proofs.Among.{on_left}
use Rattle.nq_goals.specs.Equations.{hypothesis_equation}
use Rattle.nq_goals.specs.Replacing.{Exchange, exchanged}
use Rattle.nq_moves.specs.declared.equations.Sides.{Sides}
use Rattle.nq_moves.specs.declared.moved.Crossing.{Crossing}
use Rattle.nq_moves.specs.declared.moved.Moved.{Moved}
use Rattle.nq_moves.specs.declared.readings.Reading.{Reading}
use Rattle.nq_moves.specs.declared.exchanging.Exchanging.{Exchanging}
use Rattle.nq_moves.specs.Exchanging.{ExchangeStands}
use Rattle.nq_moves.specs.Back.{Denies}
use Rattle.nq_moves.specs.Found.{sides_at}
use Rattle.nq_moves.specs.Swapped.{IsReading, reading_at, crossed, crossings_at, swapped_literal, swapped_goal, CrossingStands, IsSwapping, IsSwapped}
use Rattle.nq_moves.proofs.CandidateLemmas.{hypothesis_is}
use Rattle.nq_moves.proofs.ClosingLemmas.{IsInWork, each_over, side_over, side_over_too, all_stand, some_in, without_among}
use Rattle.nq_moves.proofs.OverLemmas.{one_exchanged_in, in_grown, ids_in, mapped_in}
use Rattle.nq_moves.proofs.LastingLemmas.{goals_grown, goals_stand_grown}

-- the sides of a literal of the goal, in one order
module _ (history : List Entry) (work : Work) (goal : List TermId) (all : All (IsTermIn history work) goal) where
  pub reading_is : (r : Reading) (sides : Sides) (literal : TermId) → Stands work.bank literal → IsAmong (term_at work.bank literal) (terms_at work.bank goal) → Stands work.bank sides.left → Stands work.bank sides.right → option_map (sides_at work.bank) (Some sides) ≡ hypothesis_equation (term_at work.bank literal) → r.literal ≡ literal → ((r.from ≡ sides.left) × (r.into ≡ sides.right)) ⊎ ((r.from ≡ sides.right) × (r.into ≡ sides.left)) → IsReading history work goal r
  reading_is r sides literal stands among left right e is order =
      let l : Term = term_at work.bank literal in
      let a : Term = term_at work.bank sides.left in
      let b : Term = term_at work.bank sides.right in
      let says : l ≡ not_term (equal_term a b) = hypothesis_is l (sides_at work.bank sides) (sym e) in
      let over = each_over history work goal all l among in
      let symbols = symbols_of (events_at work.bank history) in
      let in_left : IsTermIn history work sides.left = record { stands = left; over = side_over symbols l a b (inl says) over } in
      let in_right : IsTermIn history work sides.right = record { stands = right; over = side_over_too symbols l a b (inl says) over } in
      let own = sym is in
      elim order [
        | inl same ↦ record {
          literal = subst (Stands work.bank) own stands;
          among = subst (λ x. IsAmong (term_at work.bank x) (terms_at work.bank goal)) own among;
          from = subst (IsTermIn history work) (sym same.0) in_left;
          into = subst (IsTermIn history work) (sym same.1) in_right;
          denies = inl (ap (term_at work.bank) is ∙ says ∙ ap (λ x. not_term (equal_term (term_at work.bank x) b)) (sym same.0) ∙ ap (λ x. not_term (equal_term (term_at work.bank r.from) (term_at work.bank x))) (sym same.1));
        }
        | inr same ↦ record {
          literal = subst (Stands work.bank) own stands;
          among = subst (λ x. IsAmong (term_at work.bank x) (terms_at work.bank goal)) own among;
          from = subst (IsTermIn history work) (sym same.0) in_right;
          into = subst (IsTermIn history work) (sym same.1) in_left;
          denies = inr (ap (term_at work.bank) is ∙ says ∙ ap (λ x. not_term (equal_term (term_at work.bank x) b)) (sym same.1) ∙ ap (λ x. not_term (equal_term (term_at work.bank r.into) (term_at work.bank x))) (sym same.0));
        }
      ]

-- a literal of a goal is among its literals
pub goal_literal : (bank : Content) (goal : List TermId) (i : ℕ) (d : TermId) → i < length goal → IsAmong (term_at bank (get_or goal i d)) (terms_at bank goal)
goal_literal bank [] i d below = absurd (omega (arith, below))
goal_literal bank (x ∷ goal) zero d below = inl refl
goal_literal bank (x ∷ goal) (suc i) d below = inr (goal_literal bank goal i d (omega (arith, below)))

-- what is so of a reading is so when work has grown
module _ (history : List Entry) (old new : Work) (stood : WorkStands history old) (grows : WorkGrows history old new) (goal : List TermId) (all : All (IsTermIn history old) goal) where
  pub goal_same : terms_at new.bank goal ≡ terms_at old.bank goal
  goal_same = terms_at-grown old.bank new.bank goal grows.bank (all_stand history old goal all)

  pub goal_in_grown : All (IsTermIn history new) goal
  goal_in_grown k d below = term_grown history old new (get_or goal k d) stood grows (all k d below)

  pub reading_same : (r : Reading) → IsReading history old goal r → reading_at new.bank r ≡ reading_at old.bank r
  reading_same r h =
      ap (λ t. (t, term_at new.bank r.into) ∷ []) (same_term_grown history old new r.from grows h.from) ∙
      ap (λ t. (term_at old.bank r.from, t) ∷ []) (same_term_grown history old new r.into grows h.into)

  pub reading_grown : (r : Reading) → IsReading history old goal r → IsReading history new goal r
  reading_grown r h =
      let literal = term_at-grown old.bank new.bank r.literal grows.bank h.literal in
      let from = same_term_grown history old new r.from grows h.from in
      let into = same_term_grown history old new r.into grows h.into in
      record {
        literal = Stands-grown old.bank new.bank r.literal grows.bank h.literal;
        among = subst (IsAmong (term_at new.bank r.literal)) (sym goal_same) (subst (λ t. IsAmong t (terms_at old.bank goal)) (sym literal) h.among);
        from = term_grown history old new r.from stood grows h.from;
        into = term_grown history old new r.into stood grows h.into;
        denies =
            subst (λ t. Denies t (term_at new.bank r.from) (term_at new.bank r.into)) (sym literal)
            (subst (λ t. Denies (term_at old.bank r.literal) t (term_at new.bank r.into)) (sym from)
            (subst (λ t. Denies (term_at old.bank r.literal) (term_at old.bank r.from) t) (sym into) h.denies));
      }

  pub crossing_grown : (x : Crossing) → CrossingStands history old goal x → CrossingStands history new goal x
  crossing_grown x h =
      let whole = same_term_grown history old new x.whole grows h.whole in
      record {
        whole = term_grown history old new x.whole stood grows h.whole;
        among = subst (IsAmong (term_at new.bank x.whole)) (sym goal_same) (subst (λ t. IsAmong t (terms_at old.bank goal)) (sym whole) h.among);
        place = subst (λ t. IsSome (literal_at x.place (parts_of t))) (sym whole) h.place;
      }

  crossings_grown : (crossing : Option Crossing) → IfSome crossing (CrossingStands history old goal) → IfSome crossing (CrossingStands history new goal)
  crossings_grown None h = tt
  crossings_grown (Some x) h = crossing_grown x h

  crossings_same : (es : Exchange) (crossing : Option Crossing) → IfSome crossing (CrossingStands history old goal) → crossings_at new.bank es crossing ≡ crossings_at old.bank es crossing
  crossings_same es None h = refl
  crossings_same es (Some x) h = ap (λ t. crossed es x.place t ∷ []) (same_term_grown history old new x.whole grows h.whole)

  pub swapping_grown : (r : Reading) (crossing : Option Crossing) (child : Clause) → IsSwapping history old goal r crossing child → IsSwapping history new goal r crossing child
  swapping_grown r crossing child h =
      let es = reading_same r h.reading in
      let literal = term_at-grown old.bank new.bank r.literal grows.bank h.reading.literal in
      let own : List Term = crossings_at old.bank (reading_at old.bank r) crossing ++ (map (exchanged (reading_at old.bank r)) (without (term_at old.bank r.literal) (terms_at old.bank goal)) ++ terms_at old.bank goal) in
      let same : own ≡ crossings_at new.bank (reading_at new.bank r) crossing ++ (map (exchanged (reading_at new.bank r)) (without (term_at new.bank r.literal) (terms_at new.bank goal)) ++ terms_at new.bank goal) =
      ap (λ c. c ++ (map (exchanged (reading_at old.bank r)) (without (term_at old.bank r.literal) (terms_at old.bank goal)) ++ terms_at old.bank goal)) (sym (crossings_same (reading_at old.bank r) crossing h.crossing_stands)) ∙
      ap (λ e. crossings_at new.bank e crossing ++ (map (exchanged e) (without (term_at old.bank r.literal) (terms_at old.bank goal)) ++ terms_at old.bank goal)) (sym es) ∙
      ap (λ t. crossings_at new.bank (reading_at new.bank r) crossing ++ (map (exchanged (reading_at new.bank r)) (without t (terms_at old.bank goal)) ++ terms_at old.bank goal)) (sym literal) ∙
      ap (λ c. crossings_at new.bank (reading_at new.bank r) crossing ++ (map (exchanged (reading_at new.bank r)) (without (term_at new.bank r.literal) c) ++ c)) (sym goal_same) in
      record {
        reading = reading_grown r h.reading;
        no_value = ap is_value (same_term_grown history old new r.from grows h.reading.from) ∙ h.no_value;
        crossing_stands = crossings_grown crossing h.crossing_stands;
        within = subst (AreAmong child) same h.within;
      }

  pub swapped_grown : (moved : Moved) → IsSwapped history old goal moved → IsSwapped history new goal moved
  swapped_grown moved h = record {
    reading = h.reading;
    child = h.child;
    swapping = swapping_grown h.reading moved.why.crossing h.child h.swapping;
    leads = goals_grown old.bank new.bank moved.children.items grows.bank h.stand.each ∙ h.leads;
    stand = goals_stand_grown old.bank new.bank moved.children.items grows.bank h.stand;
    literals = h.literals;
  }

-- ids of terms in which the one side took the other's place
module _ (history : List Entry) (old new : Work) (stood : WorkStands history old) (grows : WorkGrows history old new) (r : Reading) (into : IsTermIn history old r.into) where
  swapped_over : (t : Term) → IsInWork history old t → IsInWork history new (exchanged (reading_at old.bank r) t)
  swapped_over t h = in_grown history old new (exchanged (reading_at old.bank r) t) stood grows (one_exchanged_in history old (term_at old.bank r.from) (term_at old.bank r.into) t into.over h)

  pub swapped_id_in : (t u : TermId) → IsTermIn history old t → IsIdOf new.bank u (exchanged (reading_at old.bank r) (term_at old.bank t)) → IsTermIn history new u
  swapped_id_in t u h id = record { stands = id.stands; over = subst (IsInWork history new) (sym id.denotes) (swapped_over (term_at old.bank t) h.over) }

  pub swapped_ids_in : (ids made : List TermId) → All (IsTermIn history old) ids → All (Stands new.bank) made → terms_at new.bank made ≡ map (exchanged (reading_at old.bank r)) (terms_at old.bank ids) → All (IsTermIn history new) made
  swapped_ids_in ids made all stand is =
      ids_in history new made stand
      (λ t m. mapped_in history new (exchanged (reading_at old.bank r)) (terms_at old.bank ids) (λ u k. swapped_over u (each_over history old ids all u k)) t (subst (IsAmong t) is m))

pub one_stands : (bank : Content) (r : Reading) → Stands bank r.from → Stands bank r.into → All (ExchangeStands bank) (record { from = r.from; into = r.into } ∷ [])
one_stands bank r from into = λ k d below. at_place k d below
  where
    at_place : (k : ℕ) (d : Exchanging) → k < 1 → ExchangeStands bank (get_or (record { from = r.from; into = r.into } ∷ []) k d)
    at_place zero d below = record { from = from; into = into }
    at_place (suc k) d below = absurd (omega (arith, below))

-- a call has its places when work has grown
pub call_place_grown : (history : List Entry) (old new : Work) → WorkGrows history old new → (whole : TermId) (place : ℕ) → IsTermIn history old whole → IsSome (literal_at place (parts_of (term_at old.bank whole))) → IsSome (literal_at place (parts_of (term_at new.bank whole)))
call_place_grown history old new grows whole place h some = subst (λ t. IsSome (literal_at place (parts_of t))) (sym (same_term_grown history old new whole grows h)) some

-- a line of the goal as it stands when work has grown
pub closed_same : (history : List Entry) (old mid : Work) → WorkStands history old → WorkGrows history old mid → (goal : List TermId) → All (IsTermIn history old) goal → (new : Work) (result : Result ℕ Stop) → IfOk result (λ n. LineHasOnly new n (terms_at mid.bank goal)) → IfOk result (λ n. LineHasOnly new n (terms_at old.bank goal))
closed_same history old mid stood grows goal all new result h = subst (λ c. IfOk result (λ n. LineHasOnly new n c)) (goal_same history old mid stood grows goal all) h

-- the call is crossed when its argument is exchanged
module _ (history : List Entry) (old mid : Work) (grows : WorkGrows history old mid) (r : Reading) (whole part made : TermId) (place : ℕ) (h : IsTermIn history old whole) where
  pub place_grown : IsSome (literal_at place (parts_of (term_at old.bank whole))) → IsSome (literal_at place (parts_of (term_at mid.bank whole)))
  place_grown some = subst (λ t. IsSome (literal_at place (parts_of t))) (sym (same_term_grown history old mid whole grows h)) some

  pub crossed_is : literal_at place (parts_of (term_at old.bank whole)) ≡ Some (term_at old.bank part) → IsIdOf mid.bank made (exchanged (reading_at old.bank r) (term_at old.bank part)) → with_argument place (term_at mid.bank made) (term_at mid.bank whole) ≡ crossed (reading_at old.bank r) place (term_at old.bank whole)
  crossed_is at id =
      ap (λ t. with_argument place (term_at mid.bank made) t) (same_term_grown history old mid whole grows h) ∙
      ap (λ t. with_argument place t (term_at old.bank whole)) id.denotes ∙
      ap (λ o. with_argument place (exchanged (reading_at old.bank r) (unwrap_or o (term_at old.bank whole))) (term_at old.bank whole)) (sym at)

-- the literals of a child
module _ (history : List Entry) (old new : Work) (goal rest made child : List TermId) (r : Reading) where
  within_rest : terms_at old.bank rest ≡ without (term_at old.bank r.literal) (terms_at old.bank goal) → AreAmong (terms_at old.bank rest) (terms_at old.bank goal)
  within_rest is t m = without_among (term_at old.bank r.literal) (terms_at old.bank goal) t (subst (IsAmong t) is m)

  pub rest_in : All (IsTermIn history old) goal → All (Stands old.bank) rest → terms_at old.bank rest ≡ without (term_at old.bank r.literal) (terms_at old.bank goal) → All (IsTermIn history old) rest
  rest_in all stand is = some_in history old goal rest all stand (within_rest is)

  pub child_in : All (IsTermIn history new) made → All (Stands new.bank) child → terms_at new.bank child ≡ distinct (terms_at new.bank made) → All (IsTermIn history new) child
  child_in all stand is = some_in history new made child all stand (λ t m. from_distinct t (terms_at new.bank made) (subst (IsAmong t) is m))

-- each literal of a child is the crossed one, or one with the one side in the other's place
swapped_among : (bank : Content) (es : Exchange) (crossing : Option Crossing) (c rest : Clause) (t : Term) → IsAmong t (map (swapped_literal bank es crossing) c) → IsAmong t (crossings_at bank es crossing ++ (map (exchanged es) c ++ rest))
swapped_among bank es None c rest t m = on_left (map (exchanged es) c) rest t m
swapped_among bank es (Some x) [] rest t m = absurd m
swapped_among bank es (Some x) (u ∷ c) rest t (inl e) = by_test (same_term (term_at bank x.whole) u) e
  where
    by_test : (b : Bool) → t ≡ (if b then crossed es x.place (term_at bank x.whole) else exchanged es u) → IsAmong t (crossings_at bank es (Some x) ++ (map (exchanged es) (u ∷ c) ++ rest))
    by_test true k = inl k
    by_test false k = inr (inl k)
swapped_among bank es (Some x) (u ∷ c) rest t (inr m) = later (swapped_among bank es (Some x) c rest t m)
  where
    later : IsAmong t (crossings_at bank es (Some x) ++ (map (exchanged es) c ++ rest)) → IsAmong t (crossings_at bank es (Some x) ++ (map (exchanged es) (u ∷ c) ++ rest))
    later (inl k) = inl k
    later (inr k) = inr (inr k)

pub swapping_is : (history : List Entry) (work : Work) (goal : List TermId) (r : Reading) (crossing : Option Crossing) (child : Clause) → child ≡ swapped_goal work.bank r crossing goal → IsReading history work goal r → is_value (term_at work.bank r.from) ≡ false → IfSome crossing (CrossingStands history work goal) → IsSwapping history work goal r crossing child
swapping_is history work goal r crossing child is reading no_value crosses =
    let c : List Term = without (term_at work.bank r.literal) (terms_at work.bank goal) in
    let X : Term → Term = swapped_literal work.bank (reading_at work.bank r) crossing in
    record {
      reading = reading;
      no_value = no_value;
      crossing_stands = crosses;
      within = λ t m. swapped_among work.bank (reading_at work.bank r) crossing c (terms_at work.bank goal) t (from_distinct t (map X c) (subst (IsAmong t) is m));
    }

-- what is swapped stays so when work has grown
module _ (history : List Entry) (old new : Work) (grows : WorkGrows history old new) (r : Reading) (from : IsTermIn history old r.from) (into : IsTermIn history old r.into) where
  pub sides_same : reading_at new.bank r ≡ reading_at old.bank r
  sides_same =
      ap (λ t. (t, term_at new.bank r.into) ∷ []) (same_term_grown history old new r.from grows from) ∙
      ap (λ t. (term_at old.bank r.from, t) ∷ []) (same_term_grown history old new r.into grows into)

  module _ (x : Crossing) (whole : IsTermIn history old x.whole) where
    whole_same : term_at new.bank x.whole ≡ term_at old.bank x.whole
    whole_same = same_term_grown history old new x.whole grows whole

    pub crossed_same : crossed (reading_at new.bank r) x.place (term_at new.bank x.whole) ≡ crossed (reading_at old.bank r) x.place (term_at old.bank x.whole)
    crossed_same = ap (λ es. crossed es x.place (term_at new.bank x.whole)) sides_same ∙ ap (crossed (reading_at old.bank r) x.place) whole_same

    pub literal_same : (t : Term) → swapped_literal new.bank (reading_at new.bank r) (Some x) t ≡ swapped_literal old.bank (reading_at old.bank r) (Some x) t
    literal_same t =
        ap (λ es. swapped_literal new.bank es (Some x) t) sides_same ∙
        ap (λ w. if same_term w t then crossed (reading_at old.bank r) x.place w else exchanged (reading_at old.bank r) t) whole_same

    pub literals_same : (ts : List Term) → map (swapped_literal new.bank (reading_at new.bank r) (Some x)) ts ≡ map (swapped_literal old.bank (reading_at old.bank r) (Some x)) ts
    literals_same [] = refl
    literals_same (t ∷ ts) =
        ap (λ u. u ∷ map (swapped_literal new.bank (reading_at new.bank r) (Some x)) ts) (literal_same t) ∙
        ap (λ us. swapped_literal old.bank (reading_at old.bank r) (Some x) t ∷ us) (literals_same ts)

pub swapped_same : (bank : Content) (es : Exchange) (x : Crossing) (t : Term) → same_term (term_at bank x.whole) t ≡ true → crossed es x.place (term_at bank x.whole) ≡ swapped_literal bank es (Some x) t
swapped_same bank es x t e = sym (ap (λ b. if b then crossed es x.place (term_at bank x.whole) else exchanged es t) e)

pub swapped_other : (bank : Content) (es : Exchange) (x : Crossing) (t : Term) → same_term (term_at bank x.whole) t ≡ false → exchanged es t ≡ swapped_literal bank es (Some x) t
swapped_other bank es x t e = sym (ap (λ b. if b then crossed es x.place (term_at bank x.whole) else exchanged es t) e)

pub if_some : {X : Type 0} (o : Option X) (P Q : X → Type 0) → ((x : X) → P x → Q x) → IfSome o P → IfSome o Q
if_some None P Q f h = tt
if_some (Some x) P Q f h = f x h

-- the three ids of a list are those of the reading
pub three_items : (xs : List TermId) (r q : Reading) → xs ≡ r.literal ∷ r.from ∷ r.into ∷ [] → q.literal ≡ get_or xs 0 q.literal → q.from ≡ get_or xs 1 q.from → q.into ≡ get_or xs 2 q.into → r ≡ q
three_items xs r q is first second third =
    let a : q.literal ≡ r.literal = first ∙ ap (λ ys. get_or ys 0 q.literal) is in
    let b : q.from ≡ r.from = second ∙ ap (λ ys. get_or ys 1 q.from) is in
    let d : q.into ≡ r.into = third ∙ ap (λ ys. get_or ys 2 q.into) is in
    ap (λ x. record { literal = x; from = r.from; into = r.into }) (sym a) ∙ ap (λ x. record { literal = q.literal; from = x; into = r.into }) (sym b) ∙ ap (λ x. record { literal = q.literal; from = q.from; into = x }) (sym d)

-- ids that are in stay in
pub all_in_grown : (history : List Entry) (old new : Work) → WorkStands history old → WorkGrows history old new → (ids : List TermId) → All (IsTermIn history old) ids → All (IsTermIn history new) ids
all_in_grown history old new stood grows ids all k d below = term_grown history old new (get_or ids k d) stood grows (all k d below)

-- a list has as many places as terms
pub place_some : (ts : List Term) (place : ℕ) → 1 ≤ place → place ≤ length ts → IsSome (literal_at place ts)
place_some ts zero first last = absurd (omega (arith, first))
place_some [] (suc k) first last = absurd (omega (arith, last))
place_some (t ∷ ts) (suc zero) first last = refl
place_some (t ∷ ts) (suc (suc k)) first last = place_some ts (suc k) (omega arith) (omega (arith, last))
