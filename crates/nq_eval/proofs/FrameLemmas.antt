-- Terms that wait, as the work grows, and what stops them.
use Rattle.std.proofs.Common.{◌≡◌, ◌≤◌, ◌<◌, ◌+◌, ◌-◌, ℕ, zero, suc, max, true, false, List, [], ◌∷◌, ◌++◌, length, get_or, take, drop, refl, sym, ap, ap₂, ◌∙◌, subst, arith}
use Rattle.std.specs.Prelude.{All, OnOk, Result, Ok, Err}
use Rattle.nq_bank.specs.declared.node.TermId.{TermId}
use Rattle.nq_bank.specs.Content.{Content, term_at, terms_at}
use Rattle.nq_bank.specs.Parts.{parts_of}
use Rattle.nq_proof.specs.Values.{is_true}
use Rattle.nq_history.specs.declared.entry.Entry.{Entry}
use Rattle.nq_history.specs.Events.{events_at}
use Rattle.nq_kernel.specs.declared.work.Work.{Work}
use Rattle.nq_kernel.specs.Growing.{WorkStands}
use Rattle.nq_fragments.specs.Outcomes.{Outcome, and_next, is_small}
use Rattle.nq_fragments.specs.Evaluation.{Way}
use Rattle.nq_logic.specs.Terms.{Term}
use Rattle.nq_eval.specs.Lines.{IsUsable, GrowsUncounted}
use Rattle.nq_eval.specs.Sides.{side_if}
use Rattle.nq_eval.specs.Costs.{TakesEach}
use Rattle.nq_eval.specs.Known.{IsReached, outcome_at}
use Rattle.nq_eval.specs.declared.found.Known.{Known}
use Rattle.nq_eval.proofs.CostLemmas.{none_taken}
use Rattle.nq_eval.specs.Gathered.{HasRoom, AreKnown, AreReached, values_at}
use Rattle.nq_eval.specs.declared.gathered.Values.{Values}
use Rattle.nq_eval.specs.declared.frames.Request.{Request}
use Rattle.nq_eval.specs.declared.frames.Gathering.{Gathering}
use Rattle.nq_eval.specs.declared.frames.Wait.{Wait}
use Rattle.nq_eval.specs.declared.frames.Wait.TheVariants as wait
use Rattle.nq_eval.specs.declared.frames.Frame.{Frame}
use Rattle.nq_eval.specs.Frames.{gathered, CanWait, child_at, child_of, turn_of, turn_at, hand_of, IsTurn, IsGathering, Waits, IsWaiting, AreWaiting}
use Rattle.nq_eval.specs.Weights.{terms_weight, wait_weight, frames_weight}
use Rattle.nq_eval.proofs.ClosingLemmas.{usable_after, same_after, choice_outcome, test_outcome, opening_outcome, reduced_outcome}
use Rattle.nq_eval.proofs.EvaluationLemmas.{one_more_known, take_more, takes_more, All-take, large_after, rooms_after, terms_after, choice_after, other_after, reached_after, each_known_after, each_takes_after, reduced_after, opened_after, test_part, side_part, gather_stops, call_stops}

All-drop : (P : TermId → Type 0) (ids : List TermId) (i : ℕ) → All P ids → All P (drop i ids)
All-drop P ids zero all = all
All-drop P [] (suc i) all = all
All-drop P (a ∷ ids) (suc i) all = All-drop P ids i (λ k d below. all (suc k) d (omega (arith, below)))

-- the arguments that have values, as the work grows
module _ (history : List Entry) (old new : Work) (stands : WorkStands history old) (grown : GrowsUncounted history old new) where
  all_reached_after : (ids : List TermId) (n left : ℕ) (v : Values) → All (HasRoom old.bank history) ids → AreReached history old ids n left v → AreReached history new ids n left v
  all_reached_after ids n left v rooms r =
      record {
        known = each_known_after history old new stands grown ids v.known.items rooms r.known;
        takes = each_takes_after history old new stands grown ids v.known.items v.calls v.nesting rooms r.known r.takes;
        calls = r.calls;
        nesting = r.nesting;
      }

  pub gathering_after : (r : Request) (g : Gathering) → IsUsable old.bank history r.term → IsGathering history old r g → IsGathering history new r g
  gathering_after r g usable k =
      let ids : List TermId = g.arguments.items in
      record {
        head = other_after history old new stands grown r.term g.function usable k.head;
        parts = terms_after history old new stands grown ids k.rooms ∙ k.parts ∙ ap parts_of (sym (same_after history old new stands grown r.term usable));
        rooms = rooms_after history old new stands grown ids k.rooms;
        some = k.some;
        reached = all_reached_after (take (gathered g) ids) r.nesting r.calls g.values (All-take (HasRoom old.bank history) ids (gathered g) k.rooms) k.reached;
      }

  waits_after : (r : Request) (w : Wait) → IsUsable old.bank history r.term → is_small (term_at old.bank r.term) ≡ false → Waits history old r w → Waits history new r w
  waits_after r (wait.Argument g) usable large k = gathering_after r g usable k
  waits_after r (wait.Test parts) usable large k = choice_after history old new stands grown r.term parts usable k
  waits_after r (wait.Side c) usable large k =
      record {
        head = choice_after history old new stands grown r.term c.parts usable k.head;
        chosen = k.chosen ∙ ap (λ v. side_if (is_true v) c.parts) (sym (same_after history old new stands grown c.test.value k.test_reached.known.value));
        test_reached = reached_after history old new stands grown c.parts.test r.nesting r.calls c.test (test_part old.bank history r.term c.parts usable large k.head).usable k.test_reached;
      }
  waits_after r (wait.Body e) usable large k =
      record {
        reduced = reduced_after history old new stands grown r.term r.nesting r.calls e.used e.deepest e.call k.reduced;
        opens = opened_after history old new stands grown e.call.term e.opened k.reduced.call k.opens;
      }

  pub waiting_after : (f : Frame) → IsWaiting history old f → IsWaiting history new f
  waiting_after f k =
      record {
        usable = usable_after history old new stands grown f.request.term k.usable;
        large = large_after history old new stands grown f.request.term k.usable k.large;
        can = k.can;
        waits = waits_after f.request f.wait k.usable k.large k.waits;
      }

  pub all_waiting_after : (fs : List Frame) (whole hand : Request) → AreWaiting history old fs whole hand → AreWaiting history new fs whole hand
  all_waiting_after [] whole hand k = k
  all_waiting_after (f ∷ fs) whole hand k = (waiting_after f k.0, k.1, all_waiting_after fs (child_of f) hand k.2)

  -- what is left to do stays the same
  weight_after : (r : Request) (w : Wait) → IsUsable old.bank history r.term → is_small (term_at old.bank r.term) ≡ false → Waits history old r w → wait_weight new.bank w ≡ wait_weight old.bank w
  weight_after r (wait.Argument g) usable large k =
      ap (λ ts. terms_weight ts + 1) (terms_after history old new stands grown (drop (gathered g + 1) g.arguments.items) (All-drop (HasRoom old.bank history) g.arguments.items (gathered g + 1) k.rooms))
  weight_after r (wait.Test parts) usable large k =
      let first : term_at new.bank parts.first ≡ term_at old.bank parts.first = same_after history old new stands grown parts.first (side_part old.bank history r.term parts usable large k true).usable in
      let second : term_at new.bank parts.second ≡ term_at old.bank parts.second = same_after history old new stands grown parts.second (side_part old.bank history r.term parts usable large k false).usable in
      rw (first, second) refl
  weight_after r (wait.Side c) usable large k = refl
  weight_after r (wait.Body e) usable large k = refl

  pub frames_weight_after : (fs : List Frame) (whole hand : Request) → AreWaiting history old fs whole hand → frames_weight new.bank fs ≡ frames_weight old.bank fs
  frames_weight_after [] whole hand k = refl
  frames_weight_after (f ∷ fs) whole hand k = ap₂ (λ a b. a + b) (weight_after f.request f.wait k.0.usable k.0.large k.0.waits) (frames_weight_after fs (child_of f) hand k.2)

-- one more waits
pub waiting_more : (history : List Entry) (work : Work) (fs : List Frame) (f : Frame) (whole hand : Request) → AreWaiting history work fs whole hand → IsWaiting history work f → f.request ≡ hand → AreWaiting history work (fs ++ f ∷ []) whole (child_of f)
waiting_more history work [] f whole hand all one e = (one, e ∙ sym all, refl)
waiting_more history work (g ∷ fs) f whole hand all one e = (all.0, all.1, waiting_more history work fs f (child_of g) hand all.2 one e)

-- the last one waits no more
pub record IsLast (history : List Entry) (work : Work) (fs : List Frame) (f : Frame) (whole hand : Request) : Type 0 where
  pub rest : AreWaiting history work fs whole f.request
  pub last : IsWaiting history work f
  pub child : child_of f ≡ hand

pub waiting_less : (history : List Entry) (work : Work) (fs : List Frame) (f : Frame) (whole hand : Request) → AreWaiting history work (fs ++ f ∷ []) whole hand → IsLast history work fs f whole hand
waiting_less history work [] f whole hand all = record { rest = sym all.1; last = all.0; child = all.2 }
waiting_less history work (g ∷ fs) f whole hand all =
    let more : IsLast history work fs f (child_of g) hand = waiting_less history work fs f (child_of g) hand all.2 in
    record { rest = (all.0, all.1, more.rest); last = more.last; child = more.child }

pub weight_more : (bank : Content) (fs : List Frame) (f : Frame) → frames_weight bank (fs ++ f ∷ []) ≡ wait_weight bank f.wait + frames_weight bank fs
weight_more bank [] f = refl
weight_more bank (g ∷ fs) f = let more = weight_more bank fs f in omega (arith, more)

module _ (history : List Entry) (work : Work) where
  part_usable : (r : Request) (w : Wait) → IsUsable work.bank history r.term → is_small (term_at work.bank r.term) ≡ false → CanWait r w → Waits history work r w → IsUsable work.bank history (child_at r w).term
  part_usable r (wait.Argument g) usable large can k = (k.rooms (gathered g) (record { 0 = 0 }) can.0).usable
  part_usable r (wait.Test parts) usable large can k = (test_part work.bank history r.term parts usable large k).usable
  part_usable r (wait.Side c) usable large can k =
      subst (IsUsable work.bank history) (sym k.chosen) (side_part work.bank history r.term c.parts usable large k.head (is_true (term_at work.bank c.test.value))).usable
  part_usable r (wait.Body e) usable large can k = k.opens.body

  -- the part that is waited for may have a value
  pub child_usable : (f : Frame) → IsWaiting history work f → IsUsable work.bank history (child_of f).term
  child_usable f k = part_usable f.request f.wait k.usable k.large k.can k.waits

  stops : (r : Request) (w : Wait) (o : Outcome) → is_small (term_at work.bank r.term) ≡ false → CanWait r w → Waits history work r w → ((next : Term → Way) → and_next o next ≡ o) → outcome_at history work (child_at r w).term (child_at r w).nesting (child_at r w).calls ≡ o →
      outcome_at history work r.term r.nesting r.calls ≡ o
  stops r (wait.Argument g) o large can k still e =
      call_stops history work r.term g.function g.arguments.items r.nesting r.calls o large k.head k.parts
      (gather_stops history work g.arguments.items g.values.known.items (gathered g) g.values.calls g.values.nesting r.nesting r.calls (record { 0 = 0 }) o can.0 k.reached.takes k.reached.calls k.reached.nesting e still)
  stops r (wait.Test parts) o large can k still e = test_outcome history work r.term parts r.nesting r.calls o large k still e
  stops r (wait.Side c) o large can k still e = choice_outcome history work r.term c.side c.parts r.nesting r.calls c.test o large k.head k.chosen k.test_reached e
  stops r (wait.Body e) o large can k still same =
      let some : 0 < r.nesting = can.0 in
      let few : e.used < r.calls = can.1 in
      reduced_outcome history work r.term r.nesting r.calls e.used e.deepest e.call o k.reduced
      (opening_outcome history work e.call.term r.nesting (r.calls - e.used) e.opened o some (omega (arith, few)) k.opens same)

  -- what stops the part that is waited for, stops the term
  pub frame_stops : (f : Frame) (o : Outcome) → IsWaiting history work f → ((next : Term → Way) → and_next o next ≡ o) → outcome_at history work (child_of f).term (child_of f).nesting (child_of f).calls ≡ o →
      outcome_at history work f.request.term f.request.nesting f.request.calls ≡ o
  frame_stops f o k still e = stops f.request f.wait o k.large k.can k.waits still e

-- no argument has its value yet
pub none_reached : (history : List Entry) (work : Work) (ids : List TermId) (n left : ℕ) (v : Values) → v.known.items ≡ [] → v.calls ≡ 0 → v.nesting ≡ 0 → AreReached history work (take (length v.known.items) ids) n left v
none_reached history work ids n left v empty free flat =
    let first : take (length v.known.items) ids ≡ [] = ap (λ (ks : List Known). take (length ks) ids) empty ∙ take_none ids in
    record {
      known = subst (λ (xs : List TermId). AreKnown history work xs v.known.items) (sym first) (subst (λ (ks : List Known). AreKnown history work [] ks) (sym empty) tt);
      takes = subst (λ (xs : List TermId). TakesEach (events_at work.bank history) (terms_at work.bank xs) (values_at work.bank v.known.items) v.calls v.nesting) (sym first) (
          subst (λ (ks : List Known). TakesEach (events_at work.bank history) [] (values_at work.bank ks) v.calls v.nesting) (sym empty) (
          subst (λ (a : ℕ). TakesEach (events_at work.bank history) [] [] a v.nesting) (sym free) (
          subst (λ (k : ℕ). TakesEach (events_at work.bank history) [] [] 0 k) (sym flat) (none_taken (events_at work.bank history)))));
      calls = omega (arith, free);
      nesting = omega (arith, flat);
    }
  where
    take_none : (xs : List TermId) → take 0 xs ≡ []
    take_none [] = refl
    take_none (x ∷ xs) = refl

-- one more argument has its value
pub one_more_reached : (history : List Entry) (work : Work) (ids : List TermId) (n left : ℕ) (v w : Values) (k : Known) (d : TermId) → length v.known.items < length ids → AreReached history work (take (length v.known.items) ids) n left v → IsReached history work (get_or ids (length v.known.items) d) n (left - v.calls) k →
    w.known.items ≡ v.known.items ++ k ∷ [] → w.calls ≡ v.calls + k.calls → w.nesting ≡ max v.nesting k.nesting → AreReached history work (take (length v.known.items + 1) ids) n left w
one_more_reached history work ids n left v w k d below old one items calls nesting =
    let i : ℕ = length v.known.items in
    let ids_more : take (i + 1) ids ≡ take i ids ++ get_or ids i d ∷ [] = take_more ids i d below in
    let few : k.calls ≤ left - v.calls = one.calls in
    let used : v.calls ≤ left = old.calls in
    let flat : k.nesting ≤ n = one.nesting in
    let base : v.nesting ≤ n = old.nesting in
    record {
      known = subst (λ (xs : List TermId). AreKnown history work xs w.known.items) (sym ids_more) (
          subst (λ (js : List Known). AreKnown history work (take i ids ++ get_or ids i d ∷ []) js) (sym items)
          (one_more_known history work (take i ids) v.known.items (get_or ids i d) k old.known one.known));
      takes = subst (λ (xs : List TermId). TakesEach (events_at work.bank history) (terms_at work.bank xs) (values_at work.bank w.known.items) w.calls w.nesting) (sym ids_more) (
          subst (λ (js : List Known). TakesEach (events_at work.bank history) (terms_at work.bank (take i ids ++ get_or ids i d ∷ [])) (values_at work.bank js) w.calls w.nesting) (sym items) (
          subst (λ (a : ℕ). TakesEach (events_at work.bank history) (terms_at work.bank (take i ids ++ get_or ids i d ∷ [])) (values_at work.bank (v.known.items ++ k ∷ [])) a w.nesting) (sym calls) (
          subst (λ (m : ℕ). TakesEach (events_at work.bank history) (terms_at work.bank (take i ids ++ get_or ids i d ∷ [])) (values_at work.bank (v.known.items ++ k ∷ [])) (v.calls + k.calls) m) (sym nesting)
          (takes_more history work (take i ids) v.known.items (get_or ids i d) k v.calls v.nesting old.takes one.known))));
      calls = omega (arith, few, used, calls);
      nesting = omega (arith, flat, base, nesting);
    }

pub on_ok : {X E : Type 0} (r : Result X E) (A B : Type 0) → (A → B) → OnOk r A → OnOk r B
on_ok (Ok x) A B next k = next k
on_ok (Err e) A B next k = tt

pub length_more : (ks : List Known) (k : Known) → length (ks ++ k ∷ []) ≡ length ks + 1
length_more [] k = refl
length_more (j ∷ ks) k = let more = length_more ks k in omega (arith, more)

hand_at : (r : Request) (w : Wait) → hand_of (turn_at r w) ≡ child_at r w
hand_at r (wait.Argument g) = refl
hand_at r (wait.Test parts) = refl
hand_at r (wait.Side c) = refl
hand_at r (wait.Body e) = refl

-- the part that is waited for is at hand next
pub hand_is : (f : Frame) → hand_of (turn_of f) ≡ child_of f
hand_is f = hand_at f.request f.wait

turn_stands_at : (history : List Entry) (work : Work) (r : Request) (w : Wait) → IsUsable work.bank history (child_at r w).term → IsTurn history work (turn_at r w)
turn_stands_at history work r (wait.Argument g) k = k
turn_stands_at history work r (wait.Test parts) k = k
turn_stands_at history work r (wait.Side c) k = k
turn_stands_at history work r (wait.Body e) k = k

pub turn_stands : (history : List Entry) (work : Work) (f : Frame) → IsWaiting history work f → IsTurn history work (turn_of f)
turn_stands history work f k = turn_stands_at history work f.request f.wait (child_usable history work f k)
