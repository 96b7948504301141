-- What evaluation knows, as the work grows, and what it takes for parts of terms.
use Rattle.std.proofs.Common.{◌≡◌, ◌≤◌, ◌<◌, ◌+◌, ◌-◌, ℕ, zero, suc, max, Bool, true, false, Some, None, List, [], ◌∷◌, ◌++◌, length, get_or, take, drop, map, refl, sym, ap, ap₂, ◌∙◌, subst, arith}
use Rattle.std.specs.Prelude.{All, OnOk, Result, Ok, Err, codes, nat_eq}
use Rattle.std.specs.HashMap.{get}
use Rattle.nq_logic.specs.Terms.{Name, Term, Function, Each}
use Rattle.nq_logic.specs.Words.{if_term}
use Rattle.nq_logic.specs.Numerals.{number_of}
use Rattle.nq_logic.specs.Sizes.{depth_of}
use Rattle.nq_logic.specs.Histories.{History}
use Rattle.nq_logic.specs.Ground.{symbols_of}
use Rattle.nq_bank.specs.declared.node.TermId.{TermId}
use Rattle.nq_bank.specs.declared.node.Sym.{Sym}
use Rattle.nq_bank.specs.Content.{Content, Stands, text_at, term_at, terms_at}
use Rattle.nq_bank.specs.Parts.{parts_of}
use Rattle.nq_bank.proofs.Growth.{Stands-grown, IsNamed-grown, text_at-grown, term_at-grown, terms_at-grown}
use Rattle.nq_bank.proofs.Numerals.{depth_of-other}
use Rattle.nq_bank.proofs.NodesLemmas.{All-head, All-tail}
use Rattle.nq_rule.specs.declared.branching.Branches.{Branches}
use Rattle.nq_history.specs.declared.entry.Entry.{Entry}
use Rattle.nq_history.specs.Events.{events_at}
use Rattle.nq_kernel.specs.declared.work.Work.{Work}
use Rattle.nq_kernel.specs.Over.{IsVariable, IsTermOf}
use Rattle.nq_kernel.specs.Growing.{WorkStands}
use Rattle.nq_fragments.specs.Outcomes.{Outcome, OutOfFuel, and_next, is_small}
use Rattle.nq_fragments.specs.Openings.{body_of}
use Rattle.nq_fragments.specs.Evaluation.{Way, applied_to, chosen, on_values, opened, outcome_within}
use Rattle.nq_eval.specs.Costs.{inner, TakesEach}
use Rattle.nq_eval.specs.Lines.{IsUsable, GrowsUncounted}
use Rattle.nq_eval.specs.Sides.{side_if}
use Rattle.nq_eval.specs.Heads.{IsChoice, IsOtherCall}
use Rattle.nq_eval.specs.declared.found.Known.{Known}
use Rattle.nq_eval.specs.declared.openings.Opened.{Opened}
use Rattle.nq_eval.specs.declared.gathered.ValuesCall.{ValuesCall}
use Rattle.nq_eval.specs.Known.{IsKnown, IsReached, IsBlocked, Memo, Knows, outcome_at, call_outcome}
use Rattle.nq_kernel.specs.Ready.{HasUsableDefinitions}
use Rattle.nq_eval.specs.Gathered.{CanEvaluate, HasRoom, AreKnown, values_at, Stops, IsReduced, IsValuesCall}
use Rattle.nq_eval.specs.Opened.{IsOpenedTo, IsUnopened}
use Rattle.nq_eval.proofs.CostLemmas.{one_more_taken, stops_at, outcome_call, opens_to, opened_nowhere, opened_never}
use Rattle.nq_eval.proofs.LineLemmas.{equates_grown}
use Rattle.nq_eval.proofs.KnownLemmas.{known_grown}
use Rattle.nq_eval.proofs.ClosingLemmas.{usable_after, same_after, events_same, large_other, arguments_over}

-- the terms of ids, with the one at a place apart
pub terms_apart : (bank : Content) (ids : List TermId) (i : ℕ) (d : TermId) → i < length ids → terms_at bank ids ≡ terms_at bank (take i ids) ++ term_at bank (get_or ids i d) ∷ terms_at bank (drop (i + 1) ids)
terms_apart bank [] i d below = absurd (omega arith)
terms_apart bank (a ∷ ids) zero d below = refl
terms_apart bank (a ∷ ids) (suc i) d below =
    let same : suc (i + 1) ≡ suc i + 1 = omega arith in
    ap (λ ts. term_at bank a ∷ ts) (terms_apart bank ids i d (omega arith)) ∙
    ap (λ n. term_at bank a ∷ (terms_at bank (take i ids) ++ term_at bank (get_or ids i d) ∷ terms_at bank (drop n (a ∷ ids)))) same

pub All-take : (P : TermId → Type 0) (ids : List TermId) (i : ℕ) → All P ids → (k : ℕ) (d : TermId) → k < length (take i ids) → P (get_or (take i ids) k d)
All-take P [] zero all k d below = absurd (omega arith)
All-take P [] (suc i) all k d below = absurd (omega arith)
All-take P (a ∷ ids) zero all k d below = absurd (omega arith)
All-take P (a ∷ ids) (suc i) all zero d below = all 0 d (omega arith)
All-take P (a ∷ ids) (suc i) all (suc k) d below = All-take P ids i (All-tail P a ids all) k d (omega arith)

module _ (history : List Entry) (old new : Work) (stands : WorkStands history old) (grown : GrowsUncounted history old new) where
  pub can_after : (memo more : Memo) → CanEvaluate history old memo → Knows history new more → CanEvaluate history new more
  can_after memo more can knows =
      record { stands = grown.grows.stands; definitions = subst HasUsableDefinitions (sym (events_same history old new stands grown)) can.definitions; knows = knows }

  pub depth_after : (t : TermId) → IsUsable old.bank history t → depth_of (term_at new.bank t) ≡ depth_of (term_at old.bank t)
  depth_after t k = ap depth_of (same_after history old new stands grown t k)

  pub large_after : (t : TermId) → IsUsable old.bank history t → is_small (term_at old.bank t) ≡ false → is_small (term_at new.bank t) ≡ false
  large_after t k e = ap is_small (same_after history old new stands grown t k) ∙ e

  pub room_after : (t : TermId) → HasRoom old.bank history t → HasRoom new.bank history t
  room_after t k = let same = depth_after t k.usable in let room = k.room in record { usable = usable_after history old new stands grown t k.usable; room = omega (arith, same, room) }

  pub rooms_after : (ids : List TermId) → All (HasRoom old.bank history) ids → All (HasRoom new.bank history) ids
  rooms_after ids all = λ i d below. room_after (get_or ids i d) (all i d below)

  stand : (ids : List TermId) → All (HasRoom old.bank history) ids → All (Stands old.bank) ids
  stand ids all = λ i d below. (all i d below).usable.stands

  pub terms_after : (ids : List TermId) → All (HasRoom old.bank history) ids → terms_at new.bank ids ≡ terms_at old.bank ids
  terms_after ids all = terms_at-grown old.bank new.bank ids grown.grows.bank (stand ids all)

  pub choice_after : (t : TermId) (parts : Branches) → IsUsable old.bank history t → IsChoice old.bank t parts → IsChoice new.bank t parts
  choice_after t parts k c =
      let g = grown.grows.bank in
      let p : term_at new.bank parts.test ≡ term_at old.bank parts.test = term_at-grown old.bank new.bank parts.test g c.test in
      let x : term_at new.bank parts.first ≡ term_at old.bank parts.first = term_at-grown old.bank new.bank parts.first g c.first in
      let y : term_at new.bank parts.second ≡ term_at old.bank parts.second = term_at-grown old.bank new.bank parts.second g c.second in
      record {
        is = same_after history old new stands grown t k ∙ c.is ∙ sym (ap (λ u. if_term u (term_at new.bank parts.first) (term_at new.bank parts.second)) p ∙ ap₂ (λ u v. if_term (term_at old.bank parts.test) u v) x y);
        test = Stands-grown old.bank new.bank parts.test g c.test;
        first = Stands-grown old.bank new.bank parts.first g c.first;
        second = Stands-grown old.bank new.bank parts.second g c.second;
      }

  pub other_after : (t : TermId) (f : Sym) → IsUsable old.bank history t → IsOtherCall old.bank t f → IsOtherCall new.bank t f
  other_after t f k c =
      let g = grown.grows.bank in
      let same : term_at new.bank t ≡ term_at old.bank t = same_after history old new stands grown t k in
      let name : text_at new.bank f ≡ text_at old.bank f = text_at-grown old.bank new.bank f g c.name in
      record { name = IsNamed-grown old.bank new.bank f g c.name; is = rw (same, name) c.is; other = λ way. rw (same, name) (c.other way) }

  pub reached_after : (t : TermId) (n left : ℕ) (k : Known) → IsUsable old.bank history t → IsReached history old t n left k → IsReached history new t n left k
  reached_after t n left k usable r = record { known = known_grown history old new t k stands grown.grows usable r.known; calls = r.calls; nesting = r.nesting }

  pub each_known_after : (ids : List TermId) (ks : List Known) → All (HasRoom old.bank history) ids → AreKnown history old ids ks → AreKnown history new ids ks
  each_known_after [] [] all known = tt
  each_known_after [] (k ∷ ks) all known = absurd known
  each_known_after (t ∷ ids) [] all known = absurd known
  each_known_after (t ∷ ids) (k ∷ ks) all known =
      (known_grown history old new t k stands grown.grows (All-head (HasRoom old.bank history) t ids all).usable known.0, each_known_after ids ks (All-tail (HasRoom old.bank history) t ids all) known.1)

  values_after : (ids : List TermId) (ks : List Known) → AreKnown history old ids ks → values_at new.bank ks ≡ values_at old.bank ks
  values_after [] [] known = refl
  values_after [] (k ∷ ks) known = absurd known
  values_after (t ∷ ids) [] known = absurd known
  values_after (t ∷ ids) (k ∷ ks) known = ap₂ (λ u us. u ∷ us) (same_after history old new stands grown k.value known.0.value) (values_after ids ks known.1)

  pub each_takes_after : (ids : List TermId) (ks : List Known) (a k : ℕ) → All (HasRoom old.bank history) ids → AreKnown history old ids ks → TakesEach (events_at old.bank history) (terms_at old.bank ids) (values_at old.bank ks) a k → TakesEach (events_at new.bank history) (terms_at new.bank ids) (values_at new.bank ks) a k
  each_takes_after ids ks a k all known takes =
      subst (λ h. TakesEach h (terms_at new.bank ids) (values_at new.bank ks) a k) (sym (events_same history old new stands grown)) (
      subst (λ ts. TakesEach (events_at old.bank history) ts (values_at new.bank ks) a k) (sym (terms_after ids all)) (
      subst (λ vs. TakesEach (events_at old.bank history) (terms_at old.bank ids) vs a k) (sym (values_after ids ks known)) takes))

  pub reduced_after : (t : TermId) (n left a k : ℕ) (c : ValuesCall) → IsReduced history old t n left a k c → IsReduced history new t n left a k c
  reduced_after t n left a k c r =
      let events : events_at new.bank history ≡ events_at old.bank history = events_same history old new stands grown in
      let one : term_at new.bank t ≡ term_at old.bank t = same_after history old new stands grown t r.term in
      let two : term_at new.bank c.term ≡ term_at old.bank c.term = same_after history old new stands grown c.term r.call in
      record {
        term = usable_after history old new stands grown t r.term;
        call = usable_after history old new stands grown c.term r.call;
        line = λ differs. equates_grown history old new c.line t c.term stands grown.grows r.term r.call (r.line differs);
        calls = r.calls;
        nesting = r.nesting;
        within = rw (events, one, two) r.within;
      }

  pub opened_after : (u : TermId) (o : Opened) → IsUsable old.bank history u → IsOpenedTo history old u o → IsOpenedTo history new u o
  opened_after u o usable k =
      let events : events_at new.bank history ≡ events_at old.bank history = events_same history old new stands grown in
      let one : term_at new.bank u ≡ term_at old.bank u = same_after history old new stands grown u usable in
      let two : term_at new.bank o.body ≡ term_at old.bank o.body = same_after history old new stands grown o.body k.body in
      record {
        opens = record { row = rw one k.opens.row; value = rw one k.opens.value; passes_not = rw one k.opens.passes_not };
        opening = k.opening;
        is = rw (events, one) k.is;
        body = usable_after history old new stands grown o.body k.body;
        denotes = rw two k.denotes;
        line = λ differs. equates_grown history old new o.line u o.body stands grown.grows usable k.body (k.line differs);
      }

-- the memo, for an answer
pub knows_if_ok : {X E : Type 0} (r : Result X E) (history : List Entry) (work : Work) (memo : Memo) → Knows history work memo → OnOk r (Knows history work memo)
knows_if_ok (Ok x) history work memo k = k
knows_if_ok (Err e) history work memo k = tt

-- the parts of an IF that is no small value
pub record IsPart (bank : Content) (history : List Entry) (t a : TermId) : Type 0 where
  pub usable : IsUsable bank history a
  pub less : depth_of (term_at bank a) < depth_of (term_at bank t)

module _ (bank : Content) (history : List Entry) (t : TermId) (parts : Branches) (usable : IsUsable bank history t) (large : is_small (term_at bank t) ≡ false) (head : IsChoice bank t parts) where
  abbrev p : Term
  p = term_at bank parts.test

  abbrev x : Term
  x = term_at bank parts.first

  abbrev y : Term
  y = term_at bank parts.second

  choice_depth : depth_of (term_at bank t) ≡ max (depth_of p) (max (depth_of x) (max (depth_of y) 0)) + 1
  choice_depth = ap depth_of head.is ∙ depth_of-other (codes "IF") (p ∷ x ∷ y ∷ []) (ap number_of (sym head.is) ∙ large_other (term_at bank t) large)

  parts_in : Each (IsTermOf IsVariable (symbols_of (events_at bank history))) (p ∷ x ∷ y ∷ [])
  parts_in = arguments_over (symbols_of (events_at bank history)) (codes "IF") (p ∷ x ∷ y ∷ []) (subst (IsTermOf IsVariable (symbols_of (events_at bank history))) head.is usable.over)

  pub test_part : IsPart bank history t parts.test
  test_part = let whole = choice_depth in let few = usable.shallow in record { usable = record { stands = head.test; over = parts_in.0; shallow = omega (arith, whole, few) }; less = omega (arith, whole) }

  pub first_part : IsPart bank history t parts.first
  first_part = let whole = choice_depth in let few = usable.shallow in record { usable = record { stands = head.first; over = parts_in.1.0; shallow = omega (arith, whole, few) }; less = omega (arith, whole) }

  pub second_part : IsPart bank history t parts.second
  second_part = let whole = choice_depth in let few = usable.shallow in record { usable = record { stands = head.second; over = parts_in.1.1.0; shallow = omega (arith, whole, few) }; less = omega (arith, whole) }

  pub side_part : (b : Bool) → IsPart bank history t (side_if b parts)
  side_part true = first_part
  side_part false = second_part

-- one more argument has its value
pub one_more_known : (history : List Entry) (work : Work) (ids : List TermId) (ks : List Known) (t : TermId) (k : Known) → AreKnown history work ids ks → IsKnown history work t k → AreKnown history work (ids ++ t ∷ []) (ks ++ k ∷ [])
one_more_known history work [] [] t k known one = (one, tt)
one_more_known history work [] (j ∷ ks) t k known one = absurd known
one_more_known history work (u ∷ ids) [] t k known one = absurd known
one_more_known history work (u ∷ ids) (j ∷ ks) t k known one = (known.0, one_more_known history work ids ks t k known.1 one)

pub take_more : (ids : List TermId) (i : ℕ) (d : TermId) → i < length ids → take (i + 1) ids ≡ take i ids ++ get_or ids i d ∷ []
take_more [] i d below = absurd (omega arith)
take_more (a ∷ ids) zero d below = refl
take_more (a ∷ ids) (suc i) d below =
    let same : suc i + 1 ≡ suc (i + 1) = omega arith in
    ap (λ n. take n (a ∷ ids)) same ∙ ap (λ xs. a ∷ xs) (take_more ids i d (omega arith))

map_more : (bank : Content) (ids : List TermId) (t : TermId) → terms_at bank (ids ++ t ∷ []) ≡ terms_at bank ids ++ term_at bank t ∷ []
map_more bank [] t = refl
map_more bank (a ∷ ids) t = ap (λ ts. term_at bank a ∷ ts) (map_more bank ids t)

values_more : (bank : Content) (ks : List Known) (k : Known) → values_at bank (ks ++ k ∷ []) ≡ values_at bank ks ++ term_at bank k.value ∷ []
values_more bank [] k = refl
values_more bank (j ∷ ks) k = ap (λ ts. term_at bank j.value ∷ ts) (values_more bank ks k)

pub takes_more : (history : List Entry) (work : Work) (ids : List TermId) (ks : List Known) (t : TermId) (k : Known) (a n : ℕ) → TakesEach (events_at work.bank history) (terms_at work.bank ids) (values_at work.bank ks) a n → IsKnown history work t k →
    TakesEach (events_at work.bank history) (terms_at work.bank (ids ++ t ∷ [])) (values_at work.bank (ks ++ k ∷ [])) (a + k.calls) (max n k.nesting)
takes_more history work ids ks t k a n takes one =
    subst (λ ts. TakesEach (events_at work.bank history) ts (values_at work.bank (ks ++ k ∷ [])) (a + k.calls) (max n k.nesting)) (sym (map_more work.bank ids t)) (
    subst (λ vs. TakesEach (events_at work.bank history) (terms_at work.bank ids ++ term_at work.bank t ∷ []) vs (a + k.calls) (max n k.nesting)) (sym (values_more work.bank ks k))
    (one_more_taken (events_at work.bank history) (terms_at work.bank ids) (values_at work.bank ks) (term_at work.bank t) (term_at work.bank k.value) a n k.calls k.nesting takes one.takes))

-- the argument at a place stops
pub gather_stops : (history : List Entry) (work : Work) (ids : List TermId) (ks : List Known) (i a k n left : ℕ) (d : TermId) (o : Outcome) → i < length ids → TakesEach (events_at work.bank history) (terms_at work.bank (take i ids)) (values_at work.bank ks) a k → a ≤ left → k ≤ n →
    outcome_at history work (get_or ids i d) n (left - a) ≡ o → ((f : Term → Way) → and_next o f ≡ o) → Stops history work ids n left o
gather_stops history work ids ks i a k n left d o below takes few flat stop still u next =
    ap (λ ts. applied_to next u (map (outcome_within (events_at work.bank history) n) ts) left) (terms_apart work.bank ids i d below) ∙
    stops_at (events_at work.bank history) (terms_at work.bank (take i ids)) (values_at work.bank ks) (terms_at work.bank (drop (i + 1) ids)) (term_at work.bank (get_or ids i d)) a k n left o takes few flat stop still u next

-- what stops the arguments of a call, stops the call
pub call_stops : (history : List Entry) (work : Work) (t : TermId) (f : Sym) (ids : List TermId) (n left : ℕ) (o : Outcome) → is_small (term_at work.bank t) ≡ false → IsOtherCall work.bank t f → terms_at work.bank ids ≡ parts_of (term_at work.bank t) → Stops history work ids n left o → outcome_at history work t n left ≡ o
call_stops history work t f ids n left o large head same stops =
    let h : History = events_at work.bank history in
    let u : Term = term_at work.bank t in
    let name : Name = text_at work.bank f in
    let next : Term → Way = on_values h (inner h n) in
    ap (λ v. outcome_within h n v left) head.is ∙
    outcome_call h n name (parts_of u) left (ap is_small (sym head.is) ∙ large) ∙
    ap (λ q. chosen q (applied_to next (Function name) (map (outcome_within h n) (parts_of u))) left) (head.other (outcome_within h n)) ∙
    ap (λ ts. applied_to next (Function name) (map (outcome_within h n) ts) left) (sym same) ∙
    stops (Function name) next

-- nothing is known yet
pub nothing_known : (history : List Entry) (work : Work) (memo : Memo) → ((q : ℕ) → get nat_eq memo q ≡ None) → Knows history work memo
nothing_known history work memo none = record { usable = λ t k found. absurd (none_some k (sym (none t.0) ∙ found)); known = λ t k found. absurd (none_some k (sym (none t.0) ∙ found)) }
  where
    none_some : (k : Known) → None ≡ Some k → ⊥
    none_some k e = cc

-- the call of values, as the work grows
pub values_call_after : (history : List Entry) (old new : Work) → WorkStands history old → GrowsUncounted history old new → (f : Sym) (c : ValuesCall) → IsValuesCall history old f c → IsValuesCall history new f c
values_call_after history old new stands grown f c k =
    let term : term_at new.bank c.term ≡ term_at old.bank c.term = same_after history old new stands grown c.term k.term in
    let name : text_at new.bank f ≡ text_at old.bank f = text_at-grown old.bank new.bank f grown.grows.bank k.name in
    let values : terms_at new.bank c.values.items ≡ terms_at old.bank c.values.items = terms_at-grown old.bank new.bank c.values.items grown.grows.bank k.stand in
    record {
      term = usable_after history old new stands grown c.term k.term;
      name = IsNamed-grown old.bank new.bank f grown.grows.bank k.name;
      is = rw (term, name, values) k.is;
      stand = λ i d below. Stands-grown old.bank new.bank (get_or c.values.items i d) grown.grows.bank (k.stand i d below);
      small = λ i d below. ap is_small (term_at-grown old.bank new.bank (get_or c.values.items i d) grown.grows.bank (k.stand i d below)) ∙ k.small i d below;
    }

-- a call that nothing opens
pub unopened_blocked : (history : List Entry) (work : Work) (u : TermId) (n left : ℕ) → IsUsable work.bank history u → IsUnopened history work u → IsBlocked work u (call_outcome history work u n left)
unopened_blocked history work u n left usable k =
    record { stands = usable.stands; blocked = opens_to (events_at work.bank history) n left (term_at work.bank u) None k.opens.row k.opens.value k.opens.passes_not k.is }

-- a call that may not be opened any more
module _ (history : List Entry) (work : Work) (u : TermId) (o : Opened) (n left : ℕ) (k : IsOpenedTo history work u o) where
  opens : call_outcome history work u n left ≡ opened (inner (events_at work.bank history) n) (body_of k.opening) left
  opens = opens_to (events_at work.bank history) n left (term_at work.bank u) (Some k.opening) k.opens.row k.opens.value k.opens.passes_not k.is

  pub opened_flat : n ≡ 0 → call_outcome history work u n left ≡ OutOfFuel
  opened_flat e = opens ∙ opened_nowhere (events_at work.bank history) (body_of k.opening) n left e

  pub opened_spent : left ≡ 0 → call_outcome history work u n left ≡ OutOfFuel
  opened_spent e = opens ∙ opened_never (events_at work.bank history) (body_of k.opening) n left e
