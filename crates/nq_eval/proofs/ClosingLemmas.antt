-- What is found for a term, from what is found for its parts.
use Rattle.std.proofs.Common.{◌≡◌, ◌≤◌, ◌<◌, ◌+◌, ◌-◌, ℕ, zero, suc, max, Bool, true, false, ◌&&◌, ◌||◌, Option, Some, None, List, [], ◌∷◌, length, get_or, refl, sym, ap, ◌∙◌, subst, arith}
use Rattle.std.specs.Prelude.{bytes_eq, codes, All, is_some, nat_eq}
use Rattle.std.proofs.lemmas.Bool.{le-leb, leb-true}
use Rattle.std.proofs.lemmas.Bool.Decides.{nat_tests}
use Rattle.nq_logic.specs.Terms.{Name, Symbol, Term, Variable, Function, Applied, applied, call, Takes, IsTerm, Each}
use Rattle.nq_logic.specs.Words.{false_term, numeral}
use Rattle.nq_logic.specs.Numerals.{number_of, is_numeral}
use Rattle.nq_logic.specs.Values.{is_value, is_tree_value}
use Rattle.nq_logic.specs.Sizes.{depth_of, greatest_depth}
use Rattle.nq_logic.specs.Histories.{History}
use Rattle.nq_logic.specs.Ground.{symbols_of}
use Rattle.nq_logic.proofs.Symbols.{true_symbol, false_symbol, zero_symbol, add1_symbol, cons_symbol, pack_symbol, minus_symbol}
use Rattle.nq_bank.specs.declared.node.TermId.{TermId}
use Rattle.nq_bank.specs.declared.node.Sym.{Sym}
use Rattle.nq_bank.specs.Content.{Content, Grows, Stands, text_at, term_at, terms_at}
use Rattle.nq_bank.specs.Parts.{parts_of}
use Rattle.nq_bank.proofs.Growth.{term_at-grown}
use Rattle.nq_bank.proofs.Numerals.{numeral-number_of, depth_of-number, is_value-number, depth_of-other}
use Rattle.nq_proof.specs.Clauses.{same_term}
use Rattle.nq_proof.specs.Values.{value_of, is_true}
use Rattle.nq_proof.proofs.Tests.{names_same}
use Rattle.nq_rule.specs.declared.branching.Branches.{Branches}
use Rattle.nq_history.specs.declared.entry.Entry.{Entry}
use Rattle.nq_history.specs.Events.{events_at}
use Rattle.nq_history.proofs.HistoryLemmas.{events_at-grown}
use Rattle.nq_kernel.specs.declared.work.Work.{Work}
use Rattle.nq_kernel.specs.Over.{IsVariable, VariablesAre, IsTermOf}
use Rattle.nq_kernel.specs.Growing.{WorkStands}
use Rattle.nq_fragments.specs.Outcomes.{Outcome, Reached, and_next, is_small, is_shallow, term_depth}
use Rattle.nq_fragments.specs.Evaluation.{Way, outcome_within, on_values}
use Rattle.nq_fragments.specs.Openings.{body_of}
use Rattle.nq_eval.specs.Costs.{granted, inner, CallTakes, Takes as TakesValue}
use Rattle.nq_eval.specs.Lines.{IsUsable, Equates, GrowsUncounted}
use Rattle.nq_eval.specs.Sides.{side_if, side_at}
use Rattle.nq_eval.specs.Heads.{IsChoice, IsOtherCall}
use Rattle.nq_eval.specs.declared.found.Known.{Known}
use Rattle.nq_eval.specs.declared.openings.Opened.{Opened}
use Rattle.nq_eval.specs.declared.gathered.ValuesCall.{ValuesCall}
use Rattle.nq_eval.specs.Known.{AreEqual, IsReached, IsCallReached, outcome_at, call_outcome}
use Rattle.nq_eval.specs.Gathered.{HasRoom, IsReduced}
use Rattle.nq_eval.specs.Opened.{IsOpenedTo}
use Rattle.nq_eval.proofs.CostLemmas.{granted_yes, granted_same, granted_twice, choice_reached, choice_taken, choice_stops, row_taken, opens_to, opening_taken, opened_within}
use Rattle.nq_eval.proofs.LineLemmas.{usable_grown}

abbrev IsOver : List Symbol → Term → Type 0
IsOver symbols t = IsTermOf IsVariable symbols t

-- values are over every history's functions
module _ (h : History) where
  abbrev Over : Term → Type 0
  Over t = IsOver (symbols_of h) t

  over_function : (f : Name) → IsTerm (symbols_of h) (Function f) → Over (Function f)
  over_function f o = record { over = o; variables = tt }

  over_one : (f : Name) (t : Term) → Takes (symbols_of h) (Function f) 1 → Over t → Over (Applied (Function f) t)
  over_one f t o k = record { over = (o, k.over); variables = (tt, k.variables) }

  over_two : (f : Name) (t u : Term) → Takes (symbols_of h) (Function f) 2 → Over t → Over u → Over (Applied (Applied (Function f) t) u)
  over_two f t u o k l = record { over = ((o, k.over), l.over); variables = ((tt, k.variables), l.variables) }

  numeral_over : (n : ℕ) → Over (numeral n)
  unfolding numeral
  numeral_over zero = over_function (codes "ZERO") (zero_symbol h)
  numeral_over (suc n) = over_one (codes "ADD1") (numeral n) (add1_symbol h) (numeral_over n)

  number_over : (t : Term) (o : Option ℕ) → number_of t ≡ o → is_some o ≡ true → Over t
  number_over t None e k = absurd cc
  number_over t (Some n) e k = subst Over (numeral-number_of t n e) (numeral_over n)

  either_over : (t : Term) → (is_tree_value t ≡ true → Over t) → (b : Bool) → is_numeral t ≡ b → (b || is_tree_value t) ≡ true → Over t
  either_over t tree true e k = number_over t (number_of t) refl e
  either_over t tree false e k = tree k

  value_from : (t : Term) → (is_tree_value t ≡ true → Over t) → is_value t ≡ true → Over t
  value_from t tree e = either_over t tree (is_numeral t) refl e

  truth_over : (f : Name) (b c : Bool) → bytes_eq f (codes "TRUE") ≡ b → bytes_eq f (codes "FALSE") ≡ c → (b || c) ≡ true → Over (Function f)
  truth_over f true c e k j = subst (λ g. Over (Function g)) (sym (names_same f (codes "TRUE") e)) (over_function (codes "TRUE") (true_symbol h))
  truth_over f false true e k j = subst (λ g. Over (Function g)) (sym (names_same f (codes "FALSE") k)) (over_function (codes "FALSE") (false_symbol h))
  truth_over f false false e k j = absurd cc

  part_over : (f : Name) (t : Term) (b c v n : Bool) → bytes_eq f (codes "PACK") ≡ b → bytes_eq f (codes "MINUS") ≡ c → (v ≡ true → Over t) → (n ≡ true → Over t) → (b && v || c && n) ≡ true → Over (Applied (Function f) t)
  part_over f t true c true n e k one two j = subst (λ g. Over (Applied (Function g) t)) (sym (names_same f (codes "PACK") e)) (over_one (codes "PACK") t (pack_symbol h) (one refl))
  part_over f t b true v true e k one two j = subst (λ g. Over (Applied (Function g) t)) (sym (names_same f (codes "MINUS") k)) (over_one (codes "MINUS") t (minus_symbol h) (two refl))
  part_over f t true true false false e k one two j = absurd cc
  part_over f t true false false n e k one two j = absurd cc
  part_over f t false true v false e k one two j = absurd cc
  part_over f t false false v n e k one two j = absurd cc

  pair_over : (f : Name) (t u : Term) (b v w : Bool) → bytes_eq f (codes "CONS") ≡ b → (v ≡ true → Over t) → (w ≡ true → Over u) → (b && v && w) ≡ true → Over (Applied (Applied (Function f) t) u)
  pair_over f t u true true true e one two j = subst (λ g. Over (Applied (Applied (Function g) t) u)) (sym (names_same f (codes "CONS") e)) (over_two (codes "CONS") t u (cons_symbol h) (one refl) (two refl))
  pair_over f t u true true false e one two j = absurd cc
  pair_over f t u true false w e one two j = absurd cc
  pair_over f t u false v w e one two j = absurd cc

  tree_over : (t : Term) → is_tree_value t ≡ true → Over t
  unfolding is_tree_value
  tree_over (Variable x) e = absurd cc
  tree_over (Function f) e = truth_over f (bytes_eq f (codes "TRUE")) (bytes_eq f (codes "FALSE")) refl refl e
  tree_over (Applied (Variable x) u) e = absurd cc
  tree_over (Applied (Function f) u) e =
      part_over f u (bytes_eq f (codes "PACK")) (bytes_eq f (codes "MINUS")) (is_value u) (is_numeral u) refl refl (value_from u (tree_over u)) (number_over u (number_of u) refl) e
  tree_over (Applied (Applied (Variable x) t) u) e = absurd cc
  tree_over (Applied (Applied (Function f) t) u) e =
      pair_over f t u (bytes_eq f (codes "CONS")) (is_value t) (is_value u) refl (value_from t (tree_over t)) (value_from u (tree_over u)) e
  tree_over (Applied (Applied (Applied s r) t) u) e = absurd cc

  pub value_over : (t : Term) → is_value t ≡ true → Over t
  value_over t e = value_from t (tree_over t) e

first_true : (b c : Bool) → (b && c) ≡ true → b ≡ true
first_true true c e = refl
first_true false c e = absurd cc

second_true : (b c : Bool) → (b && c) ≡ true → c ≡ true
second_true true c e = e
second_true false c e = absurd cc

pub small_value : (t : Term) → is_small t ≡ true → is_value t ≡ true
small_value t e = first_true (is_value t) (is_shallow t) e

pub small_shallow : (t : Term) → is_small t ≡ true → is_shallow t ≡ true
small_shallow t e = second_true (is_value t) (is_shallow t) e

-- a small value that stands is usable
pub small_usable : (bank : Content) (history : List Entry) (v : TermId) → Stands bank v → is_small (term_at bank v) ≡ true → IsUsable bank history v
small_usable bank history v stands small =
    let few : depth_of (term_at bank v) ≤ 1900 = leb-true (depth_of (term_at bank v)) 1900 (small_shallow (term_at bank v) small) in
    record { stands = stands; over = value_over (events_at bank history) (term_at bank v) (small_value (term_at bank v) small); shallow = omega (arith, few) }

-- a term that is no small value is no numeral
pub large_other : (t : Term) → is_small t ≡ false → number_of t ≡ None
large_other t large = by_number (number_of t) refl
  where
    by_number : (o : Option ℕ) → number_of t ≡ o → o ≡ None
    by_number None e = refl
    by_number (Some n) e =
        let one : depth_of t ≡ 1 = depth_of-number t n e in
        let value : is_value t ≡ true = is_value-number t n e in
        let shallow : is_shallow t ≡ true = le-leb (depth_of t) 1900 (omega (arith, one)) in
        let small : (is_value t && is_shallow t) ≡ true = rw (value, shallow) refl in
        absurd cc

-- the parts of a call are over what it is over
pub parts_over : (symbols : List Symbol) (t : Term) (us : List Term) (n : ℕ) → Takes symbols (applied t us) n → VariablesAre IsVariable (applied t us) → (m : ℕ) × Takes symbols t m × VariablesAre IsVariable t × Each (IsOver symbols) us
parts_over symbols t [] n o v = (n, o, v, tt)
parts_over symbols t (u ∷ us) n o v =
    let rest = parts_over symbols (Applied t u) us n o v in (suc rest.0, rest.1.0, rest.2.0, (record { over = rest.1.1; variables = rest.2.1 }, rest.3))

pub arguments_over : (symbols : List Symbol) (f : Name) (ts : List Term) → IsOver symbols (call f ts) → Each (IsOver symbols) ts
arguments_over symbols f ts k = (parts_over symbols (Function f) ts 0 k.over k.variables).3

each_id : (P : Term → Type 0) (bank : Content) (ids : List TermId) (i : ℕ) (d : TermId) → i < length ids → Each P (terms_at bank ids) → P (term_at bank (get_or ids i d))
each_id P bank [] i d below each = absurd (omega arith)
each_id P bank (a ∷ ids) zero d below each = each.0
each_id P bank (a ∷ ids) (suc i) d below each = each_id P bank ids i d (omega arith) each.1

greatest_id : (bank : Content) (ids : List TermId) (i : ℕ) (d : TermId) → i < length ids → depth_of (term_at bank (get_or ids i d)) ≤ greatest_depth (terms_at bank ids)
greatest_id bank [] i d below = absurd (omega arith)
greatest_id bank (a ∷ ids) zero d below = omega arith
greatest_id bank (a ∷ ids) (suc i) d below = let rest = greatest_id bank ids i d (omega arith) in omega (arith, rest)

module _ (bank : Content) (history : List Entry) (t : TermId) (f : Sym) (usable : IsUsable bank history t) (large : is_small (term_at bank t) ≡ false) (head : IsOtherCall bank t f) (ids : List TermId) (same : terms_at bank ids ≡ parts_of (term_at bank t)) where
  whole_is : term_at bank t ≡ call (text_at bank f) (terms_at bank ids)
  whole_is = head.is ∙ ap (call (text_at bank f)) (sym same)

  whole_depth : depth_of (term_at bank t) ≡ greatest_depth (terms_at bank ids) + 1
  whole_depth = ap depth_of whole_is ∙ depth_of-other (text_at bank f) (terms_at bank ids) (ap number_of (sym whole_is) ∙ large_other (term_at bank t) large)

  pub arguments_less : All (λ a. depth_of (term_at bank a) < depth_of (term_at bank t)) ids
  arguments_less = λ i d below. let less = greatest_id bank ids i d below in omega (arith, less, whole_depth)

  pub arguments_room : (earlier : All (Stands bank) ids) → All (HasRoom bank history) ids
  arguments_room earlier = λ i d below.
      let less : depth_of (term_at bank (get_or ids i d)) < depth_of (term_at bank t) = arguments_less i d below in
      let shallow : depth_of (term_at bank t) ≤ term_depth = usable.shallow in
      record {
        usable = record {
          stands = earlier i d below;
          over = each_id (IsOver (symbols_of (events_at bank history))) bank ids i d below (arguments_over (symbols_of (events_at bank history)) (text_at bank f) (terms_at bank ids) (subst (IsOver (symbols_of (events_at bank history))) whole_is usable.over));
          shallow = omega (arith, less, shallow);
        };
        room = omega (arith, less, shallow);
      }

-- F
pub numeral_not_false : (n : ℕ) → false ≡ same_term (numeral n) false_term
unfolding numeral
numeral_not_false zero = refl
numeral_not_false (suc n) = refl

applied_not_false : (t u : Term) (us : List Term) → same_term (applied (Applied t u) us) false_term ≡ false
applied_not_false t u [] = refl
applied_not_false t u (w ∷ us) = applied_not_false (Applied t u) w us

pub call_not_false : (f : Name) (ts : List Term) (count : ℕ) → count ≡ length ts → (count ≡ 0 → ⊥) → same_term (call f ts) false_term ≡ false
call_not_false f [] count e h = absurd (h e)
call_not_false f (u ∷ us) count e h = applied_not_false (Function f) u us

pub constant_false : (f : Name) (ts : List Term) (count : ℕ) → count ≡ length ts → count ≡ 0 → same_term (call f ts) false_term ≡ bytes_eq f (codes "FALSE")
constant_false f [] count e h = refl
constant_false f (u ∷ us) count e h = absurd (omega (arith, e, h))

module _ (history : List Entry) (old new : Work) (stands : WorkStands history old) (grown : GrowsUncounted history old new) where
  grows : Grows old.bank new.bank
  grows = grown.grows.bank

  pub events_same : events_at new.bank history ≡ events_at old.bank history
  events_same = events_at-grown old.bank new.bank grows history stands.history.entries

  pub usable_after : (t : TermId) → IsUsable old.bank history t → IsUsable new.bank history t
  usable_after t k = usable_grown old.bank new.bank history t grows stands.history k

  pub same_after : (t : TermId) → IsUsable old.bank history t → term_at new.bank t ≡ term_at old.bank t
  same_after t k = term_at-grown old.bank new.bank t grows k.stands

  pub small_after : (t : TermId) → IsUsable old.bank history t → is_small (term_at old.bank t) ≡ true → is_small (term_at new.bank t) ≡ true
  small_after t k e = ap is_small (same_after t k) ∙ e

  pub takes_after : (t v : TermId) (a k : ℕ) → IsUsable old.bank history t → IsUsable old.bank history v → TakesValue (events_at old.bank history) (term_at old.bank t) (term_at old.bank v) a k → TakesValue (events_at new.bank history) (term_at new.bank t) (term_at new.bank v) a k
  takes_after t v a k one two takes = let e = events_same in let f = same_after t one in let g = same_after v two in rw (e, f, g) takes

  pub call_takes_after : (t v : TermId) (a k : ℕ) → IsUsable old.bank history t → IsUsable old.bank history v → CallTakes (events_at old.bank history) (term_at old.bank t) (term_at old.bank v) a k → CallTakes (events_at new.bank history) (term_at new.bank t) (term_at new.bank v) a k
  call_takes_after t v a k one two takes = let e = events_same in let f = same_after t one in let g = same_after v two in rw (e, f, g) takes

  -- a call on values by its row
  pub row_reached : (u v : TermId) (line n left : ℕ) → IsUsable old.bank history u → Stands old.bank v → is_small (term_at old.bank v) ≡ true → value_of (term_at old.bank u) ≡ Some (term_at old.bank v) → Equates new line u v →
      IsCallReached history new u n left (record { value = v; calls = 0; nesting = 0; line = line })
  row_reached u v line n left one there small value holds =
      let two : IsUsable old.bank history v = small_usable old.bank history v there small in
      record {
        value = usable_after v two;
        small = small_after v two small;
        takes = call_takes_after u v 0 0 one two (row_taken (events_at old.bank history) (term_at old.bank u) (term_at old.bank v) value (small_shallow (term_at old.bank v) small));
        line = λ differs. holds;
        calls = omega arith;
        nesting = omega arith;
      }

  -- a call, from the call of its arguments' values
  pub reduced_reached : (t : TermId) (n left a k line : ℕ) (c : ValuesCall) (known : Known) → IsReduced history old t n left a k c → IsCallReached history old c.term n (left - a) known → AreEqual new line t known.value →
      IsReached history new t n left (record { value = known.value; calls = a + known.calls; nesting = max k known.nesting; line = line })
  reduced_reached t n left a k line c known reduced reached holds =
      let h : History = events_at old.bank history in
      let one : TakesValue h (term_at old.bank t) (term_at old.bank known.value) (a + known.calls) (max k known.nesting) = record {
        within = λ m rest.
            reduced.within m rest ∙
            granted_same a k m rest (on_values h (inner h m) (term_at old.bank c.term)) (λ more. granted known.calls known.nesting m more (Reached (term_at old.bank known.value))) (reached.takes.within m) ∙
            granted_twice a k known.calls known.nesting m rest (Reached (term_at old.bank known.value));
      } in
      let few : known.calls ≤ left - a = reached.calls in
      let room : a ≤ left = reduced.calls in
      let flat : known.nesting ≤ n = reached.nesting in
      let base : k ≤ n = reduced.nesting in
      record {
        known = record { value = usable_after known.value reached.value; small = small_after known.value reached.value reached.small; takes = takes_after t known.value (a + known.calls) (max k known.nesting) reduced.term reached.value one; line = holds };
        calls = omega (arith, few, room);
        nesting = omega (arith, flat, base);
      }

  -- what a call opens to
  pub opening_reached : (u : TermId) (n left line : ℕ) (o : Opened) (known : Known) → 0 < n → 0 < left → IsUsable old.bank history u → IsOpenedTo history old u o → IsReached history old o.body (n - 1) (left - 1) known → AreEqual new line u known.value →
      IsCallReached history new u n left (record { value = known.value; calls = known.calls + 1; nesting = known.nesting + 1; line = line })
  opening_reached u n left line o known i j usable to reached holds =
      let h : History = events_at old.bank history in
      let body : TakesValue h (body_of to.opening) (term_at old.bank known.value) known.calls known.nesting = subst (λ t. TakesValue h t (term_at old.bank known.value) known.calls known.nesting) to.denotes reached.known.takes in
      let few : known.calls ≤ left - 1 = reached.calls in
      let flat : known.nesting ≤ n - 1 = reached.nesting in
      record {
        value = usable_after known.value reached.known.value;
        small = small_after known.value reached.known.value reached.known.small;
        takes = call_takes_after u known.value (known.calls + 1) (known.nesting + 1) usable reached.known.value
            (opening_taken h (term_at old.bank u) (term_at old.bank known.value) to.opening known.calls known.nesting to.opens.row to.opens.value to.opens.passes_not to.is body);
        line = holds;
        calls = omega (arith, few, j);
        nesting = omega (arith, flat, i);
      }

module _ (history : List Entry) (work : Work) where
  pub reduced_outcome : (t : TermId) (n left a k : ℕ) (c : ValuesCall) (o : Outcome) → IsReduced history work t n left a k c → call_outcome history work c.term n (left - a) ≡ o → outcome_at history work t n left ≡ o
  reduced_outcome t n left a k c o reduced e =
      reduced.within n left ∙
      granted_yes a k n left (on_values (events_at work.bank history) (inner (events_at work.bank history) n) (term_at work.bank c.term)) reduced.calls reduced.nesting ∙ e

  pub opening_outcome : (u : TermId) (n left : ℕ) (to : Opened) (o : Outcome) → 0 < n → 0 < left → IsOpenedTo history work u to → outcome_at history work to.body (n - 1) (left - 1) ≡ o → call_outcome history work u n left ≡ o
  opening_outcome u n left to o i j opened e =
      let h : History = events_at work.bank history in
      opens_to h n left (term_at work.bank u) (Some opened.opening) opened.opens.row opened.opens.value opened.opens.passes_not opened.is ∙
      opened_within h (body_of opened.opening) n left i j ∙
      ap (λ t. outcome_within h (n - 1) t (left - 1)) (sym opened.denotes) ∙ e

pub no_number : (n : ℕ) → (n ≡ 0 → ⊥) → nat_eq n 0 ≡ false
no_number n h = grind (arith, nat_tests)

pub some_none : (n : ℕ) → Some n ≡ None → ⊥
some_none n e = cc

-- the side that a test chooses
side_term : (bank : Content) (parts : Branches) (b : Bool) → term_at bank (side_if b parts) ≡ elim b as (λ b. Term) [ true ↦ term_at bank parts.first | false ↦ term_at bank parts.second ]
side_term bank parts true = refl
side_term bank parts false = refl

module _ (history : List Entry) (old : Work) where
  -- an IF, from its test and the side that it chooses
  pub choice_known : (t side : TermId) (parts : Branches) (n left : ℕ) (test known : Known) → is_small (term_at old.bank t) ≡ false → IsChoice old.bank t parts → side ≡ side_at old.bank parts test.value →
      IsReached history old parts.test n left test → IsReached history old side n (left - test.calls) known →
      TakesValue (events_at old.bank history) (term_at old.bank t) (term_at old.bank known.value) (test.calls + known.calls) (max test.nesting known.nesting)
  choice_known t side parts n left test known large head at one two =
      let h : History = events_at old.bank history in
      let p : Term = term_at old.bank parts.test in
      let x : Term = term_at old.bank parts.first in
      let y : Term = term_at old.bank parts.second in
      let v : Term = term_at old.bank test.value in
      let taken : TakesValue h (term_at old.bank side) (term_at old.bank known.value) known.calls known.nesting = two.known.takes in
      let there : TakesValue h (elim (is_true v) as (λ b. Term) [ true ↦ x | false ↦ y ]) (term_at old.bank known.value) known.calls known.nesting =
      subst (λ u. TakesValue h u (term_at old.bank known.value) known.calls known.nesting) (ap (term_at old.bank) at ∙ side_term old.bank parts (is_true v)) taken in
      subst (λ u. TakesValue h u (term_at old.bank known.value) (test.calls + known.calls) (max test.nesting known.nesting)) (sym head.is)
      (choice_taken h p x y v (term_at old.bank known.value) test.calls test.nesting known.calls known.nesting one.known.takes there (ap is_small (sym head.is) ∙ large))

  -- what the side gives, the IF gives
  pub choice_outcome : (t side : TermId) (parts : Branches) (n left : ℕ) (test : Known) (o : Outcome) → is_small (term_at old.bank t) ≡ false → IsChoice old.bank t parts → side ≡ side_at old.bank parts test.value →
      IsReached history old parts.test n left test → outcome_at history old side n (left - test.calls) ≡ o → outcome_at history old t n left ≡ o
  choice_outcome t side parts n left test o large head at one e =
      let h : History = events_at old.bank history in
      let p : Term = term_at old.bank parts.test in
      let x : Term = term_at old.bank parts.first in
      let y : Term = term_at old.bank parts.second in
      let v : Term = term_at old.bank test.value in
      let chosen : Term = elim (is_true v) as (λ b. Term) [ true ↦ x | false ↦ y ] in
      ap (λ u. outcome_within h n u left) head.is ∙
      choice_reached h p x y v test.calls test.nesting n left one.known.takes (ap is_small (sym head.is) ∙ large) ∙
      granted_yes test.calls test.nesting n left (outcome_within h n chosen) one.calls one.nesting ∙
      ap (λ u. outcome_within h n u (left - test.calls)) (sym (ap (term_at old.bank) at ∙ side_term old.bank parts (is_true v))) ∙ e

  -- what stops the test, stops the IF
  pub test_outcome : (t : TermId) (parts : Branches) (n left : ℕ) (o : Outcome) → is_small (term_at old.bank t) ≡ false → IsChoice old.bank t parts → ((f : Term → Way) → and_next o f ≡ o) → outcome_at history old parts.test n left ≡ o → outcome_at history old t n left ≡ o
  test_outcome t parts n left o large head still e =
      let h : History = events_at old.bank history in
      ap (λ u. outcome_within h n u left) head.is ∙
      choice_stops h (term_at old.bank parts.test) (term_at old.bank parts.first) (term_at old.bank parts.second) n left o e still (ap is_small (sym head.is) ∙ large)
