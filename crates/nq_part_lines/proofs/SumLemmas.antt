-- Sums, and lines of them.
use Rattle.std.proofs.Common.{◌≡◌, ◌≤◌, ◌+◌, ℕ, Bool, true, false, max, List, [], ◌∷◌, refl, ap, ap₂, arith, inl, inr}
use Rattle.std.specs.Prelude.{codes, if◌then◌else◌}
use Rattle.nq_logic.specs.Terms.{Term}
use Rattle.nq_logic.specs.Words.{call2, add1_term, not_term}
use Rattle.nq_logic.specs.Ground.{symbols_of}
use Rattle.nq_logic.specs.Numerals.{number_of, is_numeral}
use Rattle.nq_logic.specs.Sizes.{depth_of, depth_limit, tree_depth}
use Rattle.nq_logic.proofs.Symbols.{lessp_symbol, add1_symbol}
use Rattle.nq_bank.specs.Parts.{parts_of}
use Rattle.nq_bank.proofs.Numerals.{number_of-call, depth_of-other}
use Rattle.nq_history.specs.declared.entry.Entry.{Entry}
use Rattle.nq_history.specs.Events.{events_at}
use Rattle.nq_kernel.specs.declared.work.Work.{Work}
use Rattle.nq_bank.specs.declared.node.TermId.{TermId}
use Rattle.nq_bank.specs.Content.{term_at}
use Rattle.nq_kernel.specs.Growing.{LineHolds, WorkStands, WorkGrows}
use Rattle.nq_lines.specs.Lines.{AreAmong, CutsTo, IsTermIn, LineHasOnly}
use Rattle.nq_lines.specs.Instances.{InstancesTo}
use Rattle.nq_lines.proofs.TermLemmas.{IsOver, same_term_grown}
use Rattle.nq_lines.proofs.LineLemmas.{only_grown, only_more}
use Rattle.nq_replay.specs.LawClauses.{less_than_one_more_clause}
use Rattle.nq_shell_parts.specs.LawClauses.{less_than_sum_clause, less_than_longer_sum_clause}
use Rattle.nq_part_lines.specs.LawLines.{is_law, IsLaw, term_room}
use Rattle.nq_part_lines.specs.Pairs.{three_pairs}
use Rattle.nq_shell_parts.specs.Summands.{IsPlus, left_of, right_of}
use Rattle.nq_part_lines.proofs.GrownLemmas.{law_made}

pub one_is_law : IsLaw less_than_one_more_clause
unfolding is_law symbols_of number_of tree_depth
one_is_law = refl

pub sum_is_law : IsLaw less_than_sum_clause
unfolding is_law symbols_of number_of tree_depth
sum_is_law = refl

pub longer_is_law : IsLaw less_than_longer_sum_clause
unfolding is_law symbols_of number_of tree_depth
longer_is_law = refl

pub one_made : (old new : Work) (t : Term) (line n : ℕ) → LineHolds old line less_than_one_more_clause → InstancesTo old new (three_pairs t t t) line n → LineHasOnly new n (call2 "LESSP" t (add1_term t) ∷ [])
one_made old new t line n holds h = law_made old new (three_pairs t t t) less_than_one_more_clause _ line n holds h (λ v m. m)

pub sum_made : (old new : Work) (t u : Term) (line n : ℕ) → LineHolds old line less_than_sum_clause → InstancesTo old new (three_pairs t u u) line n → LineHasOnly new n (call2 "LESSP" t (add1_term (call2 "PLUS" t u)) ∷ [])
sum_made old new t u line n holds h = law_made old new (three_pairs t u u) less_than_sum_clause _ line n holds h (λ v m. m)

-- how deep one more than a term is
pub more_depth : (t : Term) → depth_of (add1_term t) ≤ depth_of t + 1
unfolding number_of tree_depth
more_depth t = by_test (is_numeral (add1_term t)) refl
  where
    by_test : (b : Bool) → is_numeral (add1_term t) ≡ b → depth_of (add1_term t) ≤ depth_of t + 1
    by_test true e =
        let whole : depth_of (add1_term t) ≡ 1 = ap (λ b. if b then 1 else tree_depth (add1_term t)) e in
        omega (arith, whole)
    by_test false e =
        let whole : depth_of (add1_term t) ≡ max 1 (depth_of t + 1) = ap (λ b. if b then 1 else tree_depth (add1_term t)) e in
        omega (arith, whole)

pub more_shallow : (t : Term) → depth_of t ≤ term_room → depth_of (add1_term t) ≤ depth_limit
more_shallow t h = let whole = more_depth t in omega (arith, whole, h)

pub less_shallow : (t u m : Term) → depth_of t ≤ term_room → depth_of u ≤ term_room → m ≡ add1_term u → depth_of (call2 "LESSP" t m) ≤ depth_limit
less_shallow t u m h k e =
    let whole : depth_of (call2 "LESSP" t m) ≡ max (depth_of t) (max (depth_of m) 0) + 1 = depth_of-other (codes "LESSP") (t ∷ m ∷ []) (number_of-call (codes "LESSP") (t ∷ m ∷ [])) in
    let same : depth_of m ≡ depth_of (add1_term u) = ap depth_of e in
    let more = more_depth u in
    omega (arith, whole, same, more, h, k)

module _ (history : List Entry) (work : Work) where
  pub less_over : (t u : Term) → IsOver history work t → IsOver history work u → IsOver history work (call2 "LESSP" t (add1_term u))
  less_over t u k l = record { over = ((lessp_symbol (events_at work.bank history), k.over), (add1_symbol (events_at work.bank history), l.over)); variables = ((tt, k.variables), (tt, l.variables)) }

pub plus_parts : (t : Term) → IsPlus t → parts_of t ≡ left_of t ∷ right_of t ∷ []
unfolding number_of
plus_parts t is = ap parts_of is

pub longer_made : (old new : Work) (t a b : Term) (line n : ℕ) → LineHolds old line less_than_longer_sum_clause → InstancesTo old new (three_pairs t a b) line n → LineHasOnly new n (call2 "LESSP" t (add1_term (call2 "PLUS" a b)) ∷ not_term (call2 "LESSP" t (add1_term b)) ∷ [])
longer_made old new t a b line n holds h = law_made old new (three_pairs t a b) less_than_longer_sum_clause _ line n holds h (λ v m. m)

first_only : (l w : Term) → AreAmong (l ∷ []) (l ∷ w ∷ [])
first_only l w v (inl e) = inl e
first_only l w v (inr none) = absurd none

turned_two : (l w : Term) → AreAmong (w ∷ not_term l ∷ []) (not_term l ∷ w ∷ [])
turned_two l w v (inl e) = inr (inl e)
turned_two l w v (inr (inl e)) = inl e
turned_two l w v (inr (inr none)) = absurd none

-- a cut of two lines by what the first says alone
pub cut_alone : (history : List Entry) (old one two three : Work) (l w : Term) (inner here n : ℕ) → WorkStands history old → WorkGrows history old two → WorkStands history one → WorkGrows history one two → LineHasOnly old inner (l ∷ []) → LineHasOnly one here (w ∷ not_term l ∷ []) → CutsTo two three l inner here n → LineHasOnly three n (w ∷ [])
cut_alone history old one two three l w inner here n stands grows stands_one later first second cuts =
    cuts (w ∷ []) (only_more two inner (l ∷ []) (l ∷ w ∷ []) (first_only l w) (only_grown history old two inner (l ∷ []) stands grows first))
    (only_more two here (w ∷ not_term l ∷ []) (not_term l ∷ w ∷ []) (turned_two l w) (only_grown history one two here (w ∷ not_term l ∷ []) stands_one later second))

pub less_grown : (history : List Entry) (old one : Work) (t u : TermId) → WorkGrows history old one → IsTermIn history old t → IsTermIn history old u → call2 "LESSP" (term_at one.bank t) (add1_term (term_at one.bank u)) ≡ call2 "LESSP" (term_at old.bank t) (add1_term (term_at old.bank u))
less_grown history old one t u grows k l = ap₂ (λ a b. call2 "LESSP" a (add1_term b)) (same_term_grown history old one t grows k) (same_term_grown history old one u grows l)
