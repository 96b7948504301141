-- Lines that say that terms are smaller, however the work grows.
use Rattle.std.proofs.Common.{◌≡◌, ℕ, List, [], ◌∷◌, map, inl, inr, refl, sym, ap₂, subst}
use Rattle.std.specs.Prelude.{codes}
use Rattle.nq_logic.specs.Terms.{Term}
use Rattle.nq_logic.specs.Words.{call1, not_term}
use Rattle.nq_logic.specs.Ground.{symbols_of}
use Rattle.nq_logic.specs.Numerals.{number_of}
use Rattle.nq_logic.specs.Sizes.{tree_depth}
use Rattle.nq_bank.specs.declared.node.TermId.{TermId}
use Rattle.nq_bank.specs.Content.{term_at}
use Rattle.nq_proof.specs.Clauses.{Clause}
use Rattle.nq_history.specs.declared.entry.Entry.{Entry}
use Rattle.nq_kernel.specs.declared.work.Work.{Work}
use Rattle.nq_kernel.specs.Growing.{WorkStands, WorkGrows, LineHolds}
use Rattle.nq_arith.specs.Nests.{is_smaller, is_below, accessor_of}
use Rattle.nq_lines.specs.Lines.{IsTermIn, LineHasOnly, AreAmong, CutsTo}
use Rattle.nq_lines.specs.Instances.{InstancesTo}
use Rattle.nq_lines.proofs.LineLemmas.{only_grown, only_more}
use Rattle.nq_lines.proofs.TermLemmas.{same_term_grown}
use Rattle.nq_replay.specs.LawClauses.{sizes_descend_clause, smaller_is_below_clause, size_is_ordinal_clause}
use Rattle.nq_decrease.specs.declared.level.Level.{Level}
use Rattle.nq_part_lines.specs.LawLines.{is_law, IsLaw}
use Rattle.nq_part_lines.specs.Pairs.{three_pairs}
use Rattle.nq_part_lines.proofs.GrownLemmas.{law_made}
use Rattle.nq_decrease.specs.Levels.{part_of, tests_of}
use Rattle.nq_decrease.specs.Nests.{JoinsSizes, AddsLevel, Lowers}

-- the laws are laws
pub descent_is_law : IsLaw sizes_descend_clause
unfolding is_law symbols_of number_of tree_depth
descent_is_law = refl

pub below_is_law : IsLaw smaller_is_below_clause
unfolding is_law symbols_of number_of tree_depth
below_is_law = refl

pub ordinal_is_law : IsLaw size_is_ordinal_clause
unfolding is_law symbols_of number_of tree_depth
ordinal_is_law = refl

pub descent_made : (old new : Work) (t y z : Term) (line n : ℕ) → LineHolds old line sizes_descend_clause → InstancesTo old new (three_pairs t y z) line n → LineHasOnly new n (not_term (is_smaller y z) ∷ not_term (is_smaller t y) ∷ is_smaller t z ∷ [])
descent_made old new t y z line n holds h = law_made old new (three_pairs t y z) sizes_descend_clause _ line n holds h (λ v m. m)

pub below_made : (old new : Work) (t z : Term) (line n : ℕ) → LineHolds old line smaller_is_below_clause → InstancesTo old new (three_pairs t z z) line n → LineHasOnly new n (not_term (is_smaller t z) ∷ is_below t z ∷ [])
below_made old new t z line n holds h = law_made old new (three_pairs t z z) smaller_is_below_clause _ line n holds h (λ v m. m)

pub ordinal_made : (old new : Work) (t : Term) (line n : ℕ) → LineHolds old line size_is_ordinal_clause → InstancesTo old new ((codes "X", t) ∷ []) line n → LineHasOnly new n (call1 "ORDINALP" (call1 "COUNT" t) ∷ [])
ordinal_made old new t line n holds h = law_made old new ((codes "X", t) ∷ []) size_is_ordinal_clause _ line n holds h (λ v m. m)

module _ (history : List Entry) (old new : Work) (grows : WorkGrows history old new) where
  pub smaller_grown : (t u : TermId) → IsTermIn history old t → IsTermIn history old u → is_smaller (term_at new.bank t) (term_at new.bank u) ≡ is_smaller (term_at old.bank t) (term_at old.bank u)
  smaller_grown t u k l = ap₂ is_smaller (same_term_grown history old new t grows k) (same_term_grown history old new u grows l)

  -- a cut of lines that stood before
  pub cut_since : (v : Term) (a b n : ℕ) (third : Work) → WorkStands history old → CutsTo new third v a b n → CutsTo old third v a b n
  cut_since v a b n third stands h = λ these first second. h these (only_grown history old new a (v ∷ these) stands grows first) (only_grown history old new b (not_term v ∷ these) stands grows second)

swap_first : (a b : Term) (these : Clause) → AreAmong (a ∷ these) (a ∷ b ∷ these)
swap_first a b these v (inl e) = inl e
swap_first a b these v (inr m) = inr (inr m)

chain_literals : (u l w : Term) (these : Clause) → AreAmong (not_term u ∷ not_term l ∷ w ∷ []) (not_term l ∷ not_term u ∷ w ∷ these)
chain_literals u l w these v (inl e) = inr (inl e)
chain_literals u l w these v (inr (inl e)) = inl e
chain_literals u l w these v (inr (inr (inl e))) = inr (inr (inl e))
chain_literals u l w these v (inr (inr (inr none))) = absurd none

longer : (a b c : Term) (these : Clause) → AreAmong (a ∷ these) (a ∷ b ∷ c ∷ these)
longer a b c these v (inl e) = inl e
longer a b c these v (inr m) = inr (inr (inr m))

-- two cuts join the sizes
pub joined : (history : List Entry) (old one two three : Work) (t y z : Term) (first second law rest n : ℕ) → WorkStands history old → WorkGrows history old one → WorkStands history one → WorkGrows history one two →
    LineHasOnly one law (not_term (is_smaller y z) ∷ not_term (is_smaller t y) ∷ is_smaller t z ∷ []) → CutsTo one two (is_smaller t y) first law rest → CutsTo two three (is_smaller y z) second rest n → JoinsSizes old three t y z first second n
joined history old one two three t y z first second law rest n stands grows stands_one more chain inner outer = λ these lower upper.
    let l : Term = is_smaller t y in
    let u : Term = is_smaller y z in
    let w : Term = is_smaller t z in
    let left = only_more one first (l ∷ these) (l ∷ not_term u ∷ w ∷ these) (longer l (not_term u) w these) (only_grown history old one first (l ∷ these) stands grows lower) in
    let right = only_more one law (not_term u ∷ not_term l ∷ w ∷ []) (not_term l ∷ not_term u ∷ w ∷ these) (chain_literals u l w these) chain in
    let middle = inner (not_term u ∷ w ∷ these) left right in
    let above = only_grown history one two second (u ∷ these) stands_one more (only_grown history old one second (u ∷ these) stands grows upper) in
    outer (w ∷ these) (only_more two second (u ∷ these) (u ∷ w ∷ these) (swap_first u w these) above) middle

two_literals : (l w : Term) (these : Clause) → AreAmong (not_term l ∷ w ∷ []) (not_term l ∷ w ∷ these)
two_literals l w these v (inl e) = inl e
two_literals l w these v (inr (inl e)) = inr (inl e)
two_literals l w these v (inr (inr none)) = absurd none

-- a cut lowers a line
pub lowered : (history : List Entry) (old one two : Work) (t z : Term) (line law n : ℕ) → WorkStands history old → WorkGrows history old one → LineHasOnly one law (not_term (is_smaller t z) ∷ is_below t z ∷ []) → CutsTo one two (is_smaller t z) line law n → Lowers old two t z line n
lowered history old one two t z line law n stands grows chain cut = λ these lower.
    let l : Term = is_smaller t z in
    let w : Term = is_below t z in
    cut (w ∷ these) (only_more one line (l ∷ these) (l ∷ w ∷ these) (swap_first l w these) (only_grown history old one line (l ∷ these) stands grows lower)) (only_more one law (not_term l ∷ w ∷ []) (not_term l ∷ w ∷ these) (two_literals l w these) chain)

denied_among : (a : Term) (c these : Clause) → AreAmong c these → AreAmong (a ∷ c) (a ∷ these)
denied_among a c these within v (inl e) = inl e
denied_among a c these within v (inr m) = inr (within v m)

-- a level's line, and then a join
pub leveled : (history : List Entry) (old one two : Work) (level : Level) (t y z : Term) (inner first n : ℕ) → WorkStands history old → WorkGrows history old one → t ≡ accessor_of (part_of level) y →
    LineHasOnly one first (is_smaller (accessor_of (part_of level) y) y ∷ map not_term (tests_of level y)) → JoinsSizes one two t y z first inner n → AddsLevel old two level y z inner n
leveled history old one two level t y z inner first n stands grows e line joins = λ these below within.
    let lower : LineHasOnly one first (is_smaller t y ∷ these) = only_more one first (is_smaller t y ∷ map not_term (tests_of level y)) (is_smaller t y ∷ these) (denied_among (is_smaller t y) (map not_term (tests_of level y)) these within) (subst (λ u. LineHasOnly one first (is_smaller u y ∷ map not_term (tests_of level y))) (sym e) line) in
    subst (λ u. LineHasOnly two n (is_smaller u z ∷ these)) e (joins these lower (only_grown history old one inner (is_smaller y z ∷ these) stands grows below))

-- what is told of terms of grown work is told of the same terms
pub joins_grown : (history : List Entry) (old one two : Work) → WorkGrows history old one → (t y z : TermId) (first second n : ℕ) → IsTermIn history old t → IsTermIn history old y → IsTermIn history old z →
    JoinsSizes one two (term_at one.bank t) (term_at one.bank y) (term_at one.bank z) first second n → JoinsSizes one two (term_at old.bank t) (term_at old.bank y) (term_at old.bank z) first second n
joins_grown history old one two grows t y z first second n kt ky kz h =
    subst (λ u. JoinsSizes one two u (term_at old.bank y) (term_at old.bank z) first second n) (same_term_grown history old one t grows kt)
    (subst (λ u. JoinsSizes one two (term_at one.bank t) u (term_at old.bank z) first second n) (same_term_grown history old one y grows ky)
    (subst (λ u. JoinsSizes one two (term_at one.bank t) (term_at one.bank y) u first second n) (same_term_grown history old one z grows kz) h))
