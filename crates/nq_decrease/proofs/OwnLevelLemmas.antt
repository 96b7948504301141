-- Lines of parts of users' shells' values.
use Rattle.std.proofs.Common.{◌≡◌, ◌≤◌, ◌<◌, ◌+◌, ℕ, zero, suc, Option, Some, None, List, [], ◌∷◌, ◌++◌, map, length, inl, inr, refl, sym, subst, arith}
use Rattle.std.specs.Prelude.{codes, slice_get}
use Rattle.nq_logic.specs.Terms.{Name, Term, Function, IsTerm, IsAmong, Each, substituted}
use Rattle.nq_logic.specs.Words.{call1, not_term, equal_term}
use Rattle.nq_logic.specs.Sizes.{depth_of, tree_depth}
use Rattle.nq_logic.specs.Numerals.{number_of}
use Rattle.nq_logic.specs.Ground.{symbols_of}
use Rattle.nq_logic.specs.Histories.{History, Part, Shell}
use Rattle.nq_logic.specs.Shells.{is_base, recognizes, remade, whole}
use Rattle.nq_logic.proofs.Lists.{each_at, each_among, each_mono, among_at}
use Rattle.nq_logic.proofs.Symbols.{count_symbol, lessp_symbol}
use Rattle.nq_history.specs.declared.entry.Entry.{Entry}
use Rattle.nq_history.specs.Events.{events_at}
use Rattle.nq_kernel.specs.declared.work.Work.{Work}
use Rattle.nq_kernel.specs.Growing.{WorkStands, WorkGrows, LineHolds, held}
use Rattle.nq_kernel.proofs.HeldLines.{holds_held}
use Rattle.nq_arith.specs.Nests.{accessor_of, is_smaller}
use Rattle.nq_lines.specs.Lines.{AreAmong, CutsTo, LineHasOnly}
use Rattle.nq_lines.specs.Instances.{InstancesTo}
use Rattle.nq_lines.specs.OwnTerms.{HasOwnTerms, IsOver}
use Rattle.nq_lines.proofs.LineLemmas.{only_grown, only_more, only_stands}
use Rattle.nq_part_lines.specs.Known.{HasKnownRows, IsKnownShell, row_room}
use Rattle.nq_part_lines.specs.LawLines.{is_law, IsLaw}
use Rattle.nq_part_lines.specs.Own.{IsOwnLine}
use Rattle.nq_part_lines.specs.Pairs.{three_pairs}
use Rattle.nq_part_lines.specs.Wholes.{IsPartLine, part_clause}
use Rattle.nq_part_lines.proofs.CallLemmas.{one_depth}
use Rattle.nq_part_lines.proofs.GrownLemmas.{law_made}
use Rattle.nq_part_lines.proofs.RoomLemmas.{two_low, variable_low}
use Rattle.nq_decrease.specs.declared.own_level.OwnLevel.{OwnLevel}
use Rattle.nq_decrease.specs.declared.own_tests.OwnGuard.{OwnGuard}
use Rattle.nq_decrease.specs.declared.own_tests.OwnGuard.TheVariants.{Recognized, Unequal, UnequalTurned}
use Rattle.nq_decrease.specs.OwnLevels.{DeniesEquation, OwnLevelLine, PartOrBaseLine, base_tests, denial_clause, is_this_base, unequal_test}

each_before : {X : Type 0} (P : X → Type 0) (xs ys : List X) → Each P (xs ++ ys) → Each P xs
each_before P [] ys h = tt
each_before P (x ∷ xs) ys h = (h.0, each_before P xs ys h.1)

-- a place that there is has an element
pub part_there : (ps : List Part) (k : ℕ) → k < length ps → (p : Part) × (slice_get ps k ≡ Some p)
part_there [] k h = absurd (omega (arith, h))
part_there (p ∷ ps) zero h = (p, refl)
part_there (p ∷ ps) (suc k) h = part_there ps k (omega (arith, h))

-- what holds of these holds of each literal of a line that has only these
only_each : (work : Work) (n : ℕ) (these : List Term) (P : Term → Type 0) → LineHasOnly work n these → Each P these → Each P (held work n)
only_each work n these P h all =
    subst (Each P) (sym (holds_held work n h.literals h.stands)) (each_among P h.literals (λ t m. each_at P t these all (h.only t m)))

module _ (h : History) (s : Shell) (known : IsKnownShell h s) (own : HasOwnTerms h) where
  abbrev Over : Term → Type 0
  Over t = IsTerm (symbols_of h) t

  abbrev Low : Term → Type 0
  Low t = depth_of t ≤ row_room

  abbrev again : List Term
  again = not_term (recognizes s whole) ∷ (is_base s.base ++ (equal_term (remade s) whole ∷ []))

  again_over : Each Over again
  again_over = each_mono (IsOver h) Over (λ t k. k.over) again (own.rows s.constructor 5 0 again known.again.is)

  bases_over : Each Over (is_base s.base)
  bases_over = each_before Over (is_base s.base) (equal_term (remade s) whole ∷ []) again_over.1

  -- the base is a constant of the history
  pub base_symbol : (b : Name) → s.base ≡ Some b → IsAmong (b, 0) (symbols_of h)
  base_symbol b e = let here : Each Over (is_base (Some b)) = subst (λ o. Each Over (is_base o)) e bases_over in here.0.1

  module _ (part : Part) (among : IsAmong part s.parts) where
    part_over : Each Over (part_clause s part)
    part_over =
        let accessor : IsAmong (part.accessor, 1) (symbols_of h) = each_at (λ part. IsAmong (part.accessor, 1) (symbols_of h)) part s.parts known.accessors among in
        (((lessp_symbol h, (count_symbol h, (accessor, tt))), (count_symbol h, tt)), (again_over.0, bases_over))

    smaller_low : Low (is_smaller (accessor_of part whole) whole)
    smaller_low =
        let x : depth_of whole ≤ 1 = variable_low _ in
        let taken : depth_of (accessor_of part whole) ≤ depth_of whole + 1 = one_depth part.accessor whole in
        let first : depth_of (call1 "COUNT" (accessor_of part whole)) ≤ depth_of (accessor_of part whole) + 1 = one_depth (codes "COUNT") (accessor_of part whole) in
        let second : depth_of (call1 "COUNT" whole) ≤ depth_of whole + 1 = one_depth (codes "COUNT") whole in
        let left : depth_of (call1 "COUNT" (accessor_of part whole)) ≤ 3 = omega (arith, x, taken, first) in
        let right : depth_of (call1 "COUNT" whole) ≤ 3 = omega (arith, x, second) in
        let low = two_low (codes "LESSP") (call1 "COUNT" (accessor_of part whole)) (call1 "COUNT" whole) 3 left right in
        omega (arith, low)

    part_low : Each Low (part_clause s part)
    part_low = (smaller_low, (known.again.low.0, each_before Low (is_base s.base) (equal_term (remade s) whole ∷ []) known.again.low.1))

-- the line of a part is over the history's own functions, and no literal is deep
pub own_line : (history : List Entry) (work : Work) (s : Shell) (place n : ℕ) → IsKnownShell (events_at work.bank history) s → HasKnownRows (events_at work.bank history) → place < length s.parts → IsPartLine work s place n → IsOwnLine history work n
own_line history work s place n known rows within line =
    let h = events_at work.bank history in
    let there = part_there s.parts place within in
    let part : Part = there.0 in
    let among : IsAmong part s.parts = among_at part s.parts place there.1 in
    let only : LineHasOnly work n (part_clause s part) = line part there.1 in
    record {
      stands = only_stands work n (part_clause s part) only;
      over = only_each work n (part_clause s part) (IsTerm (symbols_of h)) only (part_over h s known rows.own part among);
      low = only_each work n (part_clause s part) (λ t. depth_of t ≤ row_room) only (part_low h s known rows.own part among);
    }

-- the line of a part, at a term
pub part_made : (old new : Work) (s : Shell) (place : ℕ) (y : Term) (line n : ℕ) → IsPartLine old s place line → InstancesTo old new ((codes "X", y) ∷ []) line n → PartOrBaseLine new s place y n
part_made old new s place y line n is instances part at = by_base s.base (instances (part_clause s part) (is part at))
  where
    by_base : (o : Option Name) → LineHasOnly new n (map (substituted ((codes "X", y) ∷ [])) (is_smaller (accessor_of part whole) whole ∷ not_term (recognizes s whole) ∷ is_base o)) → LineHasOnly new n (is_smaller (accessor_of part y) y ∷ not_term (recognizes s y) ∷ is_this_base o y)
    by_base None h = h
    by_base (Some b) h = h

-- the laws that tests deny equations are laws
pub denial_is_law : (guard : OwnGuard) → IsLaw (denial_clause guard)
unfolding is_law symbols_of number_of tree_depth
denial_is_law Recognized = refl
denial_is_law Unequal = refl
denial_is_law UnequalTurned = refl

pub denial_made : (old new : Work) (guard : OwnGuard) (y u : Term) (line n : ℕ) → LineHolds old line (denial_clause guard) → InstancesTo old new (three_pairs y u u) line n → LineHasOnly new n (not_term (equal_term y u) ∷ not_term (unequal_test guard y u) ∷ [])
denial_made old new Recognized y u line n holds h = law_made old new (three_pairs y u u) (denial_clause Recognized) _ line n holds h (λ v m. m)
denial_made old new Unequal y u line n holds h = law_made old new (three_pairs y u u) (denial_clause Unequal) _ line n holds h (λ v m. m)
denial_made old new UnequalTurned y u line n holds h = law_made old new (three_pairs y u u) (denial_clause UnequalTurned) _ line n holds h (λ v m. m)

one_more : (a b : Term) (these : List Term) → AreAmong (a ∷ these) (a ∷ b ∷ these)
one_more a b these v (inl e) = inl e
one_more a b these v (inr m) = inr (inr m)

two_of : (a b : Term) (these : List Term) → AreAmong (a ∷ b ∷ []) (a ∷ b ∷ these)
two_of a b these v (inl e) = inl e
two_of a b these v (inr (inl e)) = inr (inl e)
two_of a b these v (inr (inr none)) = absurd none

-- a cut with the law puts the test for the equation
pub denied : (history : List Entry) (old one two : Work) (guard : OwnGuard) (y u : Term) (line law n : ℕ) → WorkStands history old → WorkGrows history old one → LineHasOnly one law (not_term (equal_term y u) ∷ not_term (unequal_test guard y u) ∷ []) → CutsTo one two (equal_term y u) line law n →
    DeniesEquation old two guard y u line n
denied history old one two guard y u line law n stands grows denial cut = λ these given.
    let e : Term = equal_term y u in
    let w : Term = not_term (unequal_test guard y u) in
    cut (w ∷ these) (only_more one line (e ∷ these) (e ∷ w ∷ these) (one_more e w these) (only_grown history old one line (e ∷ these) stands grows given)) (only_more one law (not_term e ∷ w ∷ []) (not_term e ∷ w ∷ these) (two_of (not_term e) w these) denial)

last_first : (a b c : Term) → AreAmong (a ∷ b ∷ c ∷ []) (c ∷ a ∷ b ∷ [])
last_first a b c v (inl e) = inr (inl e)
last_first a b c v (inr (inl e)) = inr (inr (inl e))
last_first a b c v (inr (inr (inl e))) = inl e
last_first a b c v (inr (inr (inr none))) = absurd none

first_last : (a b c : Term) → AreAmong (c ∷ a ∷ b ∷ []) (a ∷ b ∷ c ∷ [])
first_last a b c v (inl e) = inr (inr (inl e))
first_last a b c v (inr (inl e)) = inl e
first_last a b c v (inr (inr (inl e))) = inr (inl e)
first_last a b c v (inr (inr (inr none))) = absurd none

-- where there is no base, the line of a part is that of the level
pub level_without : (work : Work) (s : Shell) (level : OwnLevel) (y : Term) (n : ℕ) → s.base ≡ None → PartOrBaseLine work s level.place y n → OwnLevelLine work s level y n
level_without work s level y n none h part at =
    let a : Term = is_smaller (accessor_of part y) y in
    let b : Term = not_term (recognizes s y) in
    let here : LineHasOnly work n (a ∷ b ∷ []) = subst (λ o. LineHasOnly work n (a ∷ b ∷ is_this_base o y)) none (h part at) in
    subst (λ o. LineHasOnly work n (a ∷ b ∷ map not_term (base_tests level.guard o y))) (sym none) here

-- where there is one, the line has the test for the equation
pub level_with : (old new : Work) (s : Shell) (level : OwnLevel) (y : Term) (b : Name) (line n : ℕ) → s.base ≡ Some b → PartOrBaseLine old s level.place y line → DeniesEquation old new level.guard y (Function b) line n → OwnLevelLine new s level y n
level_with old new s level y b line n some h denies part at =
    let p : Term = is_smaller (accessor_of part y) y in
    let q : Term = not_term (recognizes s y) in
    let e : Term = equal_term y (Function b) in
    let w : Term = not_term (unequal_test level.guard y (Function b)) in
    let here : LineHasOnly old line (p ∷ q ∷ e ∷ []) = subst (λ o. LineHasOnly old line (p ∷ q ∷ is_this_base o y)) some (h part at) in
    let made = denies (p ∷ q ∷ []) (only_more old line (p ∷ q ∷ e ∷ []) (e ∷ p ∷ q ∷ []) (last_first p q e) here) in
    let last = only_more new n (w ∷ p ∷ q ∷ []) (p ∷ q ∷ w ∷ []) (first_last p q w) made in
    subst (λ o. LineHasOnly new n (p ∷ q ∷ map not_term (base_tests level.guard o y))) (sym some) last
