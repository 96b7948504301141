-- Lines of an IF, from those of its parts.
use Rattle.std.proofs.Common.{◌≡◌, ℕ, Bool, true, false, List, [], ◌∷◌, sym, ap, ◌∙◌, subst, inl, inr}
use Rattle.std.specs.Prelude.{Result, IfOk}
use Rattle.std.specs.declared.alloc.AllocError.{AllocError}
use Rattle.nq_logic.specs.Terms.{Term}
use Rattle.nq_logic.specs.Words.{not_term, if_term}
use Rattle.nq_bank.specs.Content.{Content, Grows, term_at}
use Rattle.nq_bank.proofs.Growth.{term_at-grown}
use Rattle.nq_rule.specs.declared.branching.Branches.{Branches}
use Rattle.nq_rule.specs.Branches.{BranchesStand}
use Rattle.nq_rule.proofs.Made.{for_ok}
use Rattle.nq_proof.specs.Clauses.{Clause}
use Rattle.nq_history.specs.declared.entry.Entry.{Entry}
use Rattle.nq_kernel.specs.declared.work.Work.{Work}
use Rattle.nq_kernel.specs.Growing.{WorkStands, WorkGrows, LineStands, held}
use Rattle.nq_kernel.proofs.GrowingLemmas.{WorkGrows-trans}
use Rattle.nq_kernel.proofs.HeldLines.{held_grown, holds_stands}
use Rattle.nq_quick.specs.Choices.{branch_of}
use Rattle.nq_quick.specs.Lines.{AreAmong, LineHasOnly, if_at, signed, denial}
use Rattle.nq_quick.proofs.LineLemmas.{only_grown, only_more, ResolvesTo}

-- a line that stands does so however the work grows
pub line_stands_grown : (history : List Entry) (old new : Work) (n : ℕ) → WorkStands history old → WorkGrows history old new → LineStands old n → LineStands new n
line_stands_grown history old new n stands grows h = holds_stands new n (held old n) (held_grown history old new n stands grows h)

-- more literals than a line may hold
pub only_wider : (work : Work) (n : ℕ) (these more : Clause) → AreAmong these more → LineHasOnly work n these → LineHasOnly work n more
only_wider work n these more within h = only_more _ these more within h

pub under_first : (t : Term) (c d : Clause) → AreAmong c d → AreAmong (t ∷ c) (t ∷ d)
under_first t c d within u m = elim m [ inl e ↦ inl e | inr k ↦ inr (within u k) ]

abbrev pub JoinsTo : Work → Work → Term → Term → Term → ℕ → ℕ → ℕ → Type 0
JoinsTo old new p x y first second n = (these : List Term) → LineHasOnly old first (not_term p ∷ x ∷ these) → LineHasOnly old second (p ∷ y ∷ these) → LineHasOnly new n (if_term p x y ∷ these)

abbrev pub ChoosesTo : Work → Work → Bool → Bool → Term → Term → Term → ℕ → ℕ → ℕ → Type 0
ChoosesTo old new test value p x w test_line branch_line n = (these : List Term) → LineHasOnly old test_line (signed test p ∷ these) → LineHasOnly old branch_line (signed value x ∷ these) → LineHasOnly new n (signed value w ∷ these)

-- a join whose first branch is true
pub join_first : (old new : Work) (r : Result ℕ AllocError) (p x y : Term) (test_line branch_line : ℕ) → IfOk r (JoinsTo old new p x y branch_line test_line) → IfOk r (ChoosesTo old new true true p x (if_term p x y) test_line branch_line)
join_first old new r p x y test_line branch_line h =
    for_ok r (JoinsTo old new p x y branch_line test_line) (ChoosesTo old new true true p x (if_term p x y) test_line branch_line) (λ n k these one two.
    k these (only_wider old branch_line (x ∷ these) (not_term p ∷ x ∷ these) (λ u m. inr m) two) (only_wider old test_line (p ∷ these) (p ∷ y ∷ these) (under_first p these (y ∷ these) (λ u m. inr m)) one)) h

-- a join whose second branch is true
pub join_second : (old new : Work) (r : Result ℕ AllocError) (p x y : Term) (test_line branch_line : ℕ) → IfOk r (JoinsTo old new p x y test_line branch_line) → IfOk r (ChoosesTo old new false true p y (if_term p x y) test_line branch_line)
join_second old new r p x y test_line branch_line h =
    for_ok r (JoinsTo old new p x y test_line branch_line) (ChoosesTo old new false true p y (if_term p x y) test_line branch_line) (λ n k these one two.
    k these (only_wider old test_line (not_term p ∷ these) (not_term p ∷ x ∷ these) (under_first (not_term p) these (x ∷ these) (λ u m. inr m)) one) (only_wider old branch_line (y ∷ these) (p ∷ y ∷ these) (λ u m. inr m) two)) h

-- an IF is false where its chosen branch is
pub false_choice : (history : List Entry) (old one two new : Work) (p x w p1 x2 : Term) (test : Bool) (test_line branch_line split rest n : ℕ) (these : List Term) → WorkStands history old → WorkGrows history old one → WorkGrows history one two → p1 ≡ p → x2 ≡ x → LineHasOnly one split (denial test p ∷ x ∷ not_term w ∷ []) → ResolvesTo one two test p1 test_line split rest → ResolvesTo two new false x2 branch_line rest n → LineHasOnly old test_line (signed test p ∷ these) → LineHasOnly old branch_line (not_term x ∷ these) → LineHasOnly new n (not_term w ∷ these)
false_choice history old one two new p x w p1 x2 test test_line branch_line split rest n these stands first second e f splits by_test by_branch h k =
    let all : Clause = x ∷ not_term w ∷ these in
    let shorter : Clause = not_term w ∷ these in
    let test_one : LineHasOnly one test_line (signed test p ∷ all) = only_wider one test_line (signed test p ∷ these) (signed test p ∷ all) (under_first (signed test p) these all (λ u m. inr (inr m))) (only_grown history old one test_line (signed test p ∷ these) stands first h) in
    let split_one : LineHasOnly one split (denial test p ∷ all) = only_wider one split (denial test p ∷ x ∷ not_term w ∷ []) (denial test p ∷ all) (under_first (denial test p) (x ∷ not_term w ∷ []) all (under_first x (not_term w ∷ []) shorter (under_first (not_term w) [] these (λ u m. absurd m)))) splits in
    let rest_two : LineHasOnly two rest all = by_test all (subst (λ q. LineHasOnly one test_line (signed test q ∷ all)) (sym e) test_one) (subst (λ q. LineHasOnly one split (denial test q ∷ all)) (sym e) split_one) in
    let branch_two : LineHasOnly two branch_line (not_term x ∷ shorter) = only_wider two branch_line (not_term x ∷ these) (not_term x ∷ shorter) (under_first (not_term x) these shorter (λ u m. inr m)) (only_grown history old two branch_line (not_term x ∷ these) stands (WorkGrows-trans history old one two first second) k) in
    by_branch shorter (subst (λ q. LineHasOnly two branch_line (not_term q ∷ shorter)) (sym f) branch_two) (subst (λ q. LineHasOnly two rest (q ∷ shorter)) (sym f) rest_two)

module _ (old new : Content) (h : Grows old new) (parts : Branches) (stand : BranchesStand old parts) where
  pub if_same : if_at new parts ≡ if_at old parts
  if_same =
      ap (λ p. if_term p (term_at new parts.first) (term_at new parts.second)) (term_at-grown old new parts.test h stand.test) ∙
      ap (λ x. if_term (term_at old parts.test) x (term_at new parts.second)) (term_at-grown old new parts.first h stand.first) ∙
      ap (λ y. if_term (term_at old parts.test) (term_at old parts.first) y) (term_at-grown old new parts.second h stand.second)

  pub branch_same : (test : Bool) → term_at new (branch_of parts test) ≡ term_at old (branch_of parts test)
  branch_same true = term_at-grown old new parts.first h stand.first
  branch_same false = term_at-grown old new parts.second h stand.second

-- what the split of an IF holds
abbrev pub split_of : Content → Branches → Bool → Clause
split_of bank parts test = denial test (term_at bank parts.test) ∷ term_at bank (branch_of parts test) ∷ not_term (if_at bank parts) ∷ []

pub split_same : (old new : Content) (parts : Branches) (test : Bool) → Grows old new → BranchesStand old parts → split_of new parts test ≡ split_of old parts test
split_same old new parts test h stand =
    ap (λ p. denial test p ∷ term_at new (branch_of parts test) ∷ not_term (if_at new parts) ∷ []) (term_at-grown old new parts.test h stand.test) ∙
    ap (λ x. denial test (term_at old parts.test) ∷ x ∷ not_term (if_at new parts) ∷ []) (branch_same old new h parts stand test) ∙
    ap (λ w. denial test (term_at old parts.test) ∷ term_at old (branch_of parts test) ∷ not_term w ∷ []) (if_same old new h parts stand)
