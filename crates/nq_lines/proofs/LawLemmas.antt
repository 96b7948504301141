-- How the law of joined IFs is made.
use Rattle.std.proofs.Common.{◌≡◌, ℕ, List, [], ◌∷◌, Some, refl, inl, inr}
use Rattle.nq_logic.specs.Terms.{Term}
use Rattle.nq_logic.specs.Numerals.{number_of}
use Rattle.nq_logic.specs.Words.{not_term, equal_term, if_term}
use Rattle.nq_bank.specs.Parts.{parts_of}
use Rattle.nq_proof.specs.Clauses.{literal_at}
use Rattle.nq_proof.specs.Rules.{Forwards}
use Rattle.nq_rule.specs.Results.{with_argument}
use Rattle.nq_history.specs.declared.entry.Entry.{Entry}
use Rattle.nq_kernel.specs.declared.work.Work.{Work}
use Rattle.nq_kernel.specs.Growing.{WorkStands, WorkGrows}
use Rattle.nq_lines.specs.Lines.{LineHasOnly, CutsTo, JoinsTo, MeetsIn, MakesOf, RewritesTo, CarriesTo}
use Rattle.nq_lines.proofs.Among.{none_among, and_among, under, beside}
use Rattle.nq_lines.proofs.LineLemmas.{only_grown, only_more}

swapped : (work : Work) (n : ℕ) (t u : Term) (these : List Term) → LineHasOnly work n (t ∷ u ∷ these) → LineHasOnly work n (u ∷ t ∷ these)
swapped work n t u these h = only_more work n (t ∷ u ∷ these) (u ∷ t ∷ these) (and_among t (u ∷ these) (u ∷ t ∷ these) (inr (inl refl)) (beside u these (t ∷ these) (under t these these (λ v m. m)))) h

-- two terms, the first first, and more
two_more : (work : Work) (n : ℕ) (t u : Term) (these : List Term) → LineHasOnly work n (t ∷ u ∷ []) → LineHasOnly work n (u ∷ t ∷ these)
two_more work n t u these h = only_more work n (t ∷ u ∷ []) (u ∷ t ∷ these) (and_among t (u ∷ []) (u ∷ t ∷ these) (inr (inl refl)) (and_among u [] (u ∷ t ∷ these) (inl refl) (none_among (u ∷ t ∷ these)))) h

pub case_by : (history : List Entry) (w0 w3 w4 w5 w6 : Work) (one two x u g : Term) (left right shown same n : ℕ) → WorkStands history w0 → WorkGrows history w0 w3 → WorkGrows history w3 w4 → WorkGrows history w4 w5 → LineHasOnly w3 left (g ∷ equal_term one x ∷ []) → LineHasOnly w5 right (g ∷ equal_term two u ∷ []) → JoinsTo w3 w4 one x u left shown same → MeetsIn w5 w6 one u two same right n → (these : List Term) → LineHasOnly w0 shown (equal_term x u ∷ g ∷ these) → LineHasOnly w6 n (equal_term one two ∷ g ∷ these)
case_by history w0 w3 w4 w5 w6 one two x u g left right shown same n stands g03 g34 g45 l r joins meets these a =
    let more : List Term = g ∷ these in
    meets more
    (only_grown history w4 w5 same (equal_term one u ∷ more) g34.stands g45 (joins more (two_more w3 left g (equal_term one x) these l) (only_grown history w0 w3 shown (equal_term x u ∷ more) stands g03 a)))
    (two_more w5 right g (equal_term two u) these r)

pub equal_by : (history : List Entry) (w0 w1 w2 w3 : Work) (q e y : Term) (second one two n : ℕ) → WorkStands history w0 → WorkGrows history w0 w1 → WorkGrows history w1 w2 → (these : List Term) → LineHasOnly w1 one (e ∷ not_term q ∷ these) → (LineHasOnly w1 second (y ∷ q ∷ these) → LineHasOnly w2 two (e ∷ q ∷ these)) → CutsTo w2 w3 q two one n → LineHasOnly w0 second (y ∷ q ∷ these) → LineHasOnly w3 n (e ∷ these)
equal_by history w0 w1 w2 w3 q e y second one two n stands g01 g12 these x f cuts h =
    cuts (e ∷ these)
    (swapped w2 two e q these (f (only_grown history w0 w1 second (y ∷ q ∷ these) stands g01 h)))
    (swapped w2 one e (not_term q) these (only_grown history w1 w2 one (e ∷ not_term q ∷ these) g01.stands g12 x))

pub part_by : (history : List Entry) (w2 w3 w4 : Work) (m x g : Term) (either law n : ℕ) → WorkStands history w2 → WorkGrows history w2 w3 → LineHasOnly w2 either (m ∷ not_term m ∷ []) → LineHasOnly w3 law (g ∷ equal_term m x ∷ []) → RewritesTo w3 w4 Forwards m x either law n → LineHasOnly w4 n (x ∷ g ∷ not_term m ∷ [])
part_by history w2 w3 w4 m x g either law n stands grows h k rewrites =
    let d : Term = not_term m in
    rewrites (g ∷ d ∷ [])
    (only_more w3 either (m ∷ d ∷ []) (m ∷ g ∷ d ∷ []) (beside m (d ∷ []) (g ∷ d ∷ []) (under g (d ∷ []) (d ∷ []) (λ v k. k))) (only_grown history w2 w3 either (m ∷ d ∷ []) stands grows h))
    (two_more w3 law g (equal_term m x) (d ∷ []) k)

pub joined_parts : (history : List Entry) (w2 w3 w4 w5 : Work) (e x y q m : Term) (denied second first n : ℕ) → WorkGrows history w2 w3 → WorkGrows history w3 w4 → LineHasOnly w2 denied (y ∷ not_term (not_term q) ∷ not_term m ∷ []) → MakesOf w2 w3 (not_term (not_term q)) q denied second → LineHasOnly w4 first (x ∷ not_term q ∷ not_term m ∷ []) → ((these : List Term) → LineHasOnly w4 first (x ∷ not_term q ∷ these) → LineHasOnly w4 second (y ∷ q ∷ these) → LineHasOnly w5 n (e ∷ these)) → LineHasOnly w5 n (e ∷ not_term m ∷ [])
joined_parts history w2 w3 w4 w5 e x y q m denied second first n g23 g34 h makes k equals =
    let d : List Term = not_term m ∷ [] in
    equals d k (only_grown history w3 w4 second (y ∷ q ∷ d) g23.stands g34 (swapped w3 second q y d (makes (y ∷ d) (swapped w2 denied y (not_term (not_term q)) d h))))

-- ---- the test of an IF

pub test_there : (p x y : Term) → literal_at 1 (parts_of (if_term p x y)) ≡ Some p
unfolding number_of
test_there p x y = refl

pub test_changed : (p x y q : Term) → with_argument 1 q (if_term p x y) ≡ if_term q x y
test_changed p x y q = refl

pub law_by : (history : List Entry) (w1 w3 w6 w7 w8 : Work) (p q x y r m : Term) (either carried line n : ℕ) → WorkGrows history w3 w6 → WorkGrows history w1 w7 → WorkStands history w1 → WorkStands history w3 → LineHasOnly w3 either (equal_term p q ∷ not_term (equal_term p q) ∷ []) → CarriesTo w6 w7 1 (if_term p x y) q either carried → LineHasOnly w1 line (equal_term (if_term q x y) r ∷ not_term m ∷ []) → JoinsTo w7 w8 (if_term p x y) (if_term q x y) r carried line n → LineHasOnly w8 n (equal_term (if_term p x y) r ∷ not_term (equal_term p q) ∷ not_term m ∷ [])
law_by history w1 w3 w6 w7 w8 p q x y r m either carried line n g36 g17 stands1 stands3 h carries k joins =
    let d : Term = not_term (equal_term p q) in
    let f : Term = not_term m in
    let l : Term = equal_term (if_term p x y) (if_term q x y) in
    let e : Term = equal_term (if_term q x y) r in
    let here : LineHasOnly w7 carried (l ∷ d ∷ []) = carries p (d ∷ []) (test_there p x y) (only_grown history w3 w6 either (equal_term p q ∷ d ∷ []) stands3 g36 h) in
    joins (d ∷ f ∷ [])
    (only_more w7 carried (l ∷ d ∷ []) (l ∷ d ∷ f ∷ []) (beside l (d ∷ []) (d ∷ f ∷ []) (beside d [] (f ∷ []) (none_among (f ∷ [])))) here)
    (only_more w7 line (e ∷ f ∷ []) (e ∷ d ∷ f ∷ []) (beside e (f ∷ []) (d ∷ f ∷ []) (under d (f ∷ []) (f ∷ []) (λ v k. k))) (only_grown history w1 w7 line (e ∷ f ∷ []) stands1 g17 k))
