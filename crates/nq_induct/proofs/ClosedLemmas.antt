-- The way back: what is known before each step of it.
use Rattle.std.proofs.Common.{◌≡◌, ◌<◌, ◌+◌, ◌∙◌, ℕ, suc, List, [], ◌∷◌, ◌++◌, map, length, get_or, sym, ap, subst, arith}
use Rattle.std.proofs.lemmas.List.{length-map, get_or-map, append-nil}
use Rattle.nq_logic.specs.Terms.{Term}
use Rattle.nq_bank.specs.declared.node.TermId.{TermId}
use Rattle.nq_bank.specs.Content.{Content, terms_at}
use Rattle.nq_proof.specs.Rules.{case_tests}
use Rattle.nq_rule.specs.declared.induction.CaseOfInduction.{CaseOfInduction}
use Rattle.nq_rule.specs.Inductions.{cases_at}
use Rattle.nq_kernel.specs.declared.work.Work.{Work}
use Rattle.nq_lines.specs.Lines.{LineHasOnly}
use Rattle.nq_lines.proofs.LineLemmas.{only_more}
use Rattle.nq_induct.specs.declared.scheme.Case.{Case}
use Rattle.nq_induct.specs.declared.scheme.Scheme.{Scheme}
use Rattle.nq_induct.specs.Claims.{any_of, GathersTo, OpensTo}
use Rattle.nq_induct.specs.Goals.{AreShown, tests_at, base_goal, step_goal, goals_at}
use Rattle.nq_induct.proofs.GoalLemmas.{tests_told}
use Rattle.nq_induct.proofs.ClosingLemmas.{tests_same}
use Rattle.nq_induct.proofs.CaseLemmas.{turned_among}

-- the line of the base case
pub base_shown : (work : Work) (s : Scheme) (goal : List TermId) (lines : List ℕ) → AreShown work (goals_at work.bank s goal) lines → LineHasOnly work (get_or lines 0 0) (base_goal work.bank s.cases.items (terms_at work.bank goal))
base_shown work s goal lines h = h.each 0 (omega arith)

-- the line of a case
pub step_shown : (work : Work) (s : Scheme) (goal : List TermId) (lines : List ℕ) (k : ℕ) (d : Case) → AreShown work (goals_at work.bank s goal) lines → k < length s.cases.items → LineHasOnly work (get_or lines (k + 1) 0) (step_goal work.bank (terms_at work.bank goal) (get_or s.cases.items k d))
step_shown work s goal lines k d h below =
    let f : Case → List Term = step_goal work.bank (terms_at work.bank goal) in
    let count : length (map f s.cases.items) ≡ length s.cases.items = length-map s.cases.items f in
    let on : k + 1 ≡ suc k = omega arith in
    let here : LineHasOnly work (get_or lines (suc k) 0) (get_or (map f s.cases.items) k []) = h.each (suc k) (omega (arith, count, below)) in
    subst (λ (i : ℕ). LineHasOnly work (get_or lines i 0) (f (get_or s.cases.items k d))) (sym on)
    (subst (λ (c : List Term). LineHasOnly work (get_or lines (suc k) 0) c) (get_or-map f s.cases.items k d [] below) here)

-- the tests of cases that have the tests of others
pub tests_as : (bank : Content) (made : List CaseOfInduction) (cases : List Case) → map (λ c. c.test) made ≡ map (λ c. c.test) cases → case_tests (cases_at bank made) ≡ tests_at bank cases
tests_as bank made cases e = tests_same bank made ∙ ap (terms_at bank) e ∙ tests_told bank cases

-- the base case with the claim in the place of the goal's literals
pub base_gathered : (w1 w2 : Work) (tests goal : List Term) (line n : ℕ) → LineHasOnly w1 line (tests ++ goal) → GathersTo w1 w2 goal (any_of goal) line n → LineHasOnly w2 n (tests ++ (any_of goal ∷ []))
base_gathered w1 w2 tests goal line n h gathers =
    only_more w2 n (any_of goal ∷ tests) (tests ++ (any_of goal ∷ [])) (turned_among (any_of goal ∷ []) tests) (gathers tests (only_more w1 line (tests ++ goal) (goal ++ tests) (turned_among tests goal) h))

-- the goal's literals alone
pub opened_alone : (w4 w5 : Work) (goal known : List Term) (line n : ℕ) → goal ≡ known → LineHasOnly w4 line (any_of goal ∷ []) → OpensTo w4 w5 (any_of goal) goal line n → LineHasOnly w5 n known
opened_alone w4 w5 goal known line n e h opens = subst (λ (c : List Term). LineHasOnly w5 n c) (append-nil goal ∙ e) (opens [] h)
