-- Cases with the lines that prove them.
use Rattle.std.proofs.Common.{◌≡◌, ◌<◌, ◌∙◌, ℕ, zero, suc, arith, List, [], ◌∷◌, ◌++◌, map, take, length, get_or, ◌+◌, refl, sym, ap, ap₂, subst, inl, inr}
use Rattle.std.specs.Prelude.{All}
use Rattle.std.proofs.lemmas.List.{map_more}
use Rattle.nq_bank.proofs.Standing.{All-push}
use Rattle.nq_logic.specs.Terms.{Term, Substitution}
use Rattle.nq_logic.specs.Words.{not_term}
use Rattle.nq_logic.specs.Laws.{denied}
use Rattle.nq_bank.specs.declared.node.TermId.{TermId}
use Rattle.nq_bank.specs.Content.{Content, term_at}
use Rattle.nq_bank.proofs.NodesLemmas.{All-head, All-tail}
use Rattle.nq_clause.specs.declared.substitution.Pair.{Pair}
use Rattle.nq_clause.specs.Substitution.{substitution_at}
use Rattle.nq_rule.specs.declared.induction.InductionStep.{InductionStep}
use Rattle.nq_rule.specs.declared.induction.CaseOfInduction.{CaseOfInduction}
use Rattle.nq_rule.specs.Inductions.{fall_literals, substitutions_at}
use Rattle.nq_history.specs.declared.entry.Entry.{Entry}
use Rattle.nq_kernel.specs.declared.work.Work.{Work}
use Rattle.nq_kernel.specs.Growing.{WorkStands, WorkGrows}
use Rattle.nq_lines.specs.Lines.{AreAmong, IsTermIn, LineHasOnly}
use Rattle.nq_lines.specs.Instances.{ArePairsIn}
use Rattle.nq_lines.proofs.LineLemmas.{only_more, among_either}
use Rattle.nq_lines.proofs.Among.{and_among, on_left, on_right}
use Rattle.nq_induct.specs.declared.scheme.Case.{Case}
use Rattle.nq_induct.specs.Claims.{any_of, GathersTo}
use Rattle.nq_induct.specs.Schemes.{IsStepIn, IsCaseIn}
use Rattle.nq_induct.specs.Goals.{AreTermsIn, IsShownCase, contents_of, step_goal}
use Rattle.nq_induct.proofs.GrownLemmas.{case_grown, shown_case_grown, pairs_of_case, same_substitutions}
use Rattle.nq_lines.proofs.TermLemmas.{same_term_grown}

-- the goal's literals before the hypotheses, and behind them
pub turned_among : (c d : List Term) → AreAmong (c ++ d) (d ++ c)
turned_among c d u m = elim (among_either u c d m) [ inl k ↦ on_right d c u k | inr k ↦ on_left d c u k ]

-- the first goes before the last ones
led_among : (n : Term) (c d : List Term) → AreAmong (n ∷ (c ++ d)) (c ++ (n ∷ d))
led_among n c d = and_among n (c ++ d) (c ++ (n ∷ d)) (on_right c (n ∷ d) n (inl refl)) (λ u m. elim (among_either u c d m) [ inl k ↦ on_left c (n ∷ d) u k | inr k ↦ on_right c (n ∷ d) u (inr k) ])

All-cons : {X : Type 0} (P : X → Type 0) (x : X) (xs : List X) → P x → All P xs → All P (x ∷ xs)
All-cons P x xs here rest zero d below = here
All-cons P x xs here rest (suc k) d below = rest k d (omega (arith, below))

first_same : {X : Type 0} {x y : X} {xs ys : List X} → x ∷ xs ≡ y ∷ ys → x ≡ y
first_same e = cc

rest_same : {X : Type 0} {x y : X} {xs ys : List X} → x ∷ xs ≡ y ∷ ys → xs ≡ ys
rest_same e = cc

-- copies have the same lines and pairs
pub copied_all : (history : List Entry) (work : Work) (measure test : TermId) (copy steps : List InductionStep) → contents_of copy ≡ contents_of steps → All (IsStepIn history work measure test) steps → All (IsStepIn history work measure test) copy
copied_all history work measure test [] [] e h = λ k d below. h k d below
copied_all history work measure test [] (s ∷ steps) e h = absurd cc
copied_all history work measure test (r ∷ copy) [] e h = absurd cc
copied_all history work measure test (r ∷ copy) (s ∷ steps) e h =
    let both : (r.line, r.pairs.items) ≡ (s.line, s.pairs.items) = first_same e in
    let line : r.line ≡ s.line = ap (λ (b : ℕ × List Pair). b.0) both in
    let pairs : r.pairs.items ≡ s.pairs.items = ap (λ (b : ℕ × List Pair). b.1) both in
    let rest : contents_of copy ≡ contents_of steps = rest_same e in
    let here : IsStepIn history work measure test s = All-head (IsStepIn history work measure test) s steps h in
    All-cons (IsStepIn history work measure test) r copy (record {
      pairs = subst (ArePairsIn history work) (sym pairs) here.pairs;
      falls =
          subst (λ (n : ℕ). LineHasOnly work n (fall_literals work.bank measure test r.pairs.items)) (sym line)
          (subst (λ (ps : List Pair). LineHasOnly work s.line (fall_literals work.bank measure test ps)) (sym pairs) here.falls);
    }) (copied_all history work measure test copy steps rest (All-tail (IsStepIn history work measure test) s steps h))

pub copied_substitutions : (bank : Content) (copy steps : List InductionStep) → contents_of copy ≡ contents_of steps → substitutions_at bank copy ≡ substitutions_at bank steps
copied_substitutions bank [] [] e = refl
copied_substitutions bank [] (s ∷ steps) e = absurd cc
copied_substitutions bank (r ∷ copy) [] e = absurd cc
copied_substitutions bank (r ∷ copy) (s ∷ steps) e =
    let pairs : r.pairs.items ≡ s.pairs.items = ap (λ (b : ℕ × List Pair). b.1) (first_same e) in
    let rest : contents_of copy ≡ contents_of steps = rest_same e in
    ap₂ (λ (t : Substitution) (ts : List Substitution). t ∷ ts) (ap (substitution_at bank) pairs) (copied_substitutions bank copy steps rest)

module _ (history : List Entry) (w0 w1 : Work) (stands : WorkStands history w0) (grows : WorkGrows history w0 w1) where
  -- a case, from a line of its goal whose literals were gathered
  pub case_shown : (measure : TermId) (case : Case) (goal : List Term) (line : ℕ) (made : CaseOfInduction) → IsTermIn history w0 measure → IsCaseIn history w0 measure case → LineHasOnly w0 line (step_goal w0.bank goal case) → GathersTo w0 w1 goal (any_of goal) line made.line → made.test ≡ case.test → contents_of made.steps.items ≡ contents_of case.steps.items → IsShownCase history w1 measure (any_of goal) made
  case_shown measure case goal line made m is h gathers test copy =
      let new : IsCaseIn history w1 measure case = case_grown history w0 w1 stands grows measure case m is in
      let p : Term = any_of goal in
      let denials : List Term = denied p (substitutions_at w0.bank case.steps.items) in
      let n : Term = not_term (term_at w0.bank case.test) in
      let hyps : List Term = n ∷ denials in
      let told : LineHasOnly w1 made.line (p ∷ hyps) = gathers hyps (only_more w0 line (n ∷ (goal ++ denials)) (goal ++ hyps) (led_among n goal denials) h) in
      let same : hyps ≡ not_term (term_at w1.bank made.test) ∷ denied p (substitutions_at w1.bank made.steps.items) =
      ap₂ (λ (t : Term) (ss : List Substitution). not_term t ∷ denied p ss)
      (sym (ap (term_at w1.bank) test ∙ same_term_grown history w0 w1 case.test grows is.test))
      (sym (copied_substitutions w1.bank made.steps.items case.steps.items copy ∙ same_substitutions history w0 w1 stands grows case.steps.items (pairs_of_case history w0 w1 stands grows measure case is))) in
      record {
        test = subst (IsTermIn history w1) (sym test) new.test;
        steps = subst (λ (q : TermId). All (IsStepIn history w1 measure q) made.steps.items) (sym test) (copied_all history w1 measure case.test made.steps.items case.steps.items copy new.steps);
        line =
            subst (λ (ls : List Term). LineHasOnly w1 made.line (ls ++ (p ∷ []))) same
            (only_more w1 made.line (p ∷ hyps) (hyps ++ (p ∷ [])) (turned_among (p ∷ []) hyps) told);
      }

  -- one case more
  pub shown_push : (measure : TermId) (claim : Term) (made : List CaseOfInduction) (one : CaseOfInduction) → IsTermIn history w0 measure → All (IsShownCase history w0 measure claim) made → IsShownCase history w1 measure claim one → All (IsShownCase history w1 measure claim) (made ++ one ∷ [])
  shown_push measure claim made one m h k = All-push (IsShownCase history w1 measure claim) made one (λ i d below. shown_case_grown history w0 w1 stands grows measure claim (get_or made i d) m (h i d below)) k

-- an item of a list that has one
any_item : {X : Type 0} (xs : List X) (i : ℕ) → i < length xs → X
any_item [] i below = absurd (omega (arith, below))
any_item (x ∷ xs) i below = x

-- the default of a place that is there does not matter
pub default_other : (cases : List Case) (i : ℕ) (d e : Case) → i < length cases → get_or cases i d ≡ get_or cases i e
default_other [] i d e below = absurd (omega (arith, below))
default_other (c ∷ cases) zero d e below = refl
default_other (c ∷ cases) (suc i) d e below = default_other cases i d e (omega (arith, below))

pub tests_push : (made : List CaseOfInduction) (one : CaseOfInduction) (cases : List Case) (i : ℕ) → i < length cases → ((d : Case) → one.test ≡ (get_or cases i d).test) → map (λ c. c.test) made ≡ map (λ c. c.test) (take i cases) → map (λ c. c.test) (made ++ one ∷ []) ≡ map (λ c. c.test) (take (i + 1) cases)
tests_push made one cases i below same so_far =
    let d : Case = any_item cases i below in
    ends made one ∙ ap₂ (λ (ts : List TermId) (t : TermId). ts ++ t ∷ []) so_far (same d) ∙ sym (map_more (λ (c : Case). c.test) cases i d below)
  where
    ends : (xs : List CaseOfInduction) (x : CaseOfInduction) → map (λ c. c.test) (xs ++ x ∷ []) ≡ map (λ c. c.test) xs ++ x.test ∷ []
    ends [] x = refl
    ends (y ∷ xs) x = ap (λ ts. y.test ∷ ts) (ends xs x)

-- a case at a place of a list
pub case_at : (history : List Entry) (work : Work) (measure : TermId) (given cases : List Case) (i : ℕ) (c : Case) → given ≡ cases → i < length given → c ≡ get_or given i c → All (IsCaseIn history work measure) cases → IsCaseIn history work measure c
case_at history work measure given cases i c same below is all =
    subst (IsCaseIn history work measure) (sym is) (subst (All (IsCaseIn history work measure)) (sym same) all i c below)

pub steps_more : (f : Case → List Term) (given cases : List Case) (i : ℕ) (c : Case) → given ≡ cases → i < length given → c ≡ get_or given i c → map f (take i cases) ++ f c ∷ [] ≡ map f (take (i + 1) cases)
steps_more f given cases i c same below is =
    ap (λ (cs : List Case). map f (take i cs) ++ f c ∷ []) (sym same) ∙
    ap (λ (t : List Term). map f (take i given) ++ t ∷ []) (ap f is) ∙ sym (map_more f given i c below) ∙ ap (λ (cs : List Case). map f (take (i + 1) cs)) same

-- the tests of cases are over the history
pub tests_in : (history : List Entry) (work : Work) (measure : TermId) (cases : List Case) → All (IsCaseIn history work measure) cases → AreTermsIn history work (map (λ c. c.test) cases)
tests_in history work measure [] h = λ k d below. absurd (omega (arith, below))
tests_in history work measure (c ∷ cases) h = All-cons (IsTermIn history work) c.test (map (λ c. c.test) cases) (All-head (IsCaseIn history work measure) c cases h).test (tests_in history work measure cases (All-tail (IsCaseIn history work measure) c cases h))

pub none_all : {X : Type 0} (P : X → Type 0) (xs : List X) → xs ≡ [] → All P xs
none_all P xs e = subst (All P) (sym e) (λ k d below. absurd (omega (arith, below)))

pub one_all : {X : Type 0} (P : X → Type 0) (xs : List X) (x : X) → xs ≡ x ∷ [] → P x → All P xs
one_all P xs x e h = subst (All P) (sym e) (All-cons P x [] h (none_all P [] refl))
