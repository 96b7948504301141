-- What is done to a goal next.
use Rattle.std.proofs.Common.{◌≡◌, ℕ, ◌+◌, ◌<◌, List, [], ◌∷◌, ◌++◌, length, take, drop, get_or, sym, ap, ◌∙◌, Option, Some, None, subst, inl, inr, arith}
use Rattle.std.specs.declared.alloc.Global.{Global}
use Rattle.std.specs.Prelude.{Vec, IfSome}
use Rattle.nq_logic.specs.Terms.{Term}
use Rattle.nq_logic.specs.Words.{not_term, equal_term, true_term}
use Rattle.nq_bank.specs.declared.node.TermId.{TermId}
use Rattle.nq_bank.specs.Content.{IsIdOf, term_at, terms_at}
use Rattle.nq_history.specs.declared.entry.Entry.{Entry}
use Rattle.nq_kernel.specs.declared.work.Work.{Work}
use Rattle.nq_kernel.specs.Growing.{WorkStands, WorkGrows}
use Rattle.nq_kernel.proofs.GrowingLemmas.{WorkGrows-trans}
use Rattle.nq_lines.specs.Lines.{AreAmong, LineHasOnly, IsTermIn, MakesOf}
use Rattle.nq_lines.proofs.LineLemmas.{only_grown, only_more, among_either}
use Rattle.nq_lines.proofs.TermLemmas.{term_grown, same_term_grown}
use Rattle.nq_cases.specs.declared.choosing.Choice.{Choice}
use Rattle.nq_simplify.specs.declared.rewriter.NewLiteral.{NewLiteral}
use Rattle.nq_simplify.specs.declared.steps.Turn.{Turn}
use Rattle.nq_simplify.specs.declared.steps.Split.{Split}
use Rattle.nq_simplify.specs.declared.steps.Simplified.{Simplified}
use Rattle.nq_simplify.specs.declared.steps.Outcome.{Outcome}
use Rattle.nq_simplify.specs.declared.steps.Outcome.TheVariants.{Closed, Turned, Divided}
use Rattle.nq_simplify.specs.Splitting.{IsChoiceIn, LinesShow}
use Rattle.nq_simplify.specs.Simplified.{AreTermsIn, put_in, IsNewLiteral, IsTurn, IsDivided, IsOutcome, IsSimplified}
use Rattle.nq_simplify.proofs.SplittingLemmas.{among_left, among_right, around_one, put_terms, put_stands, choice_grown, one_in, turn_of_side, turn_of_literal}
use Rattle.nq_simplify.proofs.SimplifiedLemmas.{goal_grown, goal_in, turn_grown, divided_grown, simplified_after}

-- what is known of a value that is there
pub if_some : {X : Type 0} (o : Option X) (P : X → Type 0) (x : X) → IfSome o P → o ≡ Some x → P x
if_some o P x h e = subst (λ q. IfSome q P) e h

pub none_in : (history : List Entry) (w : Work) → AreTermsIn history w []
none_in history w = λ k e below. absurd (omega (arith, below))

-- what is done to a goal, told of its literals in the work before
pub outcome_before : (history : List Entry) (old new w : Work) (ids : List TermId) (o : Outcome) → WorkGrows history old new → AreTermsIn history old ids → IsOutcome history w (terms_at new.bank ids) o → IsOutcome history w (terms_at old.bank ids) o
outcome_before history old new w ids o grows terms h = subst (λ g. IsOutcome history w g o) (goal_grown history old new ids grows terms) h

-- the split by a choice, from the lines of its two sides
module _ (history : List Entry) (w0 w2 w3 : Work) (s0 : WorkStands history w0) (s2 : WorkStands history w2) (g02 : WorkGrows history w0 w2) (g23 : WorkGrows history w2 w3) (goal : List TermId) (i : ℕ) (d : TermId) (below : i < length goal) (terms : AreTermsIn history w0 goal)
    (c : Choice) (n m : ℕ) (choice : IsChoiceIn history w0 (get_or goal i d) c) (lines : LinesShow w2 (get_or goal i d) c n m) where
  choice_then : IsChoiceIn history w2 (get_or goal i d) c
  choice_then = choice_grown history w0 w2 (get_or goal i d) c s0 g02 (terms i d below) choice

  literal_then : IsTermIn history w2 (get_or goal i d)
  literal_then = term_grown history w0 w2 (get_or goal i d) s0 g02 (terms i d below)

  all_now : WorkGrows history w0 w3
  all_now = WorkGrows-trans history w0 w2 w3 g02 g23

  literals_now : terms_at w3.bank goal ≡ terms_at w0.bank goal
  literals_now = goal_grown history w0 w3 goal all_now terms

  side_now : (q l : TermId) (k : ℕ) (next : Vec TermId Global) → IsTermIn history w3 q → IsTermIn history w2 l → LineHasOnly w2 k (equal_term (term_at w2.bank (get_or goal i d)) (term_at w2.bank l) ∷ term_at w3.bank q ∷ []) → next.items ≡ put_in i (q ∷ l ∷ []) goal →
      IsTurn history w3 (term_at w3.bank q ∷ terms_at w0.bank goal) (record { old = get_or goal i d; new = l; line = k; next = next })
  side_now q l k next q_in l_in line is =
      let t_is : term_at w2.bank (get_or goal i d) ≡ term_at w3.bank (get_or goal i d) = sym (same_term_grown history w2 w3 (get_or goal i d) g23 literal_then) in
      let l_is : term_at w2.bank l ≡ term_at w3.bank l = sym (same_term_grown history w2 w3 l g23 l_in) in
      let later : LineHasOnly w3 k (equal_term (term_at w2.bank (get_or goal i d)) (term_at w2.bank l) ∷ term_at w3.bank q ∷ []) = only_grown history w2 w3 k (equal_term (term_at w2.bank (get_or goal i d)) (term_at w2.bank l) ∷ term_at w3.bank q ∷ []) s2 g23 line in
      let now : LineHasOnly w3 k (equal_term (term_at w3.bank (get_or goal i d)) (term_at w3.bank l) ∷ term_at w3.bank q ∷ []) =
      subst (λ u. LineHasOnly w3 k (equal_term u (term_at w3.bank l) ∷ term_at w3.bank q ∷ [])) t_is (subst (λ u. LineHasOnly w3 k (equal_term (term_at w2.bank (get_or goal i d)) u ∷ term_at w3.bank q ∷ [])) l_is later) in
      subst (λ g. IsTurn history w3 (term_at w3.bank q ∷ g) (record { old = get_or goal i d; new = l; line = k; next = next })) literals_now
      (turn_of_side history w3 goal i d q l k next below (goal_in history w0 w3 goal s0 all_now terms) q_in (term_grown history w2 w3 l s2 g23 l_in) now is)

  pub divided_by : (denial : TermId) (second first : Vec TermId Global) → IsTermIn history w3 denial → IsIdOf w3.bank denial (not_term (term_at w2.bank c.test)) → second.items ≡ put_in i (c.test ∷ c.second ∷ []) goal → first.items ≡ put_in i (denial ∷ c.first ∷ []) goal →
      IsDivided history w3 (terms_at w0.bank goal) (record { test = c.test; with_test = record { old = get_or goal i d; new = c.second; line = m; next = second }; without_test = record { old = get_or goal i d; new = c.first; line = n; next = first } })
  divided_by denial second first denial_in denies second_is first_is =
      let p_is : term_at w2.bank c.test ≡ term_at w3.bank c.test = sym (same_term_grown history w2 w3 c.test g23 choice_then.test) in
      let test_now : IsTermIn history w3 c.test = term_grown history w2 w3 c.test s2 g23 choice_then.test in
      let one : LineHasOnly w2 m (equal_term (term_at w2.bank (get_or goal i d)) (term_at w2.bank c.second) ∷ term_at w3.bank c.test ∷ []) =
      subst (λ u. LineHasOnly w2 m (equal_term (term_at w2.bank (get_or goal i d)) (term_at w2.bank c.second) ∷ u ∷ [])) p_is lines.at_second in
      let two : LineHasOnly w2 n (equal_term (term_at w2.bank (get_or goal i d)) (term_at w2.bank c.first) ∷ term_at w3.bank denial ∷ []) =
      subst (λ u. LineHasOnly w2 n (equal_term (term_at w2.bank (get_or goal i d)) (term_at w2.bank c.first) ∷ u ∷ [])) (sym denies.denotes) lines.at_first in
      let denied_now : term_at w3.bank denial ≡ not_term (term_at w3.bank c.test) = denies.denotes ∙ ap not_term p_is in
      record {
        test = test_now;
        with_test = side_now c.test c.second m second test_now choice_then.second one second_is;
        without_test = subst (λ u. IsTurn history w3 (u ∷ terms_at w0.bank goal) (record { old = get_or goal i d; new = c.first; line = n; next = first })) denied_now (side_now denial c.first n first denial_in choice_then.first two first_is);
      }

-- a literal and the others are those of the goal
covers : (pre post : List Term) (t : Term) → AreAmong (t ∷ ((pre ++ []) ++ post)) (pre ++ (t ∷ post))
covers pre post t u m =
    elim m [
      | inl e ↦ among_right u pre (t ∷ post) (inl e)
      | inr k ↦ elim (among_either u (pre ++ []) post k) [
        | inl o ↦ among_left u pre (t ∷ post) (elim (among_either u pre [] o) [ inl r ↦ r | inr none ↦ absurd none ])
        | inr o ↦ among_right u pre (t ∷ post) (inr o)
      ]
    ]

-- a literal and the others are among the goal's
pub beside_others : (history : List Entry) (w : Work) (goal others : List TermId) (i : ℕ) (d : TermId) → i < length goal → others ≡ put_in i [] goal → AreAmong (term_at w.bank (get_or goal i d) ∷ terms_at w.bank others) (terms_at w.bank goal)
beside_others history w goal others i d below others_is =
    let pre : List Term = terms_at w.bank (take i goal) in
    let post : List Term = terms_at w.bank (drop (i + 1) goal) in
    let t : Term = term_at w.bank (get_or goal i d) in
    let goal_is : pre ++ (t ∷ post) ≡ terms_at w.bank goal = sym (around_one w goal i d below) in
    let rest_is : (pre ++ []) ++ post ≡ terms_at w.bank others = sym (ap (terms_at w.bank) others_is ∙ put_terms w goal [] i) in
    subst (AreAmong (t ∷ terms_at w.bank others)) goal_is (subst (λ ts. AreAmong (t ∷ ts) (pre ++ (t ∷ post))) rest_is (covers pre post t))

-- a line with only some literals has only more
pub found_more : (w : Work) (o : Option ℕ) (these more : List Term) → AreAmong these more → IfSome o (λ n. LineHasOnly w n these) → IfSome o (λ n. LineHasOnly w n more)
found_more w None these more among h = tt
found_more w (Some n) these more among h = only_more w n these more among h

-- a literal that is rewritten under the negations of the others
module _ (history : List Entry) (w0 w1 : Work) (s0 : WorkStands history w0) (g01 : WorkGrows history w0 w1) (goal others : List TermId) (i : ℕ) (d : TermId) (below : i < length goal) (terms : AreTermsIn history w0 goal) (others_is : others ≡ put_in i [] goal) (r : NewLiteral)
    (found : IsNewLiteral history w1 (terms_at w0.bank others) (term_at w0.bank (get_or goal i d)) r) where
  others_in : AreTermsIn history w0 others
  others_in = subst (AreTermsIn history w0) (sym others_is) (put_stands history w0 goal [] i terms (none_in history w0))

  literal_is : term_at w1.bank (get_or goal i d) ≡ term_at w0.bank (get_or goal i d)
  literal_is = same_term_grown history w0 w1 (get_or goal i d) g01 (terms i d below)

  others_among : AreAmong (term_at w0.bank (get_or goal i d) ∷ terms_at w0.bank others) (terms_at w0.bank goal)
  others_among = beside_others history w0 goal others i d below others_is

  -- it closes the goal where it is T
  pub closed_by_truth : (w2 : Work) (n : ℕ) → term_at w1.bank r.term ≡ true_term → MakesOf w1 w2 (equal_term (term_at w1.bank (get_or goal i d)) true_term) (term_at w1.bank (get_or goal i d)) r.line n → LineHasOnly w2 n (terms_at w0.bank goal)
  closed_by_truth w2 n truth makes =
      let t : Term = term_at w0.bank (get_or goal i d) in
      let line : LineHasOnly w1 r.line (equal_term t true_term ∷ terms_at w0.bank others) = subst (λ u. LineHasOnly w1 r.line (equal_term t u ∷ terms_at w0.bank others)) truth found.line in
      let makes_t : MakesOf w1 w2 (equal_term t true_term) t r.line n = subst (λ u. MakesOf w1 w2 (equal_term u true_term) u r.line n) literal_is makes in
      only_more w2 n (t ∷ terms_at w0.bank others) (terms_at w0.bank goal) others_among (makes_t (terms_at w0.bank others) line)

  -- and is replaced where it is not
  pub turned_by : (next : Vec TermId Global) → next.items ≡ put_in i (r.term ∷ []) goal → IsTurn history w1 (terms_at w0.bank goal) (record { old = get_or goal i d; new = r.term; line = r.line; next = next })
  turned_by next is =
      let t_is : term_at w0.bank (get_or goal i d) ≡ term_at w1.bank (get_or goal i d) = sym literal_is in
      let rest_is : terms_at w0.bank others ≡ terms_at w1.bank others = sym (goal_grown history w0 w1 others g01 others_in) in
      let line : LineHasOnly w1 r.line (equal_term (term_at w1.bank (get_or goal i d)) (term_at w1.bank r.term) ∷ terms_at w1.bank others) =
      subst (λ u. LineHasOnly w1 r.line (equal_term u (term_at w1.bank r.term) ∷ terms_at w1.bank others)) t_is
      (subst (λ ts. LineHasOnly w1 r.line (equal_term (term_at w0.bank (get_or goal i d)) (term_at w1.bank r.term) ∷ ts)) rest_is found.line) in
      subst (λ g. IsTurn history w1 g (record { old = get_or goal i d; new = r.term; line = r.line; next = next })) (goal_grown history w0 w1 goal g01 terms)
      (turn_of_literal history w1 goal i d r.term r.line next others below (goal_in history w0 w1 goal s0 g01 terms) found.term others_is line is (one_in history w1 r.term found.term))

-- what is done to a goal, by its variant
module _ (history : List Entry) (w : Work) (goal : List Term) (o : Outcome) (h : IsOutcome history w goal o) where
  pub outcome_closed : (n : ℕ) → o ≡ Closed n → LineHasOnly w n goal
  outcome_closed n is = subst (IsOutcome history w goal) is h

  pub outcome_turned : (turn : Turn) → o ≡ Turned turn → IsTurn history w goal turn
  outcome_turned turn is = subst (IsOutcome history w goal) is h

  pub outcome_divided : (s : Split) → o ≡ Divided s → IsDivided history w goal s
  outcome_divided s is = subst (IsOutcome history w goal) is h

-- what is done to a goal, after what follows it
module _ (history : List Entry) (w0 w1 w2 : Work) (s1 : WorkStands history w1) (g01 : WorkGrows history w0 w1) (g12 : WorkGrows history w1 w2) (ids : List TermId) (terms : AreTermsIn history w0 ids) where
  same_literals : terms_at w0.bank ids ≡ terms_at w2.bank ids
  same_literals = sym (goal_grown history w0 w2 ids (WorkGrows-trans history w0 w1 w2 g01 g12) terms)

  pub turn_after : (turn : Turn) → IsTurn history w1 (terms_at w0.bank ids) turn → IsTurn history w2 (terms_at w2.bank ids) turn
  turn_after turn h = subst (λ g. IsTurn history w2 g turn) same_literals (turn_grown history w1 w2 s1 g12 (terms_at w0.bank ids) turn h)

  pub divided_after : (s : Split) → IsDivided history w1 (terms_at w0.bank ids) s → IsDivided history w2 (terms_at w2.bank ids) s
  divided_after s h = subst (λ g. IsDivided history w2 g s) same_literals (divided_grown history w1 w2 s1 g12 (terms_at w0.bank ids) s h)

-- what the next goal is simplified to, told of its literals after
pub rest_after : (history : List Entry) (old new : Work) (given ids : List TermId) (s : Simplified) → WorkStands history old → WorkGrows history old new → AreTermsIn history old ids → given ≡ ids → IsSimplified history new (terms_at old.bank given) s → IsSimplified history new (terms_at new.bank ids) s
rest_after history old new given ids s stands grows terms same h = simplified_after history old new stands grows ids s terms (subst (λ xs. IsSimplified history new (terms_at old.bank xs) s) same h)
