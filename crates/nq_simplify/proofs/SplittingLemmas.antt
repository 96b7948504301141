-- What a split leads to.
use Rattle.std.proofs.Common.{◌≡◌, ℕ, zero, suc, ◌+◌, ◌<◌, List, [], ◌∷◌, ◌++◌, length, take, drop, get_or, refl, sym, ap, ◌∙◌, subst, inl, inr, arith}
use Rattle.std.specs.declared.alloc.Global.{Global}
use Rattle.std.specs.Prelude.{Some, Vec, true, false}
use Rattle.std.proofs.lemmas.List.{map-append}
use Rattle.std.proofs.lemmas.List.Elements.{All-append, All-push, All-take, All-drop}
use Rattle.nq_logic.specs.Terms.{Term, IsAmong}
use Rattle.nq_logic.specs.Words.{not_term, if_term, equal_term}
use Rattle.nq_bank.specs.declared.node.TermId.{TermId}
use Rattle.nq_bank.specs.Content.{term_at, terms_at}
use Rattle.nq_history.specs.declared.entry.Entry.{Entry}
use Rattle.nq_kernel.specs.declared.work.Work.{Work}
use Rattle.nq_kernel.specs.Growing.{WorkStands, WorkGrows}
use Rattle.nq_lines.specs.Lines.{LineHasOnly, IsTermIn}
use Rattle.nq_lines.proofs.LineLemmas.{only_more, only_grown, only_stands, among_either}
use Rattle.nq_lines.proofs.TermLemmas.{term_grown, same_term_grown}
use Rattle.nq_proof.specs.Paths.{replaced_at}
use Rattle.nq_simplify.specs.Inside.{HasPart, CarriesTo}
use Rattle.nq_simplify.specs.Ways.{IsRewriting}
use Rattle.nq_cases.specs.declared.choosing.Choice.{Choice}
use Rattle.nq_simplify.specs.BranchRows.{row_at}
use Rattle.nq_simplify.specs.Splitting.{IsChoiceIn, RowsShow, LinesShow, IsPut}
use Rattle.nq_simplify.specs.Simplified.{AreTermsIn, put_in, IsTurn}

pub among_left : (t : Term) (c d : List Term) → IsAmong t c → IsAmong t (c ++ d)
among_left t [] d m = absurd m
among_left t (u ∷ c) d (inl e) = inl e
among_left t (u ∷ c) d (inr m) = inr (among_left t c d m)

pub among_right : (t : Term) (c d : List Term) → IsAmong t d → IsAmong t (c ++ d)
among_right t [] d m = m
among_right t (u ∷ c) d m = inr (among_right t c d m)

-- one side of a split
side : (work : Work) (t l q : Term) (n : ℕ) (goal next : List Term) → LineHasOnly work n (equal_term t l ∷ q ∷ []) → IsPut t q l goal next → IsRewriting work t l n (q ∷ goal) next
side work t l q n goal next line put =
    record {
      before = inr put.there;
      after = put.choice;
      less = λ u m. elim (put.less u m) [ inl e ↦ inr (inl e) | inr k ↦ elim k [ inl e ↦ inl e | inr i ↦ inr (inr i) ] ];
      rest = λ u m. elim m [ inl e ↦ inr (subst (λ v. IsAmong v next) (sym e) put.test) | inr i ↦ put.rest u i ];
      equation = only_more work n (equal_term t l ∷ q ∷ []) (equal_term t l ∷ q ∷ goal) (λ u m. elim m [ inl e ↦ inl e | inr k ↦ elim k [ inl e ↦ inr (inl e) | inr none ↦ absurd none ] ]) line;
      equation_next = only_more work n (equal_term t l ∷ q ∷ []) (equal_term t l ∷ next) (λ u m. elim m [ inl e ↦ inl e | inr k ↦ elim k [ inl e ↦ inr (subst (λ v. IsAmong v next) (sym e) put.test) | inr none ↦ absurd none ] ]) line;
    }

-- a goal, with two literals in the place of one
put_is : (pre post : List Term) (t q l : Term) → IsPut t q l (pre ++ (t ∷ post)) ((pre ++ (q ∷ l ∷ [])) ++ post)
put_is pre post t q l =
    record {
      there = among_right t pre (t ∷ post) (inl refl);
      test = among_left q (pre ++ (q ∷ l ∷ [])) post (among_right q pre (q ∷ l ∷ []) (inl refl));
      choice = among_left l (pre ++ (q ∷ l ∷ [])) post (among_right l pre (q ∷ l ∷ []) (inr (inl refl)));
      less = λ u m. elim (among_either u (pre ++ (q ∷ l ∷ [])) post m) [
        | inl n ↦ elim (among_either u pre (q ∷ l ∷ []) n) [
          | inl o ↦ inr (inr (among_left u pre (t ∷ post) o))
          | inr o ↦ elim o [ inl e ↦ inl e | inr k ↦ elim k [ inl e ↦ inr (inl e) | inr none ↦ absurd none ] ]
        ]
        | inr n ↦ inr (inr (among_right u pre (t ∷ post) (inr n)))
      ];
      rest = λ u m. elim (among_either u pre (t ∷ post) m) [
        | inl n ↦ inr (among_left u (pre ++ (q ∷ l ∷ [])) post (among_left u pre (q ∷ l ∷ []) n))
        | inr n ↦ elim n [ inl e ↦ inl e | inr o ↦ inr (among_right u (pre ++ (q ∷ l ∷ [])) post o) ]
      ];
    }

-- a goal, with another literal in the place of one, where a line has only their equation and the others
pub turn_is : (work : Work) (pre post : List Term) (a b : Term) (n : ℕ) → LineHasOnly work n (equal_term a b ∷ ((pre ++ []) ++ post)) → IsRewriting work a b n (pre ++ (a ∷ post)) ((pre ++ (b ∷ [])) ++ post)
turn_is work pre post a b n line =
    record {
      before = among_right a pre (a ∷ post) (inl refl);
      after = among_left b (pre ++ (b ∷ [])) post (among_right b pre (b ∷ []) (inl refl));
      less = λ u m. elim (among_either u (pre ++ (b ∷ [])) post m) [
        | inl k ↦ elim (among_either u pre (b ∷ []) k) [ inl o ↦ inr (among_left u pre (a ∷ post) o) | inr o ↦ elim o [ inl e ↦ inl e | inr none ↦ absurd none ] ]
        | inr k ↦ inr (among_right u pre (a ∷ post) (inr k))
      ];
      rest = λ u m. elim (among_either u pre (a ∷ post) m) [
        | inl k ↦ inr (among_left u (pre ++ (b ∷ [])) post (among_left u pre (b ∷ []) k))
        | inr k ↦ elim k [ inl e ↦ inl e | inr o ↦ inr (among_right u (pre ++ (b ∷ [])) post o) ]
      ];
      equation = only_more work n (equal_term a b ∷ ((pre ++ []) ++ post)) (equal_term a b ∷ (pre ++ (a ∷ post))) (λ u m. elim m [
        | inl e ↦ inl e
        | inr k ↦ elim (among_either u (pre ++ []) post k) [ inl o ↦ inr (among_left u pre (a ∷ post) (elim (among_either u pre [] o) [ inl r ↦ r | inr none ↦ absurd none ])) | inr o ↦ inr (among_right u pre (a ∷ post) (inr o)) ]
      ]) line;
      equation_next = only_more work n (equal_term a b ∷ ((pre ++ []) ++ post)) (equal_term a b ∷ ((pre ++ (b ∷ [])) ++ post)) (λ u m. elim m [
        | inl e ↦ inl e
        | inr k ↦ elim (among_either u (pre ++ []) post k) [
          | inl o ↦ inr (among_left u (pre ++ (b ∷ [])) post (among_left u pre (b ∷ []) (elim (among_either u pre [] o) [ inl r ↦ r | inr none ↦ absurd none ])))
          | inr o ↦ inr (among_right u (pre ++ (b ∷ [])) post o)
        ]
      ]) line;
    }

-- one side of a split, with the literals in place
pub side_is : (work : Work) (pre post : List Term) (t l q : Term) (n : ℕ) → LineHasOnly work n (equal_term t l ∷ q ∷ []) → IsRewriting work t l n (q ∷ (pre ++ (t ∷ post))) ((pre ++ (q ∷ l ∷ [])) ++ post)
side_is work pre post t l q n line = side work t l q n (pre ++ (t ∷ post)) ((pre ++ (q ∷ l ∷ [])) ++ post) line (put_is pre post t q l)

-- the literals of a goal around one of them
pub around_one : (work : Work) (ids : List TermId) (i : ℕ) (d : TermId) → i < length ids → terms_at work.bank ids ≡ terms_at work.bank (take i ids) ++ (term_at work.bank (get_or ids i d) ∷ terms_at work.bank (drop (i + 1) ids))
around_one work [] i d below = absurd (omega (arith, below))
around_one work (t ∷ ids) zero d below = refl
around_one work (t ∷ ids) (suc i) d below =
    let rest = around_one work ids i d (omega (arith, below)) in
    let e : suc i + 1 ≡ suc (i + 1) = omega arith in
    ap (λ ts. term_at work.bank t ∷ ts) rest ∙ ap (λ k. term_at work.bank t ∷ (terms_at work.bank (take i ids) ++ (term_at work.bank (get_or ids i d) ∷ terms_at work.bank (drop k (t ∷ ids))))) (sym e)

-- the literals of a goal with others in the place of one
pub put_terms : (work : Work) (ids these : List TermId) (i : ℕ) → terms_at work.bank (put_in i these ids) ≡ (terms_at work.bank (take i ids) ++ terms_at work.bank these) ++ terms_at work.bank (drop (i + 1) ids)
put_terms work ids these i =
    map-append (term_at work.bank) (take i ids ++ these) (drop (i + 1) ids) ∙ ap (λ ts. ts ++ terms_at work.bank (drop (i + 1) ids)) (map-append (term_at work.bank) (take i ids) these)

pub put_stands : (history : List Entry) (work : Work) (ids these : List TermId) (i : ℕ) → AreTermsIn history work ids → AreTermsIn history work these → AreTermsIn history work (put_in i these ids)
put_stands history work ids these i h k =
    All-append (IsTermIn history work) (take i ids ++ these) (drop (i + 1) ids) (All-append (IsTermIn history work) (take i ids) these (All-take (IsTermIn history work) i ids h) k) (All-drop (IsTermIn history work) (i + 1) ids h)

-- a part of a term, and what it is replaced by, in work that grew
module _ (history : List Entry) (w0 w1 : Work) (stands : WorkStands history w0) (grows : WorkGrows history w0 w1) (t whole branch : TermId) (t_in : IsTermIn history w0 t) (whole_in : IsTermIn history w0 whole) (branch_in : IsTermIn history w0 branch) where
  same : (P : Term → Term → Term → Type 0) → P (term_at w0.bank whole) (term_at w0.bank branch) (term_at w0.bank t) → P (term_at w1.bank whole) (term_at w1.bank branch) (term_at w1.bank t)
  same P h =
      let a : term_at w0.bank whole ≡ term_at w1.bank whole = sym (same_term_grown history w0 w1 whole grows whole_in) in
      let b : term_at w0.bank branch ≡ term_at w1.bank branch = sym (same_term_grown history w0 w1 branch grows branch_in) in
      let d : term_at w0.bank t ≡ term_at w1.bank t = sym (same_term_grown history w0 w1 t grows t_in) in
      subst (λ u. P u (term_at w1.bank branch) (term_at w1.bank t)) a (subst (λ u. P (term_at w0.bank whole) u (term_at w1.bank t)) b (subst (λ u. P (term_at w0.bank whole) (term_at w0.bank branch) u) d h))

  before : (P : Term → Term → Term → Type 0) → P (term_at w1.bank whole) (term_at w1.bank branch) (term_at w1.bank t) → P (term_at w0.bank whole) (term_at w0.bank branch) (term_at w0.bank t)
  before P h =
      let a : term_at w1.bank whole ≡ term_at w0.bank whole = same_term_grown history w0 w1 whole grows whole_in in
      let b : term_at w1.bank branch ≡ term_at w0.bank branch = same_term_grown history w0 w1 branch grows branch_in in
      let d : term_at w1.bank t ≡ term_at w0.bank t = same_term_grown history w0 w1 t grows t_in in
      subst (λ u. P u (term_at w0.bank branch) (term_at w0.bank t)) a (subst (λ u. P (term_at w1.bank whole) u (term_at w0.bank t)) b (subst (λ u. P (term_at w1.bank whole) (term_at w1.bank branch) u) d h))

  pub part_later : (path items : List ℕ) (l : Term) → path ≡ items → replaced_at items (term_at w0.bank branch) (term_at w0.bank t) ≡ Some (term_at w0.bank whole, l) → HasPart path (term_at w1.bank whole) (term_at w1.bank branch) (term_at w1.bank t)
  part_later path items l e changed = same (λ o n u. HasPart path o n u) (record { whole = l; changed = ap (λ p. replaced_at p (term_at w0.bank branch) (term_at w0.bank t)) e ∙ changed })

  pub carried_later : (w2 : Work) (path items : List ℕ) (l q : Term) (row n : ℕ) → path ≡ items → replaced_at items (term_at w0.bank branch) (term_at w0.bank t) ≡ Some (term_at w0.bank whole, l) → LineHasOnly w0 row (equal_term (term_at w0.bank whole) (term_at w0.bank branch) ∷ q ∷ []) →
      CarriesTo w1 w2 path (term_at w1.bank t) (term_at w1.bank whole) (term_at w1.bank branch) row n → LineHasOnly w2 n (equal_term (term_at w0.bank t) l ∷ q ∷ [])
  carried_later w2 path items l q row n e changed shown carries =
      before (λ o b u. CarriesTo w1 w2 path u o b row n) carries l (q ∷ []) (ap (λ p. replaced_at p (term_at w0.bank branch) (term_at w0.bank t)) e ∙ changed)
      (only_grown history w0 w1 row (equal_term (term_at w0.bank whole) (term_at w0.bank branch) ∷ q ∷ []) stands grows shown)

-- a choice in work that grew
pub choice_grown : (history : List Entry) (old new : Work) (t : TermId) (c : Choice) → WorkStands history old → WorkGrows history old new → IsTermIn history old t → IsChoiceIn history old t c → IsChoiceIn history new t c
choice_grown history old new t c stands grows term h =
    let t_is = same_term_grown history old new t grows term in
    let w_is = same_term_grown history old new c.whole grows h.whole in
    let p_is = same_term_grown history old new c.test grows h.test in
    let x_is = same_term_grown history old new c.first_branch grows h.first_branch in
    let y_is = same_term_grown history old new c.second_branch grows h.second_branch in
    let l_is = same_term_grown history old new c.first grows h.first in
    let r_is = same_term_grown history old new c.second grows h.second in
    record {
      whole = term_grown history old new c.whole stands grows h.whole;
      test = term_grown history old new c.test stands grows h.test;
      first_branch = term_grown history old new c.first_branch stands grows h.first_branch;
      second_branch = term_grown history old new c.second_branch stands grows h.second_branch;
      first = term_grown history old new c.first stands grows h.first;
      second = term_grown history old new c.second stands grows h.second;
      is = rw (w_is, p_is, x_is, y_is) h.is;
      at_first = rw (x_is, t_is, w_is, l_is) h.at_first;
      at_second = rw (y_is, t_is, w_is, r_is) h.at_second;
    }

-- the two rows, where the second was added after the first
pub rows_show : (history : List Entry) (w0 w1 w2 : Work) (t : TermId) (c : Choice) (n m : ℕ) → WorkStands history w1 → WorkGrows history w0 w1 → WorkGrows history w1 w2 → WorkGrows history w0 w2 → IsChoiceIn history w0 t c →
    LineHasOnly w1 n (row_at true (term_at w0.bank c.test) (term_at w0.bank c.first_branch) (term_at w0.bank c.second_branch)) →
    LineHasOnly w2 m (row_at false (term_at w1.bank c.test) (term_at w1.bank c.first_branch) (term_at w1.bank c.second_branch)) → RowsShow w2 c n m
rows_show history w0 w1 w2 t c n m s1 g01 g12 g02 h first second =
    let w_is = same_term_grown history w0 w2 c.whole g02 h.whole in
    let p_is = same_term_grown history w0 w2 c.test g02 h.test in
    let x_is = same_term_grown history w0 w2 c.first_branch g02 h.first_branch in
    let y_is = same_term_grown history w0 w2 c.second_branch g02 h.second_branch in
    let p1 = same_term_grown history w0 w1 c.test g01 h.test in
    let x1 = same_term_grown history w0 w1 c.first_branch g01 h.first_branch in
    let y1 = same_term_grown history w0 w1 c.second_branch g01 h.second_branch in
    let whole2 : term_at w2.bank c.whole ≡ if_term (term_at w0.bank c.test) (term_at w0.bank c.first_branch) (term_at w0.bank c.second_branch) = w_is ∙ h.is in
    let one : LineHasOnly w2 n (row_at true (term_at w0.bank c.test) (term_at w0.bank c.first_branch) (term_at w0.bank c.second_branch)) = only_grown history w1 w2 n _ s1 g12 first in
    let two : LineHasOnly w2 m (row_at false (term_at w0.bank c.test) (term_at w0.bank c.first_branch) (term_at w0.bank c.second_branch)) =
    subst (λ p. LineHasOnly w2 m (row_at false p (term_at w0.bank c.first_branch) (term_at w0.bank c.second_branch))) p1
    (subst (λ x. LineHasOnly w2 m (row_at false (term_at w1.bank c.test) x (term_at w0.bank c.second_branch))) x1
    (subst (λ y. LineHasOnly w2 m (row_at false (term_at w1.bank c.test) (term_at w1.bank c.first_branch) y)) y1 second)) in
    record {
      at_first = rw (whole2, x_is, p_is) one;
      at_second = rw (whole2, y_is, p_is) two;
    }

-- the lines of the two sides, told by the terms of work that grew
pub lines_show : (history : List Entry) (w0 w2 : Work) (t : TermId) (c : Choice) (n m : ℕ) → WorkGrows history w0 w2 → IsTermIn history w0 t → IsChoiceIn history w0 t c →
    LineHasOnly w2 n (equal_term (term_at w0.bank t) (term_at w0.bank c.first) ∷ not_term (term_at w0.bank c.test) ∷ []) → LineHasOnly w2 m (equal_term (term_at w0.bank t) (term_at w0.bank c.second) ∷ term_at w0.bank c.test ∷ []) → LinesShow w2 t c n m
lines_show history w0 w2 t c n m g02 term h one two =
    let t_is = same_term_grown history w0 w2 t g02 term in
    let p_is = same_term_grown history w0 w2 c.test g02 h.test in
    let l_is = same_term_grown history w0 w2 c.first g02 h.first in
    let r_is = same_term_grown history w0 w2 c.second g02 h.second in
    record { at_first = rw (t_is, l_is, p_is) one; at_second = rw (t_is, r_is, p_is) two }

pub one_in : (history : List Entry) (w : Work) (u : TermId) → IsTermIn history w u → AreTermsIn history w (u ∷ [])
one_in history w u h = All-push (IsTermIn history w) [] u (λ k e below. absurd (omega (arith, below))) h

-- the goals on the two sides of a test, with the literals in place
module _ (history : List Entry) (w : Work) (goal : List TermId) (i : ℕ) (d : TermId) where
  -- one side, from its line and the id of the test's literal
  pub turn_of_side : (q l : TermId) (n : ℕ) (next : Vec TermId Global) → i < length goal → AreTermsIn history w goal → IsTermIn history w q → IsTermIn history w l →
      LineHasOnly w n (equal_term (term_at w.bank (get_or goal i d)) (term_at w.bank l) ∷ term_at w.bank q ∷ []) → next.items ≡ put_in i (q ∷ l ∷ []) goal →
      IsTurn history w (term_at w.bank q ∷ terms_at w.bank goal) (record { old = get_or goal i d; new = l; line = n; next = next })
  turn_of_side q l n next below terms q_in l_in line is =
      let pre : List Term = terms_at w.bank (take i goal) in
      let post : List Term = terms_at w.bank (drop (i + 1) goal) in
      let t : Term = term_at w.bank (get_or goal i d) in
      let goal_is : terms_at w.bank goal ≡ pre ++ (t ∷ post) = around_one w goal i d below in
      let next_is : terms_at w.bank next.items ≡ (pre ++ (term_at w.bank q ∷ term_at w.bank l ∷ [])) ++ post = ap (terms_at w.bank) is ∙ put_terms w goal (q ∷ l ∷ []) i in
      let two : AreTermsIn history w (q ∷ l ∷ []) = All-append (IsTermIn history w) (q ∷ []) (l ∷ []) (one_in history w q q_in) (one_in history w l l_in) in
      record {
        old = terms i d below;
        new = l_in;
        line = only_stands w n (equal_term t (term_at w.bank l) ∷ term_at w.bank q ∷ []) line;
        next = subst (AreTermsIn history w) (sym is) (put_stands history w goal (q ∷ l ∷ []) i terms two);
        rewriting =
            subst (λ g. IsRewriting w t (term_at w.bank l) n (term_at w.bank q ∷ g) (terms_at w.bank next.items)) (sym goal_is)
            (subst (λ g. IsRewriting w t (term_at w.bank l) n (term_at w.bank q ∷ (pre ++ (t ∷ post))) g) (sym next_is) (side_is w pre post t (term_at w.bank l) (term_at w.bank q) n line));
      }

-- a rewritten literal, in place
pub turn_of_literal : (history : List Entry) (w : Work) (goal : List TermId) (i : ℕ) (d new : TermId) (n : ℕ) (next : Vec TermId Global) (others : List TermId) → i < length goal → AreTermsIn history w goal → IsTermIn history w new →
    others ≡ put_in i [] goal → LineHasOnly w n (equal_term (term_at w.bank (get_or goal i d)) (term_at w.bank new) ∷ terms_at w.bank others) → next.items ≡ put_in i (new ∷ []) goal → AreTermsIn history w (new ∷ []) →
    IsTurn history w (terms_at w.bank goal) (record { old = get_or goal i d; new = new; line = n; next = next })
turn_of_literal history w goal i d new n next others below terms new_in others_is line is one =
    let pre : List Term = terms_at w.bank (take i goal) in
    let post : List Term = terms_at w.bank (drop (i + 1) goal) in
    let t : Term = term_at w.bank (get_or goal i d) in
    let goal_is : terms_at w.bank goal ≡ pre ++ (t ∷ post) = around_one w goal i d below in
    let rest_is : terms_at w.bank others ≡ (pre ++ []) ++ post = ap (terms_at w.bank) others_is ∙ put_terms w goal [] i in
    let next_is : terms_at w.bank next.items ≡ (pre ++ (term_at w.bank new ∷ [])) ++ post = ap (terms_at w.bank) is ∙ put_terms w goal (new ∷ []) i in
    record {
      old = terms i d below;
      new = new_in;
      line = only_stands w n (equal_term t (term_at w.bank new) ∷ terms_at w.bank others) line;
      next = subst (AreTermsIn history w) (sym is) (put_stands history w goal (new ∷ []) i terms one);
      rewriting =
          subst (λ g. IsRewriting w t (term_at w.bank new) n g (terms_at w.bank next.items)) (sym goal_is)
          (subst (λ g. IsRewriting w t (term_at w.bank new) n (pre ++ (t ∷ post)) g) (sym next_is)
          (turn_is w pre post t (term_at w.bank new) n (subst (λ g. LineHasOnly w n (equal_term t (term_at w.bank new) ∷ g)) rest_is line)));
    }
