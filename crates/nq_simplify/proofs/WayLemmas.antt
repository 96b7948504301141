-- Ways as the work grows, and the lines that they lead back to.
use Rattle.std.proofs.Common.{◌≡◌, ℕ, zero, suc, ◌+◌, ◌-◌, ◌≤◌, ◌<◌, List, [], ◌∷◌, ◌++◌, length, take, drop, refl, sym, ap, ◌∙◌, subst, inl, inr, arith}
use Rattle.std.specs.Prelude.{All, slice_index_or}
use Rattle.std.proofs.lemmas.List.{take_all}
use Rattle.std.proofs.lemmas.List.Elements.{All-take, All-drop}
use Rattle.nq_logic.specs.Terms.{Term, IsAmong}
use Rattle.nq_logic.specs.Words.{not_term, equal_term}
use Rattle.nq_bank.specs.declared.node.TermId.{TermId}
use Rattle.nq_bank.specs.Content.{term_at}
use Rattle.nq_history.specs.declared.entry.Entry.{Entry}
use Rattle.nq_kernel.specs.declared.work.Work.{Work}
use Rattle.nq_kernel.specs.Growing.{WorkStands, WorkGrows, LineStands}
use Rattle.nq_kernel.proofs.GrowingLemmas.{WorkGrows-trans}
use Rattle.nq_proof.specs.Rules.{Backwards}
use Rattle.nq_lines.specs.Lines.{LineHasOnly, IsTermIn, CutsTo, RewritesTo}
use Rattle.nq_lines.proofs.LineLemmas.{only_grown, only_more, line_grown}
use Rattle.nq_lines.proofs.TermLemmas.{term_grown, same_term_grown}
use Rattle.nq_simplify.specs.declared.way.Way.{Way}
use Rattle.nq_simplify.specs.declared.way.Way.TheVariants.{Goal, Line, Rewritten', Cut'}
use Rattle.nq_simplify.specs.Ways.{Pointer, goal_count, WayStands, IsKept, InGoal, IsFalse, IsThinned, IsRewriting, IsWidened, way_size, LeadsTo, Leaves, Shows, Turns, Divides, HaveOnly, ClosesTo}

module _ (history : List Entry) (old new : Work) (stands : WorkStands history old) (grows : WorkGrows history old new) where
  pub way_grown : (w : Way) → WayStands history old w → WayStands history new w
  unfolding WayStands
  way_grown Goal h = tt
  way_grown (Line n) h = line_grown history old new n stands grows h
  way_grown (Rewritten' a b n p w) h =
      (term_grown history old new a stands grows h.0, term_grown history old new b stands grows h.1, line_grown history old new n stands grows h.2, way_grown w h.3)
  way_grown (Cut' t p v q w) h = (term_grown history old new t stands grows h.0, way_grown v h.1, way_grown w h.2)

  pub lines_grown : (lines : List ℕ) → All (LineStands old) lines → All (LineStands new) lines
  lines_grown lines h = λ k d lt. line_grown history old new (slice_index_or lines k d) stands grows (h k d lt)

  kept_grown : (goal : List Term) (p : Term) → IsKept old goal p → IsKept new goal p
  kept_grown goal p (InGoal m) = InGoal m
  kept_grown goal p (IsFalse n l) = IsFalse n (only_grown history old new n (not_term p ∷ goal) stands grows l)

  thinned_grown : (goal next : List Term) → IsThinned old goal next → IsThinned new goal next
  thinned_grown goal next h = record { less = h.less; kept = λ p m. kept_grown next p (h.kept p m) }

  pub rewriting_grown : (a b : Term) (n : ℕ) (goal next : List Term) → IsRewriting old a b n goal next → IsRewriting new a b n goal next
  rewriting_grown a b n goal next h =
      record {
        before = h.before;
        after = h.after;
        less = h.less;
        rest = h.rest;
        equation = only_grown history old new n (equal_term a b ∷ goal) stands grows h.equation;
        equation_next = only_grown history old new n (equal_term a b ∷ next) stands grows h.equation_next;
      }

  pub leads_grown : (w : Way) (goal : List Term) (nexts : List (List Term)) → WayStands history old w → LeadsTo old w goal nexts → LeadsTo new w goal nexts
  unfolding WayStands
  leads_grown Goal goal nexts h (Leaves g next thin) = Leaves g next (thinned_grown g next thin)
  leads_grown (Line n) goal nexts h (Shows m g l) = Shows m g (only_grown history old new m g stands grows l)
  leads_grown (Rewritten' a b n p w) goal nexts h (Turns a' b' n' p' w' g next ns r l) =
      Turns a' b' n' p' w' g next ns
      (subst (λ t. IsRewriting new t (term_at new.bank b') n' g next) (sym (same_term_grown history old new a' grows h.0))
      (subst (λ t. IsRewriting new (term_at old.bank a') t n' g next) (sym (same_term_grown history old new b' grows h.1)) (rewriting_grown (term_at old.bank a') (term_at old.bank b') n' g next r)))
      (leads_grown w' next ns h.3 l)
  leads_grown (Cut' t p v q w) goal nexts h (Divides t' p' q' v' w' g first second some others one two l k) =
      let e = sym (same_term_grown history old new t' grows h.0) in
      Divides t' p' q' v' w' g first second some others (subst (λ u. IsWidened u g first) e one) (subst (λ u. IsWidened (not_term u) g second) e two) (leads_grown v' first some h.1 l) (leads_grown w' second others h.2 k)

  pub have_grown : (lines : List ℕ) (goals : List (List Term)) → HaveOnly old lines goals → HaveOnly new lines goals
  have_grown [] [] h = tt
  have_grown [] (goal ∷ goals) h = absurd h
  have_grown (n ∷ lines) [] h = absurd h
  have_grown (n ∷ lines) (goal ∷ goals) h = (only_grown history old new n goal stands grows h.0, have_grown lines goals h.1)

append_length : (some others : List (List Term)) → length (some ++ others) ≡ length some + length others
append_length [] others = omega arith
append_length (g ∷ some) others = let e = append_length some others in omega (arith, e)

-- as many goals are left as are counted
pub counted : (work : Work) (w : Way) (goal : List Term) (nexts : List (List Term)) → LeadsTo work w goal nexts → length nexts ≡ goal_count w
counted work Goal goal nexts (Leaves g next thin) = refl
counted work (Line n) goal nexts (Shows m g l) = refl
counted work (Rewritten' a b n p w) goal nexts (Turns a' b' n' p' w' g next ns r l) = counted work w' next ns l
counted work (Cut' t p v q w) goal nexts (Divides t' p' q' v' w' g first second some others one two l k) =
    append_length some others ∙ ap (λ m. m + length others) (counted work v' first some l) ∙ ap (λ m. goal_count v' + m) (counted work w' second others k)

have_left : (work : Work) (lines : List ℕ) (some others : List (List Term)) → HaveOnly work lines (some ++ others) → HaveOnly work (take (length some) lines) some
have_left work lines [] others h = tt
have_left work [] (g ∷ some) others h = absurd h
have_left work (n ∷ lines) (g ∷ some) others h = (h.0, have_left work lines some others h.1)

have_right : (work : Work) (lines : List ℕ) (some others : List (List Term)) → HaveOnly work lines (some ++ others) → HaveOnly work (drop (length some) lines) others
have_right work lines [] others h = h
have_right work [] (g ∷ some) others h = absurd h
have_right work (n ∷ lines) (g ∷ some) others h = have_right work lines some others h.1

-- the two parts of the lines
pub first_lines : (P : ℕ → Type 0) (m : ℕ) (lines : List ℕ) → All P lines → All P (take m lines)
first_lines P m lines h = All-take P m lines h

pub rest_is : (m : ℕ) (lines : List ℕ) → take (length lines - m) (drop m lines) ≡ drop m lines
rest_is m lines = take_all (length lines - m) (drop m lines) (drop_short m lines)
  where
    drop_short : (m : ℕ) (lines : List ℕ) → length (drop m lines) ≤ length lines - m
    drop_short zero lines = omega arith
    drop_short (suc m) [] = omega arith
    drop_short (suc m) (n ∷ lines) = let e : length (drop m lines) ≤ length lines - m = drop_short m lines in let d : drop (suc m) (n ∷ lines) ≡ drop m lines = refl in subst (λ xs. length xs ≤ length (n ∷ lines) - suc m) (sym d) (omega (arith, e))

pub rest_lines : (P : ℕ → Type 0) (m : ℕ) (lines : List ℕ) → All P lines → All P (take (length lines - m) (drop m lines))
rest_lines P m lines h = subst (All P) (sym (rest_is m lines)) (All-drop P m lines h)

pub first_length : (m k : ℕ) (lines : List ℕ) → length lines ≡ m + k → length (take m lines) ≡ m
first_length zero k lines e = refl
first_length (suc m) k [] e = absurd (omega (arith, e))
first_length (suc m) k (n ∷ lines) e = ap suc (first_length m k lines (omega (arith, e)))

pub rest_length : (m k : ℕ) (lines : List ℕ) → length lines ≡ m + k → length (take (length lines - m) (drop m lines)) ≡ k
rest_length m k lines e = ap length (rest_is m lines) ∙ dropped m lines e
  where
    dropped : (m : ℕ) (lines : List ℕ) → length lines ≡ m + k → length (drop m lines) ≡ k
    dropped zero lines e = omega (arith, e)
    dropped (suc m) [] e = absurd (omega (arith, e))
    dropped (suc m) (n ∷ lines) e = dropped m lines (omega (arith, e))

-- a goal that is left
pub closes_goal : (work : Work) (n : ℕ) (lines : List ℕ) → lines ≡ n ∷ [] → ClosesTo work work Goal lines n
closes_goal work n lines e goal nexts l h = by_leads goal nexts l (subst (λ ns. HaveOnly work ns nexts) e h)
  where
    by_leads : (goal : List Term) (nexts : List (List Term)) → LeadsTo work Goal goal nexts → HaveOnly work (n ∷ []) nexts → LineHasOnly work n goal
    by_leads goal nexts (Leaves g next thin) h = only_more work n next g thin.less h.0

-- a line that is there
pub closes_line : (work : Work) (n : ℕ) (lines : List ℕ) → ClosesTo work work (Line n) lines n
closes_line work n lines goal nexts (Shows m g l) h = l

-- a rewritten literal, by ids whose terms are known
pub rewrites_by : (old new : Work) (t u p q : Term) (line equation n : ℕ) → t ≡ p → u ≡ q → RewritesTo old new Backwards t u line equation n → RewritesTo old new Backwards p q line equation n
rewrites_by old new t u p q line equation n e f h = subst (λ v. RewritesTo old new Backwards p v line equation n) f (subst (λ v. RewritesTo old new Backwards v u line equation n) e h)

module _ (history : List Entry) (w0 w1 w2 : Work) (stands : WorkStands history w0) (one : WorkGrows history w0 w1) where
  closes_rewritten_way : (a b : TermId) (n p : ℕ) (q : Pointer) (w : Way) (lines : List ℕ) (m : ℕ) → ClosesTo w0 w1 w lines m → RewritesTo w1 w2 Backwards (term_at w0.bank b) (term_at w0.bank a) m n p → ClosesTo w0 w2 (Rewritten' a b n q w) lines p
  closes_rewritten_way a b n p q w lines m closes f goal nexts (Turns a' b' n' q' w' g next ns r l) h =
      only_more w2 p (term_at w0.bank a' ∷ g) g (λ t k. elim k [ inl e ↦ subst (λ u. IsAmong u g) (sym e) r.before | inr i ↦ i ])
      (f g (only_more w1 m next (term_at w0.bank b' ∷ g) r.less (closes next ns l h))
      (only_grown history w0 w1 n' (equal_term (term_at w0.bank a') (term_at w0.bank b') ∷ g) stands one r.equation))

  pub closes_rewritten : {way w : Way} {a b : TermId} {n : ℕ} {q : Pointer} → way ≡ Rewritten' a b n q w → (lines : List ℕ) (m p : ℕ) → WayStands history w0 way → ClosesTo w0 w1 w lines m → RewritesTo w1 w2 Backwards (term_at w1.bank b) (term_at w1.bank a) m n p → ClosesTo w0 w2 way lines p
  unfolding WayStands
  closes_rewritten {w = w} {a = a} {b = b} {n = n} {q = q} e lines m p ways closes f =
      let k : WayStands history w0 (Rewritten' a b n q w) = subst (WayStands history w0) e ways in
      let g = rewrites_by w1 w2 (term_at w1.bank b) (term_at w1.bank a) (term_at w0.bank b) (term_at w0.bank a) m n p (same_term_grown history w0 w1 b one k.1) (same_term_grown history w0 w1 a one k.0) f in
      subst (λ v. ClosesTo w0 w2 v lines p) (sym e) (closes_rewritten_way a b n p q w lines m closes g)

module _ (history : List Entry) (w0 w1 w2 w3 : Work) (stands : WorkStands history w0) (one : WorkGrows history w0 w1) (two : WorkGrows history w1 w2) where
  closes_cut_way : (t : TermId) (p q : Pointer) (v w : Way) (lines : List ℕ) (m k n : ℕ) → WayStands history w0 w → ClosesTo w0 w1 v (take (goal_count v) lines) m → ClosesTo w1 w2 w (take (length lines - goal_count v) (drop (goal_count v) lines)) k →
      CutsTo w2 w3 (term_at w0.bank t) m k n → ClosesTo w0 w3 (Cut' t p v q w) lines n
  closes_cut_way t p q v w lines m k n ways first second cuts goal nexts (Divides t' p' q' v' w' g g1 g2 some others a b l r) h =
      let u : Term = term_at w0.bank t' in
      let e : length some ≡ goal_count v' = counted w0 v' g1 some l in
      let left : HaveOnly w0 (take (goal_count v') lines) some = subst (λ c. HaveOnly w0 (take c lines) some) e (have_left w0 lines some others h) in
      let right : HaveOnly w0 (drop (goal_count v') lines) others = subst (λ c. HaveOnly w0 (drop c lines) others) e (have_right w0 lines some others h) in
      cuts g
      (only_more w2 m g1 (u ∷ g) a.less (only_grown history w1 w2 m g1 one.stands two (first g1 some l left)))
      (only_more w2 k g2 (not_term u ∷ g) b.less
      (second g2 others (leads_grown history w0 w1 stands one w' g2 others ways r)
      (have_grown history w0 w1 stands one (take (length lines - goal_count v') (drop (goal_count v') lines)) others (subst (λ ns. HaveOnly w0 ns others) (sym (rest_is (goal_count v') lines)) right))))

  pub closes_cut : {way v w : Way} {t : TermId} {p q : Pointer} → way ≡ Cut' t p v q w → (lines : List ℕ) (c m k n : ℕ) → c ≡ goal_count v → WayStands history w0 way → ClosesTo w0 w1 v (take c lines) m → ClosesTo w1 w2 w (take (length lines - c) (drop c lines)) k →
      CutsTo w2 w3 (term_at w2.bank t) m k n → ClosesTo w0 w3 way lines n
  unfolding WayStands
  closes_cut {v = v} {w = w} {t = t} {p = p} {q = q} e lines c m k n count ways first second cuts =
      let s : WayStands history w0 (Cut' t p v q w) = subst (WayStands history w0) e ways in
      let same : term_at w2.bank t ≡ term_at w0.bank t = same_term_grown history w0 w2 t (WorkGrows-trans history w0 w1 w2 one two) s.0 in
      subst (λ x. ClosesTo w0 w3 x lines n) (sym e)
      (closes_cut_way t p q v w lines m k n s.2 (subst (λ d. ClosesTo w0 w1 v (take d lines) m) count first)
      (subst (λ d. ClosesTo w1 w2 w (take (length lines - d) (drop d lines)) k) count second) (subst (λ u. CutsTo w2 w3 u m k n) same cuts))

-- what a way that stands tells of its parts
pub way_of_goal : (old new : Work) (w : Way) (n : ℕ) (lines : List ℕ) → w ≡ Goal → lines ≡ n ∷ [] → ClosesTo old old w lines n
way_of_goal old new w n lines e k = subst (λ v. ClosesTo old old v lines n) (sym e) (closes_goal old n lines k)

pub one_line : (lines : List ℕ) → length lines ≡ 1 → (d : ℕ) → lines ≡ slice_index_or lines 0 d ∷ []
one_line [] e d = absurd (omega (arith, e))
one_line (n ∷ []) e d = refl
one_line (n ∷ m ∷ lines) e d = absurd (omega (arith, e))

module _ (history : List Entry) (work : Work) where
  pub stands_line : {w : Way} {n : ℕ} → w ≡ Line n → WayStands history work w → LineStands work n
  unfolding WayStands
  stands_line {n = n} e h = subst (WayStands history work) e h

  pub stands_rewritten : {w v : Way} {a b : TermId} {n : ℕ} {p : Pointer} → w ≡ Rewritten' a b n p v → WayStands history work w → IsTermIn history work a × IsTermIn history work b × LineStands work n × WayStands history work v
  unfolding WayStands
  stands_rewritten e h = subst (WayStands history work) e h

  pub stands_cut : {w v v' : Way} {t : TermId} {p q : Pointer} → w ≡ Cut' t p v q v' → WayStands history work w → IsTermIn history work t × WayStands history work v × WayStands history work v'
  unfolding WayStands
  stands_cut e h = subst (WayStands history work) e h

-- each part of a way has fewer steps
pub rewritten_falls : {w v : Way} {a b : TermId} {n : ℕ} {p : Pointer} → w ≡ Rewritten' a b n p v → (u : Way) → u ≡ v → way_size u < way_size w
rewritten_falls {v = v} e u k = let s : way_size u ≡ way_size v = ap way_size k in let d = ap way_size e in omega (arith, s, d)

pub first_falls : {w v v' : Way} {t : TermId} {p q : Pointer} → w ≡ Cut' t p v q v' → (u : Way) → u ≡ v → way_size u < way_size w
first_falls {v = v} e u k = let s : way_size u ≡ way_size v = ap way_size k in let d = ap way_size e in omega (arith, s, d)

pub second_falls : {w v v' : Way} {t : TermId} {p q : Pointer} → w ≡ Cut' t p v q v' → (u : Way) → u ≡ v' → way_size u < way_size w
second_falls {v' = v'} e u k = let s : way_size u ≡ way_size v' = ap way_size k in let d = ap way_size e in omega (arith, s, d)
