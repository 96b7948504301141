-- Goals that are left without their literals F.
use Rattle.std.proofs.Common.{◌≡◌, ℕ, ◌+◌, ◌<◌, ◌==◌, Bool, true, false, List, [], ◌∷◌, ◌++◌, length, take, get_or, refl, sym, ap, ◌∙◌, subst, inl, inr, arith}
use Rattle.std.specs.declared.alloc.Global.{Global}
use Rattle.std.specs.Prelude.{if◌then◌else◌, not, All, Vec}
use Rattle.std.proofs.lemmas.List.{take_more, append-nil}
use Rattle.std.proofs.lemmas.List.Elements.{All-cons, All-head, All-tail}
use Rattle.std.proofs.lemmas.Bool.{eqb-true}
use Rattle.nq_logic.specs.Terms.{Term, IsAmong}
use Rattle.nq_logic.specs.Words.{not_term, false_term}
use Rattle.nq_bank.specs.declared.node.TermId.{TermId}
use Rattle.nq_bank.specs.Content.{term_at, terms_at}
use Rattle.nq_kernel.specs.declared.work.Work.{Work}
use Rattle.nq_history.specs.declared.entry.Entry.{Entry}
use Rattle.nq_cases.specs.Cases.{clauses_at}
use Rattle.nq_lines.specs.Lines.{AreAmong, LineHasOnly, IsTermIn}
use Rattle.nq_lines.proofs.LineLemmas.{only_more}
use Rattle.nq_simplify.specs.declared.way.Way.TheVariants.{Goal}
use Rattle.nq_simplify.specs.declared.basis.Basis.{Basis}
use Rattle.nq_simplify.specs.declared.steps.Simplified.{Simplified}
use Rattle.nq_simplify.specs.Ways.{WayStands, IsKept, InGoal, IsFalse, LeadsTo, Leaves}
use Rattle.nq_simplify.specs.Simplified.{AreTermsIn, BasisStands, IsSimplified, literals_but}

module _ (work : Work) (f : TermId) (n : ℕ) (is : term_at work.bank f ≡ false_term) (line : LineHasOnly work n (not_term false_term ∷ [])) where
  but_among : (ids : List TermId) → AreAmong (terms_at work.bank (literals_but f ids)) (terms_at work.bank ids)
  but_among [] u m = m
  but_among (t ∷ ids) u m = by_test (but_among ids u) (t.0 == f.0) m
    where
      by_test : (IsAmong u (terms_at work.bank (literals_but f ids)) → IsAmong u (terms_at work.bank ids)) → (b : Bool) → IsAmong u (terms_at work.bank (if b then literals_but f ids else t ∷ literals_but f ids)) → IsAmong u (term_at work.bank t ∷ terms_at work.bank ids)
      by_test again true m = inr (again m)
      by_test again false (inl e) = inl e
      by_test again false (inr m) = inr (again m)

  kept_more : (p q : Term) (next : List Term) → IsKept work next p → IsKept work (q ∷ next) p
  kept_more p q next (InGoal m) = InGoal (inr m)
  kept_more p q next (IsFalse k l) = IsFalse k (only_more work k (not_term p ∷ next) (not_term p ∷ q ∷ next) (λ u m. elim m [ inl e ↦ inl e | inr o ↦ inr (inr o) ]) l)

  false_kept : (p : Term) (next : List Term) → p ≡ false_term → IsKept work next p
  false_kept p next e = IsFalse n (only_more work n (not_term false_term ∷ []) (not_term p ∷ next) (λ u m. elim m [ inl same ↦ inl (same ∙ ap not_term (sym e)) | inr none ↦ absurd none ]) line)

  but_kept : (ids : List TermId) (p : Term) → IsAmong p (terms_at work.bank ids) → IsKept work (terms_at work.bank (literals_but f ids)) p
  but_kept [] p m = absurd m
  but_kept (t ∷ ids) p m = by_test (but_kept ids p) (t.0 == f.0) refl m
    where
      by_test : (IsAmong p (terms_at work.bank ids) → IsKept work (terms_at work.bank (literals_but f ids)) p) → (b : Bool) → (t.0 == f.0) ≡ b → IsAmong p (term_at work.bank t ∷ terms_at work.bank ids) → IsKept work (terms_at work.bank (if b then literals_but f ids else t ∷ literals_but f ids)) p
      by_test again true same (inl e) = false_kept p (terms_at work.bank (literals_but f ids)) (e ∙ ap (λ k. term_at work.bank (record { 0 = k })) (eqb-true t.0 f.0 same) ∙ is)
      by_test again true same (inr m) = again m
      by_test again false same (inl e) = InGoal (inl e)
      by_test again false same (inr m) = kept_more p (term_at work.bank t) (terms_at work.bank (literals_but f ids)) (again m)

  pub left_goal : (ids : List TermId) → LeadsTo work Goal (terms_at work.bank ids) (terms_at work.bank (literals_but f ids) ∷ [])
  left_goal ids = Leaves (terms_at work.bank ids) (terms_at work.bank (literals_but f ids)) (record { less = but_among ids; kept = but_kept ids })

if_not_false : (b : Bool) → not b ≡ false → b ≡ true
if_not_false true e = refl
if_not_false false e = absurd cc

if_not_true : (b : Bool) → not b ≡ true → b ≡ false
if_not_true true e = absurd cc
if_not_true false e = refl

but_append : (f : TermId) (xs ys : List TermId) → literals_but f (xs ++ ys) ≡ literals_but f xs ++ literals_but f ys
but_append f [] ys = refl
but_append f (t ∷ xs) ys = by_test (but_append f xs ys) (t.0 == f.0)
  where
    by_test : literals_but f (xs ++ ys) ≡ literals_but f xs ++ literals_but f ys → (b : Bool) → (if b then literals_but f (xs ++ ys) else t ∷ literals_but f (xs ++ ys)) ≡ (if b then literals_but f xs else t ∷ literals_but f xs) ++ literals_but f ys
    by_test again true = again
    by_test again false = ap (λ ts. t ∷ ts) again

-- what is kept after one more literal
but_more : (f : TermId) (ids : List TermId) (i : ℕ) (d : TermId) → i < length ids → literals_but f (take (i + 1) ids) ≡ literals_but f (take i ids) ++ literals_but f (get_or ids i d ∷ [])
but_more f ids i d below = ap (literals_but f) (take_more ids i d below) ∙ but_append f (take i ids) (get_or ids i d ∷ [])

pub but_dropped : (f : TermId) (ids : List TermId) (i : ℕ) (d : TermId) → i < length ids → not ((get_or ids i d).0 == f.0) ≡ false → literals_but f (take (i + 1) ids) ≡ literals_but f (take i ids)
but_dropped f ids i d below same =
    but_more f ids i d below ∙ ap (λ b. literals_but f (take i ids) ++ (if b then [] else get_or ids i d ∷ [])) (if_not_false ((get_or ids i d).0 == f.0) same) ∙ append-nil (literals_but f (take i ids))

pub but_kept_on : (f : TermId) (ids : List TermId) (i : ℕ) (d : TermId) → i < length ids → not ((get_or ids i d).0 == f.0) ≡ true → literals_but f (take (i + 1) ids) ≡ literals_but f (take i ids) ++ (get_or ids i d ∷ [])
but_kept_on f ids i d below differs =
    but_more f ids i d below ∙ ap (λ b. literals_but f (take i ids) ++ (if b then [] else get_or ids i d ∷ [])) (if_not_true ((get_or ids i d).0 == f.0) differs)

but_in : (history : List Entry) (work : Work) (f : TermId) (ids : List TermId) → AreTermsIn history work ids → AreTermsIn history work (literals_but f ids)
but_in history work f [] h = h
but_in history work f (t ∷ ids) h = by_test (but_in history work f ids (All-tail (IsTermIn history work) t ids h)) (t.0 == f.0)
  where
    by_test : AreTermsIn history work (literals_but f ids) → (b : Bool) → AreTermsIn history work (if b then literals_but f ids else t ∷ literals_but f ids)
    by_test again true = again
    by_test again false = All-cons (IsTermIn history work) t (literals_but f ids) (All-head (IsTermIn history work) t ids h) again

-- a goal that is left without its literals F
pub left_is : (history : List Entry) (work : Work) (b : Basis) (goal : List TermId) (kept : Vec TermId Global) (s : Simplified) → BasisStands history work b → AreTermsIn history work goal → kept.items ≡ literals_but b.falsity goal → s.way ≡ Goal → s.nexts.items ≡ kept ∷ [] →
    IsSimplified history work (terms_at work.bank goal) s
unfolding WayStands
left_is history work b goal kept s basis terms kept_is way nexts_is =
    let goals_is : clauses_at work.bank s.nexts.items ≡ terms_at work.bank (literals_but b.falsity goal) ∷ [] = ap (clauses_at work.bank) nexts_is ∙ ap (λ ids. terms_at work.bank ids ∷ []) kept_is in
    record {
      way = subst (WayStands history work) (sym way) tt;
      nexts =
          subst (All (λ c. AreTermsIn history work c.items)) (sym nexts_is)
          (All-cons (λ c. AreTermsIn history work c.items) kept [] (subst (AreTermsIn history work) (sym kept_is) (but_in history work b.falsity goal terms)) (λ k d below. absurd (omega (arith, below))));
      leads =
          subst (λ gs. LeadsTo work s.way (terms_at work.bank goal) gs) (sym goals_is)
          (subst (λ w. LeadsTo work w (terms_at work.bank goal) (terms_at work.bank (literals_but b.falsity goal) ∷ [])) (sym way) (left_goal work b.falsity b.not_false basis.falsity_is basis.not_false goal));
    }
