-- Goals of an induction, one literal and one goal after the other.
use Rattle.std.proofs.Common.{◌≡◌, ◌<◌, ◌+◌, ◌∙◌, ℕ, zero, suc, arith, List, [], ◌∷◌, ◌++◌, map, length, get_or, take, refl, sym, ap, ap₂, subst}
use Rattle.std.specs.Prelude.{All, Vec}
use Rattle.std.specs.declared.alloc.Global.{Global}
use Rattle.std.proofs.lemmas.List.{take_more}
use Rattle.nq_logic.specs.Terms.{Term, substituted}
use Rattle.nq_logic.specs.Words.{not_term}
use Rattle.nq_logic.specs.Laws.{denied}
use Rattle.nq_bank.specs.declared.node.TermId.{TermId}
use Rattle.nq_bank.specs.Content.{Content, IsIdOf, term_at, terms_at}
use Rattle.nq_bank.proofs.NodesLemmas.{All-head, All-tail}
use Rattle.nq_bank.proofs.Standing.{All-push}
use Rattle.nq_clause.specs.Substitution.{substitution_at}
use Rattle.nq_rule.specs.declared.induction.InductionStep.{InductionStep}
use Rattle.nq_rule.specs.Inductions.{substitutions_at}
use Rattle.nq_history.specs.declared.entry.Entry.{Entry}
use Rattle.nq_kernel.specs.declared.work.Work.{Work}
use Rattle.nq_kernel.specs.Growing.{WorkStands, WorkGrows}
use Rattle.nq_lines.specs.Lines.{IsTermIn}
use Rattle.nq_lines.specs.Instances.{ArePairsIn}
use Rattle.nq_induct.specs.declared.scheme.Case.{Case}
use Rattle.nq_induct.specs.Goals.{AreTermsIn, clauses_at, tests_at}
use Rattle.nq_induct.proofs.GrownLemmas.{terms_in_grown, same_terms}

pub terms_both : (bank : Content) (ts us : List TermId) → terms_at bank (ts ++ us) ≡ terms_at bank ts ++ terms_at bank us
terms_both bank [] us = refl
terms_both bank (t ∷ ts) us = ap (λ vs. term_at bank t ∷ vs) (terms_both bank ts us)

pub all_both : {X : Type 0} (P : X → Type 0) (xs ys : List X) → All P xs → All P ys → All P (xs ++ ys)
all_both P xs [] h k = subst (All P) (nothing xs) h
  where
    nothing : {Y : Type 0} (zs : List Y) → zs ≡ zs ++ []
    nothing [] = refl
    nothing (z ∷ zs) = ap (λ vs. z ∷ vs) (nothing zs)
all_both P xs (y ∷ ys) h k = subst (All P) (one_by_one xs y ys) (all_both P (xs ++ y ∷ []) ys (All-push P xs y h (All-head P y ys k)) (All-tail P y ys k))
  where
    one_by_one : {Y : Type 0} (zs : List Y) (v : Y) (vs : List Y) → (zs ++ v ∷ []) ++ vs ≡ zs ++ v ∷ vs
    one_by_one [] v vs = refl
    one_by_one (z ∷ zs) v vs = ap (λ us. z ∷ us) (one_by_one zs v vs)

pub tests_told : (bank : Content) (cases : List Case) → terms_at bank (map (λ c. c.test) cases) ≡ tests_at bank cases
tests_told bank [] = refl
tests_told bank (c ∷ cases) = ap (λ ts. term_at bank c.test ∷ ts) (tests_told bank cases)

denied_push : (bank : Content) (p : Term) (steps : List InductionStep) (s : InductionStep) → denied p (substitutions_at bank (steps ++ s ∷ [])) ≡ denied p (substitutions_at bank steps) ++ not_term (substituted (substitution_at bank s.pairs.items) p) ∷ []
denied_push bank p [] s = refl
denied_push bank p (r ∷ steps) s = ap (λ ts. not_term (substituted (substitution_at bank r.pairs.items) p) ∷ ts) (denied_push bank p steps s)

pub denied_more : (bank : Content) (p : Term) (steps : List InductionStep) (i : ℕ) (d : InductionStep) → i < length steps → denied p (substitutions_at bank (take (i + 1) steps)) ≡ denied p (substitutions_at bank (take i steps)) ++ not_term (substituted (substitution_at bank (get_or steps i d).pairs.items) p) ∷ []
denied_more bank p steps i d below = ap (λ ss. denied p (substitutions_at bank ss)) (take_more steps i d below) ∙ denied_push bank p (take i steps) (get_or steps i d)

pub denied_next : (bank : Content) (p : Term) (steps : List InductionStep) (i : ℕ) (s : InductionStep) → i < length steps → s ≡ get_or steps i s → denied p (substitutions_at bank (take (i + 1) steps)) ≡ denied p (substitutions_at bank (take i steps)) ++ not_term (substituted (substitution_at bank s.pairs.items) p) ∷ []
denied_next bank p steps i s below is = denied_more bank p steps i s below ∙ ap (λ (r : InductionStep). denied p (substitutions_at bank (take i steps)) ++ not_term (substituted (substitution_at bank r.pairs.items) p) ∷ []) (sym is)

-- the pairs of a substitution of the list
pub item_in : (history : List Entry) (work : Work) (steps : List InductionStep) (i : ℕ) (s : InductionStep) → All (λ r. ArePairsIn history work r.pairs.items) steps → i < length steps → s ≡ get_or steps i s → ArePairsIn history work s.pairs.items
item_in history work steps i s all below is = subst (λ (r : InductionStep). ArePairsIn history work r.pairs.items) (sym is) (all i s below)

module _ (history : List Entry) (w1 w2 : Work) (stands : WorkStands history w1) (grows : WorkGrows history w1 w2) where
  -- one term more
  pub terms_push : (ts : List TermId) (t : TermId) (c : List Term) (u : Term) → AreTermsIn history w1 ts → terms_at w1.bank ts ≡ c → IsIdOf w2.bank t u → terms_at w2.bank (ts ++ t ∷ []) ≡ c ++ u ∷ []
  terms_push ts t c u over e is = terms_both w2.bank ts (t ∷ []) ∙ ap₂ (λ (vs : List Term) (v : Term). vs ++ v ∷ []) (same_terms history w1 w2 stands grows ts over ∙ e) is.denotes

  pub over_push : (ts : List TermId) (t : TermId) → AreTermsIn history w1 ts → IsTermIn history w2 t → AreTermsIn history w2 (ts ++ t ∷ [])
  over_push ts t over h = All-push (IsTermIn history w2) ts t (terms_in_grown history w1 w2 stands grows ts over) h

  abbrev Over : Work → Vec TermId Global → Type 0
  Over w g = AreTermsIn history w g.items

  pub clauses_over : (gs : List (Vec TermId Global)) → All (λ g. AreTermsIn history w1 g.items) gs → All (λ g. AreTermsIn history w2 g.items) gs
  clauses_over gs h = λ k d below. terms_in_grown history w1 w2 stands grows (get_or gs k d).items (h k d below)

  pub same_clauses : (gs : List (Vec TermId Global)) → All (λ g. AreTermsIn history w1 g.items) gs → clauses_at w2.bank gs ≡ clauses_at w1.bank gs
  same_clauses [] h = refl
  same_clauses (g ∷ gs) h =
      let P : Vec TermId Global → Type 0 = λ v. AreTermsIn history w1 v.items in
      ap₂ (λ (c : List Term) (cs : List (List Term)). c ∷ cs) (same_terms history w1 w2 stands grows g.items (All-head P g gs h)) (same_clauses gs (All-tail P g gs h))

pub clauses_both : (bank : Content) (gs : List (Vec TermId Global)) (g : Vec TermId Global) → clauses_at bank (gs ++ g ∷ []) ≡ clauses_at bank gs ++ terms_at bank g.items ∷ []
clauses_both bank [] g = refl
clauses_both bank (f ∷ gs) g = ap (λ cs. terms_at bank f.items ∷ cs) (clauses_both bank gs g)

all_first : {X : Type 0} (P : X → Type 0) (x : X) (xs : List X) → P x → All P xs → All P (x ∷ xs)
all_first P x xs here rest zero d below = here
all_first P x xs here rest (suc k) d below = rest k d (omega (arith, below))

-- the NOT of a test, the literals of a goal, and hypotheses
pub whole_told : (bank : Content) (whole : List TermId) (q : TermId) (given hyps goal : List TermId) (t : Term) (c d : List Term) → whole ≡ q ∷ (goal ++ given) → given ≡ hyps → term_at bank q ≡ t → terms_at bank hyps ≡ c → terms_at bank goal ≡ d → terms_at bank whole ≡ t ∷ (d ++ c)
whole_told bank whole q given hyps goal t c d e same test hs gs =
    ap (terms_at bank) (e ∙ ap (λ (ids : List TermId). q ∷ (goal ++ ids)) same) ∙
    ap₂ (λ (u : Term) (us : List Term). u ∷ us) test (terms_both bank goal hyps ∙ ap₂ (λ (us vs : List Term). us ++ vs) gs hs)

pub whole_over : (history : List Entry) (work : Work) (whole : List TermId) (q : TermId) (given hyps goal : List TermId) → whole ≡ q ∷ (goal ++ given) → given ≡ hyps → IsTermIn history work q → AreTermsIn history work hyps → AreTermsIn history work goal → AreTermsIn history work whole
whole_over history work whole q given hyps goal e same test hs gs =
    subst (AreTermsIn history work) (sym (e ∙ ap (λ (ids : List TermId). q ∷ (goal ++ ids)) same)) (all_first (IsTermIn history work) q (goal ++ hyps) test (all_both (IsTermIn history work) goal hyps gs hs))
