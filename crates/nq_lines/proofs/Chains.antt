-- What is known of work, after it grew.
use Rattle.std.proofs.Common.{◌≡◌, ℕ, List, [], ◌∷◌, refl, sym, subst, inl, inr}
use Rattle.nq_logic.specs.Terms.{Term}
use Rattle.nq_logic.specs.Words.{not_term}
use Rattle.nq_proof.specs.Rules.{Side, Forwards, Backwards, used_equation}
use Rattle.nq_history.specs.declared.entry.Entry.{Entry}
use Rattle.nq_kernel.specs.declared.work.Work.{Work}
use Rattle.nq_kernel.specs.Growing.{WorkStands, WorkGrows}
use Rattle.nq_kernel.proofs.GrowingLemmas.{WorkGrows-trans}
use Rattle.nq_lines.specs.Lines.{LineHasOnly, LineLeads, CutsTo, DischargesTo, RewritesTo, RewritesDenial, equation_of}
use Rattle.nq_lines.proofs.Among.{none_among, and_among, under, beside}
use Rattle.nq_lines.proofs.LineLemmas.{leads_only, only_grown, only_more}

pub grows_twice : (history : List Entry) (a b c : Work) → WorkGrows history a b → WorkGrows history b c → WorkGrows history a c
grows_twice history a b c one two = WorkGrows-trans history a b c one two

pub grows_thrice : (history : List Entry) (a b c d : Work) → WorkGrows history a b → WorkGrows history b c → WorkGrows history c d → WorkGrows history a d
grows_thrice history a b c d one two three = WorkGrows-trans history a b d one (WorkGrows-trans history b c d two three)

-- a cut by an id whose term is known
pub cuts_by : (old new : Work) (t p : Term) (a b n : ℕ) → t ≡ p → CutsTo old new t a b n → CutsTo old new p a b n
cuts_by old new t p a b n e h = subst (λ v. CutsTo old new v a b n) e h

pub used_is : (side : Side) (t u : Term) → used_equation side t u ≡ not_term (equation_of side t u)
used_is Forwards t u = refl
used_is Backwards t u = refl

-- an equation discharged by ids whose terms are known
pub discharges_by : (old new : Work) (side : Side) (t u p q : Term) (line equation n : ℕ) → t ≡ p → u ≡ q → DischargesTo old new side t u line equation n → DischargesTo old new side p q line equation n
discharges_by old new side t u p q line equation n e f h =
    subst (λ v. DischargesTo old new side p v line equation n) f (subst (λ v. DischargesTo old new side v u line equation n) e h)

module _ (history : List Entry) (w0 w1 w2 w3 : Work) (side : Side) (t u : Term) (line equation law rest n : ℕ) (stands : WorkStands history w0) (one : WorkGrows history w0 w1) (two : WorkGrows history w1 w2) where
  -- a literal rewritten by the law of the transfer
  pub rewritten : LineLeads w1 law u (used_equation side t u ∷ not_term t ∷ []) → CutsTo w1 w2 t line law rest → DischargesTo w2 w3 side t u rest equation n → RewritesTo w0 w3 side t u line equation n
  rewritten leads cuts discharges these here shown =
      let e : Term = used_equation side t u in
      let eq : Term = equation_of side t u in
      let more : List Term = e ∷ u ∷ these in
      discharges (u ∷ these)
      (cuts more
      (only_more w1 line (t ∷ these) (t ∷ more) (beside t these more (under e these (u ∷ these) (under u these these (λ v m. m)))) (only_grown history w0 w1 line (t ∷ these) stands one here))
      (only_more w1 law (u ∷ e ∷ not_term t ∷ []) (not_term t ∷ more)
      (and_among u (e ∷ not_term t ∷ []) (not_term t ∷ more) (inr (inr (inl refl))) (and_among e (not_term t ∷ []) (not_term t ∷ more) (inr (inl refl)) (and_among (not_term t) [] (not_term t ∷ more) (inl refl) (none_among (not_term t ∷ more)))))
      (leads_only w1 law u (e ∷ not_term t ∷ []) leads)))
      (only_grown history w0 w2 equation (eq ∷ u ∷ these) stands (grows_twice history w0 w1 w2 one two)
      (only_more w0 equation (eq ∷ these) (eq ∷ u ∷ these) (beside eq these (u ∷ these) (under u these these (λ v m. m))) shown))

  -- a denial rewritten by the law of the transfer the other way
  pub denial_rewritten : (other : Side) → equation_of other u t ≡ equation_of side t u → LineLeads w1 law t (used_equation other u t ∷ not_term u ∷ []) → CutsTo w1 w2 t law line rest → DischargesTo w2 w3 other u t rest equation n → RewritesDenial w0 w3 side t u line equation n
  denial_rewritten other same leads cuts discharges these here shown =
      let e : Term = used_equation other u t in
      let eq : Term = equation_of other u t in
      let d : Term = not_term u in
      let more : List Term = e ∷ d ∷ these in
      discharges (d ∷ these)
      (cuts more
      (only_more w1 law (t ∷ e ∷ d ∷ []) (t ∷ more)
      (beside t (e ∷ d ∷ []) more (beside e (d ∷ []) (d ∷ these) (beside d [] these (none_among these))))
      (leads_only w1 law t (e ∷ d ∷ []) leads))
      (only_more w1 line (not_term t ∷ these) (not_term t ∷ more) (beside (not_term t) these more (under e these (d ∷ these) (under d these these (λ v m. m)))) (only_grown history w0 w1 line (not_term t ∷ these) stands one here)))
      (only_grown history w0 w2 equation (eq ∷ d ∷ these) stands (grows_twice history w0 w1 w2 one two)
      (only_more w0 equation (eq ∷ these) (eq ∷ d ∷ these) (beside eq these (d ∷ these) (under d these these (λ v m. m))) (subst (λ v. LineHasOnly w0 equation (v ∷ these)) (sym same) shown)))

module _ (history : List Entry) (w0 w1 w2 : Work) (t made : Term) (line law n : ℕ) (stands : WorkStands history w0) (grows : WorkGrows history w0 w1) where
  -- a cut of a line and of a law without premises, by the literal that the line shows
  pub made_by_cut : LineHasOnly w1 law (not_term t ∷ made ∷ []) → CutsTo w1 w2 t line law n → (these : List Term) → LineHasOnly w0 line (t ∷ these) → LineHasOnly w2 n (made ∷ these)
  made_by_cut has cuts these here =
      cuts (made ∷ these)
      (only_more w1 line (t ∷ these) (t ∷ made ∷ these) (beside t these (made ∷ these) (under made these these (λ v m. m))) (only_grown history w0 w1 line (t ∷ these) stands grows here))
      (only_more w1 law (not_term t ∷ made ∷ []) (not_term t ∷ made ∷ these) (beside (not_term t) (made ∷ []) (made ∷ these) (beside made [] these (none_among these))) has)

  -- or by its denial
  pub made_by_denial : LineHasOnly w1 law (t ∷ made ∷ []) → CutsTo w1 w2 t law line n → (these : List Term) → LineHasOnly w0 line (not_term t ∷ these) → LineHasOnly w2 n (made ∷ these)
  made_by_denial has cuts these here =
      cuts (made ∷ these)
      (only_more w1 law (t ∷ made ∷ []) (t ∷ made ∷ these) (beside t (made ∷ []) (made ∷ these) (beside made [] these (none_among these))) has)
      (only_more w1 line (not_term t ∷ these) (not_term t ∷ made ∷ these) (beside (not_term t) these (made ∷ these) (under made these these (λ v m. m))) (only_grown history w0 w1 line (not_term t ∷ these) stands grows here))

  -- or by the equation that the law uses
  pub made_by_equation : (side : Side) (a b : Term) → LineLeads w1 law made (used_equation side a b ∷ []) → DischargesTo w1 w2 side a b law line n → (these : List Term) → LineHasOnly w0 line (equation_of side a b ∷ these) → LineHasOnly w2 n (made ∷ these)
  made_by_equation side a b leads discharges these here =
      let e : Term = used_equation side a b in
      let q : Term = equation_of side a b in
      discharges (made ∷ these)
      (only_more w1 law (made ∷ e ∷ []) (e ∷ made ∷ these) (and_among made (e ∷ []) (e ∷ made ∷ these) (inr (inl refl)) (and_among e [] (e ∷ made ∷ these) (inl refl) (none_among (e ∷ made ∷ these)))) (leads_only w1 law made (e ∷ []) leads))
      (only_more w1 line (q ∷ these) (q ∷ made ∷ these) (beside q these (made ∷ these) (under made these these (λ v m. m))) (only_grown history w0 w1 line (q ∷ these) stands grows here))
