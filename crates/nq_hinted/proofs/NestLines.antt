-- The lines of a nest that is taken apart.
use Rattle.std.proofs.Common.{◌≡◌, ◌∙◌, ℕ, List, [], ◌∷◌, refl, sym, subst, inl, inr}
use Rattle.nq_logic.specs.Terms.{Term, IsAmong}
use Rattle.nq_logic.specs.Words.{not_term, if_term, equal_term}
use Rattle.nq_bank.specs.declared.node.TermId.{TermId}
use Rattle.std.specs.Prelude.{All}
use Rattle.nq_bank.specs.Content.{Content, Grows, Stands, term_at, terms_at}
use Rattle.nq_bank.proofs.Growth.{term_at-grown, terms_at-grown}
use Rattle.nq_history.specs.declared.entry.Entry.{Entry}
use Rattle.nq_proof.specs.Clauses.{Clause}
use Rattle.nq_proof.specs.Rules.{Forwards}
use Rattle.nq_kernel.specs.declared.work.Work.{Work}
use Rattle.nq_kernel.specs.Growing.{WorkStands, WorkGrows}
use Rattle.nq_kernel.proofs.GrowingLemmas.{WorkGrows-trans}
use Rattle.nq_lines.specs.Lines.{AreAmong, IsTermIn, LineHasOnly, LineLeads, MakesOf, RewritesTo}
use Rattle.nq_lines.proofs.LineLemmas.{leads_only, only_grown, only_more}
use Rattle.nq_lines.proofs.TermLemmas.{same_term_grown}
use Rattle.nq_hinted.specs.Nests.{AreDenials, OpensTo, nest}

-- a term and one that is among these
with_one : (p q : Term) (all : Clause) → IsAmong q all → AreAmong (p ∷ q ∷ []) (p ∷ all)
with_one p q all k t (inl e) = inl e
with_one p q all k t (inr (inl e)) = inr (subst (λ (u : Term). IsAmong u all) (sym e) k)
with_one p q all k t (inr (inr m)) = absurd m

module _ (history : List Entry) (w0 w1 w2 w3 : Work) (stands : WorkStands history w0) (one : WorkGrows history w0 w1) (two : WorkGrows history w1 w2) where
  -- the IF becomes its first branch where its test is not denied
  pub choice_opened : (whole p x y : TermId) (either equation line n : ℕ) → IsTermIn history w0 whole → IsTermIn history w0 p → IsTermIn history w0 x → IsTermIn history w0 y →
      term_at w0.bank whole ≡ if_term (term_at w0.bank p) (term_at w0.bank x) (term_at w0.bank y) →
      LineLeads w1 either (term_at w0.bank p) (not_term (term_at w0.bank p) ∷ []) →
      MakesOf w1 w2 (term_at w1.bank p) (equal_term (if_term (term_at w1.bank p) (term_at w1.bank x) (term_at w1.bank y)) (term_at w1.bank x)) either equation →
      RewritesTo w2 w3 Forwards (term_at w2.bank whole) (term_at w2.bank x) line equation n →
      (all : List Term) → IsAmong (not_term (term_at w0.bank p)) all → LineHasOnly w0 line (term_at w0.bank whole ∷ all) → LineHasOnly w3 n (term_at w0.bank x ∷ all)
  choice_opened whole p x y either equation line n iw ip ix iy is leads makes rewrites all k h =
      let both : WorkGrows history w0 w2 = WorkGrows-trans history w0 w1 w2 one two in
      let tp : Term = term_at w0.bank p in
      let tx : Term = term_at w0.bank x in
      let ty : Term = term_at w0.bank y in
      let tw : Term = term_at w0.bank whole in
      let p1 : term_at w1.bank p ≡ tp = same_term_grown history w0 w1 p one ip in
      let x1 : term_at w1.bank x ≡ tx = same_term_grown history w0 w1 x one ix in
      let y1 : term_at w1.bank y ≡ ty = same_term_grown history w0 w1 y one iy in
      let m1 = subst (λ (q : Term). MakesOf w1 w2 q (equal_term (if_term q (term_at w1.bank x) (term_at w1.bank y)) (term_at w1.bank x)) either equation) p1 makes in
      let m2 = subst (λ (q : Term). MakesOf w1 w2 tp (equal_term (if_term tp q (term_at w1.bank y)) q) either equation) x1 m1 in
      let m3 = subst (λ (q : Term). MakesOf w1 w2 tp (equal_term (if_term tp tx q) tx) either equation) y1 m2 in
      let here : LineHasOnly w1 either (tp ∷ all) = only_more w1 either (tp ∷ not_term tp ∷ []) (tp ∷ all) (with_one tp (not_term tp) all k) (leads_only w1 either tp (not_term tp ∷ []) leads) in
      let made : LineHasOnly w2 equation (equal_term (if_term tp tx ty) tx ∷ all) = m3 all here in
      let w : term_at w2.bank whole ≡ tw = same_term_grown history w0 w2 whole both iw in
      let x2 : term_at w2.bank x ≡ tx = same_term_grown history w0 w2 x both ix in
      let r1 = subst (λ (q : Term). RewritesTo w2 w3 Forwards q (term_at w2.bank x) line equation n) w rewrites in
      let r2 = subst (λ (q : Term). RewritesTo w2 w3 Forwards tw q line equation n) x2 r1 in
      r2 all (only_grown history w0 w2 line (tw ∷ all) stands both h) (subst (λ (q : Term). LineHasOnly w2 equation (equal_term q tx ∷ all)) (sym is) made)

-- the parts of an IF that is known twice
pub same_test : (t p x y d n u : Term) → t ≡ if_term p x y → t ≡ if_term d n u → p ≡ d
same_test t p x y d n u one two = let same : if_term p x y ≡ if_term d n u = sym one ∙ two in cc

pub same_branch : (t p x y d n u : Term) → t ≡ if_term p x y → t ≡ if_term d n u → x ≡ n
same_branch t p x y d n u one two = let same : if_term p x y ≡ if_term d n u = sym one ∙ two in cc

-- what holds of a goal's terms holds of them as the bank grows
module _ (old new : Content) (grows : Grows old new) (t : TermId) (ids : List TermId) (stands : Stands old t) (stand : All (Stands old) ids) where
  same_goal : (P : Term → List Term → Type 0) → P (term_at old t) (terms_at old ids) → P (term_at new t) (terms_at new ids)
  same_goal P h =
      subst (λ (u : Term). P u (terms_at new ids)) (sym (term_at-grown old new t grows stands))
      (subst (P (term_at old t)) (sym (terms_at-grown old new ids grows stand)) h)

  pub denials_grown : AreDenials (term_at old t) (terms_at old ids) → AreDenials (term_at new t) (terms_at new ids)
  denials_grown = same_goal AreDenials

  pub nest_grown : (u : Term) → u ≡ nest (term_at old t) (terms_at old ids) → u ≡ nest (term_at new t) (terms_at new ids)
  nest_grown u = same_goal (λ (t : Term) (c : List Term). u ≡ nest t c)

-- a nest of two literals or more that was taken apart
pub opened_before : (old new last : Work) (first : Term) (second : TermId) (more : List TermId) (p x whole : Term) (line middle n : ℕ) → Grows old.bank new.bank → Stands old.bank second → All (Stands old.bank) more →
    first ≡ not_term p → x ≡ nest (term_at old.bank second) (terms_at old.bank more) → whole ≡ nest first (term_at old.bank second ∷ terms_at old.bank more) →
    ((all : List Term) → IsAmong (not_term p) all → LineHasOnly old line (whole ∷ all) → LineHasOnly new middle (x ∷ all)) →
    OpensTo new last (term_at new.bank second) (terms_at new.bank more) middle n → OpensTo old last first (term_at old.bank second ∷ terms_at old.bank more) line n
opened_before old new last first second more p x whole line middle n grows stands stand is inner outer step rest all within h =
    let t : Term = term_at old.bank second in
    let c : List Term = terms_at old.bank more in
    let t1 : term_at new.bank second ≡ t = term_at-grown old.bank new.bank second grows stands in
    let c1 : terms_at new.bank more ≡ c = terms_at-grown old.bank new.bank more grows stand in
    let r1 = subst (λ (u : Term). OpensTo new last u (terms_at new.bank more) middle n) t1 rest in
    let r2 : OpensTo new last t c middle n = subst (λ (d : List Term). OpensTo new last t d middle n) c1 r1 in
    let here : LineHasOnly new middle (x ∷ all) = step all (subst (λ (u : Term). IsAmong u all) is (within first (inl refl))) (subst (λ (u : Term). LineHasOnly old line (u ∷ all)) (sym outer) h) in
    r2 all (λ u m. within u (inr m)) (subst (λ (u : Term). LineHasOnly new middle (u ∷ all)) inner here)
