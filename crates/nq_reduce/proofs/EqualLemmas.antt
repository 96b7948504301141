-- Equations of objects that are made of equal, or of different, parts.
use Rattle.std.proofs.Common.{◌≡◌, ◌∷◌, [], ◌∙◌, ℕ, List, Option, Some, None, sym, ap, subst, inl, inr}
use Rattle.std.specs.Prelude.{Result, IfOk, IfSome}
use Rattle.nq_logic.specs.Terms.{Term, IsAmong}
use Rattle.nq_logic.specs.Words.{equal_term, not_term}
use Rattle.nq_bank.specs.declared.node.TermId.{TermId}
use Rattle.nq_bank.specs.Content.{IsIdOf, term_at, terms_at}
use Rattle.nq_rule.proofs.Made.{for_ok}
use Rattle.nq_history.specs.declared.entry.Entry.{Entry}
use Rattle.nq_kernel.specs.declared.work.Work.{Work}
use Rattle.nq_kernel.specs.declared.work.Stop.{Stop}
use Rattle.nq_kernel.specs.Growing.{WorkStands, WorkGrows}
use Rattle.nq_lines.specs.Lines.{CutsTo, IsTermIn, LineHasOnly, LineLeads}
use Rattle.nq_lines.proofs.LineLemmas.{leads_only, only_grown, only_more}
use Rattle.nq_lines.proofs.TermLemmas.{same_term_grown}
use Rattle.nq_reduce.specs.declared.results.Rewritten.{Rewritten}
use Rattle.nq_reduce.specs.Rewriting.{CanRewrite, IsRewritten, IsShown, ShowsEqual, denials}
use Rattle.nq_reduce.proofs.RewritingLemmas.{terms_same}

module _ (history : List Entry) (old new : Work) (grows : WorkGrows history old new) where
  -- a line that was made just now, of terms that stood
  pub shows_now : (assumed : List TermId) (a b : TermId) (n : ℕ) → CanRewrite history old assumed a → IsTermIn history old b → ShowsEqual new n (terms_at old.bank assumed) (term_at old.bank a) (term_at old.bank b) → ShowsEqual new n (terms_at new.bank assumed) (term_at new.bank a) (term_at new.bank b)
  shows_now assumed a b n can there h =
      subst (λ ts. ShowsEqual new n ts (term_at new.bank a) (term_at new.bank b)) (sym (terms_same history old new grows assumed can.hypotheses)) (
      subst (λ u. ShowsEqual new n (terms_at old.bank assumed) u (term_at new.bank b)) (sym (same_term_grown history old new a grows can.term)) (
      subst (λ u. ShowsEqual new n (terms_at old.bank assumed) (term_at old.bank a) u) (sym (same_term_grown history old new b grows there)) h))

  -- read where it was asked for
  pub led_there : (assumed : List TermId) (a b : TermId) → CanRewrite history old assumed a → IsTermIn history old b → (r : Option ℕ) → IfSome r (λ n. ShowsEqual new n (terms_at new.bank assumed) (term_at new.bank a) (term_at new.bank b)) → IfSome r (λ n. ShowsEqual new n (terms_at old.bank assumed) (term_at old.bank a) (term_at old.bank b))
  led_there assumed a b can there r h =
      subst (λ ts. IfSome r (λ n. ShowsEqual new n ts (term_at old.bank a) (term_at old.bank b))) (terms_same history old new grows assumed can.hypotheses) (
      subst (λ u. IfSome r (λ n. ShowsEqual new n (terms_at new.bank assumed) u (term_at old.bank b))) (same_term_grown history old new a grows can.term) (
      subst (λ u. IfSome r (λ n. ShowsEqual new n (terms_at new.bank assumed) (term_at new.bank a) u)) (same_term_grown history old new b grows there) h))

  -- the equation of the parts has an id
  pub parts_said : (assumed : List TermId) (t a b p : TermId) (line : ℕ) → CanRewrite history old assumed t → IsIdOf new.bank p (equal_term (term_at old.bank a) (term_at old.bank b)) → ShowsEqual old line (term_at old.bank t ∷ terms_at old.bank assumed) (term_at old.bank a) (term_at old.bank b) → LineHasOnly new line (term_at new.bank p ∷ denials (term_at new.bank t ∷ terms_at new.bank assumed))
  parts_said assumed t a b p line can is h =
      let e : Term = equal_term (term_at old.bank a) (term_at old.bank b) in
      subst (λ u. LineHasOnly new line (u ∷ denials (term_at new.bank t ∷ terms_at new.bank assumed))) (sym is.denotes) (
      subst (λ u. LineHasOnly new line (e ∷ denials (u ∷ terms_at new.bank assumed))) (sym (same_term_grown history old new t grows can.term)) (
      subst (λ ts. LineHasOnly new line (e ∷ denials (term_at old.bank t ∷ ts))) (sym (terms_same history old new grows assumed can.hypotheses)) (
      only_grown history old new line (e ∷ denials (term_at old.bank t ∷ terms_at old.bank assumed)) can.stands grows h)))

  -- the line that the equation does not hold
  pub unequal_now : (assumed : List TermId) (t d : TermId) (n : ℕ) → CanRewrite history old assumed t → IsTermIn history old d → LineHasOnly new n (not_term (term_at old.bank t) ∷ denials (term_at old.bank d ∷ terms_at old.bank assumed)) → LineHasOnly new n (not_term (term_at new.bank t) ∷ denials (term_at new.bank d ∷ terms_at new.bank assumed))
  unequal_now assumed t d n can there h =
      subst (λ u. LineHasOnly new n (not_term u ∷ denials (term_at new.bank d ∷ terms_at new.bank assumed))) (sym (same_term_grown history old new t grows can.term)) (
      subst (λ u. LineHasOnly new n (not_term (term_at old.bank t) ∷ denials (u ∷ terms_at new.bank assumed))) (sym (same_term_grown history old new d grows there)) (
      subst (λ ts. LineHasOnly new n (not_term (term_at old.bank t) ∷ denials (term_at old.bank d ∷ ts))) (sym (terms_same history old new grows assumed can.hypotheses)) h))

-- what a later call shows
pub shows_back : (history : List Entry) (old one new : Work) (grows : WorkGrows history old one) (assumed : List TermId) (a b : TermId) (r : Result (Option ℕ) Stop) → CanRewrite history old assumed a → IsTermIn history old b → IfOk r (λ found. IfSome found (λ n. ShowsEqual new n (terms_at one.bank assumed) (term_at one.bank a) (term_at one.bank b))) → IfOk r (λ found. IfSome found (λ n. ShowsEqual new n (terms_at old.bank assumed) (term_at old.bank a) (term_at old.bank b)))
shows_back history old one new grows assumed a b r can there h =
    subst (λ ts. IfOk r (λ found. IfSome found (λ n. ShowsEqual new n ts (term_at old.bank a) (term_at old.bank b)))) (terms_same history old one grows assumed can.hypotheses) (
    subst (λ u. IfOk r (λ found. IfSome found (λ n. ShowsEqual new n (terms_at one.bank assumed) u (term_at old.bank b)))) (same_term_grown history old one a grows can.term) (
    subst (λ u. IfOk r (λ found. IfSome found (λ n. ShowsEqual new n (terms_at one.bank assumed) (term_at one.bank a) u))) (same_term_grown history old one b grows there) h))

-- the line of a rewriting that leads to a term
pub reached_by : (history : List Entry) (work : Work) (assumed : List Term) (a b : TermId) (r : Rewritten) → r.term ≡ b → IsRewritten history work assumed (term_at work.bank a) r → IfSome r.line (λ n. ShowsEqual work n assumed (term_at work.bank a) (term_at work.bank b))
reached_by history work assumed a b r same h = by_line r.line h.shown
  where
    by_line : (line : Option ℕ) → IsShown work assumed (term_at work.bank a) (term_at work.bank r.term) line → IfSome line (λ n. ShowsEqual work n assumed (term_at work.bank a) (term_at work.bank b))
    by_line None k = tt
    by_line (Some n) k = subst (λ i. ShowsEqual work n assumed (term_at work.bank a) (term_at work.bank i)) same k

-- the equation does not hold where the parts differ
pub cut_unequal : (history : List Entry) (w0 w1 w2 : Work) (assumed : List Term) (t : Term) (p denied : TermId) (line either : ℕ) (r : Result ℕ Stop) → WorkStands history w0 → WorkGrows history w0 w1 → IsTermIn history w0 p → term_at w0.bank denied ≡ not_term (term_at w0.bank p) → LineHasOnly w0 line (term_at w0.bank p ∷ denials (t ∷ assumed)) → LineLeads w1 either (term_at w0.bank denied) (not_term (term_at w0.bank denied) ∷ []) →
    IfOk r (CutsTo w1 w2 (term_at w1.bank p) line either) → IfOk r (λ n. LineHasOnly w2 n (not_term t ∷ denials (term_at w0.bank denied ∷ assumed)))
cut_unequal history w0 w1 w2 assumed t p denied line either r stands grows there denies shown leads h = for_ok r (CutsTo w1 w2 (term_at w1.bank p) line either) (λ n. LineHasOnly w2 n (not_term t ∷ denials (term_at w0.bank denied ∷ assumed))) (λ n cuts. by_cut n cuts) h
  where
    q : Term
    q = term_at w0.bank p

    d : Term
    d = term_at w0.bank denied

    these : List Term
    these = not_term t ∷ not_term d ∷ denials assumed

    first_fits : (u : Term) → IsAmong u (q ∷ not_term t ∷ denials assumed) → IsAmong u (q ∷ these)
    first_fits u (inl e) = inl e
    first_fits u (inr (inl e)) = inr (inl e)
    first_fits u (inr (inr m)) = inr (inr (inr m))

    second_fits : (u : Term) → IsAmong u (d ∷ not_term d ∷ []) → IsAmong u (d ∷ these)
    second_fits u (inl e) = inl e
    second_fits u (inr (inl e)) = inr (inr (inl e))
    second_fits u (inr (inr x)) = elim x [ ]

    same : q ≡ term_at w1.bank p
    same = sym (same_term_grown history w0 w1 p grows there)

    by_cut : (n : ℕ) → CutsTo w1 w2 (term_at w1.bank p) line either n → LineHasOnly w2 n these
    by_cut n cuts =
        cuts these (subst (λ u. LineHasOnly w1 line (u ∷ these)) same (only_more w1 line (q ∷ not_term t ∷ denials assumed) (q ∷ these) first_fits (only_grown history w0 w1 line (q ∷ not_term t ∷ denials assumed) stands grows shown)))
        (subst (λ u. LineHasOnly w1 either (not_term u ∷ these)) same (
        subst (λ u. LineHasOnly w1 either (u ∷ these)) denies (
        only_more w1 either (d ∷ not_term d ∷ []) (d ∷ these) second_fits (leads_only w1 either d (not_term d ∷ []) leads))))
