-- Equations that each literal of a line leads to, and terms that are divided by a test.
use Rattle.std.proofs.Common.{◌≡◌, ◌∷◌, [], ◌∙◌, ℕ, true, false, List, Option, Some, None, refl, sym, ap, subst, inl, inr}
use Rattle.std.specs.Prelude.{Result, IfOk, IfSome, codes}
use Rattle.nq_logic.specs.Terms.{Term, IsAmong}
use Rattle.nq_logic.specs.Words.{equal_term, if_term, not_term}
use Rattle.nq_bank.specs.declared.node.TermId.{TermId}
use Rattle.nq_bank.specs.Content.{IsIdOf, term_at, terms_at}
use Rattle.nq_bank.proofs.Standing.{id_grown}
use Rattle.nq_rule.proofs.Made.{for_ok}
use Rattle.nq_history.specs.declared.entry.Entry.{Entry}
use Rattle.nq_kernel.specs.declared.work.Work.{Work}
use Rattle.nq_kernel.specs.declared.work.Stop.{Stop}
use Rattle.nq_kernel.specs.Growing.{WorkStands, WorkGrows}
use Rattle.nq_kernel.proofs.GrowingLemmas.{WorkGrows-trans}
use Rattle.nq_lines.specs.Lines.{AreAmong, CutsTo, IsTermIn, LineHasOnly, MakesOf, TurnsTo}
use Rattle.nq_lines.specs.declared.facts.Sides.{Sides}
use Rattle.nq_lines.proofs.Among.{and_among, beside, none_among}
use Rattle.nq_lines.proofs.LineLemmas.{only_grown, only_more}
use Rattle.nq_lines.proofs.TermLemmas.{term_grown, same_term_grown}
use Rattle.nq_instances.specs.Parts.{AreSides, IsIfOf}
use Rattle.nq_instances.proofs.PartLemmas.{if_grown}
use Rattle.nq_reduce.specs.declared.knowledge.Known.{Known}
use Rattle.nq_reduce.specs.declared.results.Rewritten.{Rewritten}
use Rattle.nq_reduce.specs.Clauses.{DropsTo}
use Rattle.nq_reduce.specs.Equations.{IsAssumed}
use Rattle.nq_reduce.specs.Rewriting.{CanRewrite, IsArgument, IsKnown, IsRewritten, IsShown, ShowsEqual, denials}
use Rattle.nq_reduce.proofs.RewritingLemmas.{if_made, known_true, terms_same}

module _ (history : List Entry) (old new : Work) (grows : WorkGrows history old new) where
  -- a NOT that was made just now
  pub denied_made : (t denied : TermId) → IsTermIn history old t → IsIdOf new.bank denied (not_term (term_at old.bank t)) → IsIdOf new.bank denied (not_term (term_at new.bank t))
  denied_made t denied there h = subst (λ u. IsIdOf new.bank denied (not_term u)) (sym (same_term_grown history old new t grows there)) h

  -- a NOT that was made before
  pub denied_still : (t denied : TermId) → IsTermIn history old t → IsIdOf old.bank denied (not_term (term_at old.bank t)) → IsIdOf new.bank denied (not_term (term_at new.bank t))
  denied_still t denied there h = denied_made t denied there (id_grown old.bank new.bank denied (not_term (term_at old.bank t)) grows.bank h)

  -- an assumption stays one
  pub assumed_still : (assumed : List TermId) (a t : TermId) → CanRewrite history old assumed t → IsAssumed history old assumed a → IsAssumed history new assumed a
  assumed_still assumed a t can h =
      record {
        among =
            subst (λ ts. IsAmong (term_at new.bank a) ts) (sym (terms_same history old new grows assumed can.hypotheses)) (
            subst (λ u. IsAmong u (terms_at old.bank assumed)) (sym (same_term_grown history old new a grows h.over)) h.among);
        over = term_grown history old new a can.stands grows h.over;
      }

  -- a line of an equation, read where it was asked for
  pub led_back : (assumed : List TermId) (kept : TermId) → CanRewrite history old assumed kept → (r : Option ℕ) → IfSome r (λ n. LineHasOnly new n (term_at new.bank kept ∷ denials (terms_at new.bank assumed))) → IfSome r (λ n. LineHasOnly new n (term_at old.bank kept ∷ denials (terms_at old.bank assumed)))
  led_back assumed kept can r h =
      subst (λ ts. IfSome r (λ n. LineHasOnly new n (term_at old.bank kept ∷ denials ts))) (terms_same history old new grows assumed can.hypotheses) (
      subst (λ u. IfSome r (λ n. LineHasOnly new n (u ∷ denials (terms_at new.bank assumed)))) (same_term_grown history old new kept grows can.term) h)

  -- a line that was made just now, under one more assumption
  pub led_shown : (assumed : List TermId) (kept t : TermId) (n : ℕ) → CanRewrite history old assumed t → IsTermIn history old kept → LineHasOnly new n (term_at old.bank kept ∷ denials (term_at old.bank t ∷ terms_at old.bank assumed)) → LineHasOnly new n (term_at new.bank kept ∷ denials (term_at new.bank t ∷ terms_at new.bank assumed))
  led_shown assumed kept t n can there h =
      subst (λ u. LineHasOnly new n (u ∷ denials (term_at new.bank t ∷ terms_at new.bank assumed))) (sym (same_term_grown history old new kept grows there)) (
      subst (λ u. LineHasOnly new n (term_at old.bank kept ∷ denials (u ∷ terms_at new.bank assumed))) (sym (same_term_grown history old new t grows can.term)) (
      subst (λ ts. LineHasOnly new n (term_at old.bank kept ∷ denials (term_at old.bank t ∷ ts))) (sym (terms_same history old new grows assumed can.hypotheses)) h))

-- what a later call drops beside an equation
pub led_drops : (history : List Entry) (old one new : Work) (grows : WorkGrows history old one) (assumed : List TermId) (kept t : TermId) (line : ℕ) (r : Result (Option ℕ) Stop) → CanRewrite history old assumed t → IsTermIn history old kept → IfOk r (λ found. IfSome found (λ n. DropsTo one new (term_at one.bank kept ∷ denials (terms_at one.bank assumed)) (term_at one.bank t) line n)) → IfOk r (λ found. IfSome found (λ n. DropsTo old new (term_at old.bank kept ∷ denials (terms_at old.bank assumed)) (term_at old.bank t) line n))
led_drops history old one new grows assumed kept t line r can there h = for_ok r (λ found. IfSome found (λ n. DropsTo one new (term_at one.bank kept ∷ denials (terms_at one.bank assumed)) (term_at one.bank t) line n)) (λ found. IfSome found (λ n. DropsTo old new (term_at old.bank kept ∷ denials (terms_at old.bank assumed)) (term_at old.bank t) line n)) (λ found k. by_found found k) h
  where
    by_found : (found : Option ℕ) → IfSome found (λ n. DropsTo one new (term_at one.bank kept ∷ denials (terms_at one.bank assumed)) (term_at one.bank t) line n) → IfSome found (λ n. DropsTo old new (term_at old.bank kept ∷ denials (terms_at old.bank assumed)) (term_at old.bank t) line n)
    by_found None k = tt
    by_found (Some n) k = λ these within m.
        k these
        (subst (λ u. AreAmong (u ∷ denials (terms_at one.bank assumed)) these) (sym (same_term_grown history old one kept grows there)) (
        subst (λ ts. AreAmong (term_at old.bank kept ∷ denials ts) these) (sym (terms_same history old one grows assumed can.hypotheses)) within))
        (subst (λ u. LineHasOnly one line (u ∷ these)) (sym (same_term_grown history old one t grows can.term)) (only_grown history old one line (term_at old.bank t ∷ these) can.stands grows m))

-- a literal that leads to the equation
pub dropped_led : (old new : Work) (kept t : Term) (assumed : List Term) (line shown n : ℕ) → LineHasOnly old shown (kept ∷ denials (t ∷ assumed)) → CutsTo old new t line shown n → DropsTo old new (kept ∷ denials assumed) t line n
dropped_led old new kept t assumed line shown n h cuts these within m =
    cuts these m (only_more old shown (kept ∷ not_term t ∷ denials assumed) (not_term t ∷ these) fits h)
  where
    fits : (u : Term) → IsAmong u (kept ∷ not_term t ∷ denials assumed) → IsAmong u (not_term t ∷ these)
    fits u (inl e) = inr (within u (inl e))
    fits u (inr (inl e)) = inl e
    fits u (inr (inr k)) = inr (within u (inr k))

-- the line of a rewriting of one side to the other
pub ended : (history : List Entry) (work : Work) (assumed : List Term) (kept : TermId) (sides : Sides) (r : Rewritten) → AreSides history work (codes "EQUAL") kept sides → r.term ≡ sides.right → IsRewritten history work assumed (term_at work.bank sides.left) r → IfSome r.line (λ n. LineHasOnly work n (term_at work.bank kept ∷ denials assumed))
ended history work assumed kept sides r are same h = by_line r.line h.shown
  where
    whole : equal_term (term_at work.bank sides.left) (term_at work.bank r.term) ≡ term_at work.bank kept
    whole = ap (λ i. equal_term (term_at work.bank sides.left) (term_at work.bank i)) same ∙ sym are.whole

    by_line : (line : Option ℕ) → IsShown work assumed (term_at work.bank sides.left) (term_at work.bank r.term) line → IfSome line (λ n. LineHasOnly work n (term_at work.bank kept ∷ denials assumed))
    by_line None k = tt
    by_line (Some n) k = subst (λ u. LineHasOnly work n (u ∷ denials assumed)) whole k

-- a term that is true where its NOT is assumed
pub withdrawn_known : (old new : Work) (assumed : List Term) (t d : Term) (k : Known) (n : ℕ) → d ≡ not_term t → k.value ≡ true → IsKnown old (d ∷ assumed) t k → MakesOf old new (not_term (not_term t)) t k.line n → IsKnown new assumed t (record { value = true; line = n })
withdrawn_known old new assumed t d k n denies is known makes =
    let D : List Term = denials assumed in
    let given : LineHasOnly old k.line (t ∷ not_term (not_term t) ∷ D) = subst (λ u. LineHasOnly old k.line (t ∷ not_term u ∷ D)) denies (known_true old (d ∷ assumed) t k is known) in
    record { shown = only_more new n (t ∷ t ∷ D) (t ∷ D) (and_among t (t ∷ D) (t ∷ D) (inl refl) (λ u m. m)) (makes (t ∷ D) (only_more old k.line (t ∷ not_term (not_term t) ∷ D) (not_term (not_term t) ∷ t ∷ D) exchanged given)) }
  where
    exchanged : (u : Term) → IsAmong u (t ∷ not_term (not_term t) ∷ denials assumed) → IsAmong u (not_term (not_term t) ∷ t ∷ denials assumed)
    exchanged u (inl e) = inr (inl e)
    exchanged u (inr (inl e)) = inl e
    exchanged u (inr (inr m)) = inr (inr m)

-- an argument is a term
pub arguments_there : (history : List Entry) (work : Work) (t : TermId) (place : ℕ) (r : Option TermId) → IfSome r (IsArgument history work t place) → IfSome r (IsTermIn history work)
arguments_there history work t place None h = tt
arguments_there history work t place (Some a) h = h.argument

-- the IF is made, then its equation with the term, and this is turned round
pub doubled_to : (history : List Entry) (old one two three : Work) (assumed : List Term) (t p whole : TermId) (same line : ℕ) → WorkGrows history old one → WorkGrows history one two → WorkGrows history two three → IsTermIn history old t → IsTermIn history old p → IsTermIn history one whole →
    IsIdOf one.bank whole (if_term (term_at old.bank p) (term_at old.bank t) (term_at old.bank t)) → LineHasOnly two same (equal_term (if_term (term_at one.bank p) (term_at one.bank t) (term_at one.bank t)) (term_at one.bank t) ∷ []) →
    TurnsTo two three (term_at two.bank whole) (term_at two.bank t) same line → IsRewritten history three assumed (term_at old.bank t) (record { term = whole; line = Some line })
doubled_to history old one two three assumed t p whole same line g1 g2 g3 there test there_whole is shown turns =
    let u : Term = term_at old.bank t in
    let u1 : Term = term_at one.bank t in
    let q1 : Term = term_at one.bank p in
    let one_u : u1 ≡ u = same_term_grown history old one t g1 there in
    let one_q : q1 ≡ term_at old.bank p = same_term_grown history old one p g1 test in
    let two_u : term_at two.bank t ≡ u = same_term_grown history old two t (WorkGrows-trans history old one two g1 g2) there in
    let two_whole : term_at two.bank whole ≡ term_at one.bank whole = same_term_grown history one two whole g2 there_whole in
    let in_two : IsTermIn history two whole = term_grown history one two whole g1.stands g2 there_whole in
    let three_whole : term_at three.bank whole ≡ term_at two.bank whole = same_term_grown history two three whole g3 in_two in
    let parts : if_term q1 u1 u1 ≡ term_at two.bank whole = ap (λ x. if_term x u1 u1) one_q ∙ ap (λ x. if_term (term_at old.bank p) x x) one_u ∙ sym is.denotes ∙ sym two_whole in
    let e : Term = equal_term (term_at two.bank whole) (term_at two.bank t) in
    let here : LineHasOnly two same (e ∷ []) =
    subst (λ v. LineHasOnly two same (equal_term v (term_at two.bank t) ∷ [])) parts (
    subst (λ v. LineHasOnly two same (equal_term (if_term q1 u1 u1) v ∷ [])) (one_u ∙ sym two_u) shown) in
    let turned : LineHasOnly three line (equal_term (term_at two.bank t) (term_at two.bank whole) ∷ denials assumed) = turns (denials assumed) (only_more two same (e ∷ []) (e ∷ denials assumed) (beside e [] (denials assumed) (none_among (denials assumed))) here) in
    record {
      new = term_grown history two three whole g2.stands g3 in_two;
      shown =
          subst (λ v. LineHasOnly three line (equal_term u v ∷ denials assumed)) (sym three_whole) (
          subst (λ v. LineHasOnly three line (equal_term v (term_at two.bank whole) ∷ denials assumed)) two_u turned);
    }

-- its parts
pub doubled_parts : (history : List Entry) (old one new : Work) (whole p t : TermId) → WorkStands history old → WorkGrows history old one → WorkGrows history one new → IsTermIn history old p → IsTermIn history old t → IsTermIn history one whole → IsIdOf one.bank whole (if_term (term_at old.bank p) (term_at old.bank t) (term_at old.bank t)) → IsIfOf history new whole (record { test = p; first = t; second = t })
doubled_parts history old one new whole p t stands first second test there over is = if_grown history one new second whole (record { test = p; first = t; second = t }) first.stands over (if_made history old one whole p t t stands first test there there is)

-- the line of a rewriting
pub shown_line : (history : List Entry) (work : Work) (assumed : List Term) (t : Term) (r : Rewritten) (n : ℕ) → r.line ≡ Some n → IsRewritten history work assumed t r → ShowsEqual work n assumed t (term_at work.bank r.term)
shown_line history work assumed t r n is h = subst (IsShown work assumed t (term_at work.bank r.term)) is h.shown

-- a rewriting of what is assumed, where that is shown
pub discharged : (history : List Entry) (old new : Work) (assumed : List Term) (t : Term) (r : Rewritten) (line n shown : ℕ) → WorkStands history old → WorkGrows history old new → LineHasOnly old line (t ∷ denials assumed) → r.line ≡ Some n → IsRewritten history old (t ∷ assumed) t r → CutsTo old new t line n shown → IsRewritten history new assumed t (record { term = r.term; line = Some shown })
discharged history old new assumed t r line n shown stands grows known is h cuts =
    let e : Term = equal_term t (term_at old.bank r.term) in
    record {
      new = term_grown history old new r.term stands grows h.new;
      shown =
          subst (λ w. LineHasOnly new shown (equal_term t w ∷ denials assumed)) (sym (same_term_grown history old new r.term grows h.new)) (
          cuts (e ∷ denials assumed) (only_more old line (t ∷ denials assumed) (t ∷ e ∷ denials assumed) one known) (only_more old n (e ∷ not_term t ∷ denials assumed) (not_term t ∷ e ∷ denials assumed) two (shown_line history old (t ∷ assumed) t r n is h)));
    }
  where
    one : (u : Term) → IsAmong u (t ∷ denials assumed) → IsAmong u (t ∷ equal_term t (term_at old.bank r.term) ∷ denials assumed)
    one u (inl k) = inl k
    one u (inr m) = inr (inr m)

    two : (u : Term) → IsAmong u (equal_term t (term_at old.bank r.term) ∷ not_term t ∷ denials assumed) → IsAmong u (not_term t ∷ equal_term t (term_at old.bank r.term) ∷ denials assumed)
    two u (inl k) = inr (inl k)
    two u (inr (inl k)) = inl k
    two u (inr (inr m)) = inr (inr m)
