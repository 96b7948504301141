-- What single steps show.
use Rattle.std.proofs.Common.{◌≡◌, ◌∷◌, [], ℕ, true, false, List, Option, Some, None, refl, sym, ap, ap₂, ◌∙◌, subst, inl, inr, ◌<◌, length, get_or}
use Rattle.std.specs.Prelude.{Result, IfOk, IfSome, codes}
use Rattle.nq_logic.specs.Terms.{Name, Term, Function, Applied, Each}
use Rattle.nq_logic.specs.Words.{equal_term, false_term, not_term}
use Rattle.nq_bank.specs.declared.node.TermId.{TermId}
use Rattle.nq_bank.specs.Content.{IsIdOf, term_at, terms_at}
use Rattle.nq_bank.proofs.Standing.{id_grown}
use Rattle.nq_proof.proofs.Tests.{some_same}
use Rattle.nq_rule.proofs.Made.{for_ok}
use Rattle.nq_history.specs.declared.entry.Entry.{Entry}
use Rattle.nq_history.specs.Events.{events_at}
use Rattle.nq_kernel.specs.declared.work.Work.{Work}
use Rattle.nq_kernel.specs.declared.work.Stop.{Stop}
use Rattle.nq_kernel.specs.Growing.{WorkStands, WorkGrows}
use Rattle.nq_kernel.proofs.GrowingLemmas.{WorkGrows-trans}
use Rattle.nq_lines.specs.Lines.{CutsTo, IsTermIn, LineHasOnly, LineLeads, MakesOf, TurnsTo}
use Rattle.nq_lines.specs.Facts.{IsFact, IsOnlyLiteral}
use Rattle.nq_lines.specs.OwnTerms.{IsOver}
use Rattle.nq_lines.proofs.Among.{beside, none_among, under}
use Rattle.nq_lines.proofs.LineLemmas.{leads_only, only_grown, only_more}
use Rattle.nq_lines.proofs.TermLemmas.{term_grown, same_term_grown}
use Rattle.nq_lines.specs.declared.facts.Fact.{Fact}
use Rattle.nq_lines.specs.declared.facts.Sides.{Sides}
use Rattle.nq_instances.specs.Parts.{AreSides}
use Rattle.nq_reduce.specs.declared.knowledge.Known.{Known}
use Rattle.nq_reduce.specs.declared.results.Rewritten.{Rewritten}
use Rattle.nq_reduce.specs.Clauses.{LineIsIn}
use Rattle.nq_reduce.specs.Equations.{IsAssumed, IsTurned}
use Rattle.nq_reduce.specs.Held.{IsHeld}
use Rattle.nq_reduce.specs.Rewriting.{CanRewrite, IsKnown, IsRewritten, ShowsEqual, denials}
use Rattle.nq_reduce.proofs.RewritingLemmas.{assumed_known, known_true, known_untrue, member_among, terms_same}

-- the one literal of a line that is in
pub fact_in : (history : List Entry) (work : Work) (t : TermId) (line : ℕ) → LineIsIn history work line → IsOnlyLiteral work line t → IsFact history work (record { term = t; line = line })
fact_in history work t line h only =
    let same : h.literals ≡ term_at work.bank t ∷ [] = some_same h.literals (term_at work.bank t ∷ []) (sym h.holds ∙ only.holds) in
    let over = subst (Each (IsOver (events_at work.bank history))) same h.over in
    record { term = record { stands = only.stands; over = over.0 }; holds = only.holds }

-- what is known after the work grew
pub known_back : (history : List Entry) (old new : Work) (grows : WorkGrows history old new) (assumed : List TermId) (t : TermId) → CanRewrite history old assumed t → (r : Option Known) → IfSome r (IsKnown new (terms_at new.bank assumed) (term_at new.bank t)) → IfSome r (IsKnown new (terms_at old.bank assumed) (term_at old.bank t))
known_back history old new grows assumed t can r h =
    subst (λ ts. IfSome r (IsKnown new ts (term_at old.bank t))) (terms_same history old new grows assumed can.hypotheses) (
    subst (λ u. IfSome r (IsKnown new (terms_at new.bank assumed) u)) (same_term_grown history old new t grows can.term) h)

-- a term that a line shows is true
pub known_fact : (work : Work) (assumed : List Term) (t : TermId) (f : Fact) → f.term ≡ t → LineHasOnly work f.line (term_at work.bank f.term ∷ denials assumed) → IsKnown work assumed (term_at work.bank t) (record { value = true; line = f.line })
known_fact work assumed t f same h = record { shown = subst (λ i. LineHasOnly work f.line (term_at work.bank i ∷ denials assumed)) same h }

-- an equation of one term
pub same_sides_known : (history : List Entry) (old new : Work) (assumed : List Term) (t : TermId) (sides : Sides) (n : ℕ) → AreSides history old (codes "EQUAL") t sides → sides.left ≡ sides.right → LineLeads new n (equal_term (term_at old.bank sides.left) (term_at old.bank sides.left)) [] → IsKnown new assumed (term_at old.bank t) (record { value = true; line = n })
same_sides_known history old new assumed t sides n are same h =
    let l : Term = term_at old.bank sides.left in
    let e : equal_term l l ≡ term_at old.bank t = ap (λ i. equal_term l (term_at old.bank i)) same ∙ sym are.whole in
    record {
      shown =
          subst (λ u. LineHasOnly new n (u ∷ denials assumed)) e (
          only_more new n (equal_term l l ∷ []) (equal_term l l ∷ denials assumed) (beside (equal_term l l) [] (denials assumed) (none_among (denials assumed))) (leads_only new n (equal_term l l) [] h));
    }

module _ (history : List Entry) (old new : Work) (grows : WorkGrows history old new) where
  -- the sides of a call stay so
  pub sides_grown : (f : Name) (t : TermId) (sides : Sides) → WorkStands history old → IsTermIn history old t → AreSides history old f t sides → AreSides history new f t sides
  sides_grown f t sides stands there h =
      record {
        whole =
            same_term_grown history old new t grows there ∙ h.whole ∙
            ap₂ (λ a b. Applied (Applied (Function f) a) b) (sym (same_term_grown history old new sides.left grows h.left)) (sym (same_term_grown history old new sides.right grows h.right));
        left = term_grown history old new sides.left stands grows h.left;
        right = term_grown history old new sides.right stands grows h.right;
        left_before = h.left_before;
        right_before = h.right_before;
      }

  turned_same : (f : Name) (t : TermId) (sides : Sides) → AreSides history old f t sides → equal_term (term_at old.bank sides.right) (term_at old.bank sides.left) ≡ equal_term (term_at new.bank sides.right) (term_at new.bank sides.left)
  turned_same f t sides are = ap₂ equal_term (sym (same_term_grown history old new sides.right grows are.right)) (sym (same_term_grown history old new sides.left grows are.left))

  -- a turned equation that was made
  pub turned_made : (t : TermId) (sides : Sides) (u : TermId) → AreSides history old (codes "EQUAL") t sides → IsTermIn history new u → IsIdOf new.bank u (equal_term (term_at old.bank sides.right) (term_at old.bank sides.left)) → IsTurned history new sides u
  turned_made t sides u are there is = record { there = there; is = subst (IsIdOf new.bank u) (turned_same (codes "EQUAL") t sides are) is }

  pub turned_grown : (t : TermId) (sides : Sides) (u : TermId) → WorkStands history old → AreSides history old (codes "EQUAL") t sides → IsTurned history old sides u → IsTurned history new sides u
  turned_grown t sides u stands are h =
      record {
        there = term_grown history old new u stands grows h.there;
        is = subst (IsIdOf new.bank u) (turned_same (codes "EQUAL") t sides are) (id_grown old.bank new.bank u (equal_term (term_at old.bank sides.right) (term_at old.bank sides.left)) grows.bank h.is);
      }

-- an equation that is true since the turned one is
pub turned_true : (history : List Entry) (old new : Work) (assumed : List Term) (t : TermId) (sides : Sides) (u : TermId) (k : Known) (n : ℕ) → AreSides history old (codes "EQUAL") t sides → IsTurned history old sides u → k.value ≡ true → IsKnown old assumed (term_at old.bank u) k → TurnsTo old new (term_at old.bank sides.right) (term_at old.bank sides.left) k.line n → IsKnown new assumed (term_at old.bank t) (record { value = true; line = n })
turned_true history old new assumed t sides u k n are turned is known turns =
    record {
      shown =
          subst (λ v. LineHasOnly new n (v ∷ denials assumed)) (sym are.whole) (
          turns (denials assumed) (subst (λ v. LineHasOnly old k.line (v ∷ denials assumed)) turned.is.denotes (known_true old assumed (term_at old.bank u) k is known)));
    }

-- an equation that is false since the turned one is
pub turned_false : (history : List Entry) (w0 w1 w2 w3 : Work) (assumed : List Term) (t : TermId) (sides : Sides) (u : TermId) (k : Known) (either other n : ℕ) → WorkStands history w0 → WorkGrows history w0 w1 → WorkGrows history w1 w2 → AreSides history w0 (codes "EQUAL") t sides → IsTurned history w0 sides u → k.value ≡ false → IsKnown w0 assumed (term_at w0.bank u) k →
    LineLeads w1 either (term_at w0.bank t) (not_term (term_at w0.bank t) ∷ []) → TurnsTo w1 w2 (term_at w1.bank sides.left) (term_at w1.bank sides.right) either other → CutsTo w2 w3 (term_at w2.bank u) other k.line n → IsKnown w3 assumed (term_at w0.bank t) (record { value = false; line = n })
turned_false history w0 w1 w2 w3 assumed t sides u k either other n stands g1 g2 are turned is known leads turns cuts =
    let T : Term = term_at w0.bank t in
    let D : List Term = denials assumed in
    let v : Term = term_at w0.bank u in
    let g : WorkGrows history w0 w2 = WorkGrows-trans history w0 w1 w2 g1 g2 in
    let l1 : term_at w1.bank sides.left ≡ term_at w0.bank sides.left = same_term_grown history w0 w1 sides.left g1 are.left in
    let r1 : term_at w1.bank sides.right ≡ term_at w0.bank sides.right = same_term_grown history w0 w1 sides.right g1 are.right in
    let here : T ≡ equal_term (term_at w1.bank sides.left) (term_at w1.bank sides.right) = are.whole ∙ ap₂ equal_term (sym l1) (sym r1) in
    let first : LineHasOnly w1 either (equal_term (term_at w1.bank sides.left) (term_at w1.bank sides.right) ∷ not_term T ∷ D) =
    subst (λ x. LineHasOnly w1 either (x ∷ not_term T ∷ D)) here (
    only_more w1 either (T ∷ not_term T ∷ []) (T ∷ not_term T ∷ D) (beside T (not_term T ∷ []) (not_term T ∷ D) (beside (not_term T) [] D (none_among D))) (leads_only w1 either T (not_term T ∷ []) leads)) in
    let second : LineHasOnly w2 other (equal_term (term_at w1.bank sides.right) (term_at w1.bank sides.left) ∷ not_term T ∷ D) = turns (not_term T ∷ D) first in
    let back : equal_term (term_at w1.bank sides.right) (term_at w1.bank sides.left) ≡ term_at w2.bank u =
    ap₂ equal_term r1 l1 ∙ sym turned.is.denotes ∙ sym (same_term_grown history w0 w2 u g turned.there) in
    let denied : LineHasOnly w2 k.line (not_term v ∷ not_term T ∷ D) =
    only_grown history w0 w2 k.line (not_term v ∷ not_term T ∷ D) stands g (
    only_more w0 k.line (not_term v ∷ D) (not_term v ∷ not_term T ∷ D) (beside (not_term v) D (not_term T ∷ D) (under (not_term T) D D (λ x m. m))) (known_untrue w0 assumed v k is known)) in
    record {
      shown =
          cuts (not_term T ∷ D) (subst (λ x. LineHasOnly w2 other (x ∷ not_term T ∷ D)) back second)
          (subst (λ x. LineHasOnly w2 k.line (not_term x ∷ not_term T ∷ D)) (sym (same_term_grown history w0 w2 u g turned.there)) denied);
    }

-- an assumption that was found
pub assumed_found : (history : List Entry) (work : Work) (assumed : List TermId) (t : TermId) (i : ℕ) (d : TermId) → CanRewrite history work assumed t → i < length assumed → IsAssumed history work assumed (get_or assumed i d)
assumed_found history work assumed t i d can below = record { among = member_among work.bank assumed i d below; over = can.hypotheses i d below }

-- the line of an assumption
pub assumed_held : (history : List Entry) (old new : Work) (assumed : List TermId) (a t : TermId) (n : ℕ) → WorkGrows history old new → CanRewrite history old assumed t → IsAssumed history old assumed a → LineLeads new n (term_at old.bank a) (not_term (term_at old.bank a) ∷ []) → IsHeld history new (terms_at new.bank assumed) (record { term = a; line = n })
assumed_held history old new assumed a t n grows can is leads =
    let u : Term = term_at old.bank a in
    let known = assumed_known new (terms_at old.bank assumed) u n is.among leads in
    record {
      term = term_grown history old new a can.stands grows is.over;
      line =
          subst (λ v. LineHasOnly new n (v ∷ denials (terms_at new.bank assumed))) (sym (same_term_grown history old new a grows is.over)) (
          subst (λ ts. LineHasOnly new n (u ∷ denials ts)) (sym (terms_same history old new grows assumed can.hypotheses)) known.shown);
    }

-- the left side of an equation that is shown, for its right side
pub right_rewritten : (history : List Entry) (old new : Work) (assumed : List Term) (t : TermId) (f : Fact) (sides : Sides) (n : ℕ) → WorkStands history old → WorkGrows history old new → IsHeld history old assumed f → AreSides history old (codes "EQUAL") f.term sides → sides.right ≡ t → TurnsTo old new (term_at old.bank sides.left) (term_at old.bank sides.right) f.line n → IsRewritten history new assumed (term_at old.bank t) (record { term = sides.left; line = Some n })
right_rewritten history old new assumed t f sides n stands grows held are same turns =
    let l : Term = term_at old.bank sides.left in
    let D : List Term = denials assumed in
    record {
      new = term_grown history old new sides.left stands grows are.left;
      shown =
          subst (λ w. LineHasOnly new n (equal_term (term_at old.bank t) w ∷ D)) (sym (same_term_grown history old new sides.left grows are.left)) (
          subst (λ i. LineHasOnly new n (equal_term (term_at old.bank i) l ∷ D)) same (
          turns D (subst (λ v. LineHasOnly old f.line (v ∷ D)) are.whole held.line)));
    }

-- a literal that is left alone
pub kept_held : (history : List Entry) (old new : Work) (assumed : List Term) (t : TermId) (n : ℕ) → WorkStands history old → WorkGrows history old new → IsTermIn history old t → LineHasOnly new n (term_at old.bank t ∷ denials assumed) → IsHeld history new assumed (record { term = t; line = n })
kept_held history old new assumed t n stands grows there h =
    record { term = term_grown history old new t stands grows there; line = subst (λ u. LineHasOnly new n (u ∷ denials assumed)) (sym (same_term_grown history old new t grows there)) h }

-- the line of an assumption, of terms that stood
pub assumed_shown : (history : List Entry) (old new : Work) (assumed : List TermId) (a t : TermId) (n : ℕ) → WorkGrows history old new → CanRewrite history old assumed t → IsAssumed history old assumed a → LineLeads new n (term_at old.bank a) (not_term (term_at old.bank a) ∷ []) → IsHeld history new (terms_at old.bank assumed) (record { term = a; line = n })
assumed_shown history old new assumed a t n grows can is leads =
    let h = assumed_held history old new assumed a t n grows can is leads in
    record { term = h.term; line = subst (λ ts. LineHasOnly new n (term_at new.bank a ∷ denials ts)) (terms_same history old new grows assumed can.hypotheses) h.line }

pub first_assumed : (history : List Entry) (work : Work) (assumed : List TermId) (t : TermId) → CanRewrite history work assumed t → IsAssumed history work (t ∷ assumed) t
first_assumed history work assumed t can = record { among = inl refl; over = can.term }

-- the line of a NOT that was made just now
pub denied_line_now : (history : List Entry) (old new : Work) (grows : WorkGrows history old new) (assumed : List TermId) (t : TermId) (n : ℕ) → CanRewrite history old assumed t → LineHasOnly new n (not_term (term_at old.bank t) ∷ denials (terms_at old.bank assumed)) → LineHasOnly new n (not_term (term_at new.bank t) ∷ denials (terms_at new.bank assumed))
denied_line_now history old new grows assumed t n can h =
    subst (λ u. LineHasOnly new n (not_term u ∷ denials (terms_at new.bank assumed))) (sym (same_term_grown history old new t grows can.term)) (
    subst (λ ts. LineHasOnly new n (not_term (term_at old.bank t) ∷ denials ts)) (sym (terms_same history old new grows assumed can.hypotheses)) h)

-- a term is false where what a line shows would be F
pub contradicted_line : (history : List Entry) (w0 w1 w2 : Work) (assumed : List Term) (t : Term) (f : Fact) (n denied : ℕ) (r : Result ℕ Stop) → WorkStands history w0 → WorkGrows history w0 w1 → IsHeld history w0 assumed f → ShowsEqual w0 n (t ∷ assumed) (term_at w0.bank f.term) false_term → MakesOf w0 w1 (equal_term (term_at w0.bank f.term) false_term) (not_term (term_at w0.bank f.term)) n denied → IfOk r (CutsTo w1 w2 (term_at w1.bank f.term) f.line denied) → IfOk r (λ line. LineHasOnly w2 line (not_term t ∷ denials assumed))
contradicted_line history w0 w1 w2 assumed t f n denied r stands grows held shown makes h = for_ok r (CutsTo w1 w2 (term_at w1.bank f.term) f.line denied) (λ line. LineHasOnly w2 line (not_term t ∷ denials assumed)) (λ line cuts. by_cut line cuts) h
  where
    by_cut : (line : ℕ) → CutsTo w1 w2 (term_at w1.bank f.term) f.line denied line → LineHasOnly w2 line (not_term t ∷ denials assumed)
    by_cut line cuts =
        let p : Term = term_at w0.bank f.term in
        let D : List Term = denials assumed in
        let same : p ≡ term_at w1.bank f.term = sym (same_term_grown history w0 w1 f.term grows held.term) in
        cuts (not_term t ∷ D)
        (subst (λ u. LineHasOnly w1 f.line (u ∷ not_term t ∷ D)) same (
        only_grown history w0 w1 f.line (p ∷ not_term t ∷ D) stands grows (only_more w0 f.line (p ∷ D) (p ∷ not_term t ∷ D) (beside p D (not_term t ∷ D) (under (not_term t) D D (λ u m. m))) held.line)))
        (subst (λ u. LineHasOnly w1 denied (not_term u ∷ not_term t ∷ D)) same (makes (not_term t ∷ D) shown))
