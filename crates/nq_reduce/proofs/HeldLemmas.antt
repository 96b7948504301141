-- Lines that show terms where others are assumed.
use Rattle.std.proofs.Common.{◌≡◌, ◌∷◌, [], ℕ, true, false, List, Option, Some, None, sym, subst}
use Rattle.std.specs.Prelude.{Result, IfOk, IfSome, codes}
use Rattle.nq_logic.specs.Terms.{Term}
use Rattle.nq_logic.specs.Words.{equal_term, false_term, true_term, not_term}
use Rattle.nq_bank.specs.declared.node.TermId.{TermId}
use Rattle.nq_bank.specs.Content.{term_at, terms_at}
use Rattle.nq_rule.proofs.Made.{for_ok}
use Rattle.nq_history.specs.declared.entry.Entry.{Entry}
use Rattle.nq_kernel.specs.declared.work.Work.{Work}
use Rattle.nq_kernel.specs.declared.work.Stop.{Stop}
use Rattle.nq_kernel.specs.Growing.{WorkStands, WorkGrows}
use Rattle.nq_lines.specs.Lines.{IsTermIn, LineHasOnly, LineLeads, MakesOf}
use Rattle.nq_lines.proofs.Among.{beside, none_among}
use Rattle.nq_lines.proofs.LineLemmas.{leads_only, only_more, only_stands}
use Rattle.nq_lines.proofs.TermLemmas.{term_grown, same_term_grown}
use Rattle.nq_lines.specs.declared.facts.Fact.{Fact}
use Rattle.nq_lines.specs.declared.facts.Sides.{Sides}
use Rattle.nq_instances.specs.Parts.{AreSides, Derives, DerivesWith, IsLine}
use Rattle.nq_lines.specs.Facts.{IsFact, IsOpening}
use Rattle.nq_reduce.specs.declared.knowledge.Known.{Known}
use Rattle.nq_reduce.specs.Rewriting.{CanRewrite, IsKnown, IsRewritten, denials}
use Rattle.nq_reduce.specs.Held.{IsHeld}
use Rattle.nq_reduce.specs.declared.results.Rewritten.{Rewritten}
use Rattle.nq_reduce.proofs.RewritingLemmas.{can_grown, itself, known_true, rewritten_before, terms_same}
use Rattle.nq_instances.proofs.PartLemmas.{has_still}

pub held_line : (history : List Entry) (work : Work) (assumed : List Term) (f : Fact) → IsHeld history work assumed f → IsLine history work f
held_line history work assumed f h = record { term = h.term; line = only_stands work f.line (term_at work.bank f.term ∷ denials assumed) h.line }

-- a fact that needs no assumption
pub held_fact : (history : List Entry) (work : Work) (assumed : List Term) (r : Result (Option Fact) Stop) → IfOk r (λ found. IfSome found (IsFact history work)) → IfOk r (λ found. IfSome found (IsHeld history work assumed))
held_fact history work assumed r h = for_ok r (λ found. IfSome found (IsFact history work)) (λ found. IfSome found (IsHeld history work assumed)) (λ found k. by_found found k) h
  where
    by_found : (found : Option Fact) → IfSome found (IsFact history work) → IfSome found (IsHeld history work assumed)
    by_found None k = tt
    by_found (Some f) k =
        let t : Term = term_at work.bank f.term in
        record { term = k.term; line = record { literals = t ∷ []; stands = k.holds; only = beside t [] (denials assumed) (none_among (denials assumed)) } }

pub held_derived : (history : List Entry) (old new : Work) (assumed : List Term) (f : Fact) (r : Result (Option Fact) Stop) → IsHeld history old assumed f → IfOk r (λ found. IfSome found (Derives history old new f)) → IfOk r (λ found. IfSome found (IsHeld history new assumed))
held_derived history old new assumed f r held h = for_ok r (λ found. IfSome found (Derives history old new f)) (λ found. IfSome found (IsHeld history new assumed)) (λ found k. by_found found k) h
  where
    by_found : (found : Option Fact) → IfSome found (Derives history old new f) → IfSome found (IsHeld history new assumed)
    by_found None k = tt
    by_found (Some g) k = record { term = k.is.term; line = k.makes (denials assumed) held.line }

pub held_consequence : (history : List Entry) (old new : Work) (assumed : List Term) (f g : Fact) (r : Result (Option Fact) Stop) → IsHeld history old assumed f → IsHeld history old assumed g → IfOk r (λ found. IfSome found (DerivesWith history old new f g)) → IfOk r (λ found. IfSome found (IsHeld history new assumed))
held_consequence history old new assumed f g r held other h = for_ok r (λ found. IfSome found (DerivesWith history old new f g)) (λ found. IfSome found (IsHeld history new assumed)) (λ found k. by_found found k) h
  where
    by_found : (found : Option Fact) → IfSome found (DerivesWith history old new f g) → IfSome found (IsHeld history new assumed)
    by_found None k = tt
    by_found (Some e) k = record { term = k.is.term; line = k.makes (denials assumed) held.line other.line }

module _ (history : List Entry) (old new : Work) (grows : WorkGrows history old new) where
  pub held_grown : (assumed : List Term) (f : Fact) → WorkStands history old → IsHeld history old assumed f → IsHeld history new assumed f
  held_grown assumed f stands h = record { term = term_grown history old new f.term stands grows h.term; line = has_still history old new grows f (denials assumed) stands h.term h.line }

  module _ (assumed : List TermId) (t : TermId) (can : CanRewrite history old assumed t) where
    -- made just now, under terms that stood
    pub held_now : (f : Fact) → IsHeld history new (terms_at old.bank assumed) f → IsHeld history new (terms_at new.bank assumed) f
    held_now f h = subst (λ ts. IsHeld history new ts f) (sym (terms_same history old new grows assumed can.hypotheses)) h

    -- made before
    pub held_after : (f : Fact) → IsHeld history old (terms_at old.bank assumed) f → IsHeld history new (terms_at new.bank assumed) f
    held_after f h = held_now f (held_grown (terms_at old.bank assumed) f can.stands h)

    -- what a later call tells
    pub held_before : (work : Work) (r : Result (Option Fact) Stop) → IfOk r (λ found. IfSome found (IsHeld history work (terms_at new.bank assumed))) → IfOk r (λ found. IfSome found (IsHeld history work (terms_at old.bank assumed)))
    held_before work r h = subst (λ ts. IfOk r (λ found. IfSome found (IsHeld history work ts))) (terms_same history old new grows assumed can.hypotheses) h

    pub known_told : (work : Work) (r : Result (Option Known) Stop) → IfOk r (λ found. IfSome found (λ k. IsKnown work (terms_at new.bank assumed) (term_at new.bank t) k)) → IfOk r (λ found. IfSome found (λ k. IsKnown work (terms_at old.bank assumed) (term_at old.bank t) k))
    known_told work r h =
        subst (λ ts. IfOk r (λ found. IfSome found (λ k. IsKnown work ts (term_at old.bank t) k))) (terms_same history old new grows assumed can.hypotheses) (
        subst (λ u. IfOk r (λ found. IfSome found (λ k. IsKnown work (terms_at new.bank assumed) u k))) (same_term_grown history old new t grows can.term) h)

-- a term that is known to be true
pub held_known : (history : List Entry) (old new : Work) (assumed : List Term) (t : TermId) (k : Known) → WorkGrows history old new → WorkStands history old → IsTermIn history old t → k.value ≡ true → IsKnown new assumed (term_at old.bank t) k → IsHeld history new assumed (record { term = t; line = k.line })
held_known history old new assumed t k grows stands there is h =
    record {
      term = term_grown history old new t stands grows there;
      line = subst (λ u. LineHasOnly new k.line (u ∷ denials assumed)) (sym (same_term_grown history old new t grows there)) (known_true new assumed (term_at old.bank t) k is h);
    }

-- an equation with t as its left side
pub shown_equation : (history : List Entry) (work : Work) (assumed : List TermId) (t : TermId) (f : Fact) (sides : Sides) → AreSides history work (codes "EQUAL") f.term sides → sides.left ≡ t → IsHeld history work (terms_at work.bank assumed) f → IsRewritten history work (terms_at work.bank assumed) (term_at work.bank t) (record { term = sides.right; line = Some f.line })
shown_equation history work assumed t f sides are same h =
    let hyps : List Term = denials (terms_at work.bank assumed) in
    record {
      new = are.right;
      shown =
          subst (λ i. LineHasOnly work f.line (equal_term (term_at work.bank i) (term_at work.bank sides.right) ∷ hyps)) same (
          subst (λ u. LineHasOnly work f.line (u ∷ hyps)) are.whole h.line);
    }

-- the NOT of t
pub shown_denial : (history : List Entry) (work : Work) (assumed : List Term) (t p : TermId) (f : Fact) → term_at work.bank f.term ≡ not_term (term_at work.bank p) → p ≡ t → IsHeld history work assumed f → LineHasOnly work f.line (not_term (term_at work.bank t) ∷ denials assumed)
shown_denial history work assumed t p f denies same h =
    subst (λ i. LineHasOnly work f.line (not_term (term_at work.bank i) ∷ denials assumed)) same (
    subst (λ u. LineHasOnly work f.line (u ∷ denials assumed)) denies h.line)

-- the opening of t
pub opening_rewritten : (history : List Entry) (work : Work) (assumed : List Term) (t : Term) (f : Fact) → IsOpening history work t f → IsRewritten history work assumed t (record { term = f.term; line = Some f.line })
opening_rewritten history work assumed t f h =
    let e : Term = equal_term t (term_at work.bank f.term) in
    record { new = h.term; shown = only_more work f.line (e ∷ []) (e ∷ denials assumed) (beside e [] (denials assumed) (none_among (denials assumed))) h.line }

module _ (history : List Entry) (old one two : Work) (assumed : List Term) (t : TermId) (same line : ℕ) (grows : WorkGrows history old one) (there : IsTermIn history old t) (leads : LineLeads one same (equal_term (term_at old.bank t) (term_at old.bank t)) []) where
  abbrev u : Term
  u = term_at old.bank t

  unchanged_term : term_at one.bank t ≡ u
  unchanged_term = same_term_grown history old one t grows there

  equals : (v : Term) → u ≡ v → LineHasOnly one same (equal_term (term_at one.bank t) v ∷ denials assumed)
  equals v is =
      subst (λ w. LineHasOnly one same (equal_term w v ∷ denials assumed)) (sym unchanged_term) (
      subst (λ w. LineHasOnly one same (equal_term u w ∷ denials assumed)) is (
      only_more one same (equal_term u u ∷ []) (equal_term u u ∷ denials assumed) (beside (equal_term u u) [] (denials assumed) (none_among (denials assumed))) (leads_only one same (equal_term u u) [] leads)))

  -- T is true
  pub truth_known : u ≡ true_term → MakesOf one two (equal_term (term_at one.bank t) true_term) (term_at one.bank t) same line → IsKnown two assumed u (record { value = true; line = line })
  truth_known is makes = record { shown = subst (λ w. LineHasOnly two line (w ∷ denials assumed)) unchanged_term (makes (denials assumed) (equals true_term is)) }

-- T is true, by its row
pub truth_by_row : (work : Work) (assumed : List Term) (u : Term) (line : ℕ) → u ≡ true_term → LineLeads work line true_term [] → IsKnown work assumed u (record { value = true; line = line })
truth_by_row work assumed u line is leads =
    record { shown = subst (λ w. LineHasOnly work line (w ∷ denials assumed)) (sym is) (only_more work line (true_term ∷ []) (true_term ∷ denials assumed) (beside true_term [] (denials assumed) (none_among (denials assumed))) (leads_only work line true_term [] leads)) }

-- F is false, by its row
pub falsity_by_row : (work : Work) (assumed : List Term) (u : Term) (line : ℕ) → u ≡ false_term → LineLeads work line (not_term false_term) [] → IsKnown work assumed u (record { value = false; line = line })
falsity_by_row work assumed u line is leads =
    let n : Term = not_term false_term in
    record { shown = subst (λ w. LineHasOnly work line (not_term w ∷ denials assumed)) (sym is) (only_more work line (n ∷ []) (n ∷ denials assumed) (beside n [] (denials assumed) (none_among (denials assumed))) (leads_only work line n [] leads)) }

-- the term itself, after the work grew
pub unchanged_after : (history : List Entry) (old one : Work) (assumed : List TermId) (t : TermId) (r : Rewritten) → WorkGrows history old one → CanRewrite history old assumed t → r.term ≡ t → r.line ≡ None → IsRewritten history one (terms_at old.bank assumed) (term_at old.bank t) r
unchanged_after history old one assumed t r grows can same none =
    rewritten_before history old one grows assumed t one r can (itself history one assumed t r (can_grown history old one grows assumed t can) same none)
