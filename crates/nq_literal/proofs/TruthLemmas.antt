-- The literal T, which closes a goal.
use Rattle.std.proofs.Common.{◌≡◌, ◌∷◌, [], ℕ, List, Option, Some, None, sym, subst, inr}
use Rattle.std.specs.Prelude.{All, Result, IfOk, IfSome}
use Rattle.nq_logic.specs.Terms.{Term, IsAmong}
use Rattle.nq_logic.specs.Words.{equal_term}
use Rattle.nq_bank.specs.declared.node.TermId.{TermId}
use Rattle.nq_bank.specs.Content.{term_at, terms_at}
use Rattle.nq_rule.proofs.Made.{for_ok}
use Rattle.nq_history.specs.declared.entry.Entry.{Entry}
use Rattle.nq_kernel.specs.declared.work.Work.{Work}
use Rattle.nq_kernel.specs.declared.work.Stop.{Stop}
use Rattle.nq_kernel.specs.Growing.{WorkStands, WorkGrows}
use Rattle.nq_lines.specs.Lines.{IsTermIn, LineHasOnly, LineLeads}
use Rattle.nq_lines.proofs.Among.{and_among, beside, none_among}
use Rattle.nq_lines.proofs.LineLemmas.{leads_only, only_more}
use Rattle.nq_lines.proofs.TermLemmas.{term_grown, same_term_grown}
use Rattle.nq_reduce.proofs.RewritingLemmas.{terms_same}
use Rattle.nq_simplify.specs.declared.rewriter.NewLiteral.{NewLiteral}
use Rattle.nq_simplify.specs.Simplified.{IsNewLiteral}

-- T in the place of itself
pub truth_for_itself : (history : List Entry) (old new : Work) (others : List Term) (made : TermId) (line : ℕ) → WorkStands history old → WorkGrows history old new → IsTermIn history old made → LineLeads new line (equal_term (term_at old.bank made) (term_at old.bank made)) [] →
    IsNewLiteral history new others (term_at old.bank made) (record { term = made; line = line })
truth_for_itself history old new others made line stands grows there leads =
    let u : Term = term_at old.bank made in
    let e : Term = equal_term u u in
    record {
      term = term_grown history old new made stands grows there;
      line =
          subst (λ v. LineHasOnly new line (equal_term u v ∷ others)) (sym (same_term_grown history old new made grows there)) (
          only_more new line (e ∷ []) (e ∷ others) (beside e [] others (none_among others)) (leads_only new line e [] leads));
    }

-- T in the place of a literal that it stands beside
pub truth_for_other : (history : List Entry) (old new : Work) (others : List Term) (t : Term) (made : TermId) (line : ℕ) → WorkStands history old → WorkGrows history old new → IsTermIn history old made → IsAmong (term_at old.bank made) others → LineHasOnly new line (term_at old.bank made ∷ []) →
    IsNewLiteral history new others t (record { term = made; line = line })
truth_for_other history old new others t made line stands grows there among shown =
    let u : Term = term_at old.bank made in
    let e : Term = equal_term t (term_at new.bank made) in
    record {
      term = term_grown history old new made stands grows there;
      line = only_more new line (u ∷ []) (e ∷ others) (and_among u [] (e ∷ others) (inr among) (none_among (e ∷ others))) shown;
    }

-- a new literal that was found after the work grew
pub literal_before : (history : List Entry) (old mid new : Work) (others : List TermId) (t : TermId) (r : NewLiteral) → WorkGrows history old mid → All (IsTermIn history old) others → IsTermIn history old t → IsNewLiteral history new (terms_at mid.bank others) (term_at mid.bank t) r →
    IsNewLiteral history new (terms_at old.bank others) (term_at old.bank t) r
literal_before history old mid new others t r grows there literal h =
    subst (λ ts. IsNewLiteral history new ts (term_at old.bank t) r) (terms_same history old mid grows others there) (
    subst (λ u. IsNewLiteral history new (terms_at mid.bank others) u r) (same_term_grown history old mid t grows literal) h)

pub found_before : (history : List Entry) (old mid new : Work) (others : List TermId) (t : TermId) (found : Option NewLiteral) → WorkGrows history old mid → All (IsTermIn history old) others → IsTermIn history old t → IfSome found (λ r. IsNewLiteral history new (terms_at mid.bank others) (term_at mid.bank t) r) →
    IfSome found (λ r. IsNewLiteral history new (terms_at old.bank others) (term_at old.bank t) r)
found_before history old mid new others t None grows there literal h = tt
found_before history old mid new others t (Some r) grows there literal h = literal_before history old mid new others t r grows there literal h

pub ok_before : (history : List Entry) (old mid new : Work) (others : List TermId) (t : TermId) (result : Result (Option NewLiteral) Stop) → WorkGrows history old mid → All (IsTermIn history old) others → IsTermIn history old t → IfOk result (λ o. IfSome o (λ r. IsNewLiteral history new (terms_at mid.bank others) (term_at mid.bank t) r)) →
    IfOk result (λ o. IfSome o (λ r. IsNewLiteral history new (terms_at old.bank others) (term_at old.bank t) r))
ok_before history old mid new others t result grows there literal h =
    for_ok result (λ o. IfSome o (λ r. IsNewLiteral history new (terms_at mid.bank others) (term_at mid.bank t) r)) (λ o. IfSome o (λ r. IsNewLiteral history new (terms_at old.bank others) (term_at old.bank t) r))
    (λ o k. found_before history old mid new others t o grows there literal k) h
