-- Terms that are written as IFs of two equal branches.
use Rattle.std.proofs.Common.{◌≡◌, ◌∷◌, [], ◌∙◌, ℕ, List, Some, sym, ap, subst}
use Rattle.nq_logic.specs.Terms.{Term}
use Rattle.nq_logic.specs.Words.{equal_term, if_term}
use Rattle.nq_bank.specs.declared.node.TermId.{TermId}
use Rattle.nq_bank.specs.Content.{IsIdOf, term_at}
use Rattle.nq_history.specs.declared.entry.Entry.{Entry}
use Rattle.nq_kernel.specs.declared.work.Work.{Work}
use Rattle.nq_kernel.specs.Growing.{WorkStands, WorkGrows}
use Rattle.nq_kernel.proofs.GrowingLemmas.{WorkGrows-trans}
use Rattle.nq_lines.specs.Lines.{IsTermIn, LineHasOnly, TurnsTo}
use Rattle.nq_lines.proofs.Among.{beside, none_among}
use Rattle.nq_lines.proofs.LineLemmas.{only_more}
use Rattle.nq_lines.proofs.TermLemmas.{term_grown, same_term_grown}
use Rattle.nq_reduce.specs.Rewriting.{IsRewritten, denials}

-- the IF is made, then its equation with the term, and this is turned round
pub doubled_to : (history : List Entry) (old one two three : Work) (assumed : List Term) (t p whole : TermId) (same line : ℕ) → WorkGrows history old one → WorkGrows history one two → WorkGrows history two three → IsTermIn history old t → IsTermIn history old p → IsTermIn history one whole →
    IsIdOf one.bank whole (if_term (term_at old.bank p) (term_at old.bank t) (term_at old.bank t)) → LineHasOnly two same (equal_term (if_term (term_at one.bank p) (term_at one.bank t) (term_at one.bank t)) (term_at one.bank t) ∷ []) →
    TurnsTo two three (term_at two.bank whole) (term_at two.bank t) same line → IsRewritten history three assumed (term_at old.bank t) (record { term = whole; line = Some line })
doubled_to history old one two three assumed t p whole same line g1 g2 g3 there test there_whole is shown turns =
    let u : Term = term_at old.bank t in
    let u1 : Term = term_at one.bank t in
    let q1 : Term = term_at one.bank p in
    let one_u : u1 ≡ u = same_term_grown history old one t g1 there in
    let one_q : q1 ≡ term_at old.bank p = same_term_grown history old one p g1 test in
    let two_u : term_at two.bank t ≡ u = same_term_grown history old two t (WorkGrows-trans history old one two g1 g2) there in
    let two_whole : term_at two.bank whole ≡ term_at one.bank whole = same_term_grown history one two whole g2 there_whole in
    let in_two : IsTermIn history two whole = term_grown history one two whole g1.stands g2 there_whole in
    let three_whole : term_at three.bank whole ≡ term_at two.bank whole = same_term_grown history two three whole g3 in_two in
    let parts : if_term q1 u1 u1 ≡ term_at two.bank whole = ap (λ x. if_term x u1 u1) one_q ∙ ap (λ x. if_term (term_at old.bank p) x x) one_u ∙ sym is.denotes ∙ sym two_whole in
    let e : Term = equal_term (term_at two.bank whole) (term_at two.bank t) in
    let here : LineHasOnly two same (e ∷ []) =
    subst (λ v. LineHasOnly two same (equal_term v (term_at two.bank t) ∷ [])) parts (
    subst (λ v. LineHasOnly two same (equal_term (if_term q1 u1 u1) v ∷ [])) (one_u ∙ sym two_u) shown) in
    let turned : LineHasOnly three line (equal_term (term_at two.bank t) (term_at two.bank whole) ∷ denials assumed) = turns (denials assumed) (only_more two same (e ∷ []) (e ∷ denials assumed) (beside e [] (denials assumed) (none_among (denials assumed))) here) in
    record {
      new = term_grown history two three whole g2.stands g3 in_two;
      shown =
          subst (λ v. LineHasOnly three line (equal_term u v ∷ denials assumed)) (sym three_whole) (
          subst (λ v. LineHasOnly three line (equal_term v (term_at two.bank whole) ∷ denials assumed)) two_u turned);
    }

-- an IF of two equal branches is that branch
pub undoubled_to : (history : List Entry) (old one : Work) (assumed : List Term) (t p x y : TermId) (line : ℕ) → WorkStands history old → WorkGrows history old one → IsTermIn history old x → term_at old.bank t ≡ if_term (term_at old.bank p) (term_at old.bank x) (term_at old.bank y) → y ≡ x →
    LineHasOnly one line (equal_term (if_term (term_at old.bank p) (term_at old.bank x) (term_at old.bank x)) (term_at old.bank x) ∷ []) → IsRewritten history one assumed (term_at old.bank t) (record { term = x; line = Some line })
undoubled_to history old one assumed t p x y line stands grows there whole same shown =
    let u : Term = term_at old.bank x in
    let is : if_term (term_at old.bank p) u u ≡ term_at old.bank t = ap (λ i. if_term (term_at old.bank p) u (term_at old.bank i)) (sym same) ∙ sym whole in
    let e : Term = equal_term (term_at old.bank t) u in
    let here : LineHasOnly one line (e ∷ []) = subst (λ v. LineHasOnly one line (equal_term v u ∷ [])) is shown in
    record {
      new = term_grown history old one x stands grows there;
      shown =
          subst (λ v. LineHasOnly one line (equal_term (term_at old.bank t) v ∷ denials assumed)) (sym (same_term_grown history old one x grows there)) (
          only_more one line (e ∷ []) (e ∷ denials assumed) (beside e [] (denials assumed) (none_among (denials assumed))) here);
    }
