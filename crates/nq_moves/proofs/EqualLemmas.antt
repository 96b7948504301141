-- What is equal stays equal while work grows.
use Rattle.std.proofs.Common.{◌≡◌, ℕ, false, List, [], ◌∷◌, sym, ap, ◌∙◌, subst, inl, inr, true}
use Rattle.std.specs.Prelude.{nat_eq, Some, Result, Ok, Err, IfOk, OnOk}
use Rattle.std.specs.HashMap.{Updates}
use Rattle.nq_logic.specs.Terms.{Term, Variable}
use Rattle.nq_logic.specs.Words.{equal_term, numeral}
use Rattle.nq_bank.specs.declared.node.TermId.{TermId}
use Rattle.nq_bank.specs.Content.{Stands, term_at}
use Rattle.nq_bank.proofs.Growth.{Stands-grown, term_at-grown}
use Rattle.nq_proof.specs.Clauses.{same_term}
use Rattle.nq_clause.proofs.Lookups.{kept_or_stood}
use Rattle.nq_history.specs.declared.entry.Entry.{Entry}
use Rattle.nq_kernel.specs.declared.work.Work.{Work}
use Rattle.nq_kernel.specs.Growing.{WorkStands, WorkGrows}
use Rattle.nq_lines.specs.declared.calls.Equated.{Equated}
use Rattle.nq_lines.specs.Lines.{LineHasOnly, IsTermIn}
use Rattle.nq_lines.proofs.LineLemmas.{only_grown, only_more}
use Rattle.nq_lines.proofs.TermLemmas.{term_grown, same_term_grown}
use Rattle.nq_goals.specs.Replacing.{exchanged, exchanged_within}
use Rattle.nq_moves.specs.declared.equal.Swap.{Swap}
use Rattle.nq_moves.specs.Equal.{swap_at, SwapStands, IsEqual, Equals, HasEquals}

module _ (history : List Entry) (old new : Work) (stood : WorkStands history old) (grows : WorkGrows history old new) (w : Swap) where
  swap_same : Stands old.bank w.from → IsTermIn history old w.into → swap_at new.bank w ≡ swap_at old.bank w
  swap_same from into =
      ap (λ t. (t, term_at new.bank w.into) ∷ []) (term_at-grown old.bank new.bank w.from grows.bank from) ∙
      ap (λ t. (term_at old.bank w.from, t) ∷ []) (term_at-grown old.bank new.bank w.into grows.bank into.stands)

  pub same_swap : SwapStands history old w → swap_at new.bank w ≡ swap_at old.bank w
  same_swap h = swap_same h.from h.into

  pub swap_grown : SwapStands history old w → SwapStands history new w
  swap_grown h =
      let from = term_at-grown old.bank new.bank w.from grows.bank h.from in
      let into = term_at-grown old.bank new.bank w.into grows.bank h.into.stands in
      let hypothesis = term_at-grown old.bank new.bank w.hypothesis grows.bank h.hypothesis in
      record {
        from = Stands-grown old.bank new.bank w.from grows.bank h.from;
        into = term_grown history old new w.into stood grows h.into;
        hypothesis = Stands-grown old.bank new.bank w.hypothesis grows.bank h.hypothesis;
        numerals = λ n small. ap (λ es. exchanged es (numeral n)) (swap_same h.from h.into) ∙ h.numerals n small;
        says =
            subst (λ x. LineHasOnly new w.line (equal_term x (term_at new.bank w.into) ∷ term_at new.bank w.hypothesis ∷ [])) (sym from)
            (subst (λ t. LineHasOnly new w.line (equal_term (term_at old.bank w.from) t ∷ term_at new.bank w.hypothesis ∷ [])) (sym into)
            (subst (λ t. LineHasOnly new w.line (equal_term (term_at old.bank w.from) (term_at old.bank w.into) ∷ t ∷ [])) (sym hypothesis) (only_grown history old new w.line _ stood grows h.says)));
      }

  pub equal_grown : (s : TermId) (e : Equated) → SwapStands history old w → IsEqual history old w s e → IsEqual history new w s e
  equal_grown s e swap h =
      let whole = term_at-grown old.bank new.bank s grows.bank h.stands in
      let made = same_term_grown history old new e.term grows h.over in
      let hypothesis = term_at-grown old.bank new.bank w.hypothesis grows.bank swap.hypothesis in
      record {
        stands = Stands-grown old.bank new.bank s grows.bank h.stands;
        over = term_grown history old new e.term stood grows h.over;
        is = made ∙ h.is ∙ ap (λ t. exchanged (swap_at old.bank w) t) (sym whole) ∙ ap (λ p. exchanged p (term_at new.bank s)) (sym (same_swap swap));
        says =
            subst (λ t. LineHasOnly new e.line (equal_term t (term_at new.bank e.term) ∷ term_at new.bank w.hypothesis ∷ [])) (sym whole)
            (subst (λ t. LineHasOnly new e.line (equal_term (term_at old.bank s) t ∷ term_at new.bank w.hypothesis ∷ [])) (sym made)
            (subst (λ t. LineHasOnly new e.line (equal_term (term_at old.bank s) (term_at old.bank e.term) ∷ t ∷ [])) (sym hypothesis) (only_grown history old new e.line _ stood grows h.says)));
      }

  pub equals_grown : (known : Equals) → SwapStands history old w → HasEquals history old w known → HasEquals history new w known
  equals_grown known swap h = record { right = λ t e found. equal_grown t e swap (h.right t e found) }

-- what is kept is right
pub equals_kept : (history : List Entry) (work : Work) (w : Swap) (old new : Equals) (t : TermId) (e : Equated) → HasEquals history work w old → Updates nat_eq old new t.0 (Some e) → IsEqual history work w t e → HasEquals history work w new
equals_kept history work w old new t e h updates is =
    record {
      right = λ q r found.
          elim (kept_or_stood old new t.0 q.0 e r updates found) [
            | inl here ↦ subst (λ r'. IsEqual history work w q r') here.1 (subst (λ k. IsEqual history work w (record { 0 = k }) e) here.0 is)
            | inr there ↦ h.right q r there
          ];
    }

-- another variable is as it was
pub other_variable : (a b s : Term) (y : List ℕ) → s ≡ Variable y → same_term a s ≡ false → exchanged ((a, b) ∷ []) s ≡ s
other_variable a b s y is e = ap (λ x. elim x as (λ x. Term) [ true ↦ b | false ↦ exchanged_within ((a, b) ∷ []) s ]) e ∙ ap (exchanged_within ((a, b) ∷ [])) is ∙ sym is

-- a term that stays as it is equals itself
module _ (history : List Entry) (old new : Work) (stood : WorkStands history old) (grows : WorkGrows history old new) (w : Swap) (s : TermId) where
  pub itself_equal : SwapStands history old w → IsTermIn history old s → exchanged (swap_at old.bank w) (term_at old.bank s) ≡ term_at old.bank s → (e : Equated) → e.term ≡ s → LineHasOnly new e.line (equal_term (term_at old.bank s) (term_at old.bank s) ∷ []) → IsEqual history new w s e
  itself_equal swap h same e is says =
      let whole = same_term_grown history old new s grows h in
      let made : term_at new.bank e.term ≡ term_at old.bank s = ap (term_at new.bank) is ∙ whole in
      record {
        stands = Stands-grown old.bank new.bank s grows.bank h.stands;
        over = subst (IsTermIn history new) (sym is) (term_grown history old new s stood grows h);
        is = made ∙ sym same ∙ ap (λ t. exchanged (swap_at old.bank w) t) (sym whole) ∙ ap (λ p. exchanged p (term_at new.bank s)) (sym (same_swap history old new stood grows w swap));
        says =
            subst (λ t. LineHasOnly new e.line (equal_term t (term_at new.bank e.term) ∷ term_at new.bank w.hypothesis ∷ [])) (sym whole)
            (subst (λ t. LineHasOnly new e.line (equal_term (term_at old.bank s) t ∷ term_at new.bank w.hypothesis ∷ [])) (sym made)
            (only_more new e.line (equal_term (term_at old.bank s) (term_at old.bank s) ∷ []) (equal_term (term_at old.bank s) (term_at old.bank s) ∷ term_at new.bank w.hypothesis ∷ []) (λ t m. elim m [ inl k ↦ inl k | inr none ↦ absurd none ]) says));
      }

-- what holds of an answer by two facts
pub both_ok : {X E : Type 0} (r : Result X E) (P Q R : X → Type 0) → ((x : X) → P x → Q x → R x) → IfOk r P → IfOk r Q → IfOk r R
both_ok (Ok x) P Q R f p q = f x p q
both_ok (Err e) P Q R f p q = p

pub on_ok : {X E : Type 0} (r : Result X E) (P : Type 0) → P → OnOk r P
on_ok (Ok x) P p = p
on_ok (Err e) P p = tt
