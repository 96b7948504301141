-- Terms that lines of their own show to be false.
use Rattle.std.proofs.Common.{◌∷◌, [], ℕ, List, sym, subst}
use Rattle.nq_logic.specs.Words.{not_term}
use Rattle.nq_bank.specs.declared.node.TermId.{TermId}
use Rattle.nq_bank.specs.Content.{term_at, terms_at}
use Rattle.nq_history.specs.declared.entry.Entry.{Entry}
use Rattle.nq_kernel.specs.declared.work.Work.{Work}
use Rattle.nq_kernel.specs.Growing.{WorkGrows}
use Rattle.nq_lines.specs.Lines.{LineHasOnly}
use Rattle.nq_lines.proofs.Among.{beside, none_among}
use Rattle.nq_lines.proofs.LineLemmas.{only_more}
use Rattle.nq_lines.proofs.TermLemmas.{same_term_grown}
use Rattle.nq_reduce.specs.Rewriting.{CanRewrite, denials}

-- a line that has only the NOT of a term serves under any assumptions
pub denied_alone : (history : List Entry) (old new : Work) (assumed : List TermId) (t : TermId) (line : ℕ) → WorkGrows history old new → CanRewrite history old assumed t → LineHasOnly new line (not_term (term_at old.bank t) ∷ []) → LineHasOnly new line (not_term (term_at new.bank t) ∷ denials (terms_at new.bank assumed))
denied_alone history old new assumed t line grows can h =
    let D = denials (terms_at new.bank assumed) in
    subst (λ u. LineHasOnly new line (not_term u ∷ D)) (sym (same_term_grown history old new t grows can.term)) (
    only_more new line (not_term (term_at old.bank t) ∷ []) (not_term (term_at old.bank t) ∷ D) (beside (not_term (term_at old.bank t)) [] D (none_among D)) h)
