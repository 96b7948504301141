-- A fact that a line shows beside a goal, wherever its terms are read.
use Rattle.std.proofs.Common.{ℕ, List, ◌∷◌, sym, ap₂, subst}
use Rattle.std.specs.Prelude.{All}
use Rattle.nq_logic.specs.Terms.{Term}
use Rattle.nq_bank.specs.declared.node.TermId.{TermId}
use Rattle.nq_bank.specs.Content.{term_at, terms_at}
use Rattle.nq_bank.proofs.Growth.{terms_at-grown}
use Rattle.nq_history.specs.declared.entry.Entry.{Entry}
use Rattle.nq_kernel.specs.declared.work.Work.{Work}
use Rattle.nq_kernel.specs.Growing.{WorkGrows, WorkStands}
use Rattle.nq_lines.specs.Lines.{IsTermIn, LineHasOnly}
use Rattle.nq_lines.proofs.TermLemmas.{term_grown, same_term_grown}
use Rattle.nq_elim.specs.Reasons.{FactHolds}

pub fact_beside_later : (history : List Entry) (old new : Work) → WorkStands history old → WorkGrows history old new → (t : TermId) (line : ℕ) (goal : List TermId) → IsTermIn history old t → All (IsTermIn history old) goal → LineHasOnly new line (terms_at old.bank (t ∷ goal)) → FactHolds history new (terms_at new.bank goal) (record { term = t; line = line })
fact_beside_later history old new stands grows t line goal h k says =
    record {
      term = term_grown history old new t stands grows h;
      says = subst (λ (ts : List Term). LineHasOnly new line ts) (sym (ap₂ (λ (u : Term) (us : List Term). u ∷ us) (same_term_grown history old new t grows h) (terms_at-grown old.bank new.bank goal grows.bank (λ i d below. (k i d below).stands)))) says;
    }
