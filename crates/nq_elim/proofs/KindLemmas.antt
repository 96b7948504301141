-- Facts that hold of themselves hold beside any literals.
use Rattle.std.proofs.Common.{◌≡◌, List, [], ◌∷◌, ◌++◌, subst, sym, inl, inr}
use Rattle.std.specs.Prelude.{All}
use Rattle.nq_logic.specs.Terms.{Term}
use Rattle.nq_bank.specs.Content.{term_at}
use Rattle.nq_bank.proofs.Standing.{All-push}
use Rattle.nq_bank.specs.declared.node.TermId.{TermId}
use Rattle.nq_proof.specs.Clauses.{Clause}
use Rattle.nq_history.specs.declared.entry.Entry.{Entry}
use Rattle.nq_kernel.specs.declared.work.Work.{Work}
use Rattle.nq_kernel.specs.Growing.{WorkGrows}
use Rattle.nq_lines.specs.Lines.{AreAmong, IsTermIn}
use Rattle.nq_lines.proofs.LineLemmas.{only_more}
use Rattle.nq_lines.proofs.TermLemmas.{same_term_grown}
use Rattle.nq_lines.specs.declared.facts.Fact.{Fact}
use Rattle.nq_reduce.specs.declared.knowledge.Known.{Known}
use Rattle.nq_reduce.specs.Rewriting.{IsKnown}
use Rattle.nq_elim.specs.Reasons.{FactHolds}

-- more literals
one_among : (t : Term) (these : Clause) → AreAmong (t ∷ []) (t ∷ these)
one_among t these u (inl e) = inl e
one_among t these u (inr m) = absurd m

pub fact_beside : (history : List Entry) (work : Work) (these : Clause) (f : Fact) → FactHolds history work [] f → FactHolds history work these f
fact_beside history work these f h = record { term = h.term; says = only_more work f.line (term_at work.bank f.term ∷ []) (term_at work.bank f.term ∷ these) (one_among (term_at work.bank f.term) these) h.says }

-- what is known of a term that stood
pub known_later : (history : List Entry) (old new : Work) (t : TermId) → WorkGrows history old new → IsTermIn history old t → (known : Known) → IsKnown new [] (term_at old.bank t) known → IsKnown new [] (term_at new.bank t) known
known_later history old new t grows there known h = subst (λ u. IsKnown new [] u known) (sym (same_term_grown history old new t grows there)) h

-- one fact more
pub fact_pushed : (history : List Entry) (work : Work) (these : Clause) (facts all : List Fact) (f : Fact) → all ≡ facts ++ f ∷ [] → All (FactHolds history work these) facts → FactHolds history work these f → All (FactHolds history work these) all
fact_pushed history work these facts all f is h k = subst (All (FactHolds history work these)) (sym is) (All-push (FactHolds history work these) facts f h k)
