-- Denials of facts.
use Rattle.std.proofs.Common.{◌≡◌, ◌<◌, ◌+◌, ℕ, List, [], ◌∷◌, ◌++◌, length, map, get_or, take, refl, sym, ap, ap₂, ◌∙◌, subst}
use Rattle.std.specs.Prelude.{All}
use Rattle.std.proofs.lemmas.List.{map_push, map-append, take_more}
use Rattle.nq_logic.specs.Terms.{Term}
use Rattle.nq_logic.specs.Words.{not_term}
use Rattle.nq_bank.specs.declared.node.TermId.{TermId}
use Rattle.nq_bank.specs.Content.{Content, term_at, terms_at}
use Rattle.nq_proof.specs.Clauses.{Clause}
use Rattle.nq_history.specs.declared.entry.Entry.{Entry}
use Rattle.nq_kernel.specs.declared.work.Work.{Work}
use Rattle.nq_kernel.specs.Growing.{WorkStands, WorkGrows}
use Rattle.nq_lines.specs.Lines.{IsTermIn, LineHasOnly}
use Rattle.nq_lines.specs.declared.facts.Fact.{Fact}
use Rattle.nq_elim.specs.Reasons.{FactHolds, denied_at}
use Rattle.nq_elim.proofs.GrownLemmas.{same_terms}
use Rattle.nq_elim.proofs.ReasonLemmas.{fact_grown}
use Rattle.nq_elim.proofs.GrownLemmas.{same_terms}

-- one more denial
pub denied_more : (old mid new : Content) (denials : List TermId) (d : TermId) (facts : List Fact) (i : ℕ) (none : Fact) → i < length facts → terms_at new denials ≡ terms_at mid denials → terms_at mid denials ≡ denied_at old (take i facts) → term_at new d ≡ not_term (term_at old (get_or facts i none).term) →
    terms_at new (denials ++ d ∷ []) ≡ denied_at old (take (i + 1) facts)
denied_more old mid new denials d facts i none below same before is =
    map_push (term_at new) denials d ∙ ap₂ (λ (ts : Clause) (t : Term). ts ++ t ∷ []) (same ∙ before) is ∙
    sym (ap (denied_at old) (take_more facts i none below) ∙ map_push (λ f. not_term (term_at old f.term)) (take i facts) (get_or facts i none))

-- a fact that holds in earlier work
pub fact_later : (history : List Entry) (old new : Work) → WorkStands history old → WorkGrows history old new → (e : TermId) (line : ℕ) (rest : List TermId) → IsTermIn history old e → All (IsTermIn history old) rest → LineHasOnly old line (term_at old.bank e ∷ terms_at old.bank rest) → FactHolds history new (terms_at new.bank rest) (record { term = e; line = line })
fact_later history old new stands grows e line rest there all says =
    let f : Fact = record { term = e; line = line } in
    subst (λ (ts : Clause). FactHolds history new ts f) (sym (same_terms history old new stands grows rest all)) (fact_grown history old new stands grows (terms_at old.bank rest) f (record { term = there; says = says }))
