-- Terms come back by an instance.
use Rattle.std.proofs.Common.{ℕ, List, [], ◌∷◌, map, sym, ◌∙◌, subst, inl, inr, refl}
use Rattle.nq_logic.specs.Terms.{Name, Term, IsAmong, substituted}
use Rattle.nq_logic.specs.Admissible.{AreDistinct}
use Rattle.nq_bank.specs.declared.node.TermId.{TermId}
use Rattle.nq_bank.specs.Content.{terms_at}
use Rattle.nq_clause.specs.declared.substitution.Pair.{Pair}
use Rattle.nq_clause.specs.Substitution.{substitution_at}
use Rattle.nq_proof.specs.Clauses.{Clause, distinct}
use Rattle.nq_history.specs.declared.entry.Entry.{Entry}
use Rattle.nq_kernel.specs.declared.work.Work.{Work}
use Rattle.nq_lines.specs.Lines.{LineHasOnly}
use Rattle.nq_lines.specs.Instances.{InstancesTo}
use Rattle.nq_lines.proofs.LineLemmas.{only_more, from_distinct}
use Rattle.nq_moves.specs.declared.moved.Moved.{Moved}
use Rattle.nq_goals.specs.Replacing.{exchanged}
use Rattle.nq_goals.specs.Generalizing.{exchange_of}
use Rattle.nq_moves.specs.Laws.{terms_for}
use Rattle.nq_moves.specs.Renamed.{AreNewIn, ComesBack, IsRenamed}
use Rattle.nq_moves.proofs.ExchangeLemmas.{exchanged_back}

-- each literal of the instance is a literal
all_back : (xs : List Name) (ts : List Term) (c whole : Clause) → AreDistinct xs → AreNewIn xs c → ((t : Term) → IsAmong t c → IsAmong t whole) → (u : Term) → IsAmong u (map (substituted (terms_for xs ts)) (map (exchanged (exchange_of ts xs)) c)) → IsAmong u whole
all_back xs ts [] whole apart new within u m = absurd m
all_back xs ts (t ∷ c) whole apart new within u (inl e) = subst (λ v. IsAmong v whole) (sym (e ∙ exchanged_back ts xs t apart (new t (inl refl)))) (within t (inl refl))
all_back xs ts (t ∷ c) whole apart new within u (inr m) = all_back xs ts c whole apart (λ v k. new v (inr k)) (λ v k. within v (inr k)) u m

pub comes_back : (old new : Work) (pairs : List Pair) (line n : ℕ) → InstancesTo old new (substitution_at old.bank pairs) line n → ComesBack old new pairs line n
comes_back old new pairs line n instances xs ts c is apart fresh has =
    let made : LineHasOnly new n (map (substituted (terms_for xs ts)) (map (exchanged (exchange_of ts xs)) c)) =
    subst (λ s. LineHasOnly new n (map (substituted s) (map (exchanged (exchange_of ts xs)) c))) is (instances (map (exchanged (exchange_of ts xs)) c) has) in
    only_more new n (map (substituted (terms_for xs ts)) (map (exchanged (exchange_of ts xs)) c)) c (all_back xs ts c c apart fresh (λ t m. m)) made

pub renamed_closes : (history : List Entry) (old new : Work) (goal : List TermId) (moved : Moved) (line n : ℕ) (h : IsRenamed history old goal moved) → ComesBack old new moved.why.pairs.items line n → LineHasOnly old line (distinct (map (exchanged (exchange_of h.terms h.names)) (terms_at old.bank goal))) → LineHasOnly new n (terms_at old.bank goal)
renamed_closes history old new goal moved line n h back has =
    let c : Clause = map (exchanged (exchange_of h.terms h.names)) (terms_at old.bank goal) in
    back h.names h.terms (terms_at old.bank goal) h.pairs h.apart h.new (only_more old line (distinct c) c (λ t m. from_distinct t c m) has)
