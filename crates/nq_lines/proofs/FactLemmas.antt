-- Facts, and instances of them.
use Rattle.std.proofs.Common.{◌≡◌, ℕ, zero, suc, Bool, true, false, Option, Some, None, List, [], ◌∷◌, refl, sym, ◌∙◌, subst, inl}
use Rattle.std.specs.Prelude.{All, Result, IfOk, IfSome, IsSome, Vec, bytes_eq, if◌then◌else◌}
use Rattle.std.specs.declared.alloc.Global.{Global}
use Rattle.nq_logic.specs.Terms.{Name, Symbol, Term, Variable, Function, Applied, Substitution, IsAmong, Each, Takes, value_at, substituted}
use Rattle.nq_logic.specs.Ground.{symbols_of}
use Rattle.nq_logic.proofs.Lists.{each_at}
use Rattle.nq_proof.specs.Clauses.{Clause, distinct}
use Rattle.nq_proof.specs.Rules.{is_substitution, pair_terms}
use Rattle.nq_proof.proofs.Tests.{some_same}
use Rattle.nq_bank.specs.declared.node.TermId.{TermId}
use Rattle.nq_bank.specs.Content.{term_at}
use Rattle.nq_clause.specs.declared.substitution.Pair.{Pair}
use Rattle.nq_clause.specs.declared.binding.Binding.{Binding}
use Rattle.nq_clause.specs.Substitution.{substitution_at, PairStands}
use Rattle.nq_clause.specs.Binding.{bindings_at, variables_of, BindsOnly, Matches}
use Rattle.nq_rule.specs.Results.{instance_of}
use Rattle.nq_history.specs.declared.entry.Entry.{Entry}
use Rattle.nq_history.specs.Events.{events_at}
use Rattle.nq_history.proofs.HistoryLemmas.{events_at-grown}
use Rattle.nq_kernel.specs.declared.work.Work.{Work}
use Rattle.nq_kernel.specs.declared.work.Stop.{Stop}
use Rattle.nq_kernel.specs.Over.{IsVariable, IsTermOf, VariablesAre}
use Rattle.nq_kernel.specs.Growing.{WorkStands, WorkGrows, LineHolds, held}
use Rattle.nq_kernel.proofs.GrowingLemmas.{LineHolds-grown}
use Rattle.nq_kernel.proofs.HeldLines.{holds_held}
use Rattle.nq_lines.specs.Lines.{IsTermIn}
use Rattle.nq_lines.specs.Instances.{ArePairsIn}
use Rattle.nq_lines.proofs.LineLemmas.{from_distinct}
use Rattle.nq_lines.proofs.TermLemmas.{term_grown, same_term_grown}
use Rattle.nq_lines.specs.declared.facts.Fact.{Fact}
use Rattle.nq_lines.specs.Facts.{IsInstanceBy, IsFact, IsOnlyLiteral, IsOpening}
use Rattle.nq_lines.proofs.MatchLemmas.{distinct_told, instance_pairs}
use Rattle.nq_lines.specs.OwnTerms.{IsOver, HasOwnTerms}

-- ---- terms in place of variables

module _ (P : Name → Type 0) (symbols : List Symbol) where
  value_in : (s : Substitution) (x : Name) → P x → Each (IsTermOf P symbols) (pair_terms s) → IsTermOf P symbols (value_at s x)
  value_in [] x p h = record { over = tt; variables = p }
  value_in (b ∷ s) x p h = by_test (bytes_eq x b.0) (value_in s x p h.1)
    where
      by_test : (same : Bool) → IsTermOf P symbols (value_at s x) → IsTermOf P symbols (if same then b.1 else value_at s x)
      by_test true other = h.0
      by_test false other = other

  substituted_takes : (s : Substitution) (t : Term) (n : ℕ) → Each (IsTermOf P symbols) (pair_terms s) → Takes symbols t n → VariablesAre P t → Takes symbols (substituted s t) n
  substituted_takes s (Variable x) zero h takes are = (value_in s x are h).over
  substituted_takes s (Variable x) (suc n) h takes are = absurd takes
  substituted_takes s (Function f) n h takes are = takes
  substituted_takes s (Applied t u) n h takes are = (substituted_takes s t (suc n) h takes.0 are.0, substituted_takes s u zero h takes.1 are.1)

  substituted_are : (s : Substitution) (t : Term) → Each (IsTermOf P symbols) (pair_terms s) → VariablesAre P t → VariablesAre P (substituted s t)
  substituted_are s (Variable x) h are = (value_in s x are h).variables
  substituted_are s (Function f) h are = tt
  substituted_are s (Applied t u) h are = (substituted_are s t h are.0, substituted_are s u h are.1)

  pub substituted_over : (s : Substitution) (t : Term) → Each (IsTermOf P symbols) (pair_terms s) → IsTermOf P symbols t → IsTermOf P symbols (substituted s t)
  substituted_over s t h over = record { over = substituted_takes s t zero h over.over over.variables; variables = substituted_are s t h over.variables }

-- ---- matches

pub instance_found : (work : Work) (pattern t : TermId) (bindings : List Binding) → Matches work.bank (term_at work.bank pattern) (term_at work.bank t) [] bindings → IsInstanceBy (bindings_at work.bank bindings) (term_at work.bank pattern) (term_at work.bank t)
instance_found work pattern t bindings m =
    record {
      once = m.once;
      only = subst (λ bs. BindsOnly (bindings_at work.bank bs) (term_at work.bank pattern)) (sym m.whole) m.only;
      gives = m.fits;
    }

module _ (history : List Entry) (old new : Work) (grows : WorkGrows history old new) where
  -- the pairs of bindings that take a pattern to a term
  pub pairs_found : (pattern t : TermId) (bindings : List Binding) (pairs : Vec Pair Global) → WorkStands history old → IsTermIn history old pattern → IsTermIn history old t → IsInstanceBy (bindings_at old.bank bindings) (term_at old.bank pattern) (term_at old.bank t) → substitution_at new.bank pairs.items ≡ bindings_at old.bank bindings → All (PairStands new.bank) pairs.items → ArePairsIn history new pairs.items
  pairs_found pattern t bindings pairs stands there target instance same stand =
      let pattern_in : IsTermIn history new pattern = term_grown history old new pattern stands grows there in
      let target_in : IsTermIn history new t = term_grown history old new t stands grows target in
      let is : IsInstanceBy (bindings_at old.bank bindings) (term_at new.bank pattern) (term_at new.bank t) =
      subst (λ u. IsInstanceBy (bindings_at old.bank bindings) u (term_at new.bank t)) (sym (same_term_grown history old new pattern grows there)) (
      subst (IsInstanceBy (bindings_at old.bank bindings) (term_at old.bank pattern)) (sym (same_term_grown history old new t grows target)) instance) in
      let symbols : List Symbol = symbols_of (events_at new.bank history) in
      let over = instance_pairs symbols symbols (bindings_at old.bank bindings) (term_at new.bank pattern) (term_at new.bank t) is pattern_in.over target_in.over in
      record {
        stand = stand;
        distinct = subst (λ s. is_substitution s ≡ true) (sym same) (distinct_told (variables_of (bindings_at old.bank bindings)) is.once);
        terms = subst (λ s. Each (IsTermOf IsVariable symbols) (pair_terms s)) (sym same) over.0;
        names = subst (λ s. Each IsVariable (variables_of s)) (sym same) over.1;
      }

  -- a history has its own terms, however the bank grows
  pub own_terms_grown : WorkStands history old → HasOwnTerms (events_at old.bank history) → HasOwnTerms (events_at new.bank history)
  own_terms_grown stands ready = subst HasOwnTerms (sym (events_at-grown old.bank new.bank grows.bank history stands.history.entries)) ready

  pub fact_grown : (f : Fact) → WorkStands history old → IsFact history old f → IsFact history new f
  fact_grown f stands h =
      record {
        term = term_grown history old new f.term stands grows h.term;
        holds = subst (λ u. LineHolds new f.line (u ∷ [])) (sym (same_term_grown history old new f.term grows h.term)) (LineHolds-grown history old new f.line (term_at old.bank f.term ∷ []) stands grows h.holds);
      }

  -- the line of a term that stood
  pub fact_made : (t : TermId) (n : ℕ) → WorkStands history old → IsTermIn history old t → LineHolds new n (term_at old.bank t ∷ []) → IsFact history new (record { term = t; line = n })
  fact_made t n stands there holds =
      record {
        term = term_grown history old new t stands grows there;
        holds = subst (λ u. LineHolds new n (u ∷ [])) (sym (same_term_grown history old new t grows there)) holds;
      }

  -- a literal over the history
  literal_fact : (t : TermId) (n : ℕ) (u : Term) → WorkStands history old → IsOver (events_at old.bank history) u → IsOnlyLiteral new n t → term_at new.bank t ≡ u → IsFact history new (record { term = t; line = n })
  literal_fact t n u stands over only is =
      record {
        term = record {
          stands = only.stands;
          over =
              subst (IsOver (events_at new.bank history)) (sym is) (
              subst (λ es. IsOver es u) (sym (events_at-grown old.bank new.bank grows.bank history stands.history.entries)) over);
        };
        holds = only.holds;
      }

  -- the one literal of a row
  pub row_made : (o : Option Clause) (t : TermId) (n : ℕ) → WorkStands history old → IsSome o → ((c : Clause) → o ≡ Some c → Each (IsOver (events_at old.bank history)) c) → ((c : Clause) → o ≡ Some c → LineHolds new n (distinct c)) → IsOnlyLiteral new n t → IsFact history new (record { term = t; line = n })
  row_made None t n stands some over holds only = absurd cc
  row_made (Some c) t n stands some over holds only =
      let same : distinct c ≡ term_at new.bank t ∷ [] = some_same (distinct c) (term_at new.bank t ∷ []) (sym (holds c refl) ∙ only.holds) in
      let among : IsAmong (term_at new.bank t) c = from_distinct (term_at new.bank t) c (subst (IsAmong (term_at new.bank t)) (sym same) (inl refl)) in
      literal_fact t n (term_at new.bank t) stands (each_at (IsOver (events_at old.bank history)) (term_at new.bank t) c (over c refl) among) only refl

  -- the one literal of an instance
  pub instance_made : (f : Fact) (pairs : List Pair) (t : TermId) (n : ℕ) → WorkStands history old → IsFact history old f → ArePairsIn history old pairs → LineHolds new n (instance_of (substitution_at old.bank pairs) (held old f.line)) → IsOnlyLiteral new n t → IsFact history new (record { term = t; line = n })
  instance_made f pairs t n stands fact are holds only =
      let s : Substitution = substitution_at old.bank pairs in
      let u : Term = term_at old.bank f.term in
      let one : LineHolds new n (substituted s u ∷ []) = subst (λ c. LineHolds new n (instance_of s c)) (holds_held old f.line (u ∷ []) fact.holds) holds in
      let same : term_at new.bank t ∷ [] ≡ substituted s u ∷ [] = some_same (term_at new.bank t ∷ []) (substituted s u ∷ []) (sym only.holds ∙ one) in
      literal_fact t n (substituted s u) stands (substituted_over IsVariable (symbols_of (events_at old.bank history)) s u are.terms fact.term.over) only (head_same (term_at new.bank t) (substituted s u) same)
    where
      head_same : (v w : Term) → v ∷ [] ≡ w ∷ [] → v ≡ w
      head_same v w e = cc

  -- an opening of a term that stood
  pub opening_before : (work : Work) (t : TermId) (r : Result (Option Fact) Stop) → IsTermIn history old t → IfOk r (λ found. IfSome found (IsOpening history work (term_at new.bank t))) → IfOk r (λ found. IfSome found (IsOpening history work (term_at old.bank t)))
  opening_before work t r there h = subst (λ u. IfOk r (λ found. IfSome found (IsOpening history work u))) (same_term_grown history old new t grows there) h
