-- Lines of several literals, and instances of them.
use Rattle.std.proofs.Common.{◌≡◌, ◌<◌, ℕ, zero, suc, Option, Some, None, List, [], ◌∷◌, length, get_or, refl, sym, ap, ◌∙◌, subst, inl, inr, arith}
use Rattle.std.specs.Prelude.{All, IsSome, map, is_some}
use Rattle.std.specs.Option.{option_map}
use Rattle.nq_logic.specs.Terms.{Term, Substitution, IsAmong, Each, substituted}
use Rattle.nq_logic.specs.Ground.{symbols_of}
use Rattle.nq_logic.proofs.Lists.{each_at}
use Rattle.nq_bank.specs.declared.node.TermId.{TermId}
use Rattle.nq_bank.specs.Content.{Stands, term_at, terms_at}
use Rattle.nq_clause.specs.declared.substitution.Pair.{Pair}
use Rattle.nq_clause.specs.Substitution.{substitution_at}
use Rattle.nq_proof.specs.Clauses.{Clause, distinct}
use Rattle.nq_proof.specs.Rules.{pair_terms}
use Rattle.nq_proof.proofs.Tests.{some_same}
use Rattle.nq_rule.specs.Results.{instance_of}
use Rattle.nq_history.specs.declared.entry.Entry.{Entry}
use Rattle.nq_history.specs.Events.{events_at}
use Rattle.nq_history.proofs.HistoryLemmas.{events_at-grown}
use Rattle.nq_kernel.specs.declared.work.Work.{Work}
use Rattle.nq_kernel.specs.Over.{IsVariable, IsTermOf}
use Rattle.nq_kernel.specs.Lines.{ids_at}
use Rattle.nq_kernel.specs.Meaning.{clause_at}
use Rattle.nq_kernel.specs.Growing.{WorkStands, WorkGrows, LineHolds, LineStands, held}
use Rattle.nq_kernel.proofs.GrowingLemmas.{LineHolds-grown}
use Rattle.nq_kernel.proofs.HeldLines.{holds_held}
use Rattle.nq_lines.specs.Lines.{AreAmong, IsTermIn}
use Rattle.nq_lines.specs.Instances.{ArePairsIn}
use Rattle.nq_lines.specs.OwnTerms.{IsOver}
use Rattle.nq_lines.proofs.LineLemmas.{from_distinct}
use Rattle.nq_lines.proofs.FactLemmas.{substituted_over}
use Rattle.nq_reduce.specs.Clauses.{AreLiterals, LineIsIn}

-- what holds of each holds of each of some
each_of : (P : Term → Type 0) (c d : Clause) → Each P c → AreAmong d c → Each P d
each_of P c [] h within = tt
each_of P c (t ∷ d) h within = (each_at P t c h (within t (inl refl)), each_of P c d h (λ u m. within u (inr m)))

each_mapped : (P : Term → Type 0) (f : Term → Term) (c : Clause) → ((t : Term) → P t → P (f t)) → Each P c → Each P (map f c)
each_mapped P f [] keeps h = tt
each_mapped P f (t ∷ c) keeps h = (keeps t h.0, each_mapped P f c keeps h.1)

module _ (history : List Entry) (old new : Work) (grows : WorkGrows history old new) where
  over_grown : (c : Clause) → WorkStands history old → Each (IsOver (events_at old.bank history)) c → Each (IsOver (events_at new.bank history)) c
  over_grown c stands h = subst (λ es. Each (IsOver es) c) (sym (events_at-grown old.bank new.bank grows.bank history stands.history.entries)) h

  -- a line stays in as the work grows
  pub line_in_grown : (line : ℕ) → WorkStands history old → LineIsIn history old line → LineIsIn history new line
  line_in_grown line stands h =
      record { literals = h.literals; holds = LineHolds-grown history old new line h.literals stands grows h.holds; over = over_grown h.literals stands h.over }

  -- the line of a row
  pub row_in : (o : Option Clause) (n : ℕ) → WorkStands history old → IsSome o → ((c : Clause) → o ≡ Some c → Each (IsOver (events_at old.bank history)) c) → ((c : Clause) → o ≡ Some c → LineHolds new n (distinct c)) → LineIsIn history new n
  row_in None n stands some over holds = absurd cc
  row_in (Some c) n stands some over holds =
      record {
        literals = distinct c;
        holds = holds c refl;
        over = over_grown (distinct c) stands (each_of (IsOver (events_at old.bank history)) c (distinct c) (over c refl) (λ u m. from_distinct u c m));
      }

  -- the line of an instance
  pub instance_in : (line n : ℕ) (pairs : List Pair) → WorkStands history old → LineIsIn history old line → ArePairsIn history old pairs → LineHolds new n (instance_of (substitution_at old.bank pairs) (held old line)) → LineIsIn history new n
  instance_in line n pairs stands h are holds =
      let s : Substitution = substitution_at old.bank pairs in
      let c : Clause = map (substituted s) h.literals in
      let P : Term → Type 0 = IsOver (events_at old.bank history) in
      record {
        literals = distinct c;
        holds = subst (λ d. LineHolds new n (instance_of s d)) (holds_held old line h.literals h.holds) holds;
        over =
            over_grown (distinct c) stands (each_of P c (distinct c)
            (each_mapped P (substituted s) h.literals (λ t k. substituted_over IsVariable (symbols_of (events_at old.bank history)) s t are.terms k) h.over) (λ u m. from_distinct u c m));
      }

-- the ids of terms that are over the history
ids_over : (history : List Entry) (work : Work) (ids : List TermId) → All (Stands work.bank) ids → Each (IsOver (events_at work.bank history)) (terms_at work.bank ids) → All (IsTermIn history work) ids
ids_over history work [] stand over i d below = absurd (omega arith)
ids_over history work (t ∷ ids) stand over zero d below = record { stands = stand 0 d (omega arith); over = over.0 }
ids_over history work (t ∷ ids) stand over (suc i) d below = ids_over history work ids (λ j e k. stand (suc j) e (omega arith)) over.1 i d (omega arith)

-- the line has ids
pub ids_there : (history : List Entry) (work : Work) (line : ℕ) → LineIsIn history work line → IsSome (ids_at work.log line)
ids_there history work line h = by_ids (ids_at work.log line) refl
  where
    by_ids : (o : Option (List TermId)) → ids_at work.log line ≡ o → IsSome o
    by_ids None e = absurd (none_some h.literals (sym (ap (option_map (terms_at work.bank)) e) ∙ h.holds))
      where
        none_some : (c : Clause) → None ≡ Some c → ⊥
        none_some c same = cc
    by_ids (Some ids) e = refl

-- they are its literals
pub literals_told : (history : List Entry) (work : Work) (line : ℕ) (ids : List TermId) → LineIsIn history work line → ids_at work.log line ≡ Some ids → All (Stands work.bank) ids → AreLiterals history work line ids
literals_told history work line ids h is stand =
    let holds : LineHolds work line (terms_at work.bank ids) = ap (option_map (terms_at work.bank)) is in
    let same : h.literals ≡ terms_at work.bank ids = some_same h.literals (terms_at work.bank ids) (sym h.holds ∙ holds) in
    record { holds = holds; there = ids_over history work ids stand (subst (Each (IsOver (events_at work.bank history))) same h.over) }

-- a line that is in stands
pub in_stands : (history : List Entry) (work : Work) (line : ℕ) → LineIsIn history work line → LineStands work line
in_stands history work line h = ap is_some h.holds
