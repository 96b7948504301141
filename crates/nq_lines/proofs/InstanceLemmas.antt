-- Instances of lines.
use Rattle.std.proofs.Common.{◌≡◌, ℕ, true, Option, Some, None, List, [], ◌∷◌, refl, sym, ap, subst, inl, inr}
use Rattle.std.specs.Prelude.{map, is_some, IsSome, Result, Ok, Err, IfOk, OnErr}
use Rattle.nq_logic.specs.Terms.{Term, IsAmong, Each, Substitution, substituted}
use Rattle.nq_logic.specs.Ground.{symbols_of}
use Rattle.nq_bank.specs.declared.node.Sym.{Sym}
use Rattle.nq_bank.specs.Content.{Content, Grows, Names, text_at}
use Rattle.nq_bank.proofs.Growth.{Grows-refl}
use Rattle.nq_clause.specs.declared.substitution.Pair.{Pair}
use Rattle.nq_clause.specs.Substitution.{substitution_at}
use Rattle.nq_clause.proofs.SubstitutionLemmas.{substitution_at-grown, pairs_grown}
use Rattle.nq_proof.specs.Clauses.{Clause, distinct}
use Rattle.nq_proof.specs.Rules.{given, is_substitution, event_term, pair_terms}
use Rattle.nq_proof.specs.Rows.{axiom_clause}
use Rattle.nq_rule.specs.Results.{instance_of}
use Rattle.nq_history.specs.declared.entry.Entry.{Entry}
use Rattle.nq_history.specs.Events.{events_at}
use Rattle.nq_history.proofs.HistoryLemmas.{events_at-grown}
use Rattle.nq_kernel.specs.declared.work.Work.{Work}
use Rattle.nq_kernel.specs.declared.rule.Rule.TheVariants.{AxiomRow, EventTerm}
use Rattle.nq_kernel.specs.Meaning.{conclusion_at}
use Rattle.nq_kernel.specs.Over.{IsVariable, IsTermOf, pair_names}
use Rattle.nq_kernel.specs.Growing.{WorkStands, WorkGrows, LineHolds, held}
use Rattle.nq_kernel.proofs.HeldLines.{holds_held}
use Rattle.nq_lines.specs.Lines.{AreAmong, LineHasOnly}
use Rattle.nq_lines.specs.Instances.{ArePairsIn}
use Rattle.nq_lines.proofs.LineLemmas.{from_distinct}

pub mapped_among : (f : Term → Term) (c d : List Term) → AreAmong c d → AreAmong (map f c) (map f d)
mapped_among f [] d h u m = absurd m
mapped_among f (t ∷ c) d h u m = elim m [ inl e ↦ subst (λ v. IsAmong v (map f d)) (sym e) (image t d (h t (inl refl))) | inr k ↦ mapped_among f c d (λ v n. h v (inr n)) u k ]
  where
    image : (t : Term) (d : List Term) → IsAmong t d → IsAmong (f t) (map f d)
    image t [] m = absurd m
    image t (v ∷ d) m = elim m [ inl e ↦ inl (ap f e) | inr k ↦ inr (image t d k) ]

pub distinct_among : (c : Clause) → AreAmong (distinct c) c
distinct_among c u m = from_distinct u c m

-- an instance of a line
pub instance_only : (old new : Work) (s : Substitution) (line n : ℕ) (these : List Term) → LineHolds new n (instance_of s (held old line)) → LineHasOnly old line these → LineHasOnly new n (map (substituted s) these)
instance_only old new s line n these holds h =
    record {
      literals = instance_of s (held old line);
      stands = holds;
      only = λ u m. mapped_among (substituted s) (held old line) these (λ t k. h.only t (subst (λ c. IsAmong t c) (holds_held old line h.literals h.stands) k)) u (from_distinct u (map (substituted s) (held old line)) m);
    }

-- pairs that are in stay so as the work grows
pub pairs_in_grown : (history : List Entry) (old new : Work) (pairs : List Pair) → WorkStands history old → WorkGrows history old new → ArePairsIn history old pairs → ArePairsIn history new pairs
pairs_in_grown history old new pairs stands grows h =
    let same : substitution_at new.bank pairs ≡ substitution_at old.bank pairs = substitution_at-grown old.bank new.bank pairs grows.bank h.stand in
    record {
      stand = pairs_grown old.bank new.bank pairs grows.bank h.stand;
      distinct = subst (λ s. is_substitution s ≡ true) (sym same) h.distinct;
      terms =
          subst (λ s. Each (IsTermOf IsVariable (symbols_of (events_at new.bank history))) (pair_terms s)) (sym same) (
          subst (λ es. Each (IsTermOf IsVariable (symbols_of es)) (pair_terms (substitution_at old.bank pairs))) (sym (events_at-grown old.bank new.bank grows.bank history stands.history.entries)) h.terms);
      names = subst (λ s. Each IsVariable (pair_names s)) (sym same) h.names;
    }

module _ (history : List Entry) (work : Work) where
  pub row_given : (name : Sym) (row part : ℕ) (c : Clause) → axiom_clause (events_at work.bank history) (text_at work.bank name) row part ≡ Some c → conclusion_at work.bank history work.log (AxiomRow name row part) ≡ Some (distinct c)
  unfolding conclusion_at
  row_given name row part c e = ap (λ o. given o (λ c. Some (distinct c))) e

  pub event_given : (name : Sym) (t : Term) → event_term (text_at work.bank name) (events_at work.bank history) ≡ Some t → conclusion_at work.bank history work.log (EventTerm name) ≡ Some (t ∷ [])
  unfolding conclusion_at
  event_given name t e = ap (λ o. given o (λ t. Some (t ∷ []))) e

  -- it is allowed where there is such an axiom
  pub allowed_if : {X : Type 0} (o : Option X) (q : Option Clause) (f : X → Clause) → IsSome o → ((x : X) → o ≡ Some x → q ≡ Some (f x)) → IsSome q
  allowed_if None q f h k = absurd cc
  allowed_if (Some x) q f h k = ap is_some (k x refl)

pub names_grow : {E : Type 0} (old new : Content) (r : Result Sym E) (text : List ℕ) → IfOk r (λ s. Names old new s text) → OnErr r (new ≡ old) → Grows old new
names_grow old new (Ok s) text h k = h.grows
names_grow old new (Err e) text h k = subst (Grows old) (sym k) (Grows-refl old)
