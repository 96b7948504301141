-- Instances of lines.
use Rattle.std.specs.Prelude.{◌≡◌, ℕ, IsTrue, All, List, [], ◌∷◌, map, Some}
use Rattle.nq_logic.specs.Terms.{Term, Each, Substitution, substituted}
use Rattle.nq_logic.specs.Ground.{symbols_of}
use Rattle.nq_clause.specs.declared.substitution.Pair.{Pair}
use Rattle.nq_clause.specs.Substitution.{substitution_at, PairStands}
use Rattle.nq_proof.specs.Clauses.{Clause}
use Rattle.nq_proof.specs.Rules.{is_substitution, pair_terms, event_term}
use Rattle.nq_proof.specs.Rows.{axiom_clause}
use Rattle.nq_history.specs.declared.entry.Entry.{Entry}
use Rattle.nq_history.specs.Events.{events_at}
use Rattle.nq_kernel.specs.declared.work.Work.{Work}
use Rattle.nq_kernel.specs.Over.{IsVariable, IsTermOf, pair_names}
use Rattle.nq_lines.specs.Lines.{LineHasOnly}

-- distinct variables that a log can spell, each with a term over the history's functions
pub record ArePairsIn (history : List Entry) (work : Work) (pairs : List Pair) : Type 0 where
  pub stand : All (PairStands work.bank) pairs
  pub distinct : IsTrue (is_substitution (substitution_at work.bank pairs))
  pub terms : Each (IsTermOf IsVariable (symbols_of (events_at work.bank history))) (pair_terms (substitution_at work.bank pairs))
  pub names : Each IsVariable (pair_names (substitution_at work.bank pairs))

-- line n is an instance of another
abbrev pub InstancesTo : Work → Work → Substitution → ℕ → ℕ → Type 0
InstancesTo old new s line n = (these : List Term) → LineHasOnly old line these → LineHasOnly new n (map (substituted s) these)

-- line n has only the literals of an instance of an axiom's row
abbrev pub HasRow : List Entry → Work → Work → List ℕ → ℕ → ℕ → Substitution → ℕ → Type 0
HasRow history old new name row part s n = (c : Clause) → axiom_clause (events_at old.bank history) name row part ≡ Some c → LineHasOnly new n (map (substituted s) c)

-- line n has only the instance of the term of an axiom or lemma
abbrev pub HasEvent : List Entry → Work → Work → List ℕ → Substitution → ℕ → Type 0
HasEvent history old new name s n = (t : Term) → event_term name (events_at old.bank history) ≡ Some t → LineHasOnly new n (substituted s t ∷ [])
