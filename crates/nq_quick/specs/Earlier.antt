-- Instances of the axioms and lemmas of a history, over ids.
use Rattle.std.specs.Prelude.{◌≡◌, List, All, Some, IfSome}
use Rattle.nq_logic.specs.Terms.{Term, Substitution, substituted}
use Rattle.nq_logic.specs.Histories.{History}
use Rattle.nq_proof.specs.Rules.{event_term}
use Rattle.nq_bank.specs.declared.node.Sym.{Sym}
use Rattle.nq_bank.specs.declared.node.TermId.{TermId}
use Rattle.nq_bank.specs.Content.{Content, Stands, IsNamed, text_at, term_at}
use Rattle.nq_clause.specs.declared.substitution.Pair.{Pair}
use Rattle.nq_clause.specs.Substitution.{substitution_at, PairStands}
use Rattle.nq_clause.specs.Binding.{bindings_at, BindingStands, BindsOnce, BindsOnly}
use Rattle.nq_history.specs.declared.entry.Entry.{Entry}
use Rattle.nq_history.specs.Events.{kind_term}
use Rattle.nq_kernel.specs.Over.{TermIsIn}
use Rattle.nq_kernel.specs.EventTerms.{IsSpelledTerm}
use Rattle.nq_quick.specs.declared.earlier.Earlier.{Earlier}

-- the axiom or lemma of this name has this term
pub record IsEvent (bank : Content) (h : History) (name : Sym) (t : TermId) : Type 0 where
  pub named : IsNamed bank name
  pub stands : Stands bank t
  pub event : event_term (text_at bank name) h ≡ Some (term_at bank t)

-- s has variables of the pattern, each once, and takes the pattern to the term
pub record IsInstanceBy (s : Substitution) (pattern t : Term) : Type 0 where
  pub once : BindsOnce s
  pub only : BindsOnly s pattern
  pub gives : substituted s pattern ≡ t

-- the bindings take the term of an axiom or lemma to the goal
pub record IsFound (bank : Content) (h : History) (goal : TermId) (found : Earlier) : Type 0 where
  pub event : IsEvent bank h found.name found.term
  pub bindings : All (BindingStands bank) found.bindings.items
  pub instance : IsInstanceBy (bindings_at bank found.bindings.items) (term_at bank found.term) (term_at bank goal)

-- the goal is no instance of this term, where it is the term of the axiom or lemma of this name
pub record IsNoInstance (bank : Content) (h : History) (goal : TermId) (name : Sym) (t : TermId) : Type 0 where
  pub none : event_term (text_at bank name) h ≡ Some (term_at bank t) → (pairs : Substitution) → substituted pairs (term_at bank t) ≡ term_at bank goal → ⊥

-- so it is with the entry, where it is an axiom or lemma
abbrev pub IsPassed : Content → History → TermId → Entry → Type 0
IsPassed bank h goal e = IfSome (kind_term e.kind) (IsNoInstance bank h goal e.name)

-- the pairs take the pattern, with variables that a log can spell, to the goal, which is over the history's functions
pub record CanInstance (bank : Content) (history : List Entry) (pattern goal : TermId) (pairs : List Pair) : Type 0 where
  pub stands : Stands bank pattern
  pub spelled : IsSpelledTerm (term_at bank pattern)
  pub goal_stands : Stands bank goal
  pub goal_over : TermIsIn bank history goal
  pub pairs_stand : All (PairStands bank) pairs
  pub instance : IsInstanceBy (substitution_at bank pairs) (term_at bank pattern) (term_at bank goal)
