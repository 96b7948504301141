-- What the test for small tautologies and the first pass answer.
use Rattle.std.specs.Prelude.{◌≡◌, ℕ, [], ◌∷◌, All, List, Option, Some, None}
use Rattle.std.specs.declared.vec.Vec.{Vec}
use Rattle.std.specs.declared.alloc.Global.{Global}
use Rattle.nq_proof.specs.Clauses.{distinct}
use Rattle.nq_bank.specs.declared.node.TermId.{TermId}
use Rattle.nq_bank.specs.Content.{Content, Stands, term_at, terms_at}
use Rattle.nq_kernel.specs.declared.work.Work.{Work}
use Rattle.nq_kernel.specs.declared.verdict.Quick.{Quick}
use Rattle.nq_kernel.specs.Proving.{IsFirstFragment}
use Rattle.nq_history.specs.declared.entry.Entry.{Entry}
use Rattle.nq_history.specs.Events.{events_at}
use Rattle.nq_fragments.specs.Instances.{IsEarlierInstance}
use Rattle.nq_fragments.specs.Fragments.{IsInNoFragment}
use Rattle.nq_quick.specs.Lines.{LineHasOnly}
use Rattle.nq_fragments.specs.Propositions.{proposition_of, others_in}
use Rattle.nq_fragments.specs.Tautologies.{IsSmallTautology}

-- these are the other terms of a term, each once
pub record AreOthers (bank : Content) (t : TermId) (others : List TermId) : Type 0 where
  pub stand : All (Stands bank) others
  pub are : terms_at bank others ≡ distinct (others_in (proposition_of (term_at bank t)))

-- the term is a small tautology, over these other terms
pub record IsTautologyOver (bank : Content) (t : TermId) (these : List TermId) : Type 0 where
  pub small : IsSmallTautology (term_at bank t)
  pub others : AreOthers bank t these

abbrev pub IsAnswer : Content → TermId → Option (Vec TermId Global) → Type 0
IsAnswer bank t None = IsSmallTautology (term_at bank t) → ⊥
IsAnswer bank t (Some others) = IsTautologyOver bank t others.items

-- the goal is an instance of an axiom or lemma of the history, and the line has only the goal
pub record IsInstanceLine (history : List Entry) (old new : Work) (goal : TermId) (line : ℕ) : Type 0 where
  pub instance : IsEarlierInstance (events_at old.bank history) (term_at old.bank goal)
  pub holds : LineHasOnly new line (term_at old.bank goal ∷ [])

-- the fragment is the first that holds the goal, and the line has only the goal
pub record IsQuickProof (history : List Entry) (old new : Work) (goal : TermId) (way : Quick) (line : ℕ) : Type 0 where
  pub first : IsFirstFragment (events_at old.bank history) (term_at old.bank goal) way
  pub holds : LineHasOnly new line (term_at old.bank goal ∷ [])

-- what the first pass answers: a proof by the first fragment that holds the goal; none exactly where no fragment does
abbrev pub IsQuickAnswer : List Entry → Work → Work → TermId → Option (Quick × ℕ) → Type 0
IsQuickAnswer history old new goal None = IsInNoFragment (events_at old.bank history) (term_at old.bank goal)
IsQuickAnswer history old new goal (Some found) = IsQuickProof history old new goal found.0 found.1
