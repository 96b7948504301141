-- Lemmas that are propositions over variables, and the steps from them.
use Rattle.std.specs.Prelude.{◌≡◌, ◌≤◌, All, List, [], ◌∷◌, length, map}
use Rattle.nq_logic.specs.Terms.{Term, Each}
use Rattle.nq_logic.specs.Words.{not_term}
use Rattle.nq_logic.specs.Histories.{History}
use Rattle.nq_proof.specs.Clauses.{distinct}
use Rattle.nq_bank.specs.declared.node.TermId.{TermId}
use Rattle.nq_bank.specs.Content.{Content, Stands, term_at, terms_at}
use Rattle.nq_comment.specs.Reports.{ShownStep}
use Rattle.nq_comment.specs.declared.step.Cause.TheVariants.{NoInduction as Uninducted}
use Rattle.nq_events.specs.Events.{Hints}
use Rattle.nq_fragments.specs.Propositions.{proposition_of, others_in}
use Rattle.nq_goals.specs.declared.kinds.Cause.TheVariants.{NoInduction}
use Rattle.nq_goals.specs.Decided.{IsVariable}
use Rattle.nq_goals.specs.Spent.{IsFalse, IsSpent}
use Rattle.nq_answers.specs.Shown.{ShowsTree}

-- these are the other terms of the term as a proposition, each once; there is one, and each is a variable
pub record AreVariablesOf (bank : Content) (t : TermId) (others : List TermId) : Type 0 where
  pub stand : All (Stands bank) others
  pub are : terms_at bank others ≡ distinct (others_in (proposition_of (term_at bank t)))
  pub variables : Each IsVariable (terms_at bank others)
  pub some : 1 ≤ length others

-- these are the NOTs of the terms
pub record AreNots (bank : Content) (ts : List Term) (nots : List TermId) : Type 0 where
  pub stand : All (Stands bank) nots
  pub are : terms_at bank nots ≡ map not_term ts

-- the goal of this literal alone is left over as a first goal, where it is not false
abbrev pub IsLoneStuck : History → Hints → Term → Type 0
IsLoneStuck h hints l = (IsFalse h (l ∷ []) → ⊥) → IsSpent h hints [] (l ∷ []) NoInduction

-- these are the steps of the tree of a failure from the term, where there is one
abbrev pub FailsBy : History → Hints → Term → List ShownStep → Type 0
FailsBy h hints t steps = (steps ≡ [] → ⊥) → ShowsTree h hints (t ∷ []) steps Uninducted
