-- Literals that are too deep for a bank.
use Rattle.std.proofs.Common.{◌≡◌, Bool, true, false, List, reverse, sym, subst}
use Rattle.std.proofs.lemmas.List.{reverse-reverse}
use Rattle.std.specs.Prelude.{Option}
use Rattle.nq_logic.specs.Terms.{Term}
use Rattle.nq_proof.specs.Clauses.{Clause}
use Rattle.nq_steps.specs.Steps.{HasDeep}
use Rattle.nq_steps.proofs.MakingLemmas.{deep_reversed}
use Rattle.nq_shell.specs.Rows.{drafted}
use Rattle.nq_shell.specs.Axioms.{HasDeepLiteral}

-- a deep term of the literals that were put is a deep literal
pub deep_drafted : (there : Bool) (ts : List Term) (o : Option Clause) → there ≡ true → drafted there ts ≡ o → HasDeep ts → HasDeepLiteral o
deep_drafted true ts o is same h = subst HasDeepLiteral same (deep_reversed ts h)
deep_drafted false ts o is same h = absurd (no_truth is)
  where
    no_truth : false ≡ true → ⊥
    no_truth is = cc

-- where no term that was put is too deep, no literal is
pub shallow_drafted : (there : Bool) (ts : List Term) (o : Option Clause) → drafted there ts ≡ o → (HasDeep ts → ⊥) → HasDeepLiteral o → ⊥
shallow_drafted true ts o same none h = none (subst HasDeep (reverse-reverse ts) (deep_reversed (reverse ts) (subst HasDeepLiteral (sym same) h)))
shallow_drafted false ts o same none h = subst HasDeepLiteral (sym same) h
