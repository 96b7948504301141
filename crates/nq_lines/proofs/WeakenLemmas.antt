-- The clause of a line that gains a literal.
use Rattle.std.proofs.Common.{◌≡◌, ℕ, Option, Some, None, List, [], ◌∷◌, refl, ap, ◌∙◌}
use Rattle.std.specs.Prelude.{is_some, IsSome, Vec}
use Rattle.std.specs.declared.alloc.Global.{Global}
use Rattle.nq_proof.specs.Clauses.{Clause}
use Rattle.nq_proof.specs.Rules.{given}
use Rattle.nq_rule.specs.Results.{weaker_of}
use Rattle.nq_bank.specs.declared.node.TermId.{TermId}
use Rattle.nq_bank.specs.Content.{term_at, terms_at}
use Rattle.nq_history.specs.declared.entry.Entry.{Entry}
use Rattle.nq_kernel.specs.declared.work.Work.{Work}
use Rattle.nq_kernel.specs.declared.rule.Rule.TheVariants.{Weaken}
use Rattle.nq_kernel.specs.Meaning.{conclusion_at, clause_at}
use Rattle.nq_kernel.specs.Growing.{LineStands, LineHolds}

module _ (history : List Entry) (work : Work) (terms : Vec TermId Global) (line : ℕ) (t : TermId) (e : terms.items ≡ t ∷ []) where
  pub weaken_given : (c : Clause) → LineHolds work line c → conclusion_at work.bank history work.log (Weaken line terms) ≡ Some (weaker_of (term_at work.bank t ∷ []) c)
  unfolding conclusion_at
  weaken_given c holds =
      ap (λ o. given o (λ c. Some (weaker_of (terms_at work.bank terms.items) c))) holds ∙ ap (λ ids. Some (weaker_of (terms_at work.bank ids) c)) e

  pub weaken_allowed : LineStands work line → IsSome (conclusion_at work.bank history work.log (Weaken line terms))
  weaken_allowed stands = by_clause (clause_at work.bank work.log line) refl stands
    where
      by_clause : (o : Option Clause) → clause_at work.bank work.log line ≡ o → IsSome o → IsSome (conclusion_at work.bank history work.log (Weaken line terms))
      by_clause None h k = absurd cc
      by_clause (Some c) h k = ap is_some (weaken_given c h)
