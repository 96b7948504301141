use Rattle.std.proofs.Common.{[], ◌∷◌, refl, subst}
use Rattle.nq_bank.specs.Content.{term_at}
use Rattle.nq_kernel.specs.Growing.{LineHolds}
use Rattle.nq_rewrite.proofs.conditions.fact_of.Goals as goal

pub returns-then-is_same : goal.returns-then-is_same
returns-then-is_same c =
    record {
      term = c.requires.term;
      holds = subst (λ u. LineHolds c.args.work.now c.args.line (term_at c.args.work.now.bank u ∷ [])) (c.if-is_same.ensures refl) c.in-Some.ensures.holds;
    }
