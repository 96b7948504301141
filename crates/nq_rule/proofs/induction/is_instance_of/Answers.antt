use Rattle.std.proofs.Common.{◌≡◌}
use Rattle.nq_logic.specs.Terms.{Term, substituted}
use Rattle.nq_bank.specs.Content.{term_at}
use Rattle.nq_clause.specs.Substitution.{substitution_at}
use Rattle.nq_clause.proofs.InstanceLemmas.{Tells}
use Rattle.nq_proof.specs.Clauses.{same_term}
use Rattle.nq_rule.proofs.Made.{for_ok}
use Rattle.nq_rule.proofs.InductionLemmas.{told_same}
use Rattle.nq_rule.proofs.induction.is_instance_of.Goals as goal

pub returns : goal.returns
returns c =
    let u : Term = substituted (substitution_at c.args.bank.now c.args.pairs.now) (term_at c.args.bank.now c.args.pattern) in
    let t : Term = term_at c.args.bank.now c.args.t in
    for_ok c.is_instance.result (λ b. Tells b (u ≡ t)) (λ b. b ≡ same_term t u) (λ b h. told_same b u t h) c.is_instance.ensures
