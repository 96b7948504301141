use Rattle.std.specs.Prelude.{◌∷◌}
use Rattle.nq_bank.specs.declared.node.TermId.{TermId}
use Rattle.nq_bank.specs.Content.{term_at, terms_at}
use Rattle.nq_types.specs.TypeSets.{denials}
use Rattle.nq_types.proofs.JudgeLemmas.{allowed_more}
use Rattle.nq_types.proofs.showing.are_fact_or_denials.Goals as goal

pub loop-literal-preserved : goal.loop-literal-preserved
loop-literal-preserved c =
    let bank = c.args.bank.now in
    let first : TermId = record { 0 = 0 } in
    allowed_more bank (term_at bank c.args.fact ∷ denials (terms_at bank c.args.assumed.now)) c.args.literals.now c.loop-literal.literal-index first c.loop-literal-test.true c.loop-literal.invariant (c.is_fact_or_denial.ensures c.if-not-is_fact_or_denial.false)
