use Rattle.std.proofs.Common.{refl, sym, ◌∙◌}
use Rattle.nq_bank.specs.declared.node.TermId.{TermId}
use Rattle.nq_bank.specs.Content.{text_at}
use Rattle.nq_reduce.proofs.RewritingLemmas.{denial_is}
use Rattle.nq_reduce.proofs.knowledge.is_denial.Goals as goal

pub returns-then-is_same : goal.returns-then-is_same
returns-then-is_same c =
    let first : TermId = record { 0 = 0 } in
    λ h. denial_is c.args.bank.now c.args.a c.args.t (text_at c.args.bank.now c.in-App.f) c.args-arguments.result.now first c.in-App.ensures.head.1 c.args-arguments.ensures.parts c.in-len1.len_at_least c.in-len1.len_below (c.if-is_same.ensures refl) (sym c.is_ground.ensures ∙ h)
