use Rattle.std.proofs.Common.{◌∙◌, ap, sym}
use Rattle.nq_bank.specs.Content.{term_at}
use Rattle.nq_clause.specs.Substitution.{substitution_at}
use Rattle.nq_logic.specs.Terms.{Term}
use Rattle.nq_tracer.specs.Cases.{change_of}
use Rattle.nq_tracer.proofs.ChangeSteps.{numeral_stays}
use Rattle.nq_tracer.proofs.changes.with_change.Goals as goal

pub returns-in-Num-clause-is : goal.returns-in-Num-clause-is
returns-in-Num-clause-is c =
    let bank = c.args.bank.now in
    let image = term_at bank c.args.image in
    let changes = substitution_at bank c.args.changes.items in
    sym (ap (λ (t : Term). change_of t image changes) c.in-Num.ensures.head.1 ∙ numeral_stays c.in-Num.field-0 image changes)
