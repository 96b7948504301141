use Rattle.std.proofs.Common.{sym, ◌∙◌}
use Rattle.nq_legal.proofs.PlainLemmas.{same_clause}
use Rattle.nq_legal.proofs.plain.is_without_copies.Goals as goal

pub returns-in-Ok : goal.returns-in-Ok
returns-in-Ok c = λ e. same_clause c.args.bank.now c.args.goal.now c.in-Ok.clause.items c.in-Ok.ensures.ok (sym c.as_slice.ensures.value ∙ c.is_same.ensures e)
