use Rattle.std.proofs.Common.{subst}
use Rattle.std.specs.Prelude.{IfSome}
use Rattle.nq_bank.specs.Content.{terms_at}
use Rattle.nq_kernel.proofs.GrowingLemmas.{WorkGrows-trans}
use Rattle.nq_elim.specs.Reasons.{FactHolds}
use Rattle.nq_elim.proofs.GrownLemmas.{terms_grown}
use Rattle.nq_elim.proofs.equating.by_literal.Goals as goal

pub eliminate_by-requires-clause-goal : goal.eliminate_by-requires-clause-goal
eliminate_by-requires-clause-goal c = terms_grown c.args.history.now c.args.work.now c.equation_at.new.work c.requires.stands c.equation_at.ensures.grows c.args.goal.now c.requires.goal

pub eliminate_by-requires-clause-fact : goal.eliminate_by-requires-clause-fact
eliminate_by-requires-clause-fact c = subst (λ o. IfSome o (FactHolds c.args.history.now c.equation_at.new.work (terms_at c.equation_at.new.work.bank c.args.goal.now))) c.in-Some.is c.in_ok-fact.ensures.fact

pub returns-in-Some-clause-grows : goal.returns-in-Some-clause-grows
returns-in-Some-clause-grows c = WorkGrows-trans c.args.history.now c.args.work.now c.equation_at.new.work c.eliminate_by.new.work c.equation_at.ensures.grows c.eliminate_by.ensures.grows
