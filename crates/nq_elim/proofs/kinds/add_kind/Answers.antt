use Rattle.std.proofs.Common.{[], subst}
use Rattle.std.specs.Prelude.{IfSome}
use Rattle.nq_elim.specs.Reasons.{FactHolds}
use Rattle.nq_elim.proofs.ReasonLemmas.{facts_grown}
use Rattle.nq_elim.proofs.KindLemmas.{fact_pushed}
use Rattle.nq_elim.proofs.kinds.add_kind.Goals as goal

pub returns-in_ok-push_fact-in-Some-clause-found : goal.returns-in_ok-push_fact-in-Some-clause-found
returns-in_ok-push_fact-in-Some-clause-found c = fact_pushed c.args.history.now c.kind_at.new.work [] c.args.found.now.items c.push_fact.new.facts.items c.in-Some.fact c.in_ok-push_fact-in-Some.ensures.ok (facts_grown c.args.history.now c.args.work.now c.kind_at.new.work c.requires.stands c.kind_at.ensures.grows [] c.args.found.now.items c.requires.found) (subst (λ o. IfSome o (FactHolds c.args.history.now c.kind_at.new.work [])) c.in-Some.is c.in_ok-fact.ensures.fact)

pub returns-in-None-clause-found : goal.returns-in-None-clause-found
returns-in-None-clause-found c = facts_grown c.args.history.now c.args.work.now c.kind_at.new.work c.requires.stands c.kind_at.ensures.grows [] c.args.found.now.items c.requires.found
