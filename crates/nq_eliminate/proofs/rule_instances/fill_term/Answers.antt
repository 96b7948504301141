use Rattle.std.proofs.Common.{arith}
use Rattle.nq_eliminate.proofs.IdLemmas.{one_id, some_ids}
use Rattle.nq_eliminate.proofs.rule_instances.fill_term.Goals as goal

pub index-made-requires : goal.index-made-requires
index-made-requires c = omega (arith, some_ids c.substitute_all.new.work.bank c.in_ok-terms.terms.items _ _ c.in_ok-terms.ensures.terms)

pub returns-clause-term : goal.returns-clause-term
returns-clause-term c = one_id c.substitute_all.new.work.bank c.in_ok-terms.terms.items _ c.index-made.result.now c.in_ok-terms.ensures.stand c.in_ok-terms.ensures.terms c.index-made.ensures
