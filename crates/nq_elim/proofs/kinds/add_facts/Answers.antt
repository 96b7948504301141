use Rattle.std.proofs.Common.{get_or}
use Rattle.nq_bank.specs.Content.{terms_at}
use Rattle.nq_lines.specs.declared.facts.Fact.{Fact}
use Rattle.nq_elim.proofs.KindLemmas.{fact_beside, fact_pushed}
use Rattle.nq_elim.proofs.kinds.add_facts.Goals as goal

pub loop-fact-preserved : goal.loop-fact-preserved
loop-fact-preserved c =
    let d : Fact = record { term = record { 0 = 0 }; line = 0 } in
    let these = terms_at c.args.work.now.bank c.args.these.now in
    let f : Fact = get_or c.args.more.now c.loop-fact.fact-index d in
    fact_pushed c.args.history.now c.args.work.now these c.loop-fact.facts.items c.push_fact.new.facts.items f c.in_ok-push_fact.ensures.ok c.loop-fact.invariant (fact_beside c.args.history.now c.args.work.now these f (c.requires.more c.loop-fact.fact-index d c.loop-fact-test.true))
