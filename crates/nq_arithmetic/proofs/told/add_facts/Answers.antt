use Rattle.std.proofs.Common.{get_or}
use Rattle.nq_lines.specs.declared.facts.Fact.{Fact}
use Rattle.nq_arithmetic.proofs.Lemmas.{line_pushed}
use Rattle.nq_arithmetic.proofs.told.add_facts.Goals as goal

pub loop-fact-init : goal.loop-fact-init
loop-fact-init c = c.requires.facts

pub loop-fact-preserved : goal.loop-fact-preserved
loop-fact-preserved c = let d : Fact = record { term = record { 0 = 0 }; line = 0 } in line_pushed c.args.history.now c.args.work.now c.loop-fact.facts.items c.push.new.facts.items (get_or c.args.more.now c.loop-fact.fact-index d) c.in_ok-push.ensures.ok c.loop-fact.invariant (c.requires.more c.loop-fact.fact-index d c.loop-fact-test.true)
