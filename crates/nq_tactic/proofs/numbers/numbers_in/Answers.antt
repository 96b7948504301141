use Rattle.std.proofs.Common.{get_or}
use Rattle.nq_bank.specs.declared.node.TermId.{TermId}
use Rattle.nq_kernel.proofs.GrowingLemmas.{WorkGrows-trans}
use Rattle.nq_lines.proofs.TermLemmas.{term_grown}
use Rattle.nq_tactic.proofs.numbers.numbers_in.Goals as goal

pub loop-t-init : goal.loop-t-init
loop-t-init c = record { grows = c.numbers_of.ensures.grows; facts = c.in_ok-facts.ensures.facts }

pub add_compared-requires-clause-stands : goal.add_compared-requires-clause-stands
add_compared-requires-clause-stands c = c.loop-t.invariant.grows.stands

pub add_compared-requires-clause-facts : goal.add_compared-requires-clause-facts
add_compared-requires-clause-facts c = c.loop-t.invariant.facts

pub add_compared-requires-clause-term : goal.add_compared-requires-clause-term
add_compared-requires-clause-term c =
    let d : TermId = record { 0 = 0 } in
    term_grown c.args.history.now c.args.work.now c.loop-t.work (get_or c.args.goal.now c.loop-t.t-index d) c.requires.stands c.loop-t.invariant.grows (c.requires.goal c.loop-t.t-index d c.loop-t-test.true)

pub returns-in_err-add_compared-clause-grows : goal.returns-in_err-add_compared-clause-grows
returns-in_err-add_compared-clause-grows c = WorkGrows-trans c.args.history.now c.args.work.now c.loop-t.work c.add_compared.new.work c.loop-t.invariant.grows c.add_compared.ensures.grows

pub loop-t-preserved : goal.loop-t-preserved
loop-t-preserved c = record { grows = WorkGrows-trans c.args.history.now c.args.work.now c.loop-t.work c.add_compared.new.work c.loop-t.invariant.grows c.add_compared.ensures.grows; facts = c.in_ok-add_compared.ensures.facts }
