use Rattle.std.proofs.Common.{get_or}
use Rattle.nq_bank.proofs.Growth.{IsNamed-grown}
use Rattle.nq_bank.specs.declared.node.TermId.{TermId}
use Rattle.nq_kernel.proofs.GrowingLemmas.{WorkGrows-refl, WorkGrows-trans}
use Rattle.nq_lines.proofs.FactLemmas.{own_terms_grown}
use Rattle.nq_lines.proofs.TermLemmas.{term_grown}
use Rattle.nq_arithmetic.proofs.matching.add_targets.Goals as goal

pub loop-t-init : goal.loop-t-init
loop-t-init c = record { grows = WorkGrows-refl c.args.history.now c.args.work.now c.requires.stands; found = c.requires.found }

pub add_match-requires-clause-stands : goal.add_match-requires-clause-stands
add_match-requires-clause-stands c = c.loop-t.invariant.grows.stands

pub add_match-requires-clause-ready : goal.add_match-requires-clause-ready
add_match-requires-clause-ready c = own_terms_grown c.args.history.now c.args.work.now c.loop-t.work c.loop-t.invariant.grows c.requires.stands c.requires.ready

pub add_match-requires-clause-name : goal.add_match-requires-clause-name
add_match-requires-clause-name c = IsNamed-grown c.args.work.now.bank c.loop-t.work.bank c.args.name c.loop-t.invariant.grows.bank c.requires.name

pub add_match-requires-clause-pattern : goal.add_match-requires-clause-pattern
add_match-requires-clause-pattern c = term_grown c.args.history.now c.args.work.now c.loop-t.work c.args.pattern c.requires.stands c.loop-t.invariant.grows c.requires.pattern

pub add_match-requires-clause-term : goal.add_match-requires-clause-term
add_match-requires-clause-term c = let d : TermId = record { 0 = 0 } in term_grown c.args.history.now c.args.work.now c.loop-t.work (get_or c.args.targets.now c.loop-t.t-index d) c.requires.stands c.loop-t.invariant.grows (c.requires.targets c.loop-t.t-index d c.loop-t-test.true)

pub add_match-requires-clause-found : goal.add_match-requires-clause-found
add_match-requires-clause-found c = c.loop-t.invariant.found

pub returns-in_err-add_match-clause-grows : goal.returns-in_err-add_match-clause-grows
returns-in_err-add_match-clause-grows c = WorkGrows-trans c.args.history.now c.args.work.now c.loop-t.work c.add_match.new.work c.loop-t.invariant.grows c.add_match.ensures.grows

pub loop-t-preserved : goal.loop-t-preserved
loop-t-preserved c = record { grows = WorkGrows-trans c.args.history.now c.args.work.now c.loop-t.work c.add_match.new.work c.loop-t.invariant.grows c.add_match.ensures.grows; found = c.in_ok-add_match.ensures.found }
