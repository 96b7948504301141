use Rattle.std.proofs.Common.{get_or}
use Rattle.nq_bank.specs.declared.node.TermId.{TermId}
use Rattle.nq_kernel.proofs.GrowingLemmas.{WorkGrows-refl, WorkGrows-trans}
use Rattle.nq_lines.proofs.TermLemmas.{term_grown}
use Rattle.nq_arithmetic.proofs.matching.add_pairs.Goals as goal

pub loop-u-init : goal.loop-u-init
loop-u-init c = record { grows = WorkGrows-refl c.args.history.now c.args.work.now c.requires.stands; pairs = c.requires.pairs }

pub add_pair-requires-clause-stands : goal.add_pair-requires-clause-stands
add_pair-requires-clause-stands c = c.loop-u.invariant.grows.stands

pub add_pair-requires-clause-like : goal.add_pair-requires-clause-like
add_pair-requires-clause-like c = term_grown c.args.history.now c.args.work.now c.loop-u.work c.args.sought.second c.requires.stands c.loop-u.invariant.grows c.requires.sought.second

pub add_pair-requires-clause-first : goal.add_pair-requires-clause-first
add_pair-requires-clause-first c = term_grown c.args.history.now c.args.work.now c.loop-u.work c.args.t c.requires.stands c.loop-u.invariant.grows c.requires.term

pub add_pair-requires-clause-second : goal.add_pair-requires-clause-second
add_pair-requires-clause-second c = let d : TermId = record { 0 = 0 } in term_grown c.args.history.now c.args.work.now c.loop-u.work (get_or c.args.terms.now c.loop-u.u-index d) c.requires.stands c.loop-u.invariant.grows (c.requires.terms c.loop-u.u-index d c.loop-u-test.true)

pub add_pair-requires-clause-pairs : goal.add_pair-requires-clause-pairs
add_pair-requires-clause-pairs c = c.loop-u.invariant.pairs

pub returns-in_err-add_pair-clause-grows : goal.returns-in_err-add_pair-clause-grows
returns-in_err-add_pair-clause-grows c = WorkGrows-trans c.args.history.now c.args.work.now c.loop-u.work c.add_pair.new.work c.loop-u.invariant.grows c.add_pair.ensures.grows

pub loop-u-preserved : goal.loop-u-preserved
loop-u-preserved c = record { grows = WorkGrows-trans c.args.history.now c.args.work.now c.loop-u.work c.add_pair.new.work c.loop-u.invariant.grows c.add_pair.ensures.grows; pairs = c.in_ok-add_pair.ensures.pairs }

pub returns-then-not-is_first-clause-grows : goal.returns-then-not-is_first-clause-grows
returns-then-not-is_first-clause-grows c = WorkGrows-refl c.args.history.now c.args.work.now c.requires.stands
