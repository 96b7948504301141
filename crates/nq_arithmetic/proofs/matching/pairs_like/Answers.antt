use Rattle.std.proofs.Common.{subst, sym, get_or, arith}
use Rattle.std.specs.Prelude.{All}
use Rattle.nq_bank.specs.declared.node.TermId.{TermId}
use Rattle.nq_kernel.proofs.GrowingLemmas.{WorkGrows-refl, WorkGrows-trans}
use Rattle.nq_lines.proofs.TermLemmas.{term_grown}
use Rattle.nq_lines.specs.Lines.{IsTermIn}
use Rattle.nq_arithmetic.proofs.Lemmas.{all_grown, operands_grown}
use Rattle.nq_arithmetic.proofs.matching.pairs_like.Goals as goal

pub loop-t-init : goal.loop-t-init
loop-t-init c = record { grows = WorkGrows-refl c.args.history.now c.args.work.now c.requires.stands; pairs = subst (All (IsTermIn c.args.history.now c.args.work.now)) (sym c.new-pairs.ensures.items) (λ k d below. absurd (omega (arith, below))) }

pub add_pairs-requires-clause-stands : goal.add_pairs-requires-clause-stands
add_pairs-requires-clause-stands c = c.loop-t.invariant.grows.stands

pub add_pairs-requires-clause-pairs : goal.add_pairs-requires-clause-pairs
add_pairs-requires-clause-pairs c = c.loop-t.invariant.pairs

pub add_pairs-requires-clause-sought : goal.add_pairs-requires-clause-sought
add_pairs-requires-clause-sought c = operands_grown c.args.history.now c.args.work.now c.loop-t.work c.requires.stands c.loop-t.invariant.grows c.args.sought c.requires.sought

pub add_pairs-requires-clause-term : goal.add_pairs-requires-clause-term
add_pairs-requires-clause-term c = let d : TermId = record { 0 = 0 } in term_grown c.args.history.now c.args.work.now c.loop-t.work (get_or c.args.terms.now c.loop-t.t-index d) c.requires.stands c.loop-t.invariant.grows (c.requires.terms c.loop-t.t-index d c.loop-t-test.true)

pub add_pairs-requires-clause-terms : goal.add_pairs-requires-clause-terms
add_pairs-requires-clause-terms c = all_grown c.args.history.now c.args.work.now c.loop-t.work c.requires.stands c.loop-t.invariant.grows c.args.terms.now c.requires.terms

pub returns-in_err-add_pairs-clause-grows : goal.returns-in_err-add_pairs-clause-grows
returns-in_err-add_pairs-clause-grows c = WorkGrows-trans c.args.history.now c.args.work.now c.loop-t.work c.add_pairs.new.work c.loop-t.invariant.grows c.add_pairs.ensures.grows

pub loop-t-preserved : goal.loop-t-preserved
loop-t-preserved c = record { grows = WorkGrows-trans c.args.history.now c.args.work.now c.loop-t.work c.add_pairs.new.work c.loop-t.invariant.grows c.add_pairs.ensures.grows; pairs = c.in_ok-add_pairs.ensures.pairs }
