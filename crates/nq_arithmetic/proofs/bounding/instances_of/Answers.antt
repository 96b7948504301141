use Rattle.std.proofs.Common.{subst, sym, arith}
use Rattle.std.specs.Prelude.{All}
use Rattle.nq_kernel.proofs.GrowingLemmas.{WorkGrows-refl, WorkGrows-trans}
use Rattle.nq_lines.proofs.FactLemmas.{own_terms_grown}
use Rattle.nq_lines.specs.Lines.{IsTermIn}
use Rattle.nq_instances.specs.Parts.{IsLine}
use Rattle.nq_arithmetic.proofs.Lemmas.{all_grown}
use Rattle.nq_arithmetic.proofs.bounding.instances_of.Goals as goal

pub returns-in_err-terms-clause-grows : goal.returns-in_err-terms-clause-grows
returns-in_err-terms-clause-grows c = WorkGrows-refl c.args.history.now c.args.work.now c.requires.stands

pub loop-place-init : goal.loop-place-init
loop-place-init c = record { grows = WorkGrows-refl c.args.history.now c.args.work.now c.requires.stands; found = subst (All (IsLine c.args.history.now c.args.work.now)) (sym c.new-found.ensures.items) (λ k d below. absurd (omega (arith, below))) }

pub add_entry-requires-clause-stands : goal.add_entry-requires-clause-stands
add_entry-requires-clause-stands c = c.loop-place.invariant.grows.stands

pub add_entry-requires-clause-ready : goal.add_entry-requires-clause-ready
add_entry-requires-clause-ready c = own_terms_grown c.args.history.now c.args.work.now c.loop-place.work c.loop-place.invariant.grows c.requires.stands c.requires.ready

pub add_entry-requires-clause-found : goal.add_entry-requires-clause-found
add_entry-requires-clause-found c = c.loop-place.invariant.found

pub add_entry-requires-clause-terms : goal.add_entry-requires-clause-terms
add_entry-requires-clause-terms c = all_grown c.args.history.now c.args.work.now c.loop-place.work c.requires.stands c.loop-place.invariant.grows c.as_slice.result.now (subst (All (IsTermIn c.args.history.now c.args.work.now)) (sym c.as_slice.ensures.value) c.in_ok-terms.ensures.terms)

pub returns-in_err-add_entry-clause-grows : goal.returns-in_err-add_entry-clause-grows
returns-in_err-add_entry-clause-grows c = WorkGrows-trans c.args.history.now c.args.work.now c.loop-place.work c.add_entry.new.work c.loop-place.invariant.grows c.add_entry.ensures.grows

pub loop-place-preserved : goal.loop-place-preserved
loop-place-preserved c = record { grows = WorkGrows-trans c.args.history.now c.args.work.now c.loop-place.work c.add_entry.new.work c.loop-place.invariant.grows c.add_entry.ensures.grows; found = c.in_ok-add_entry.ensures.found }
