use Rattle.std.proofs.Common.{subst, sym, arith, get_or}
use Rattle.std.specs.Prelude.{All}
use Rattle.nq_bank.specs.declared.node.TermId.{TermId}
use Rattle.nq_kernel.proofs.GrowingLemmas.{WorkGrows-refl, WorkGrows-trans}
use Rattle.nq_lines.proofs.FactLemmas.{own_terms_grown}
use Rattle.nq_lines.proofs.TermLemmas.{term_grown}
use Rattle.nq_lines.specs.Lines.{IsTermIn}
use Rattle.nq_instances.specs.Parts.{IsLine}
use Rattle.nq_tactic.proofs.numbers.numbers_of.Goals as goal

pub returns-in_err-terms-clause-grows : goal.returns-in_err-terms-clause-grows
returns-in_err-terms-clause-grows c = WorkGrows-refl c.args.history.now c.args.work.now c.requires.stands

pub loop-t-init : goal.loop-t-init
loop-t-init c = record { grows = WorkGrows-refl c.args.history.now c.args.work.now c.requires.stands; facts = subst (All (IsLine c.args.history.now c.args.work.now)) (sym c.new-facts.ensures.items) (λ k d below. absurd (omega (arith, below))) }

pub add_number-requires-clause-stands : goal.add_number-requires-clause-stands
add_number-requires-clause-stands c = c.loop-t.invariant.grows.stands

pub add_number-requires-clause-ready : goal.add_number-requires-clause-ready
add_number-requires-clause-ready c = own_terms_grown c.args.history.now c.args.work.now c.loop-t.work c.loop-t.invariant.grows c.requires.stands c.requires.ready

pub add_number-requires-clause-facts : goal.add_number-requires-clause-facts
add_number-requires-clause-facts c = c.loop-t.invariant.facts

pub add_number-requires-clause-term : goal.add_number-requires-clause-term
add_number-requires-clause-term c =
    let d : TermId = record { 0 = 0 } in
    let all : All (IsTermIn c.args.history.now c.args.work.now) c.as_slice-t-items.result.now = subst (All (IsTermIn c.args.history.now c.args.work.now)) (sym c.as_slice-t-items.ensures.value) c.in_ok-terms.ensures.terms in
    term_grown c.args.history.now c.args.work.now c.loop-t.work (get_or c.as_slice-t-items.result.now c.loop-t.t-index d) c.requires.stands c.loop-t.invariant.grows (all c.loop-t.t-index d c.loop-t-test.true)

pub returns-in_err-add_number-clause-grows : goal.returns-in_err-add_number-clause-grows
returns-in_err-add_number-clause-grows c = WorkGrows-trans c.args.history.now c.args.work.now c.loop-t.work c.add_number.new.work c.loop-t.invariant.grows c.add_number.ensures.grows

pub loop-t-preserved : goal.loop-t-preserved
loop-t-preserved c = record { grows = WorkGrows-trans c.args.history.now c.args.work.now c.loop-t.work c.add_number.new.work c.loop-t.invariant.grows c.add_number.ensures.grows; facts = c.in_ok-add_number.ensures.facts }
