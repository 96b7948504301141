use Rattle.std.proofs.Common.{sym, subst}
use Rattle.std.specs.Prelude.{All}
use Rattle.nq_bank.proofs.Standing.{All-push}
use Rattle.nq_kernel.proofs.GrowingLemmas.{WorkGrows-refl, WorkGrows-trans}
use Rattle.nq_lines.specs.Lines.{IsTermIn}
use Rattle.nq_schemes.proofs.GrownLemmas.{none_all, terms_grown}
use Rattle.nq_schemes.proofs.gathering.denials.Goals as goal

pub deny-requires-clause-term : goal.deny-requires-clause-term
deny-requires-clause-term c = terms_grown c.args.history.now c.args.work.now c.loop-t.work c.requires.stands c.loop-t.invariant.grows c.args.terms.now c.requires.terms c.loop-t.t-index (record { 0 = 0 }) c.loop-t-test.true

pub loop-t-init : goal.loop-t-init
loop-t-init c = record { grows = WorkGrows-refl c.args.history.now c.args.work.now c.requires.stands; over = none_all (IsTermIn c.args.history.now c.args.work.now) c.new-denied.result.items c.new-denied.ensures.items }

pub loop-t-preserved : goal.loop-t-preserved
loop-t-preserved c = record { grows = WorkGrows-trans c.args.history.now c.args.work.now c.loop-t.work c.deny.new.work c.loop-t.invariant.grows c.deny.ensures.grows; over = subst (All (IsTermIn c.args.history.now c.deny.new.work)) (sym c.in_ok-add_literal.ensures.more) (All-push (IsTermIn c.args.history.now c.deny.new.work) c.loop-t.denied.items c.in_ok-d.d (terms_grown c.args.history.now c.loop-t.work c.deny.new.work c.loop-t.invariant.grows.stands c.deny.ensures.grows c.loop-t.denied.items c.loop-t.invariant.over) c.in_ok-d.ensures.over) }

pub returns-in_err-d-clause-grows : goal.returns-in_err-d-clause-grows
returns-in_err-d-clause-grows c = WorkGrows-trans c.args.history.now c.args.work.now c.loop-t.work c.deny.new.work c.loop-t.invariant.grows c.deny.ensures.grows

pub returns-in_err-add_literal-clause-grows : goal.returns-in_err-add_literal-clause-grows
returns-in_err-add_literal-clause-grows c = WorkGrows-trans c.args.history.now c.args.work.now c.loop-t.work c.deny.new.work c.loop-t.invariant.grows c.deny.ensures.grows
