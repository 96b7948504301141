use Rattle.std.proofs.Common.{◌∷◌, refl}
use Rattle.nq_bank.specs.Content.{terms_at}
use Rattle.nq_kernel.proofs.GrowingLemmas.{WorkGrows-trans}
use Rattle.nq_lines.proofs.TermLemmas.{term_grown}
use Rattle.nq_reduce.proofs.RewritingLemmas.{can_more}
use Rattle.nq_reduce.proofs.HeldLemmas.{unchanged_after}
use Rattle.nq_rewrite.proofs.TruthLemmas.{truth_told}
use Rattle.nq_rewrite.proofs.true_calls.truth_by_line.Goals as goal

pub equate-requires-clause-left : goal.equate-requires-clause-left
equate-requires-clause-left c = term_grown c.args.history.now c.args.work.now c.truth.new.work c.args.t c.requires.can.stands c.truth.ensures.grows c.requires.can.term

pub deny-requires-clause-term : goal.deny-requires-clause-term
deny-requires-clause-term c = term_grown c.args.history.now c.args.work.now c.equate.new.work c.args.t c.requires.can.stands (WorkGrows-trans c.args.history.now c.args.work.now c.truth.new.work c.equate.new.work c.truth.ensures.grows c.equate.ensures.grows) c.requires.can.term

pub returns-in_err-equation-clause-grows : goal.returns-in_err-equation-clause-grows
returns-in_err-equation-clause-grows c = WorkGrows-trans c.args.history.now c.args.work.now c.truth.new.work c.equate.new.work c.truth.ensures.grows c.equate.ensures.grows

pub returns-in_err-denied-clause-grows : goal.returns-in_err-denied-clause-grows
returns-in_err-denied-clause-grows c = WorkGrows-trans c.args.history.now c.args.work.now c.equate.new.work c.deny.new.work (WorkGrows-trans c.args.history.now c.args.work.now c.truth.new.work c.equate.new.work c.truth.ensures.grows c.equate.ensures.grows) c.deny.ensures.grows

pub returns-then-has_only-clause-ok : goal.returns-then-has_only-clause-ok
returns-then-has_only-clause-ok c =
    truth_told c.args.history.now c.args.work.now c.truth.new.work c.equate.new.work c.deny.new.work (terms_at c.args.work.now.bank c.args.assumed.now) c.args.t c.in_ok-yes.yes c.in_ok-equation.equation c.in_ok-denied.denied c.args.line c.requires.can.stands c.truth.ensures.grows c.equate.ensures.grows
    c.deny.ensures.grows c.requires.can.term c.in_ok-yes.ensures.over c.in_ok-equation.ensures.equation.denotes c.in_ok-equation.ensures.over c.in_ok-denied.ensures.denied.denotes (c.if-has_only.ensures refl)

pub returns-then-has_only-clause-grows : goal.returns-then-has_only-clause-grows
returns-then-has_only-clause-grows c = WorkGrows-trans c.args.history.now c.args.work.now c.equate.new.work c.deny.new.work (WorkGrows-trans c.args.history.now c.args.work.now c.truth.new.work c.equate.new.work c.truth.ensures.grows c.equate.ensures.grows) c.deny.ensures.grows

pub returns-else-has_only-clause-ok : goal.returns-else-has_only-clause-ok
returns-else-has_only-clause-ok c =
    unchanged_after c.args.history.now c.args.work.now c.deny.new.work (c.args.t ∷ c.args.assumed.now) c.args.t c.unchanged.result (WorkGrows-trans c.args.history.now c.args.work.now c.equate.new.work c.deny.new.work (WorkGrows-trans c.args.history.now c.args.work.now c.truth.new.work c.equate.new.work c.truth.ensures.grows c.equate.ensures.grows) c.deny.ensures.grows)
    (can_more c.args.history.now c.args.assumed.now c.args.work.now c.args.t c.args.t c.requires.can c.requires.can.term) c.unchanged.ensures.term c.unchanged.ensures.line

pub returns-else-has_only-clause-grows : goal.returns-else-has_only-clause-grows
returns-else-has_only-clause-grows c = WorkGrows-trans c.args.history.now c.args.work.now c.equate.new.work c.deny.new.work (WorkGrows-trans c.args.history.now c.args.work.now c.truth.new.work c.equate.new.work c.truth.ensures.grows c.equate.ensures.grows) c.deny.ensures.grows
