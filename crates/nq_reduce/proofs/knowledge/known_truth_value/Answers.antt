use Rattle.std.proofs.Common.{◌∙◌, refl, ap}
use Rattle.nq_bank.specs.Content.{term_at}
use Rattle.nq_kernel.proofs.GrowingLemmas.{WorkGrows-trans}
use Rattle.nq_reduce.proofs.RewritingLemmas.{can_grown}
use Rattle.nq_reduce.proofs.HeldLemmas.{known_told}
use Rattle.nq_reduce.proofs.knowledge.known_truth_value.Goals as goal

pub known_true_value-requires-clause-can : goal.known_true_value-requires-clause-can
known_true_value-requires-clause-can c = can_grown c.args.history.now c.args.work.now c.truth.new.work c.truth.ensures.grows c.args.assumed.now c.args.t c.requires.can

pub known_true_value-requires-clause-is : goal.known_true_value-requires-clause-is
known_true_value-requires-clause-is c = ap (term_at c.truth.new.work.bank) (c.if-is_same.ensures refl) ∙ c.in_ok-yes.ensures.term.denotes

pub known_false_value-requires : goal.known_false_value-requires
known_false_value-requires c = record { can = can_grown c.args.history.now c.args.work.now c.truth.new.work c.truth.ensures.grows c.args.assumed.now c.args.t c.requires.can }

pub returns-then-is_same-clause-known : goal.returns-then-is_same-clause-known
returns-then-is_same-clause-known c = known_told c.args.history.now c.args.work.now c.truth.new.work c.truth.ensures.grows c.args.assumed.now c.args.t c.requires.can c.known_true_value.new.work c.known_true_value.result c.known_true_value.ensures.known

pub returns-then-is_same-clause-grows : goal.returns-then-is_same-clause-grows
returns-then-is_same-clause-grows c = (WorkGrows-trans c.args.history.now c.args.work.now c.truth.new.work c.known_true_value.new.work c.truth.ensures.grows c.known_true_value.ensures.grows)

pub returns-else-is_same-clause-known : goal.returns-else-is_same-clause-known
returns-else-is_same-clause-known c = known_told c.args.history.now c.args.work.now c.truth.new.work c.truth.ensures.grows c.args.assumed.now c.args.t c.requires.can c.known_false_value.new.work c.known_false_value.result c.known_false_value.ensures.known

pub returns-else-is_same-clause-grows : goal.returns-else-is_same-clause-grows
returns-else-is_same-clause-grows c = (WorkGrows-trans c.args.history.now c.args.work.now c.truth.new.work c.known_false_value.new.work c.truth.ensures.grows c.known_false_value.ensures.grows)
