use Rattle.std.proofs.Common.{◌∙◌, refl, ap}
use Rattle.nq_bank.specs.Content.{term_at}
use Rattle.nq_kernel.proofs.GrowingLemmas.{WorkGrows-trans}
use Rattle.nq_reduce.proofs.RewritingLemmas.{can_grown}
use Rattle.nq_reduce.proofs.HeldLemmas.{known_told}
use Rattle.nq_reduce.proofs.knowledge.known_false_value.Goals as goal

pub known_is_false-requires-clause-can : goal.known_is_false-requires-clause-can
known_is_false-requires-clause-can c = can_grown c.args.history.now c.args.work.now c.falsity.new.work c.falsity.ensures.grows c.args.assumed.now c.args.t c.requires.can

pub known_is_false-requires-clause-is : goal.known_is_false-requires-clause-is
known_is_false-requires-clause-is c = ap (term_at c.falsity.new.work.bank) (c.if-is_same.ensures refl) ∙ c.in_ok-no.ensures.term.denotes

pub returns-then-is_same-clause-known : goal.returns-then-is_same-clause-known
returns-then-is_same-clause-known c = known_told c.args.history.now c.args.work.now c.falsity.new.work c.falsity.ensures.grows c.args.assumed.now c.args.t c.requires.can c.known_is_false.new.work c.known_is_false.result c.known_is_false.ensures.known

pub returns-then-is_same-clause-grows : goal.returns-then-is_same-clause-grows
returns-then-is_same-clause-grows c = (WorkGrows-trans c.args.history.now c.args.work.now c.falsity.new.work c.known_is_false.new.work c.falsity.ensures.grows c.known_is_false.ensures.grows)
