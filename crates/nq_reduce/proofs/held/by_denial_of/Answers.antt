use Rattle.std.proofs.Common.{refl}
use Rattle.nq_bank.specs.Content.{terms_at}
use Rattle.nq_kernel.proofs.GrowingLemmas.{WorkGrows-refl}
use Rattle.nq_reduce.proofs.HeldLemmas.{shown_denial}
use Rattle.nq_reduce.proofs.held.by_denial_of.Goals as goal

pub returns-else-is_same-clause-grows : goal.returns-else-is_same-clause-grows
returns-else-is_same-clause-grows c = WorkGrows-refl c.args.history.now c.args.work.now c.requires.can.stands

pub false_by_line-requires-clause-line : goal.false_by_line-requires-clause-line
false_by_line-requires-clause-line c = shown_denial c.args.history.now c.args.work.now (terms_at c.args.work.now.bank c.args.assumed.now) c.args.t c.args.p c.args.fact c.requires.denies (c.if-is_same.ensures refl) c.requires.fact
