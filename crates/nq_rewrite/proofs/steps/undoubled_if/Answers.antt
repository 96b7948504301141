use Rattle.std.proofs.Common.{refl}
use Rattle.nq_bank.specs.Content.{terms_at}
use Rattle.nq_kernel.proofs.GrowingLemmas.{WorkGrows-refl}
use Rattle.nq_rewrite.proofs.StepLemmas.{undoubled_to}
use Rattle.nq_rewrite.proofs.steps.undoubled_if.Goals as goal

pub returns-in_ok-line-clause-ok : goal.returns-in_ok-line-clause-ok
returns-in_ok-line-clause-ok c = undoubled_to c.args.history.now c.args.work.now c.if_same.new.work (terms_at c.args.work.now.bank c.args.assumed.now) c.args.t c.args.parts.test c.args.parts.first c.args.parts.second c.in_ok-line.line c.requires.can.stands c.if_same.ensures.grows c.requires.parts.first c.requires.parts.whole (c.if-is_same.ensures refl) c.in_ok-line.ensures.line

pub returns-else-is_same-clause-grows : goal.returns-else-is_same-clause-grows
returns-else-is_same-clause-grows c = WorkGrows-refl c.args.history.now c.args.work.now c.requires.can.stands
