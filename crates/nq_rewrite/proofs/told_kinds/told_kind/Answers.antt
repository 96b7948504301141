use Rattle.std.proofs.Common.{subst}
use Rattle.std.specs.Prelude.{◌<◌, IfSome, length}
use Rattle.nq_kernel.proofs.GrowingLemmas.{WorkGrows-refl}
use Rattle.nq_rewrite.proofs.told_kinds.told_kind.Goals as goal

pub told_at-requires-clause-place : goal.told_at-requires-clause-place
told_at-requires-clause-place c = subst (λ o. IfSome o (λ place. place < length c.args.history.now)) c.in-Some.is c.told_place.ensures

pub returns-in-None-clause-grows : goal.returns-in-None-clause-grows
returns-in-None-clause-grows c = WorkGrows-refl c.args.history.now c.args.work.now c.requires.stands
