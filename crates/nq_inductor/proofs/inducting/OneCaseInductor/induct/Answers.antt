use Rattle.std.proofs.Common.{subst, sym}
use Rattle.std.specs.Prelude.{All}
use Rattle.nq_kernel.proofs.GrowingLemmas.{WorkGrows-refl}
use Rattle.nq_inductor.specs.Suggesting.{IsSuggestingCall}
use Rattle.nq_inductor.proofs.CountedLemmas.{literals_stand}
use Rattle.nq_inductor.proofs.inducting.OneCaseInductor.induct.Goals as goal

pub suggesting_calls-requires-clause-goal : goal.suggesting_calls-requires-clause-goal
suggesting_calls-requires-clause-goal c = literals_stand c.args.history.now c.args.work.now c.args.goal.now c.requires.goal

pub inducted_from-requires-clause-calls : goal.inducted_from-requires-clause-calls
inducted_from-requires-clause-calls c =
    subst (All (IsSuggestingCall c.args.history.now c.args.work.now c.args.goal.now)) (sym c.as_slice.ensures.value) c.in-Ok.ensures

pub returns-in-Err-clause-grows : goal.returns-in-Err-clause-grows
returns-in-Err-clause-grows c = WorkGrows-refl c.args.history.now c.args.work.now c.requires.stands
