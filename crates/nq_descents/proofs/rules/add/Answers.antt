use Rattle.std.proofs.Common.{refl}
use Rattle.nq_kernel.proofs.GrowingLemmas.{grows_by_line, grows_without_line, uncounted}
use Rattle.nq_kernel.proofs.StepLemmas.{err_holds}
use Rattle.nq_replay.proofs.UncountedLemmas.{grown_refl}
use Rattle.nq_descents.proofs.rules.add.Goals as goal

pub returns-in_err-allowed : goal.returns-in_err-allowed
returns-in_err-allowed c = grown_refl c.args.history.now c.args.work.now c.requires.stands

pub returns-then-not-allowed : goal.returns-then-not-allowed
returns-then-not-allowed c = grown_refl c.args.history.now c.args.work.now c.requires.stands

pub returns-in-Ok : goal.returns-in-Ok
returns-in-Ok c =
    record {
      grows = grows_by_line c.args.history.now c.args.work.now c.add.new.bank c.add.new.self c.args.work.now.counter c.args.rule c.in-Ok.n c.requires.stands c.requires.rule c.requires.over c.add.ensures.grows c.add.ensures.symbols c.in-Ok.ensures.line (uncounted c.args.work.now.counter);
      uncounted = refl;
    }

pub returns-in-Err-Memory : goal.returns-in-Err-Memory
returns-in-Err-Memory c =
    record {
      grows = grows_without_line c.args.history.now c.args.work.now c.add.new.bank c.add.new.self c.args.work.now.counter c.requires.stands c.add.ensures.grows c.add.ensures.symbols (err_holds c.add.result _ _ c.add.ensures.err c.in-Err-Memory.is) (uncounted c.args.work.now.counter);
      uncounted = refl;
    }

pub returns-in-Err-Deep : goal.returns-in-Err-Deep
returns-in-Err-Deep c =
    record {
      grows = grows_without_line c.args.history.now c.args.work.now c.add.new.bank c.add.new.self c.args.work.now.counter c.requires.stands c.add.ensures.grows c.add.ensures.symbols (err_holds c.add.result _ _ c.add.ensures.err c.in-Err-Deep.is) (uncounted c.args.work.now.counter);
      uncounted = refl;
    }
