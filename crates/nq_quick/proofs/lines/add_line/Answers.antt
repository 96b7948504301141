use Rattle.std.proofs.Common.{Err, refl, ap, ◌∙◌}
use Rattle.nq_kernel.proofs.GrowingLemmas.{added_clause, grows_by_line, grows_without_line, uncounted}
use Rattle.nq_kernel.proofs.StepLemmas.{err_holds}
use Rattle.nq_quick.proofs.lines.add_line.Goals as goal

pub unreachable-requires : goal.unreachable-requires
unreachable-requires c = c.requires.shallow.not_deep (c.add.ensures.deep (c.in-Err-Deep.is ∙ ap Err c.in-Err-Deep.field-0-is))

pub returns-in-Ok-clause-line : goal.returns-in-Ok-clause-line
returns-in-Ok-clause-line c = added_clause c.args.work.now.bank c.add.new.bank c.args.history.now c.args.work.now.log c.add.new.self c.args.rule c.in-Ok.n c.in-Ok.ensures.line

pub returns-in-Ok-clause-grows : goal.returns-in-Ok-clause-grows
returns-in-Ok-clause-grows c =
    record {
      grows = grows_by_line c.args.history.now c.args.work.now c.add.new.bank c.add.new.self c.args.work.now.counter c.args.rule c.in-Ok.n c.requires.stands c.requires.rule c.requires.over c.add.ensures.grows c.add.ensures.symbols c.in-Ok.ensures.line (uncounted c.args.work.now.counter);
      uncounted = refl;
    }

pub returns-in-Err-Memory-clause-grows : goal.returns-in-Err-Memory-clause-grows
returns-in-Err-Memory-clause-grows c =
    record {
      grows = grows_without_line c.args.history.now c.args.work.now c.add.new.bank c.add.new.self c.args.work.now.counter c.requires.stands c.add.ensures.grows c.add.ensures.symbols (err_holds c.add.result _ _ c.add.ensures.err c.in-Err-Memory.is) (uncounted c.args.work.now.counter);
      uncounted = refl;
    }
