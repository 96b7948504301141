use Rattle.std.proofs.Common.{subst, sym}
use Rattle.std.specs.Prelude.{All}
use Rattle.nq_lines.specs.Lines.{IsTermIn}
use Rattle.nq_types.proofs.CallLemmas.{parts_in}
use Rattle.nq_types.proofs.making.copied_arguments.Goals as goal

pub returns-in-Ok-clause-over : goal.returns-in-Ok-clause-over
returns-in-Ok-clause-over c =
    subst (All (IsTermIn c.args.history.now c.args.work.now)) (sym c.in-Ok.ensures.items) (parts_in c.args.history.now c.args.work.now c.args.t c.args-arguments.result.now c.requires.term c.args-arguments.ensures.parts c.args-arguments.ensures.earlier)
