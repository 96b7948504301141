use Rattle.std.proofs.Common.{refl, arith}
use Rattle.nq_logtext.specs.Views.{view}
use Rattle.nq_check.proofs.PassingLemmas.{ends_place}
use Rattle.nq_check.proofs.checker.Checker.take_between.Goals as goal

pub returns-in-Ends : goal.returns-in-Ends
returns-in-Ends c =
    let led = rw c.in-Ends.is at c.in_ok-judge.ensures in
    let few = c.requires.ready.few in
    record {
      is = ends_place c.args.self.now (view c.args.line.now) c.requires.between led.0;
      step = record { ready = record { context = led.1; line = refl; few = omega (arith, few) }; line = refl; claims = refl };
    }
