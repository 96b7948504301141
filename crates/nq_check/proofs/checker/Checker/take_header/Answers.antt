use Rattle.std.proofs.Common.{refl, sym, ap, ◌∙◌, arith}
use Rattle.nq_logtext.specs.Views.{view}
use Rattle.nq_log.specs.States.{State}
use Rattle.nq_log.specs.Streams.{Between, Moves}
use Rattle.nq_check.proofs.PassingLemmas.{at_start, header}
use Rattle.nq_check.proofs.checker.Checker.take_header.Goals as goal

pub returns : goal.returns
returns c =
    let old = c.args.self.now in
    let first = at_start old c.requires.ready c.requires.start in
    let few = c.requires.ready.few in
    record {
      is = header old (view c.args.line.now) c.requires.start (sym c.is_header-header.ensures ∙ c.if-not-header.false)
          ∙ ap (λ (s : State). Moves (Between 2 s)) (sym c.in_ok-self.ensures.state);
      step = record {
        ready = record { context = c.in_ok-self.ensures.whole; line = refl; few = omega (arith, few, first) };
        line = omega (arith, first);
        claims = refl;
      };
    }
