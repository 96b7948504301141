use Rattle.std.proofs.Common.{Some, ap, refl}
use Rattle.std.specs.Prelude.{is_some}
use Rattle.nq_bank.specs.Content.{terms_at}
use Rattle.nq_reduce.proofs.RewritingLemmas.{carried}
use Rattle.nq_reduce.proofs.congruence.congruent_shown.Goals as goal

pub congruent-requires-clause-place : goal.congruent-requires-clause-place
congruent-requires-clause-place c = ap is_some c.requires.argument.at

pub returns-clause-ok : goal.returns-clause-ok
returns-clause-ok c =
    carried c.args.history.now c.args.work.now c.congruent.new.work (terms_at c.args.work.now.bank c.args.assumed.now) c.args.t c.args.a c.args.u c.args.place (record { term = c.in_ok-r.r.term; line = Some c.in_ok-r.r.line }) c.args.line c.in_ok-r.r.line c.requires.argument c.in_ok-r.ensures.over refl c.in_ok-r.ensures.call c.in_ok-r.ensures.line c.requires.line
