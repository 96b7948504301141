use Rattle.nq_schemes.proofs.MadeLemmas.{variable_spelled}
use Rattle.nq_schemes.proofs.known.pair_of.Goals as goal

pub returns-in-Some : goal.returns-in-Some
returns-in-Some c = record {
  stands = record { variable = c.in-Some.ensures.named; term = (c.is_known.ensures c.if-not-is_known.false).stands };
  over = record { variable = variable_spelled c.args.history.now c.args.work.now c.args.c.variable c.in-Some.variable c.in-Some.ensures.term c.in-Some.ensures.names; term = (c.is_known.ensures c.if-not-is_known.false).over };
}
