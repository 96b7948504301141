use Rattle.std.proofs.Common.{refl}
use Rattle.nq_reduce.proofs.DroppingLemmas.{says_false}
use Rattle.nq_reduce.proofs.dropping.without_equation.Goals as goal

pub without_false-requires-clause-says : goal.without_false-requires-clause-says
without_false-requires-clause-says c = says_false c.args.history.now c.args.work.now c.args.t c.args.sides c.requires.sides (c.if-is_falsity.ensures refl)
