use Rattle.nq_schemes.proofs.KnownLemmas.{name_known}
use Rattle.nq_schemes.proofs.known.known_name.Goals as goal

pub returns : goal.returns
returns c = name_known c.args.history.now c.args.work.now c.args.t c.name_of.result (c.is_known.ensures c.if-not-is_known.false) c.name_of.ensures.some c.name_of.ensures.same
