use Rattle.nq_run.proofs.SessionLemmas.{untaken_is}
use Rattle.nq_run.proofs.session.Session.untaken.Goals as goal

pub returns : goal.returns
returns c = untaken_is c.args.self c.args.mark c.requires.stands c.requires.mark c.release.new.self c.args.answer c.new.result c.release.ensures c.new.ensures
