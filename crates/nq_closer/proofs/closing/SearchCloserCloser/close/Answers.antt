use Rattle.nq_closer.proofs.ClosingLemmas.{can_search, line_found}
use Rattle.nq_closer.proofs.closing.SearchCloserCloser.close.Goals as goal

pub seek-requires-clause-ready : goal.seek-requires-clause-ready
seek-requires-clause-ready c = can_search c.args.history.now c.args.hints.now c.args.work.now c.requires.ready

pub returns-clause-line : goal.returns-clause-line
returns-clause-line c = line_found c.args.history.now c.args.work.now c.seek.new.work c.args.goal.now c.in_ok-found.found c.requires.goal c.seek.ensures.grows c.in_ok-found.ensures.found
