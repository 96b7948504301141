use Rattle.nq_reduce.proofs.StepLemmas.{assumed_shown}
use Rattle.nq_reduce.proofs.distinct.assumed_fact.Goals as goal

pub opposites-requires-clause-term : goal.opposites-requires-clause-term
opposites-requires-clause-term c = c.requires.assumed.over

pub returns-clause-held : goal.returns-clause-held
returns-clause-held c = assumed_shown c.args.history.now c.args.work.now c.opposites.new.work c.args.assumed.now c.args.a c.args.t c.in_ok-line.line c.opposites.ensures.grows c.requires.can c.requires.assumed c.in_ok-line.ensures.line
