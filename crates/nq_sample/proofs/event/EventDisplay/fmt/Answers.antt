use Rattle.nq_sample.proofs.event.EventDisplay.fmt.Goals as goal

pub returns-in-Sum-clause-writes : goal.returns-in-Sum-clause-writes
returns-in-Sum-clause-writes g c =
    rw c.in-Sum.is (rw (c.from.ensures, c.from-in-Sum.ensures) at c.write-in-Sum.ensures.writes)
