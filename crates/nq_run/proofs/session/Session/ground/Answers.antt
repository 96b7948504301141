use Rattle.nq_run.proofs.SessionLemmas.{ground_alone, ground_stands}
use Rattle.nq_run.proofs.session.Session.ground.Goals as goal

pub returns-clause-stands : goal.returns-clause-stands
returns-clause-stands c =
    ground_stands c.events_are_spelled.ensures.begin (record { bank = c.ground.new.bank; history = c.in_ok-history.history }) c.in_ok-history.ensures.stands c.in_ok-history.ensures.marked
    c.in_ok-history.ensures.past

pub returns-clause-whole : goal.returns-clause-whole
returns-clause-whole c = ground_alone c.ground.new.bank c.in_ok-history.history c.in_ok-history.ensures.whole
