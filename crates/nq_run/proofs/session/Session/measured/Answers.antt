use Rattle.nq_run.proofs.session.Session.measured.Goals as goal

pub returns-clause-after : goal.returns-clause-after
returns-clause-after g c = c.in_ok-session.ensures.added.after

pub returns-clause-stands_after : goal.returns-clause-stands_after
returns-clause-stands_after g c = c.in_ok-session.ensures.added.stands

pub returns-clause-bank : goal.returns-clause-bank
returns-clause-bank g c = c.in_ok-session.ensures.added.bank
