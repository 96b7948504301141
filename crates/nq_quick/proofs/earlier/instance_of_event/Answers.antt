use Rattle.nq_quick.proofs.earlier.instance_of_event.Goals as goal

pub returns-then-not-may_fit : goal.returns-then-not-may_fit
returns-then-not-may_fit c = record { none = λ event. (c.may_fit.ensures c.if-not-may_fit.true).none }
