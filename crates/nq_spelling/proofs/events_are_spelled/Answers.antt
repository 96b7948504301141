use Rattle.nq_spelling.proofs.EventSpelling.{events_are_spelled}
use Rattle.nq_spelling.proofs.NameCounts.{few_names_begin, few_names_grow, few_names_stay, shells_bring_few_names}
use Rattle.nq_spelling.proofs.events_are_spelled.Goals as goal

pub returns-clause-events : goal.returns-clause-events
returns-clause-events c = events_are_spelled

pub returns-clause-begin : goal.returns-clause-begin
returns-clause-begin c = few_names_begin

pub returns-clause-grow : goal.returns-clause-grow
returns-clause-grow c = few_names_grow

pub returns-clause-stay : goal.returns-clause-stay
returns-clause-stay c = few_names_stay

pub returns-clause-shells : goal.returns-clause-shells
returns-clause-shells c = shells_bring_few_names
