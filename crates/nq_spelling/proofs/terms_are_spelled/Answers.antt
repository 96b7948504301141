use Rattle.nq_spelling.proofs.SpelledTerms.{terms_are_spelled, definition_terms_are_spelled}
use Rattle.nq_spelling.proofs.terms_are_spelled.Goals as goal

pub returns-clause-in_history : goal.returns-clause-in_history
returns-clause-in_history c = terms_are_spelled

pub returns-clause-in_definition : goal.returns-clause-in_definition
returns-clause-in_definition c = definition_terms_are_spelled
