use Rattle.nq_logic.proofs.ShapeTests.{first_repeated_law, first_outside_law, first_free_law}
use Rattle.nq_logic.proofs.histories.first_names_tested.Goals as goal

pub returns-clause-repeated : goal.returns-clause-repeated
returns-clause-repeated c = first_repeated_law

pub returns-clause-outside : goal.returns-clause-outside
returns-clause-outside c = first_outside_law

pub returns-clause-free : goal.returns-clause-free
returns-clause-free c = first_free_law
