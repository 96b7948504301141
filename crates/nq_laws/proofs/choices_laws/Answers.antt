use Rattle.nq_laws.proofs.Choices.{laws_of_choices_hold}
use Rattle.nq_laws.proofs.choices_laws.Goals as goal

pub returns : goal.returns
returns c = laws_of_choices_hold
