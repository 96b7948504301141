use Rattle.nq_laws.proofs.Spellings.{laws_of_spellings_hold}
use Rattle.nq_laws.proofs.spellings_laws.Goals as goal

pub returns : goal.returns
returns c = laws_of_spellings_hold
