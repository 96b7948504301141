use Rattle.std.proofs.Common.{refl}
use Rattle.nq_cases.proofs.ChoiceLemmas.{here_is}
use Rattle.nq_cases.proofs.choosing.choice_here.Goals as goal

pub returns : goal.returns
returns c = here_is c.args.bank.now c.args.whole c.args.branches _ c.requires.stands c.requires.is c.new.ensures.items refl refl refl refl refl refl
