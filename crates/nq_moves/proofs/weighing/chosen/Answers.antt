use Rattle.nq_bank.specs.Content.{terms_at}
use Rattle.nq_moves.proofs.ChoosingLemmas.{one_chosen}
use Rattle.nq_moves.proofs.weighing.chosen.Goals as goal

pub returns-clause-choice : goal.returns-clause-choice
returns-clause-choice c = one_chosen c.args.bank.now (terms_at c.args.bank.now c.args.goal.now) c.args.r c.in_ok-choice.choice c.requires.called c.requires.no_value c.requires.inside c.requires.stands c.in_ok-choice.ensures.reading
