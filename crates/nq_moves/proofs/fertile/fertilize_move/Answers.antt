use Rattle.nq_kernel.proofs.GrowingLemmas.{WorkGrows-refl}
use Rattle.nq_moves.proofs.ClosingLemmas.{all_stand}
use Rattle.nq_moves.proofs.fertile.fertilize_move.Goals as goal

pub choose_equation-requires : goal.choose_equation-requires
choose_equation-requires c = all_stand c.args.history.now c.args.work.now c.args.goal.now c.requires.goal

pub returns-in-None-clause-grows : goal.returns-in-None-clause-grows
returns-in-None-clause-grows c = WorkGrows-refl c.args.history.now c.args.work.now c.requires.stands

pub returns-in_err-choice-clause-grows : goal.returns-in_err-choice-clause-grows
returns-in_err-choice-clause-grows c = WorkGrows-refl c.args.history.now c.args.work.now c.requires.stands
