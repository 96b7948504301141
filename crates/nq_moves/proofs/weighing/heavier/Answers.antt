use Rattle.std.proofs.Common.{subst}
use Rattle.nq_moves.specs.Fertilized.{ChoosesOne}
use Rattle.nq_moves.proofs.ChoosingLemmas.{chosen_left, chosen_right}
use Rattle.nq_moves.proofs.weighing.heavier.Goals as goal

pub returns-then-a-b : goal.returns-then-a-b
returns-then-a-b c = λ bank xs ys h k. chosen_left bank xs ys c.in-Some.a (subst (ChoosesOne bank xs) c.in-Some.is h)

pub returns-else-a-b : goal.returns-else-a-b
returns-else-a-b c = λ bank xs ys h k. chosen_right bank xs ys c.in-Some-second.b (subst (ChoosesOne bank ys) c.in-Some-second.is k)
