use Rattle.std.proofs.Common.{refl}
use Rattle.nq_logic.specs.Words.{numeral}
use Rattle.nq_logic.proofs.examples.definitions_compute.Goals as goal

pub returns-clause-truth : goal.returns-clause-truth
unfolding numeral
returns-clause-truth c = record { truep = refl; falsep = refl; not = refl; and = refl; or = refl; implies = refl; iff = refl; identity = refl }

pub returns-clause-numbers : goal.returns-clause-numbers
unfolding numeral
returns-clause-numbers c = record {
  zerop = refl;
  fix = refl;
  plus = refl;
  lessp = refl;
  difference = refl;
  times = refl;
  quotient = refl;
  remainder = refl;
  greaterp = refl;
  leq = refl;
  geq = refl;
  max = refl;
}

pub returns-clause-lists : goal.returns-clause-lists
unfolding numeral
returns-clause-lists c = record { nlistp = refl; append = refl; member = refl; union = refl; add_to_set = refl; assoc = refl; pairlist = refl }

pub returns-clause-ordinals : goal.returns-clause-ordinals
unfolding numeral
returns-clause-ordinals c = record { numbers = refl; number_and_pair = refl; first_parts = refl; second_parts = refl; ordinals = refl; others = refl }
