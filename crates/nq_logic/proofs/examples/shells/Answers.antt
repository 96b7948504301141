use Rattle.std.proofs.Common.{refl}
use Rattle.nq_logic.proofs.examples.shells.Goals as goal

pub returns-clause-accepted : goal.returns-clause-accepted
returns-clause-accepted c = record { number_stacks = refl; without_parts = refl; constants = refl; earlier_base = refl }

pub returns-clause-refused : goal.returns-clause-refused
returns-clause-refused c = record {
  no_base_of_lists = refl;
  unknown = refl;
  later_unknown = refl;
  constructor_used = refl;
  accessor_used = refl;
  base_used = refl;
  repeated = refl;
  no_constant = refl;
  excluded = refl;
  nothing_allowed = refl;
  own_base_elsewhere = refl;
  full = refl;
  last_room = refl;
}
