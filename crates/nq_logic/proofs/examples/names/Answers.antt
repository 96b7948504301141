use Rattle.std.proofs.Common.{refl}
use Rattle.nq_logic.proofs.examples.names.Goals as goal

pub returns-clause-in_use : goal.returns-clause-in_use
returns-clause-in_use c = record { ground = refl; constants = refl; abbreviations = refl; left_out = refl; nest = refl; no_nest = refl; single = refl; other = refl; shell = refl; events = refl }

pub returns-clause-enabled : goal.returns-clause-enabled
returns-clause-enabled c = record { first = refl; toggled = refl; again = refl; last = refl; other = refl; hinted = refl; hinted_off = refl; hinted_both = refl; not_hinted = refl }

pub returns-clause-events : goal.returns-clause-events
returns-clause-events c = record { definition = refl; shell = refl; accessor = refl; toggle = refl; none = refl; undone = refl }
