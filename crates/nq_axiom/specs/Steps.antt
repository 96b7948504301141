-- What each bank begins with.
use Rattle.std.specs.Prelude.{[]}
use Rattle.nq_bank.specs.GroundNames.{ground_names}
use Rattle.nq_bank.specs.Content.{Content}

-- the ground names and no term
abbrev pub ground_content : Content
ground_content = record { names = ground_names; terms = [] }
