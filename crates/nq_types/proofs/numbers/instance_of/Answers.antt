use Rattle.nq_kernel.proofs.HeldLines.{holds_stands}
use Rattle.nq_types.proofs.numbers.instance_of.Goals as goal

pub instance-requires-clause-over : goal.instance-requires-clause-over
instance-requires-clause-over c = record { terms = c.requires.pairs.terms; names = c.requires.pairs.names }

pub returns-clause-line : goal.returns-clause-line
returns-clause-line c = holds_stands c.instance.new.self c.in_ok-found.found _ c.in_ok-found.ensures.line
