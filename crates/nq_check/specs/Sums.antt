-- Multiples of a line, each a factor with its term and the order in which it is read.
use Rattle.std.specs.Prelude.{Option, Some}
use Rattle.nq_logtext.specs.Reading.{◌>>=◌}
use Rattle.nq_logtext.specs.declared.line.Multiple as line
use Rattle.nq_proof.specs.Rules.{Summand}
use Rattle.nq_log.specs.Fields.{Multiple}
use Rattle.nq_log.specs.RuleLines.{side_of}
use Rattle.nq_log.specs.States.{Block, term_at}

abbrev pub multiple_of : line.Multiple → Multiple
multiple_of m = record { factor = m.factor; term = m.term; sign = m.sign }

-- the summand that a multiple names
abbrev pub summand_in : Block → Multiple → Option Summand
summand_in block m = term_at block m.term >>= λ t. Some (record { factor = m.factor; literal = t; side = side_of m.sign })
