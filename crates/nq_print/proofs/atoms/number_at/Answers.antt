use Rattle.std.proofs.Common.{sym, ap, ◌∙◌}
use Rattle.nq_logic.specs.Numerals.{number_of}
use Rattle.nq_bank.proofs.Numerals.{number_of-numeral}
use Rattle.nq_print.proofs.AtomLemmas.{number_of-variable}
use Rattle.nq_print.proofs.atoms.number_at.Goals as goal

pub returns-in-Number : goal.returns-in-Number
returns-in-Number c = sym (ap number_of c.in-Number.ensures.1 ∙ number_of-numeral c.in-Number.n c.in-Number.ensures.0)

pub returns-in-Variable : goal.returns-in-Variable
returns-in-Variable c = sym (ap number_of c.in-Variable.ensures.1 ∙ number_of-variable _)
