-- A call of CAR or CDR in a bank.
use Rattle.std.specs.Prelude.{◌≡◌, Some}
use Rattle.nq_bank.specs.declared.node.TermId.{TermId}
use Rattle.nq_bank.specs.Content.{Content, term_at}
use Rattle.nq_print.specs.declared.letters.Letter.{Letter}
use Rattle.nq_print.specs.Shapes.{IsPart}
use Rattle.nq_print.specs.Pieces.{letter_at}

-- the term is a call with this letter of this argument
pub record IsLetterAt (bank : Content) (t : TermId) (l : Letter) : Type 0 where
  pub is : letter_at (term_at bank t) ≡ Some (l.letter, term_at bank l.argument)
  pub part : IsPart bank t l.argument
