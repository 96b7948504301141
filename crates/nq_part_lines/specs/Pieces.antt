-- The size of an object that a shell's constructor makes of its variables, and what one of its parts adds to it.
use Rattle.std.specs.Prelude.{◌≡◌, ℕ, List, None}
use Rattle.nq_logic.specs.Terms.{Term}
use Rattle.nq_logic.specs.Words.{call1, equal_term, if_term, zero_term, add1_term}
use Rattle.nq_logic.specs.Numerals.{number_of}
use Rattle.nq_bank.specs.Content.{term_at}
use Rattle.nq_history.specs.declared.entry.Entry.{Entry}
use Rattle.nq_kernel.specs.declared.work.Work.{Work}
use Rattle.nq_shell_parts.specs.Summands.{IsSum, summand}
use Rattle.nq_part_lines.specs.Small.{IsSmallIn}
use Rattle.nq_part_lines.specs.declared.piece.Piece.{Piece}

-- The term says that the size of an object is one more than a sum, in which so many summands stand before one and so many
-- behind it; that one is the size of a variable where something is allowed, and else 0.
pub record IsSizeEquation (place more : ℕ) (e : Term) : Type 0 where
  pub object : Term
  pub sum : Term
  pub allowed : Term
  pub variable : Term
  pub whole : e ≡ equal_term (call1 "COUNT" object) (add1_term sum)
  pub plain : number_of sum ≡ None
  pub is_sum : IsSum place more sum
  pub summand_is : summand place more sum ≡ if_term allowed (call1 "COUNT" variable) zero_term

-- the ids of these
pub record IsPiece (history : List Entry) (work : Work) (place more : ℕ) (p : Piece) : Type 0 where
  pub equation : IsSmallIn history work p.equation
  pub object : IsSmallIn history work p.object
  pub successor : IsSmallIn history work p.successor
  pub sum : IsSmallIn history work p.sum
  pub size : IsSmallIn history work p.size
  pub allowed : IsSmallIn history work p.allowed
  pub variable : IsSmallIn history work p.variable
  pub equation_is : term_at work.bank p.equation ≡ equal_term (call1 "COUNT" (term_at work.bank p.object)) (term_at work.bank p.successor)
  pub successor_is : term_at work.bank p.successor ≡ add1_term (term_at work.bank p.sum)
  pub is_sum : IsSum place more (term_at work.bank p.sum)
  pub size_is : summand place more (term_at work.bank p.sum) ≡ term_at work.bank p.size
  pub size_of : term_at work.bank p.size ≡ if_term (term_at work.bank p.allowed) (call1 "COUNT" (term_at work.bank p.variable)) zero_term
