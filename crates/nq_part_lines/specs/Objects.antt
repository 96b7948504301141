-- Objects that a shell's constructor makes of its variables, and what is told of their parts.
use Rattle.std.specs.Prelude.{◌≡◌, ◌+◌, ℕ, List, [], ◌∷◌, Some, length, slice_get}
use Rattle.nq_logic.specs.Terms.{Name, Function, IsAmong}
use Rattle.nq_logic.specs.Words.{call1, equal_term, zero_term}
use Rattle.nq_logic.specs.Histories.{Part, Shell}
use Rattle.nq_logic.specs.Shells.{made, part_variable}
use Rattle.nq_arith.specs.Nests.{accessor_of, is_smaller}
use Rattle.nq_bank.specs.declared.node.Sym.{Sym}
use Rattle.nq_bank.specs.declared.node.TermId.{TermId}
use Rattle.nq_bank.specs.Content.{Content, IsNamed, term_at, text_at}
use Rattle.nq_history.specs.declared.entry.Entry.{Entry}
use Rattle.nq_kernel.specs.declared.work.Work.{Work}
use Rattle.nq_lines.specs.Lines.{LineHasOnly}
use Rattle.nq_part_lines.specs.Known.{allowed}
use Rattle.nq_part_lines.specs.Pieces.{IsPiece}
use Rattle.nq_part_lines.specs.Small.{IsSmallIn}
use Rattle.nq_part_lines.specs.declared.objects.Sized.{Sized}
use Rattle.nq_part_lines.specs.declared.objects.Taken.{Taken}
use Rattle.nq_part_lines.specs.declared.objects.ZeroBase.{ZeroBase}

-- so many parts stand behind the one at a place
pub record IsSized (history : List Entry) (work : Work) (s : Shell) (place : ℕ) (z : Sized) : Type 0 where
  pub more : ℕ
  pub count : length s.parts ≡ place + more + 1
  pub piece : IsPiece history work place more z.piece
  pub object_is : term_at work.bank z.piece.object ≡ made s
  pub allowed_is : (part : Part) → slice_get s.parts place ≡ Some part → term_at work.bank z.piece.allowed ≡ allowed place part
  pub variable_is : term_at work.bank z.piece.variable ≡ part_variable place
  pub line : LineHasOnly work z.line (term_at work.bank z.piece.equation ∷ [])

-- what the accessor of the part at a place takes from the object
pub record IsAccessed (history : List Entry) (work : Work) (s : Shell) (place : ℕ) (t : TermId) : Type 0 where
  pub small : IsSmallIn history work t
  pub is : (part : Part) → slice_get s.parts place ≡ Some part → term_at work.bank t ≡ accessor_of part (made s)

-- the constructor of one of the shells, with this base
pub record HasThisBase (bank : Content) (shells : List Shell) (d : Name) (constructor : Sym) : Type 0 where
  pub named : IsNamed bank constructor
  pub shell : Shell
  pub among : IsAmong shell shells
  pub constructor_is : shell.constructor ≡ text_at bank constructor
  pub base_is : shell.base ≡ Some d

pub record IsZeroBase (history : List Entry) (work : Work) (d : Name) (z : ZeroBase) : Type 0 where
  pub base : IsSmallIn history work z.base
  pub base_is : term_at work.bank z.base ≡ Function d
  pub none : IsSmallIn history work z.none
  pub none_is : term_at work.bank z.none ≡ equal_term (call1 "COUNT" (term_at work.bank z.base)) zero_term
  pub line : LineHasOnly work z.line (term_at work.bank z.none ∷ [])

pub record IsTaken (history : List Entry) (work : Work) (s : Shell) (place : ℕ) (t : Taken) : Type 0 where
  pub object : IsSmallIn history work t.object
  pub object_is : term_at work.bank t.object ≡ made s
  pub line : (part : Part) → slice_get s.parts place ≡ Some part → LineHasOnly work t.line (is_smaller (accessor_of part (made s)) (made s) ∷ [])
