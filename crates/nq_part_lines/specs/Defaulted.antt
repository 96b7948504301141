-- Terms with the default of a part in the place of the part's variable.
use Rattle.std.specs.Prelude.{◌≡◌, ◌≤◌, List, [], ◌∷◌}
use Rattle.nq_logic.specs.Terms.{Name, Term, Variable, substituted}
use Rattle.nq_logic.specs.Words.{not_term, equal_term}
use Rattle.nq_logic.specs.Sizes.{depth_of}
use Rattle.nq_arith.specs.Nests.{is_smaller}
use Rattle.nq_bank.specs.declared.node.TermId.{TermId}
use Rattle.nq_bank.specs.Content.{term_at}
use Rattle.nq_history.specs.declared.entry.Entry.{Entry}
use Rattle.nq_kernel.specs.declared.work.Work.{Work}
use Rattle.nq_lines.specs.Lines.{LineHasOnly}
use Rattle.nq_part_lines.specs.Known.{row_room}
use Rattle.nq_part_lines.specs.Small.{IsSmallIn}
use Rattle.nq_part_lines.specs.declared.defaulted.Defaulted.{Defaulted}
use Rattle.nq_part_lines.specs.declared.piece.Piece.{Piece}

-- the term is a variable
abbrev pub IsVariableTerm : Term → Type 0
IsVariableTerm t = (x : Name) × (t ≡ Variable x)

-- the terms of a piece and the default are not deep
pub record IsLowPiece (history : List Entry) (work : Work) (p : Piece) (t : TermId) : Type 0 where
  pub object : IsSmallIn history work p.object
  pub object_low : depth_of (term_at work.bank p.object) ≤ row_room
  pub allowed : IsSmallIn history work p.allowed
  pub allowed_low : depth_of (term_at work.bank p.allowed) ≤ row_room
  pub variable : IsSmallIn history work p.variable
  pub is : IsVariableTerm (term_at work.bank p.variable)
  pub default : IsSmallIn history work t
  pub default_low : depth_of (term_at work.bank t) ≤ row_room

-- the term with d in the place of a variable
abbrev pub put : Name → Term → Term → Term
put x d = substituted ((x, d) ∷ [])

-- d is smaller than the object with d in the place of a variable, where that is allowed of d
pub record IsPut (history : List Entry) (work : Work) (x : Name) (d a o : Term) (z : Defaulted) : Type 0 where
  pub default : IsSmallIn history work z.default
  pub default_is : term_at work.bank z.default ≡ d
  pub object : IsSmallIn history work z.object
  pub object_is : term_at work.bank z.object ≡ put x d o
  pub line : LineHasOnly work z.line (not_term (put x d a) ∷ is_smaller d (put x d o) ∷ [])

-- d is smaller than the object with d in the place of a variable
pub record IsDefaulted (history : List Entry) (work : Work) (x : Name) (d o : Term) (z : Defaulted) : Type 0 where
  pub default : IsSmallIn history work z.default
  pub default_is : term_at work.bank z.default ≡ d
  pub object : IsSmallIn history work z.object
  pub object_is : term_at work.bank z.object ≡ put x d o
  pub line : LineHasOnly work z.line (is_smaller d (put x d o) ∷ [])

-- a is smaller than b, where b is y, a is x, and x is smaller than y
abbrev pub others_literals : Term → Term → Term → Term → List Term
others_literals a b x y = is_smaller a b ∷ not_term (is_smaller x y) ∷ not_term (equal_term b y) ∷ not_term (equal_term a x) ∷ []
